-- Parts of the answers of `read_entry`.
use Rattle.std.specs.Prelude.{◌≡◌, ℕ, true, List, [], ◌∷◌, ◌++◌, Option, None, Some, Result, Ok, Err, IfOk}
use Rattle.std.specs.declared.alloc.AllocError.{AllocError}
use Rattle.yaml_spec.specs.declared.tree.Tree.{Tree}
use Rattle.yaml_spec.specs.declared.tree.YamlFault.{YamlFault}
use Rattle.yaml_spec.specs.declared.tree.YamlFault.TheVariants as yaml
use Rattle.udb_base.specs.declared.kinds.Kind.{Kind}
use Rattle.udb_base.specs.declared.rows.Row.{Row}
use Rattle.udb_schema.specs.declared.words.Word.{Word}
use Rattle.udb_schema.specs.declared.validating.SchemaFault.{SchemaFault}
use Rattle.udb_schema.specs.declared.validating.SchemaFault.TheVariants as unfit
use Rattle.udb_schema.specs.Meets.{meets}
use Rattle.udb_schema.specs.Faults.{FirstFault}
use Rattle.idl_parse.specs.declared.faults.ParseFault.{ParseFault}
use Rattle.idl_parse.specs.declared.faults.ParseFault.TheVariants as parse
use Rattle.udb_entry.specs.declared.answers.Entry.{Entry}
use Rattle.udb_entry.specs.declared.answers.Breach.{Breach}
use Rattle.udb_entry.specs.declared.answers.EntryFault.{EntryFault}
use Rattle.udb_entry.specs.declared.answers.EntryFault.TheVariants.{Memory, Broken}
use Rattle.entry_form.specs.Forms.{schema_of}
use Rattle.udb_entry.specs.Entries.{entry_of}
use Rattle.udb_entry.specs.Rules.{Lines, fault_lines}
use Rattle.udb_entry.specs.First.{breach, broken, or_else, earlier, lesser, fault_of, fault_line, word_text, first_breach}

-- a broken rule with these lines, where there was memory for them
abbrev pub IsBroken : ℕ → Result Lines AllocError → EntryFault → Type 0
IsBroken rule shows Memory = Unit {0}
IsBroken rule shows (Broken r s) = (r ≡ rule) × (shows ≡ Ok s)

-- a fault of a text, as a broken rule
abbrev pub IsUnspelled : YamlFault → EntryFault → Type 0
IsUnspelled f Memory = Unit {0}
IsUnspelled yaml.Memory (Broken rule shows) = ⊥
IsUnspelled (yaml.Bad n) (Broken rule shows) = breach rule shows ≡ breach 1 (fault_line n None ∷ [])
IsUnspelled (yaml.Outside n w) (Broken rule shows) = breach rule shows ≡ breach 1 (fault_line n (Some w) ∷ [])

-- a fault of a tree, as a broken rule
abbrev pub IsUnfit : SchemaFault → EntryFault → Type 0
IsUnfit f Memory = Unit {0}
IsUnfit unfit.Memory (Broken rule shows) = ⊥
IsUnfit (unfit.At path w) (Broken rule shows) = breach rule shows ≡ breach 2 (path ∷ word_text w ∷ [])

-- the tree meets its kind's schema, or the rule that says so is broken
abbrev pub IsExamined : Kind → Tree → Result (Unit {0}) EntryFault → Type 0
IsExamined kind t (Ok u) = meets (schema_of kind) t ≡ true
IsExamined kind t (Err Memory) = Unit {0}
IsExamined kind t (Err (Broken rule shows)) = (path : List ℕ) × (w : Word) × FirstFault (schema_of kind ∷ []) t path w × (breach rule shows ≡ breach 2 (path ∷ word_text w ∷ []))

-- a value, or the breach that keeps it from being read
abbrev pub Reads : {A : Type 0} → Option Breach → A → Result A EntryFault → Type 0
Reads b x (Ok y) = (b ≡ None) × (y ≡ x)
Reads b x (Err Memory) = Unit {0}
Reads b x (Err (Broken rule shows)) = b ≡ Some (breach rule shows)

-- the same of one rule
abbrev pub ReadsBy : {A : Type 0} → ℕ → Option Lines → A → Result A EntryFault → Type 0
ReadsBy rule shows x r = Reads (broken rule shows) x r

-- a rule, with what it shows
abbrev pub Examines : ℕ → Result (Option Lines) AllocError → Result (Unit {0}) EntryFault → Type 0
Examines rule answer result = (shows : Option Lines) → IfOk answer (λ o. o ≡ shows) → Reads (broken rule shows) tt result

-- of two faults the one of the lesser rule
abbrev pub IsEarlier : EntryFault → EntryFault → EntryFault → Type 0
IsEarlier Memory g f = f ≡ Memory
IsEarlier (Broken n s) Memory f = f ≡ Memory
IsEarlier (Broken n s) (Broken m u) f = f ≡ fault_of (lesser (breach n s) (breach m u))

-- two values that are read one after the other
abbrev pub ReadsBoth : {A B : Type 0} → Result A EntryFault → Result B EntryFault → Result (A × B) EntryFault → Type 0
ReadsBoth {A} {B} first second result = (b c : Option Breach) (x : A) (y : B) → Reads b x first → Reads c y second → Reads (or_else b c) (x, y) result

-- two values of which the breach of the lesser rule counts
abbrev pub ReadsEither : {A B : Type 0} → Result A EntryFault → Result B EntryFault → Result (A × B) EntryFault → Type 0
ReadsEither {A} {B} first second result = (b c : Option Breach) (x : A) (y : B) → Reads b x first → Reads c y second → Reads (earlier b c) (x, y) result

-- the earliest breach after one more part, and the parts that were read while there is none
abbrev pub IsGathered : {A : Type 0} → Option Breach → A → List A → Option Breach → List A → Option Breach → Type 0
IsGathered c x old worst new b = (b ≡ earlier worst c) × (b ≡ None → (worst ≡ None) × (new ≡ old ++ x ∷ []))

abbrev pub Gathers : {A : Type 0} → Result A EntryFault → List A → Option Breach → List A → Result (Option Breach) AllocError → Type 0
Gathers {A} read old worst new result = (c : Option Breach) (x : A) → Reads c x read → IfOk result (IsGathered c x old worst new)

-- the entry of a tree, or the first rule on the tree that is broken
abbrev pub IsKept : Row → Tree → Result Entry EntryFault → Type 0
IsKept row t r = Reads (first_breach row t) (entry_of row.kind t) r

-- what a source is read as, with nothing of want of memory
abbrev pub Matches : {A T : Type 0} → (T → A) → Result A ParseFault → Result T ParseFault → Type 0
Matches view a (Ok x) = a ≡ Ok (view x)
Matches view a (Err parse.Memory) = Unit {0}
Matches view a (Err (parse.BadToken at)) = a ≡ Err (parse.BadToken at)
Matches view a (Err (parse.Unexpected at)) = a ≡ Err (parse.Unexpected at)
Matches view a (Err (parse.TooDeep at)) = a ≡ Err (parse.TooDeep at)

-- the lines of a body's fault
abbrev pub IsUnread : List ℕ → ParseFault → EntryFault → Type 0
IsUnread name e Memory = Unit {0}
IsUnread name parse.Memory (Broken rule shows) = ⊥
IsUnread name e (Broken rule shows) = breach rule shows ≡ breach 9 (fault_lines name e)
