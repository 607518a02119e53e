-- The bodies of a manual, which are those of its instructions, fields and functions, are pruned as
-- far as the configuration settles.
use Rattle.std.specs.Prelude.{◌≡◌, ◌⊎◌, ◌++◌, Bool, true, false, IsTrue, ℕ, List, [], ◌∷◌, map, flat_map, Option, None, Some, All, Contains, IfSome}
use Rattle.udb_base.specs.declared.conditions.Value.{Value}
use Rattle.udb_base.specs.declared.conditions.Cond.{Cond}
use Rattle.udb_base.specs.declared.spaces.Space.{Space}
use Rattle.udb_base.specs.declared.spaces.Full.{Full}
use Rattle.udb_base.specs.declared.refutations.Partial.{Partial}
use Rattle.udb_base.specs.Lists.{is_among}
use Rattle.udb_spec.specs.Conditions.{holds, value_of, same_bytes}
use Rattle.udb_spec.specs.Spaces.{Completes}
use Rattle.idl_tree.specs.declared.expressions.Expr.TheVariants.{Flag}
use Rattle.idl_tree.specs.declared.statements.Stmt.{Stmt}
use Rattle.idl_tree.specs.declared.programs.Body.{Body}
use Rattle.idl_tree.specs.declared.programs.FieldKind.{FieldKind}
use Rattle.idl_tree.specs.declared.programs.FieldKind.TheVariants as kind
use Rattle.idl_tree.specs.declared.programs.ResetValue.{ResetValue}
use Rattle.idl_tree.specs.declared.programs.ResetValue.TheVariants as reset
use Rattle.idl_tree.specs.declared.programs.Function.{Function}
use Rattle.idl_spec.specs.Formulas.{claims}
use Rattle.idl_spec.specs.Deeds.{called_names, deeds_of, reached}
use Rattle.idl_spec.specs.TestPlaces.{TestPlace, test_places}
use Rattle.idl_spec.specs.Words.{words, function_words}
use Rattle.entry_tree.specs.declared.InstructionEntry.{InstructionEntry}
use Rattle.entry_tree.specs.declared.CsrEntry.{CsrEntry}
use Rattle.entry_tree.specs.declared.FieldEntry.{FieldEntry}
use Rattle.manual_spec.specs.declared.manuals.ShownField.{ShownField}
use Rattle.manual_spec.specs.declared.manuals.Shown.{Shown}
use Rattle.manual_spec.specs.declared.manuals.Shown.TheVariants as s
use Rattle.manual_spec.specs.declared.manuals.Part.{Part}
use Rattle.manual_spec.specs.declared.manuals.Manual.{Manual}
use Rattle.manual_spec.specs.Entries.{Entries, space_of, program_of, HasInstruction, HasField}
use Rattle.manual_spec.specs.ShownProgram.{shown_functions}

-- the parameter has one value in all completions
abbrev pub HasOneValue : Space → Partial → List ℕ → Type 0
HasOneValue space part name =
    (x : Value) × ((full : Full) → Completes space part full → value_of space full name ≡ Some x)

-- each condition of the context holds
abbrev pub MeetsContext : Space → Full → List Cond → Type 0
MeetsContext space full context = All (λ c. holds space full c ≡ true) context

-- the condition has this truth value in all these full configurations that meet the context
abbrev pub IsAlways : Space → (Full → Type 0) → List Cond → Cond → Bool → Type 0
IsAlways space Complete context x answer =
    (full : Full) → Complete full → MeetsContext space full context → holds space full x ≡ answer

-- the condition is decided in the context, as every one is where none of them meets it
abbrev pub IsDecided : Space → (Full → Type 0) → List Cond → Cond → Type 0
IsDecided space Complete context x =
    IsAlways space Complete context x true ⊎ IsAlways space Complete context x false

-- what stands in a test place is no decided formula, but for a literal that may stand there
abbrev pub IsOpen : Space → (Full → Type 0) → TestPlace → Type 0
IsOpen space Complete p =
    p.literal ≡ false → IfSome (claims space p.test).formula (λ x. IsDecided space Complete p.context x → ⊥)

-- no literal truth value stands in a test place where none may
abbrev pub NoLiteral : TestPlace → Type 0
NoLiteral p = (x : Bool) → p.test ≡ Flag x → p.literal ≡ true

-- no parameter with one value is among the words
abbrev pub NamesNoneSettled : Space → Partial → List (List ℕ) → Type 0
NamesNoneSettled space part names =
    All (λ param. Contains names param.name → HasOneValue space part param.name → ⊥) space.params

-- ---- bodies

-- a completion that has the body's entry: the presence of the entry begins each context of its body
abbrev pub CompletesWith : Space → Partial → (Full → Type 0) → Full → Type 0
CompletesWith space part Has full = Completes space part full × Has full

-- the shown statements of an entry that a full configuration may have, in a database of these
-- functions: whether an operand is quiet is asked of them
pub record SettledBody (space : Space) (part : Partial) (Has : Full → Type 0)
    (functions : List Function) (statements : List Stmt) : Type 0 where
  pub parameters : NamesNoneSettled space part (words statements)
  pub tests : All (IsOpen space (CompletesWith space part Has))
      (test_places space functions statements [])
  pub literals : All NoLiteral (test_places space functions statements [])

-- the functions of the database
abbrev pub functions_of : Entries → List Function
functions_of entries = (program_of entries).functions

-- the shown statements of this entry are settled
abbrev pub SettlesEntry : Entries → Partial → InstructionEntry → List Stmt → Type 0
SettlesEntry entries part x statements =
    SettledBody (space_of entries) part (λ full. HasInstruction (space_of entries) full x) (functions_of entries) statements

-- ---- fields

abbrev pub kind_statements : FieldKind → List (List Stmt)
kind_statements (kind.Plain type) = []
kind_statements (kind.Computed body) = body.statements ∷ []

abbrev pub reset_statements : ResetValue → List (List Stmt)
reset_statements (reset.Plain n) = []
reset_statements (reset.Computed body) = body.statements ∷ []

abbrev pub write_statements : Option Body → List (List Stmt)
write_statements None = []
write_statements (Some body) = body.statements ∷ []

-- the statements of each body of a shown field
abbrev pub field_statements : ShownField → List (List Stmt)
field_statements f =
    kind_statements f.kind ++ (reset_statements f.reset ++ write_statements f.write)

-- the bodies of this field of this CSR are settled
abbrev pub SettlesField : Entries → Partial → CsrEntry → FieldEntry → ShownField → Type 0
SettlesField entries part x f shown =
    All (SettledBody (space_of entries) part (λ full. HasField (space_of entries) full x f.bodies) (functions_of entries))
    (field_statements shown)

abbrev pub SettlesFields : Entries → Partial → CsrEntry → List ShownField → Type 0
SettlesFields entries part x fields =
    All (λ shown. All (λ f. f.bodies.name ≡ shown.name → SettlesField entries part x f shown) x.fields) fields

-- ---- functions, which every completion has

pub record SettledFunction (space : Space) (part : Partial) (functions : List Function)
    (f : Function) : Type 0 where
  pub parameters : NamesNoneSettled space part (function_words f)
  pub body : SettledBody space part (λ full. Unit {0}) functions f.body.statements

-- ---- manuals

abbrev pub SettledShown : Entries → Partial → List ℕ → Shown → Type 0
SettledShown entries part name (s.Extension versions) = Unit {0}
SettledShown entries part name (s.Parameter values) = Unit {0}
SettledShown entries part name (s.Instruction matches variables body) =
    All (λ x. x.name ≡ name → SettlesEntry entries part x body.statements) entries.instructions
SettledShown entries part name (s.Csr register fields) =
    All (λ x. x.name ≡ name → SettlesFields entries part x fields) entries.csrs
SettledShown entries part name (s.Functions functions) =
    All (SettledFunction (space_of entries) part (functions_of entries)) functions

-- the statements of the instruction, or of the fields, that a part shows
abbrev pub entry_statements : Shown → List (List Stmt)
entry_statements (s.Instruction matches variables body) = body.statements ∷ []
entry_statements (s.Csr register fields) = flat_map field_statements fields
entry_statements _ = []

-- the functions that the shown instructions and fields reach through shown functions
abbrev pub reached_functions : List Part → List Function
reached_functions parts =
    reached (shown_functions parts) (flat_map (λ p. flat_map (λ ss. called_names (deeds_of ss)) (entry_statements p.shown)) parts)

pub record Settled (entries : Entries) (part : Partial) (manual : Manual) : Type 0 where
  pub bodies : All (λ p. SettledShown entries part p.name p.shown) manual.parts
  pub reaches : All (λ f. IsTrue (is_among same_bytes f.name (map (λ g. g.name) (reached_functions manual.parts)))) (shown_functions manual.parts)
