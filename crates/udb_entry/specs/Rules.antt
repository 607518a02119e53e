-- The rules on one entry whose text spells a tree that meets its kind's schema. Each is a function of the tree: None
-- where the rule is kept, else the lines that it shows.
use Rattle.std.specs.Prelude.{Bool, true, false, ℕ, nat_eq, nat_le, List, [], ◌∷◌, ◌++◌, map, codes, Option, None, Some, is_some, option_map, option_and_then, Result, Ok, Err, if◌then◌else◌}
use Rattle.std.specs.Option.{option_map_or}
use Rattle.std.specs.Fmt.{decimal}
use Rattle.std.specs.Str.{bytes_eq}
use Rattle.yaml_spec.specs.declared.tree.Tree.{Tree}
use Rattle.yaml_spec.specs.declared.tree.Pair.{Pair}
use Rattle.idl_tree.specs.declared.programs.Base.{Base}
use Rattle.idl_tree.specs.declared.programs.BitPart.{BitPart}
use Rattle.idl_tree.specs.declared.programs.Variable.{Variable}
use Rattle.idl_tree.specs.declared.programs.Function.{Function}
use Rattle.idl_parse.specs.declared.faults.ParseFault.{ParseFault}
use Rattle.idl_parse.specs.declared.faults.ParseFault.TheVariants as fault
use Rattle.entry_place.specs.Places.{is_match, fits_match, field_place}
use Rattle.udb_base.specs.declared.kinds.Kind.{Kind}
use Rattle.udb_base.specs.declared.kinds.Kind.TheVariants.{Extension, Parameter, Instruction, Csr, Functions, Config}
use Rattle.udb_base.specs.declared.versions.Version.{Version}
use Rattle.udb_base.specs.declared.spaces.Domain.{Domain}
use Rattle.udb_base.specs.declared.spaces.Domain.TheVariants.{Flags, Numbers, Range, Words}
use Rattle.udb_base.specs.Lists.{are_distinct}
use Rattle.udb_spec.specs.Conditions.{same_bytes}
use Rattle.udb_spec.specs.Versions.{version_lt}
use Rattle.udb_base.specs.declared.conditions.Cond.{Cond}
use Rattle.entry_tree.specs.declared.Member.{Member}
use Rattle.udb_entry.specs.Keys.{value_at, items_at, text_at, text_in, pairs_at}
use Rattle.udb_entry.specs.Alphabets.{has_alphabet, is_local_name, is_field_name}
use Rattle.udb_entry.specs.Bodies.{body_answer, functions_answer}
use Rattle.udb_entry.specs.Entries.{version_text, version_in, domain_at, condition_at, members_at, implemented_at, placed_variable, variable_of, Form, forms_of}

abbrev pub Lines : Type 0
Lines = List (List ℕ)

abbrev pub one_line : List ℕ → Lines
one_line l = l ∷ []

-- ---- the name

-- the name in the text is the row's name
abbrev pub name_rule : List ℕ → Tree → Option Lines
name_rule name t = if bytes_eq (text_at t (codes "name")) name then None else Some (one_line (text_at t (codes "name")))

-- the name has its alphabet
abbrev pub alphabet_rule : Kind → Tree → Option Lines
alphabet_rule kind t = if has_alphabet kind (text_at t (codes "name")) then None else Some (one_line (text_at t (codes "name")))

-- ---- versions

-- the version can be read, and is above the one before it
abbrev pub follows : Option Version → Option Version → Bool
follows before None = false
follows None (Some v) = true
follows (Some u) (Some v) = version_lt u v

-- the first that doesn't
abbrev pub first_wrong : Option Version → List Tree → Option (List ℕ)
first_wrong before [] = None
first_wrong before (x ∷ xs) = if follows before (version_in x) then first_wrong (version_in x) xs else Some (version_text x)

-- versions can be read and rise strictly
abbrev pub version_rule : Tree → Option Lines
version_rule t = option_map one_line (first_wrong None (items_at t (codes "versions")))

-- ---- domains

-- no value stands twice, and the low end isn't above the high end
abbrev pub is_domain : Domain → Bool
is_domain Flags = true
is_domain (Numbers ns) = are_distinct nat_eq ns
is_domain (Range low high) = nat_le low high
is_domain (Words ws) = are_distinct same_bytes ws

abbrev pub domain_rule : Tree → Option Lines
domain_rule t = if is_domain (domain_at t (codes "schema")) then None else Some []

-- ---- names inside an entry

-- the first name of a list that isn't one of a test's
abbrev pub first_unfit : (List ℕ → Bool) → List (List ℕ) → Option Lines
first_unfit test [] = None
first_unfit test (n ∷ ns) = if test n then first_unfit test ns else Some (one_line n)

abbrev pub or_later : Option Lines → Option Lines → Option Lines
or_later None other = other
or_later (Some shows) other = Some shows

-- what the first encoding shows that shows anything
abbrev pub first_form : (Form → Option Lines) → List Form → Option Lines
first_form rule [] = None
first_form rule (f ∷ fs) = or_later (rule f) (first_form rule fs)

abbrev pub names_of : List Tree → List (List ℕ)
names_of ts = map (λ v. text_at v (codes "name")) ts

abbrev pub variable_names : Form → List (List ℕ)
variable_names f = names_of (items_at f.tree (codes "variables"))

abbrev pub form_names : Form → Option Lines
form_names f = first_unfit is_local_name (variable_names f)

-- the names of the variables of all encodings
abbrev pub variables_rule : Tree → Option Lines
variables_rule t = first_form form_names (forms_of t)

abbrev pub declared_names : List Function → Option Lines
declared_names fs = first_unfit is_local_name (map (λ (f : Function). f.name) fs)

abbrev pub declared_in : Result (List Function) ParseFault → Option Lines
declared_in (Ok fs) = declared_names fs
declared_in (Err e) = None

-- the names of declared functions, where the text can be read
abbrev pub declared_rule : List ℕ → Option Lines
declared_rule source = declared_in (functions_answer source)

-- ---- matches and locations

-- the location is well formed, and the variable fits its match beside those before it
abbrev pub fits : List ℕ → List Variable → Option Variable → Bool
fits digits before None = false
fits digits before (Some v) = fits_match digits before v

-- the first variable of a match that doesn't
abbrev pub first_misfit : List ℕ → Base → List Variable → List Tree → Option Lines
first_misfit digits base before [] = None
first_misfit digits base before (t ∷ ts) =
    if fits digits before (placed_variable base t) then first_misfit digits base (before ++ variable_of base t ∷ []) ts else Some (one_line (text_at t (codes "name")))

-- a match with its variables
abbrev pub form_rule : Form → Option Lines
form_rule f =
    if is_match (text_at f.tree (codes "match")) then first_misfit (text_at f.tree (codes "match")) f.base [] (items_at f.tree (codes "variables"))
    else Some (one_line (codes "match"))

-- the matches and variables of an instruction
abbrev pub match_rule : Tree → Option Lines
match_rule t = first_form form_rule (forms_of t)

abbrev pub unless_placed : Pair → Option BitPart → Option Lines
unless_placed p (Some place) = None
unless_placed p None = Some (one_line p.key)

-- the place of a field under a key is well formed where it is there
abbrev pub one_place_rule : Pair → List ℕ → Option Lines
one_place_rule p key = option_map_or (λ v. unless_placed p (field_place v)) (value_at p.value key) None

-- ---- conditions

abbrev pub unless_read : {A : Type 0} → List ℕ → Option A → Option Lines
unless_read key (Some x) = None
unless_read key None = Some (one_line key)

-- the condition under a key can be read
abbrev pub condition_rule : Tree → List ℕ → Option Lines
condition_rule t key = unless_read key (condition_at t key)

-- the members under a key can be read
abbrev pub members_rule : Tree → List ℕ → Option Lines
members_rule t key = unless_read key (members_at t key)

abbrev pub implemented_rule : Tree → List ℕ → Option Lines
implemented_rule t key = unless_read key (implemented_at t key)

-- ---- bodies

abbrev pub place_text : ℕ → List ℕ
place_text at = codes "at " ++ decimal at

-- the body's name, the place of its fault in bytes, and the fault; there is always memory for an answer's definition
abbrev pub fault_lines : List ℕ → ParseFault → Lines
fault_lines name fault.Memory = []
fault_lines name (fault.BadToken at) = name ∷ place_text at ∷ codes "BadToken" ∷ []
fault_lines name (fault.Unexpected at) = name ∷ place_text at ∷ codes "Unexpected" ∷ []
fault_lines name (fault.TooDeep at) = name ∷ place_text at ∷ codes "TooDeep" ∷ []

abbrev pub unread : {A : Type 0} → List ℕ → Result A ParseFault → Option Lines
unread name (Ok x) = None
unread name (Err e) = Some (fault_lines name e)

-- the body of a name can be read
abbrev pub body_rule : List ℕ → List ℕ → Option Lines
body_rule name source = unread name (body_answer source)

abbrev pub functions_rule : List ℕ → Option Lines
functions_rule source = unread (codes "body") (functions_answer source)

-- the name of a field's body
abbrev pub field_body : List ℕ → List ℕ → List ℕ
field_body field key = field ++ 46 ∷ key

-- a body that is there can be read
abbrev pub field_body_rule : Pair → List ℕ → Option Lines
field_body_rule p key = option_map_or (λ v. body_rule (field_body p.key key) (text_in v)) (value_at p.value key) None
