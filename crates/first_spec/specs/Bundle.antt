-- Which bytes are which bundle of the first path: the one text that a bundle has, and what its
-- entries have to be. The lines of a part, with their line feeds, are at most 65,536 bytes.
use Rattle.std.specs.Prelude.{◌≡◌, ◌≤◌, ◌<◌, ◌^◌, ◌++◌, Bool, true, false, IsTrue, ℕ, suc, List, [], ◌∷◌, map, length, codes, None, Some, All, Contains, if◌then◌else◌}
use Rattle.std.specs.List.{flat_map}
use Rattle.std.specs.Fmt.{decimal}
use Rattle.std.specs.Cmp.Lexicographic.{slice_cmp}
use Rattle.std.specs.Ordering.{nat_cmp, is_lt}
use Rattle.udb_base.specs.declared.conditions.Cond.TheVariants.{Always}
use Rattle.udb_base.specs.declared.conditions.Value.{Value}
use Rattle.udb_base.specs.declared.conditions.Value.TheVariants.{Flag}
use Rattle.udb_base.specs.declared.spaces.Domain.{Domain}
use Rattle.udb_base.specs.declared.spaces.Domain.TheVariants.{Flags, Numbers}
use Rattle.idl_tree.specs.declared.widths.Width.TheVariants as w
use Rattle.udb_spec.specs.Conditions.{same_bytes}
use Rattle.idl_tree.specs.declared.expressions.Unary.TheVariants.{Not}
use Rattle.idl_tree.specs.declared.expressions.Binary.TheVariants.{Add}
use Rattle.idl_tree.specs.declared.expressions.Expr.{Expr}
use Rattle.idl_tree.specs.declared.expressions.Expr.TheVariants as e
use Rattle.idl_tree.specs.declared.statements.Target.TheVariants as t
use Rattle.idl_tree.specs.declared.statements.Stmt.{Stmt}
use Rattle.idl_tree.specs.declared.statements.Stmt.TheVariants as s
use Rattle.idl_tree.specs.declared.programs.Base.TheVariants as b
use Rattle.entry_tree.specs.declared.ParamEntry.{ParamEntry}
use Rattle.entry_tree.specs.declared.Encoding.{Encoding}
use Rattle.entry_tree.specs.declared.InstructionEntry.{InstructionEntry}
use Rattle.entry_tree.specs.declared.ConfigKind.{ConfigKind}
use Rattle.entry_tree.specs.declared.ConfigKind.TheVariants as kind
use Rattle.entry_tree.specs.declared.Given.{Given}
use Rattle.entry_tree.specs.declared.ConfigEntry.{ConfigEntry}
use Rattle.first_spec.specs.declared.bundle.FirstBundle.{FirstBundle}
use Rattle.udb_base.specs.Lines.{text_of_lines}
use Rattle.idl_tree.specs.Print.{body_lines}
use Rattle.first_spec.specs.Alphabets.{is_parameter_name, is_instruction_name, is_config_name, is_text, is_match}

-- `=== <kind> <name> <lines>`, then the lines
abbrev pub bundle_part : List ℕ → List ℕ → List (List ℕ) → List (List ℕ)
bundle_part kind name lines = (codes "=== " ++ (kind ++ (32 ∷ name ++ (32 ∷ decimal (length lines))))) ∷ lines

abbrev pub schema_lines : Domain → List (List ℕ)
schema_lines (Numbers ns) = codes "  type: integer" ∷ codes "  enum: [32]" ∷ []
schema_lines _ = codes "  type: boolean" ∷ []

abbrev pub param_lines : ParamEntry → List (List ℕ)
param_lines x =
    codes "kind: parameter" ∷ (codes "name: " ++ x.name) ∷ (codes "long_name: " ++ x.long_name)
    ∷ (codes "description: " ++ x.description) ∷ codes "schema:" ∷ schema_lines x.domain

abbrev pub digits_among : List Encoding → List ℕ
digits_among [] = []
digits_among (e ∷ es) = e.digits

abbrev pub instruction_lines : InstructionEntry → List (List ℕ)
instruction_lines x =
    codes "kind: instruction" ∷ (codes "name: " ++ x.name) ∷ (codes "long_name: " ++ x.long_name)
    ∷ (codes "description: " ++ x.description) ∷ codes "assembly: \"\"" ∷ codes "encoding:"
    ∷ (codes "  match: " ++ digits_among x.encodings) ∷ codes "operation(): |"
    ∷ map (λ l. codes "  " ++ l) (body_lines x.operation)

abbrev pub value_word : Value → List ℕ
value_word (Flag true) = codes "true"
value_word _ = codes "false"

abbrev pub given_line : Given → List ℕ
given_line g = codes "  " ++ (g.name ++ (codes ": " ++ value_word g.value))

abbrev pub kind_line : ConfigKind → List ℕ
kind_line kind.Partially = codes "type: partially configured"
kind_line _ = codes "type: unconfigured"

abbrev pub given_lines : ConfigKind → List Given → List (List ℕ)
given_lines kind.Partially givens = codes "params:" ∷ map given_line givens
given_lines _ givens = []

abbrev pub config_lines : ConfigEntry → List (List ℕ)
config_lines x =
    codes "kind: architecture configuration" ∷ (codes "name: " ++ x.name) ∷ kind_line x.kind
    ∷ (codes "description: " ++ x.description) ∷ given_lines x.kind x.params

abbrev pub params_lines : List ParamEntry → List (List ℕ)
params_lines = flat_map (λ p. bundle_part (codes "parameter") p.name (param_lines p))

abbrev pub bundle_lines : FirstBundle → List (List ℕ)
bundle_lines x =
    params_lines x.params
    ++ (bundle_part (codes "instruction") x.instruction.name (instruction_lines x.instruction)
    ++ bundle_part (codes "config") x.config.name (config_lines x.config))

-- at most 65,536 bytes
abbrev pub Fits : List (List ℕ) → Type 0
Fits lines = length (text_of_lines lines) ≤ 65536

-- a Boolean parameter, or MXLEN with the one value 32
abbrev pub IsSwitch : List ℕ → Domain → Type 0
IsSwitch name Flags = name ≡ codes "MXLEN" → ⊥
IsSwitch name (Numbers ns) = (name ≡ codes "MXLEN") × (ns ≡ 32 ∷ [])
IsSwitch name _ = ⊥

pub record IsParam (x : ParamEntry) : Type 0 where
  pub name : IsTrue (is_parameter_name x.name)
  pub long_name : IsTrue (is_text x.long_name)
  pub description : IsTrue (is_text x.description)
  pub domain : IsSwitch x.name x.domain
  pub defined : x.defined ≡ Always
  pub needs : x.needs ≡ Always
  pub size : Fits (param_lines x)

-- names rise strictly, by bytes
abbrev pub Rise : List (List ℕ) → Type 0
Rise [] = Unit {0}
Rise (n ∷ []) = Unit {0}
Rise (n ∷ m ∷ ns) = IsTrue (is_lt (slice_cmp nat_cmp n m)) × Rise (m ∷ ns)

abbrev pub is_flags : Domain → Bool
is_flags Flags = true
is_flags _ = false

-- the parameter of that name is Boolean
abbrev pub is_switch_name : List ParamEntry → List ℕ → Bool
is_switch_name [] name = false
is_switch_name (p ∷ ps) name = if same_bytes p.name name then is_flags p.domain else is_switch_name ps name

-- a register or a literal of 32 bits, or the sum of a register and one of them
pub data IsValue : Expr → Type 0 where
  literal : (k : ℕ) → k < 2 ^ 32 → IsValue (e.Sized (w.Number 32) false k)
  register : (n : ℕ) → n < 32 → IsValue (e.Register (e.Number n))
  plus_literal : (n k : ℕ) → n < 32 → k < 2 ^ 32 → IsValue (e.Binary Add (e.Register (e.Number n)) (e.Sized (w.Number 32) false k))
  plus_register : (n m : ℕ) → n < 32 → m < 32 → IsValue (e.Binary Add (e.Register (e.Number n)) (e.Register (e.Number m)))

-- a Boolean parameter, or `!` and one
pub data IsTest (params : List ParamEntry) : Expr → Type 0 where
  switch : (name : List ℕ) → IsTrue (is_switch_name params name) → IsTest params (e.Word name)
  not_switch : (name : List ℕ) → IsTrue (is_switch_name params name) → IsTest params (e.Unary Not (e.Word name))

-- a statement with so many blocks round it, at most 8, and a list of such statements: an assignment
-- to a register, a bare block, or an `if` with or without its other block
mutual
  pub data IsStatement (params : List ParamEntry) : ℕ → Stmt → Type 0 where
    assign : (depth n : ℕ) (x : Expr) → depth ≤ 8 → n < 32 → IsValue x → IsStatement params depth (s.Assign (t.Register (e.Number n)) x)
    block : (depth : ℕ) (xs : List Stmt) → depth ≤ 8 → AreStatements params (suc depth) xs → IsStatement params depth (s.Block xs)
    when : (depth : ℕ) (test : Expr) (taken : List Stmt) → depth ≤ 8 → IsTest params test → AreStatements params (suc depth) taken → IsStatement params depth (s.If test taken None)
    either : (depth : ℕ) (test : Expr) (taken other : List Stmt) → depth ≤ 8 → IsTest params test → AreStatements params (suc depth) taken → AreStatements params (suc depth) other → IsStatement params depth (s.If test taken (Some other))

  pub data AreStatements (params : List ParamEntry) : ℕ → List Stmt → Type 0 where
    none : (depth : ℕ) → AreStatements params depth []
    more : (depth : ℕ) (x : Stmt) (xs : List Stmt) → IsStatement params depth x → AreStatements params depth xs → AreStatements params depth (x ∷ xs)

pub record IsInstruction (params : List ParamEntry) (x : InstructionEntry) : Type 0 where
  pub name : IsTrue (is_instruction_name x.name)
  pub long_name : IsTrue (is_text x.long_name)
  pub description : IsTrue (is_text x.description)
  pub assembly : x.assembly ≡ []
  pub base : x.base ≡ None
  pub digits : List ℕ
  pub encodings : x.encodings ≡ record { base = b.All; digits = digits } ∷ []
  pub matches : IsTrue (is_match digits)
  pub defined : x.defined ≡ Always
  pub variables : x.operation.variables ≡ []
  pub some : 1 ≤ length x.operation.statements
  pub statements : AreStatements params 0 x.operation.statements
  pub size : Fits (instruction_lines x)

-- a truth value of a Boolean parameter
pub record IsGiven (params : List ParamEntry) (g : Given) : Type 0 where
  pub name : IsTrue (is_switch_name params g.name)
  pub truth : Bool
  pub value : g.value ≡ Flag truth

-- an unconfigured configuration gives nothing, a partially configured one gives values
abbrev pub GivesParams : List ParamEntry → ConfigKind → List Given → Type 0
GivesParams params kind.Unconfigured givens = givens ≡ []
GivesParams params kind.Partially givens = (1 ≤ length givens) × (All (IsGiven params) givens × Rise (map (λ g. g.name) givens))
GivesParams params kind.Fully givens = ⊥

pub record IsConfig (params : List ParamEntry) (x : ConfigEntry) : Type 0 where
  pub name : IsTrue (is_config_name x.name)
  pub description : IsTrue (is_text x.description)
  pub gives : GivesParams params x.kind x.params
  pub mandatory : x.mandatory ≡ []
  pub prohibited : x.prohibited ≡ []
  pub additional : x.additional ≡ true
  pub implemented : x.implemented ≡ []
  pub size : Fits (config_lines x)

-- exactly one parameter is MXLEN, since names rise
pub record IsFirst (x : FirstBundle) : Type 0 where
  pub params : All IsParam x.params
  pub rises : Rise (map (λ p. p.name) x.params)
  pub mxlen : (p : ParamEntry) × (Contains x.params p × (p.name ≡ codes "MXLEN"))
  pub instruction : IsInstruction x.params x.instruction
  pub config : IsConfig x.params x.config

-- the bytes are the bundle's text
pub record SpellsFirst (bytes : List ℕ) (x : FirstBundle) : Type 0 where
  pub first : IsFirst x
  pub text : bytes ≡ text_of_lines (bundle_lines x)
