-- What a setting has to give the names of a body: values that widths count as they are.
use Rattle.std.specs.Prelude.{◌≡◌, ◌≤◌, ◌<◌, ◌^◌, Bool, true, ℕ, List, [], ◌∷◌, Option, None, Some, ℤ, pos}
use Rattle.udb_base.specs.declared.versions.Version.{Version}
use Rattle.udb_base.specs.declared.spaces.ParamSpace.{ParamSpace}
use Rattle.udb_base.specs.declared.conditions.Value.{Value as Given}
use Rattle.udb_base.specs.declared.conditions.Value.TheVariants as g
use Rattle.udb_spec.specs.Conditions.{holds, value_of}
use Rattle.udb_spec.specs.Spaces.{mxlen, InDomain}
use Rattle.idl_tree.specs.declared.widths.Width.{Width}
use Rattle.idl_tree.specs.declared.programs.Variable.{Variable}
use Rattle.idl_width.specs.Numbers.{bits_among}
use Rattle.idl_spec.specs.Values.{Value, within, least_width}
use Rattle.idl_spec.specs.Harts.{State, field_number}
use Rattle.idl_spec.specs.Shapes.{of_bits, parameter_named, domain_kind, greatest}
use Rattle.idl_spec.specs.Fields.{Placed, part_width, present_field, bits_scope, variables_for, variable_width}
use Rattle.idl_spec.specs.Settings.{Setting, registers, number_of_width, parameter_value}
use Rattle.idl_spec.specs.Forms.{choice_among}
use Rattle.idl_spec.specs.Formulas.{lists_extension}
use Rattle.idl_spec.specs.Programs.{IsState}
use Rattle.type_laws.specs.Kinds.{HasKind, Registers}

-- a number of a range is natural
pub record InRange (low high : ℕ) (z : ℤ) : Type 0 where
  pub n : ℕ
  pub is : z ≡ pos n
  pub least : low ≤ n
  pub most : n ≤ high
  pub within : within low high z ≡ Some n

-- a parameter that is defined has a value of its kind, where that has a width
pub record HasParameter (e : Setting) (name : List ℕ) (p : ParamSpace) : Type 0 where
  pub value : Value
  pub is : parameter_value e name ≡ Some value
  pub kind : ((w : Width) (s : Bool) → domain_kind p.domain ≡ of_bits w s → InRange 1 128 (number_of_width e w)) → HasKind e (domain_kind p.domain) value

pub record HasNumber (s : State) (csr field : List ℕ) : Type 0 where
  pub number : ℕ
  pub is : field_number s.fields csr field ≡ Some number

pub record HasChoice (e : Setting) (name : List ℕ) : Type 0 where
  pub choice : Option Version
  pub is : choice_among e.space.extensions e.full.extensions name ≡ Some choice

-- the names of a setting stand for values as widths count them
pub record World (e : Setting) : Type 0 where
  pub wide : Registers e
  pub parameters : (name : List ℕ) (p : ParamSpace) → parameter_named e.space.params name ≡ Some p → holds e.space e.full p.defined ≡ true → HasParameter e name p
  pub extensions : (name : List ℕ) → lists_extension e.space name ≡ true → HasChoice e name
  pub field_bits : (csr field : List ℕ) (p : Placed) → present_field e.space e.full e.program csr field ≡ Some p → bits_among (mxlen e.space e.full) (bits_scope e.program e.variables) (Some csr) field ≡ part_width p.bits
  pub field_numbers : (csr field : List ℕ) (p : Placed) (s : State) → IsState e.space e.full e.program s → present_field e.space e.full e.program csr field ≡ Some p → HasNumber s csr field
  pub variable : (name : List ℕ) (v : Variable) (more : List Variable) → variables_for (registers e) e.variables name ≡ v ∷ more → bits_among (mxlen e.space e.full) (bits_scope e.program e.variables) None name ≡ variable_width v
  pub no_variable : (name : List ℕ) → variables_for (registers e) e.variables name ≡ [] → bits_among (mxlen e.space e.full) (bits_scope e.program e.variables) None name ≡ 0

-- what tests say of parameters is so: their values are of their domains and fit their kinds, numbers below 2 ^ 64,
-- and no variable of the encoding has a parameter's name
pub record Tested (e : Setting) : Type 0 where
  pub inside : (name : List ℕ) (p : ParamSpace) (given : Given) → parameter_named e.space.params name ≡ Some p → value_of e.space e.full name ≡ Some given → InDomain p.domain given
  pub small : (name : List ℕ) (p : ParamSpace) (n : ℕ) → parameter_named e.space.params name ≡ Some p → value_of e.space e.full name ≡ Some (g.Number n) → (n < 2 ^ 64) × (n < 2 ^ least_width (greatest p.domain))
  pub apart : (name : List ℕ) (p : ParamSpace) → parameter_named e.space.params name ≡ Some p → variables_for (registers e) e.variables name ≡ []
