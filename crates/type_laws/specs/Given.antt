-- What spaces, bodies and programs that were read keep to.
use Rattle.std.specs.Prelude.{◌≡◌, ◌<◌, ◌^◌, List, [], None, All, IfSome}
use Rattle.udb_base.specs.declared.spaces.Domain.{Domain}
use Rattle.udb_base.specs.declared.spaces.Domain.TheVariants as d
use Rattle.udb_base.specs.declared.spaces.ParamSpace.{ParamSpace}
use Rattle.udb_base.specs.declared.spaces.Space.{Space}
use Rattle.idl_tree.specs.declared.programs.Variable.{Variable}
use Rattle.idl_tree.specs.declared.programs.Body.{Body}
use Rattle.idl_tree.specs.declared.programs.FieldKind.{FieldKind}
use Rattle.idl_tree.specs.declared.programs.FieldKind.TheVariants as kind
use Rattle.idl_tree.specs.declared.programs.ResetValue.{ResetValue}
use Rattle.idl_tree.specs.declared.programs.ResetValue.TheVariants as reset
use Rattle.idl_tree.specs.declared.programs.FieldBodies.{FieldBodies}
use Rattle.idl_tree.specs.declared.programs.Program.{Program}
use Rattle.idl_spec.specs.Shapes.{parameter_named}
use Rattle.type_laws.specs.Literals.{AreSmall, numbers_of}

-- ---- spaces

-- the numbers of a domain have at most 64 bits
abbrev pub IsReadDomain : Domain → Type 0
IsReadDomain (d.Numbers ns) = All (λ n. n < 2 ^ 64) ns
IsReadDomain (d.Range low high) = (low < 2 ^ 64) × (high < 2 ^ 64)
IsReadDomain _ = Unit {0}

abbrev pub IsReadSpace : Space → Type 0
IsReadSpace space = All (λ p. IsReadDomain p.domain) space.params

-- ---- bodies

-- no variable of the encoding has the name of a parameter
abbrev pub AreApart : List ParamSpace → List Variable → Type 0
AreApart params variables = All (λ v. parameter_named params v.name ≡ None) variables

-- the body of an instruction
pub record IsReadBody (space : Space) (body : Body) : Type 0 where
  pub apart : AreApart space.params body.variables
  pub small : AreSmall (numbers_of body.statements)

-- a body outside instructions
pub record IsBareBody (body : Body) : Type 0 where
  pub no_variables : body.variables ≡ []
  pub small : AreSmall (numbers_of body.statements)

-- ---- programs

abbrev pub IsBareKind : FieldKind → Type 0
IsBareKind (kind.Plain type) = Unit {0}
IsBareKind (kind.Computed body) = IsBareBody body

abbrev pub IsBareReset : ResetValue → Type 0
IsBareReset (reset.Plain n) = Unit {0}
IsBareReset (reset.Computed body) = IsBareBody body

pub record IsBareField (field : FieldBodies) : Type 0 where
  pub kind : IsBareKind field.kind
  pub reset : IsBareReset field.reset
  pub write : IfSome field.write IsBareBody

pub record IsBareProgram (program : Program) : Type 0 where
  pub functions : All (λ f. IsBareBody f.body) program.functions
  pub fields : All (λ c. All IsBareField c.fields) program.csrs
