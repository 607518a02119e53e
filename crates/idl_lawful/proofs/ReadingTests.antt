-- The tests of what was read decide whether it keeps to what readers give.
use Rattle.std.proofs.Common.{◌≡◌, ◌<◌, ◌^◌, ◌&&◌, ◌||◌, cond, Bool, true, false, not, ℕ, List, [], ◌∷◌, Option, None, Some, All, refl, sym}
use Rattle.std.specs.Prelude.{IfSome}
use Rattle.std.specs.List.{list_all, list_any}
use Rattle.std.specs.Bool.{Decides}
use Rattle.std.proofs.lemmas.Bool.{false≢true}
use Rattle.std.proofs.lemmas.Bool.Decides.{Decides-and, Decides-by_and, Decides-ltb}
use Rattle.std.proofs.lemmas.Option.{none-some}
use Rattle.udb_base.specs.declared.spaces.Domain.{Domain}
use Rattle.udb_base.specs.declared.spaces.Domain.TheVariants as d
use Rattle.udb_base.specs.declared.spaces.ParamSpace.{ParamSpace}
use Rattle.udb_base.specs.declared.spaces.Space.{Space}
use Rattle.udb_spec.specs.Conditions.{same_bytes}
use Rattle.idl_tree.specs.declared.statements.Stmt.{Stmt}
use Rattle.idl_tree.specs.declared.programs.Variable.{Variable}
use Rattle.idl_tree.specs.declared.programs.Body.{Body}
use Rattle.idl_tree.specs.declared.programs.Function.{Function}
use Rattle.idl_tree.specs.declared.programs.FieldKind.{FieldKind}
use Rattle.idl_tree.specs.declared.programs.FieldKind.TheVariants as kind
use Rattle.idl_tree.specs.declared.programs.ResetValue.{ResetValue}
use Rattle.idl_tree.specs.declared.programs.ResetValue.TheVariants as reset
use Rattle.idl_tree.specs.declared.programs.FieldBodies.{FieldBodies}
use Rattle.idl_tree.specs.declared.programs.CsrBody.{CsrBody}
use Rattle.idl_tree.specs.declared.programs.Program.{Program}
use Rattle.idl_spec.specs.Shapes.{parameter_named}
use Rattle.type_laws.specs.Literals.{AreSmall, numbers_of}
use Rattle.type_laws.specs.Given.{IsReadDomain, IsReadSpace, AreApart, IsReadBody, IsBareBody, IsBareKind, IsBareReset, IsBareField, IsBareProgram}
use Rattle.idl_lawful.specs.Tests.{is_below_power}
use Rattle.idl_lawful.specs.Readings.{is_read_domain, has_read_domain, is_parameter, are_apart, are_small, is_read_body, has_no_variables, is_bare_body, is_bare_function, is_bare_kind, is_bare_reset, is_bare_if_any, is_bare_field, has_bare_fields, is_bare_program}

always : {P : Type 0} → P → Decides true P
always p = (λ _. p, λ _. refl)

-- ---- spaces

numbers-decide : (ns : List ℕ) → Decides (list_all (is_below_power 64) ns) (All (λ n. n < 2 ^ 64) ns)
numbers-decide = Decides-by_and (is_below_power 64) (λ n. n < 2 ^ 64) (list_all (is_below_power 64)) (λ n. Decides-ltb n (2 ^ 64)) refl (λ _ _. refl)

domain-decides : (domain : Domain) → Decides (is_read_domain domain) (IsReadDomain domain)
domain-decides d.Flags = always tt
domain-decides (d.Numbers ns) = numbers-decide ns
domain-decides (d.Range low high) = Decides-and (is_below_power 64 low) (is_below_power 64 high) (Decides-ltb low (2 ^ 64)) (Decides-ltb high (2 ^ 64))
domain-decides (d.Words ws) = always tt

pub space-decides : (space : Space) → Decides (list_all has_read_domain space.params) (IsReadSpace space)
space-decides space = Decides-by_and has_read_domain (λ (p : ParamSpace). IsReadDomain p.domain) (list_all has_read_domain) (λ p. domain-decides p.domain) refl (λ _ _. refl) space.params

-- ---- bodies

unnamed : (params : List ParamSpace) (name : List ℕ) → Decides (not (list_any (λ p. same_bytes p.name name) params)) (parameter_named params name ≡ None)
unnamed [] name = always refl
unnamed (p ∷ ps) name = at (same_bytes p.name name) (unnamed ps name)
  where
    at : (b : Bool) → Decides (not (list_any (λ q. same_bytes q.name name) ps)) (parameter_named ps name ≡ None) → Decides (not (b || list_any (λ q. same_bytes q.name name) ps)) (cond b (Some p) (parameter_named ps name) ≡ None)
    at true rest = (λ e. absurd (false≢true e), λ h. absurd (none-some p (sym h)))
    at false rest = rest

apart-decide : (params : List ParamSpace) (vs : List Variable) → Decides (are_apart params vs) (AreApart params vs)
apart-decide params = Decides-by_and (λ v. not (is_parameter params v)) (λ v. parameter_named params v.name ≡ None) (are_apart params) (λ v. unnamed params v.name) refl (λ _ _. refl)

each-small : (ns : List ℕ) → Decides (list_all (is_below_power 128) ns) (AreSmall ns)
each-small [] = always tt
each-small (n ∷ ns) = Decides-and (is_below_power 128 n) (list_all (is_below_power 128) ns) (Decides-ltb n (2 ^ 128)) (each-small ns)

small-decide : (ss : List Stmt) → Decides (are_small ss) (AreSmall (numbers_of ss))
small-decide ss = each-small (numbers_of ss)

pub body-decides : (space : Space) (body : Body) → Decides (is_read_body space body) (IsReadBody space body)
body-decides space body =
    let all = Decides-and (are_apart space.params body.variables) (are_small body.statements) (apart-decide space.params body.variables) (small-decide body.statements) in (
      λ e. (let h = all.0 e in record { apart = h.0; small = h.1 }),
      λ h. all.1 (h.apart, h.small),
    )

none-decide : (vs : List Variable) → Decides (has_no_variables vs) (vs ≡ [])
none-decide [] = always refl
none-decide (v ∷ vs) = (λ e. absurd (false≢true e), λ h. absurd (cc))

bare-decides : (body : Body) → Decides (is_bare_body body) (IsBareBody body)
bare-decides body =
    let all = Decides-and (has_no_variables body.variables) (are_small body.statements) (none-decide body.variables) (small-decide body.statements) in (
      λ e. (let h = all.0 e in record { no_variables = h.0; small = h.1 }),
      λ h. all.1 (h.no_variables, h.small),
    )

-- ---- programs

kind-decides : (k : FieldKind) → Decides (is_bare_kind k) (IsBareKind k)
kind-decides (kind.Plain type) = always tt
kind-decides (kind.Computed body) = bare-decides body

reset-decides : (r : ResetValue) → Decides (is_bare_reset r) (IsBareReset r)
reset-decides (reset.Plain n) = always tt
reset-decides (reset.Computed body) = bare-decides body

if-any-decides : (body : Option Body) → Decides (is_bare_if_any body) (IfSome body IsBareBody)
if-any-decides None = always tt
if-any-decides (Some body) = bare-decides body

field-decides : (f : FieldBodies) → Decides (is_bare_field f) (IsBareField f)
field-decides f =
    let all = Decides-and (is_bare_kind f.kind) (is_bare_reset f.reset && is_bare_if_any f.write) (kind-decides f.kind)
    (Decides-and (is_bare_reset f.reset) (is_bare_if_any f.write) (reset-decides f.reset) (if-any-decides f.write)) in (
      λ e. (let h = all.0 e in record { kind = h.0; reset = h.1.0; write = h.1.1 }),
      λ h. all.1 (h.kind, (h.reset, h.write)),
    )

fields-decide : (c : CsrBody) → Decides (has_bare_fields c) (All IsBareField c.fields)
fields-decide c = Decides-by_and is_bare_field IsBareField (list_all is_bare_field) field-decides refl (λ _ _. refl) c.fields

csrs-decide : (cs : List CsrBody) → Decides (list_all has_bare_fields cs) (All (λ c. All IsBareField c.fields) cs)
csrs-decide = Decides-by_and has_bare_fields (λ (c : CsrBody). All IsBareField c.fields) (list_all has_bare_fields) fields-decide refl (λ _ _. refl)

functions-decide : (fs : List Function) → Decides (list_all is_bare_function fs) (All (λ f. IsBareBody f.body) fs)
functions-decide = Decides-by_and is_bare_function (λ (f : Function). IsBareBody f.body) (list_all is_bare_function) (λ f. bare-decides f.body) refl (λ _ _. refl)

pub program-decides : (program : Program) → Decides (is_bare_program program) (IsBareProgram program)
program-decides program =
    let all = Decides-and (list_all is_bare_function program.functions) (list_all has_bare_fields program.csrs) (functions-decide program.functions) (csrs-decide program.csrs) in (
      λ e. (let h = all.0 e in record { functions = h.0; fields = h.1 }),
      λ h. all.1 (h.functions, h.fields),
    )
