-- The checks of bodies by what stands round them.
use Rattle.std.proofs.Common.{◌≡◌, ℕ, Bool, true, false, List, [], Option, None, Some, Result, IfOk, take, refl, sym, ap, subst, ◌∙◌}
use Rattle.std.specs.Prelude.{option_map, slice_get}
use Rattle.udb_base.specs.declared.names.Name.{Name}
use Rattle.udb_base.specs.declared.conditions.Cond.{Cond}
use Rattle.udb_base.specs.declared.spaces.Space.{Space}
use Rattle.idl_tree.specs.declared.widths.EnumKind.TheVariants.{CsrFieldType}
use Rattle.idl_tree.specs.declared.widths.Width.TheVariants as wd
use Rattle.idl_tree.specs.declared.programs.Body.{Body}
use Rattle.idl_tree.specs.declared.programs.Function.{Function}
use Rattle.idl_tree.specs.declared.programs.Variable.{Variable}
use Rattle.idl_tree.specs.declared.programs.Program.{Program}
use Rattle.idl_spec.specs.declared.scopes.BodyScope.{BodyScope}
use Rattle.idl_spec.specs.declared.scopes.BodyScope.TheVariants as scopes
use Rattle.idl_spec.specs.Shapes.{Kind, of_bits, of_member, declared_kind}
use Rattle.idl_spec.specs.Demands.{View, Visible, Check}
use Rattle.idl_spec.specs.Checks.{body_checks, outer_view, variable_names, argument_names, csr_name, function_view}
use Rattle.type_checks.specs.Nodes.{checks_in, field_view_of}

-- a view over its parts
abbrev pub around : Space → Program → List Variable → List Function → Bool → Bool → Option Name → Option Kind → List Visible → View
around space program variables before in_field reads written returns visible = record {
  space = space;
  program = program;
  variables = variables;
  before = before;
  in_field = in_field;
  reads_fields = reads;
  written = written;
  returns = returns;
  visible = visible;
}

pub operation-is : (space : Space) (program : Program) (presence : Cond) (body : Body) (variables : List Variable) (before : List Function) (visible : List Visible)
    → variables ≡ body.variables → before ≡ program.functions → visible ≡ variable_names body.variables
    → checks_in (around space program variables before false true None None visible) presence scopes.Operation body ≡ body_checks space program presence scopes.Operation body
unfolding body_checks
operation-is space program presence body variables before visible e f g =
    ap (λ vs. checks_in (around space program vs before false true None None visible) presence scopes.Operation body) e
    ∙ ap (λ fs. checks_in (around space program body.variables fs false true None None visible) presence scopes.Operation body) f
    ∙ ap (λ ns. checks_in (around space program body.variables program.functions false true None None ns) presence scopes.Operation body) g

function-at : (space : Space) (program : Program) (presence : Cond) (body : Body) (place : ℕ) (o : Option Function) → slice_get program.functions place ≡ o
    → checks_in (function_view (outer_view space program) place o) presence (scopes.Function place) body ≡ body_checks space program presence (scopes.Function place) body
unfolding body_checks
function-at space program presence body place o h = ap (λ p. checks_in (function_view (outer_view space program) place p) presence (scopes.Function place) body) (sym h)

pub function-is : (space : Space) (program : Program) (presence : Cond) (body : Body) (place : ℕ) (f : Function) (variables : List Variable) (before : List Function) (returns : Option Kind) (visible : List Visible)
    → slice_get program.functions place ≡ Some f → variables ≡ [] → before ≡ take place program.functions → returns ≡ option_map declared_kind f.result → visible ≡ argument_names f.arguments
    → checks_in (around space program variables before false true None returns visible) presence (scopes.Function place) body ≡ body_checks space program presence (scopes.Function place) body
function-is space program presence body place f variables before returns visible h e b r v =
    ap (λ vs. checks_in (around space program vs before false true None returns visible) presence (scopes.Function place) body) e
    ∙ ap (λ fs. checks_in (around space program [] fs false true None returns visible) presence (scopes.Function place) body) b
    ∙ ap (λ k. checks_in (around space program [] (take place program.functions) false true None k visible) presence (scopes.Function place) body) r
    ∙ ap (λ ns. checks_in (around space program [] (take place program.functions) false true None (option_map declared_kind f.result) ns) presence (scopes.Function place) body) v
    ∙ function-at space program presence body place (Some f) h

pub function-missing : (space : Space) (program : Program) (presence : Cond) (body : Body) (place : ℕ) (variables : List Variable) (before : List Function) (visible : List Visible)
    → slice_get program.functions place ≡ None → variables ≡ [] → before ≡ program.functions → visible ≡ []
    → checks_in (around space program variables before false true None None visible) presence (scopes.Function place) body ≡ body_checks space program presence (scopes.Function place) body
function-missing space program presence body place variables before visible h e b v =
    ap (λ vs. checks_in (around space program vs before false true None None visible) presence (scopes.Function place) body) e
    ∙ ap (λ fs. checks_in (around space program [] fs false true None None visible) presence (scopes.Function place) body) b
    ∙ ap (λ ns. checks_in (around space program [] program.functions false true None None ns) presence (scopes.Function place) body) v
    ∙ function-at space program presence body place None h

pub field-is : (space : Space) (program : Program) (presence : Cond) (scope : BodyScope) (body : Body) (variables : List Variable) (before : List Function) (reads : Bool) (written : Option Name) (returns : Option Kind) (visible : List Visible)
    → variables ≡ [] → before ≡ program.functions → visible ≡ []
    → checks_in (around space program variables before true reads written returns visible) presence scope body ≡ checks_in (field_view_of space program reads written returns) presence scope body
field-is space program presence scope body variables before reads written returns visible e b v =
    ap (λ vs. checks_in (around space program vs before true reads written returns visible) presence scope body) e
    ∙ ap (λ fs. checks_in (around space program [] fs true reads written returns visible) presence scope body) b
    ∙ ap (λ ns. checks_in (around space program [] program.functions true reads written returns ns) presence scope body) v

pub type-is : (space : Space) (program : Program) (presence : Cond) (body : Body) (csr field : ℕ)
    → checks_in (field_view_of space program false None (Some (of_member CsrFieldType))) presence (scopes.FieldType csr field) body ≡ body_checks space program presence (scopes.FieldType csr field) body
unfolding body_checks
type-is space program presence body csr field = refl

pub reset-is : (space : Space) (program : Program) (presence : Cond) (body : Body) (csr field : ℕ)
    → checks_in (field_view_of space program false None (Some (of_bits (wd.Number 1) false))) presence (scopes.FieldReset csr field) body ≡ body_checks space program presence (scopes.FieldReset csr field) body
unfolding body_checks
reset-is space program presence body csr field = refl

pub write-is : (space : Space) (program : Program) (presence : Cond) (body : Body) (csr field : ℕ)
    → checks_in (field_view_of space program true (csr_name program csr) (Some (of_bits (wd.Number 1) false))) presence (scopes.FieldWrite csr field) body ≡ body_checks space program presence (scopes.FieldWrite csr field) body
unfolding body_checks
write-is space program presence body csr field = refl

pub if-ok : {A E : Type 0} (f : A → List Check) (r : Result A E) {x y : List Check} → x ≡ y → IfOk r (λ a. f a ≡ x) → IfOk r (λ a. f a ≡ y)
if-ok f r {x} e h = subst (λ z. IfOk r (λ a. f a ≡ z)) e h
