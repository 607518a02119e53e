-- Assignments, stores and exceptions: what is done with the last part, from what the parts before it give.
use Rattle.std.proofs.Common.{◌≡◌, ℕ, List, Result, sym, ap, ◌∙◌, subst}
use Rattle.udb_base.specs.declared.names.Name.{Name}
use Rattle.idl_tree.specs.declared.widths.Width.{Width}
use Rattle.idl_tree.specs.declared.expressions.Expr.{Expr}
use Rattle.idl_tree.specs.declared.statements.Target.{Target}
use Rattle.idl_tree.specs.declared.statements.Target.TheVariants as tg
use Rattle.idl_bits.specs.BitVector.{BitVector}
use Rattle.idl_spec.specs.Values as meant
use Rattle.idl_spec.specs.Harts.{State, Outcome, done, and_then}
use Rattle.idl_spec.specs.Settings.{Setting, Scope, Flow, goes_on, with_bits}
use Rattle.idl_spec.specs.Mean.{mean_expr, assign}
use Rattle.idl_forms.specs.declared.values.Local.{Local}
use Rattle.idl_forms.specs.declared.values.Value.{Value}
use Rattle.idl_forms.specs.declared.values.Stop.{Stop}
use Rattle.idl_forms.specs.States.{as_value, scope_of, going_on, Ends, Gives, Maps, Follows}
use Rattle.idl_forms.specs.Steps.{set_word_step, set_bit_step, set_slice_step, set_register_step, raise_step, write_memory_step}
use Rattle.idl_forms.proofs.Endings.{bits-given}
use Rattle.idl_mean.specs.Flows.{raise_change, store_change}

-- an outcome that is another's
told : (after : List Local) (o p : Outcome Flow) (r : Result (Unit {0}) Stop) (s : State) → o ≡ p → Ends (going_on after) p r s → Ends (going_on after) o r s
told after o p r s e h = subst (λ x. Ends (going_on after) x r s) (sym e) h

module _ (e : Setting) (target : Target) (x : Expr) (before shown lent new after : List Local) (s t : State) (p : Result Value Stop) (r : Result (Unit {0}) Stop)
    (seen : shown ≡ before) (taken : lent ≡ before) (back : after ≡ new) where
  pub assign-word : (name : Name) → target ≡ tg.Word name → Gives (mean_expr e x (scope_of shown) s) p t
      → Maps (going_on new) (set_word_step (scope_of lent) name) p r → Ends (going_on after) (assign e target x (scope_of before) s) r t
  assign-word name is h k =
      let value = subst (λ (scope : List Local). Gives (mean_expr e x (scope_of scope) s) p t) seen h in
      let step = subst (λ (scope : List Local). Maps (going_on new) (set_word_step (scope_of scope) name) p r) taken k in
      subst (λ (scope : List Local). Ends (going_on scope) (assign e target x (scope_of before) s) r t) (sym back)
      (told new (assign e target x (scope_of before) s) (set_word_step (scope_of before) name (mean_expr e x (scope_of before) s)) r t
      (ap (λ (y : Target). assign e y x (scope_of before) s) is) (step t (mean_expr e x (scope_of before) s) value))

  pub assign-slice : (name : Name) (high low : Width) → target ≡ tg.Slice name high low → Gives (mean_expr e x (scope_of shown) s) p t
      → Maps (going_on new) (set_slice_step e (scope_of lent) name high low) p r → Ends (going_on after) (assign e target x (scope_of before) s) r t
  assign-slice name high low is h k =
      let value = subst (λ (scope : List Local). Gives (mean_expr e x (scope_of scope) s) p t) seen h in
      let step = subst (λ (scope : List Local). Maps (going_on new) (set_slice_step e (scope_of scope) name high low) p r) taken k in
      subst (λ (scope : List Local). Ends (going_on scope) (assign e target x (scope_of before) s) r t) (sym back)
      (told new (assign e target x (scope_of before) s) (set_slice_step e (scope_of before) name high low (mean_expr e x (scope_of before) s)) r t
      (ap (λ (y : Target). assign e y x (scope_of before) s) is) (step t (mean_expr e x (scope_of before) s) value))

  pub assign-bit : (name : Name) (at : Expr) (again : List Local) (i : BitVector) (z : State) → target ≡ tg.Bit name at → again ≡ before
      → with_bits (mean_expr e at (scope_of again) z) done ≡ done i s → Gives (mean_expr e x (scope_of shown) s) p t
      → Maps (going_on new) (set_bit_step (scope_of lent) name i) p r → Ends (going_on after) (assign e target x (scope_of before) z) r t
  assign-bit name at again i z is first d h k =
      let value = subst (λ (scope : List Local). Gives (mean_expr e x (scope_of scope) s) p t) seen h in
      let step = subst (λ (scope : List Local). Maps (going_on new) (set_bit_step (scope_of scope) name i) p r) taken k in
      let index = subst (λ (scope : List Local). with_bits (mean_expr e at (scope_of scope) z) done ≡ done i s) first d in
      subst (λ (scope : List Local). Ends (going_on scope) (assign e target x (scope_of before) z) r t) (sym back)
      (told new (assign e target x (scope_of before) z) (set_bit_step (scope_of before) name i (mean_expr e x (scope_of before) s)) r t
      (ap (λ (y : Target). assign e y x (scope_of before) z) is
      ∙ bits-given (mean_expr e at (scope_of before) z) (λ j y. set_bit_step (scope_of before) name j (mean_expr e x (scope_of before) y)) i s index)
      (step t (mean_expr e x (scope_of before) s) value))

pub assign-register : (e : Setting) (target : Target) (x at : Expr) (before again shown : List Local) (i : BitVector) (z s t y : State) (p : Result Value Stop) (r : Result (Unit {0}) Stop)
    → target ≡ tg.Register at → again ≡ before → shown ≡ before → with_bits (mean_expr e at (scope_of again) z) done ≡ done i s → Gives (mean_expr e x (scope_of shown) s) p t
    → ((scope : Scope) → Follows (λ u. goes_on scope) (set_register_step e scope i) p t r y) → Ends (going_on before) (assign e target x (scope_of before) z) r y
assign-register e target x at before again shown i z s t y p r is first seen d h k =
    let value = subst (λ (scope : List Local). Gives (mean_expr e x (scope_of scope) s) p t) seen h in
    let index = subst (λ (scope : List Local). with_bits (mean_expr e at (scope_of scope) z) done ≡ done i s) first d in
    told before (assign e target x (scope_of before) z) (set_register_step e (scope_of before) i (mean_expr e x (scope_of before) s)) r y
    (ap (λ (w : Target). assign e w x (scope_of before) z) is
    ∙ bits-given (mean_expr e at (scope_of before) z) (λ j q. set_register_step e (scope_of before) j (mean_expr e x (scope_of before) q)) i s index)
    (k (scope_of before) (mean_expr e x (scope_of before) s) value)

pub raises : (e : Setting) (cause tval : Expr) (scope : List Local) (s t z : State) (v : Value) (p : Result Value Stop) (r : Result (Unit {0}) Stop)
    → mean_expr e cause (scope_of scope) s ≡ done (as_value v) t → Gives (mean_expr e tval (scope_of scope) t) p z
    → ((names : Scope) → Maps (λ u. goes_on names) (raise_step e (as_value v)) p r) → Ends (going_on scope) (raise_change e cause tval (scope_of scope) s) r z
raises e cause tval scope s t z v p r d h k =
    told scope (raise_change e cause tval (scope_of scope) s) (raise_step e (as_value v) (mean_expr e tval (scope_of scope) t)) r z
    (ap (λ (o : Outcome meant.Value). and_then o (λ c q. raise_step e c (mean_expr e tval (scope_of scope) q))) d)
    (k (scope_of scope) z (mean_expr e tval (scope_of scope) t) h)

pub stores : (e : Setting) (count : ℕ) (at x : Expr) (scope : List Local) (s t z y : State) (a : BitVector) (p : Result Value Stop) (r : Result (Unit {0}) Stop)
    → with_bits (mean_expr e at (scope_of scope) s) done ≡ done a t → Gives (mean_expr e x (scope_of scope) t) p z
    → ((names : Scope) → Follows (λ u. goes_on names) (write_memory_step e count names a) p z r y) → Ends (going_on scope) (store_change e count at x (scope_of scope) s) r y
stores e count at x scope s t z y a p r d h k =
    told scope (store_change e count at x (scope_of scope) s) (write_memory_step e count (scope_of scope) a (mean_expr e x (scope_of scope) t)) r y
    (bits-given (mean_expr e at (scope_of scope) s) (λ b q. write_memory_step e count (scope_of scope) b (mean_expr e x (scope_of scope) q)) a t d)
    (k (scope_of scope) (mean_expr e x (scope_of scope) t) h)
