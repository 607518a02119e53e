-- How what is done with a part ends, by how the part ends.
use Rattle.std.proofs.Common.{◌≡◌, Bool, Result, Err, refl, sym, ap, ◌∙◌, subst}
use Rattle.idl_bits.specs.BitVector.{BitVector}
use Rattle.idl_spec.specs.Values.{bits, flag, member, given_text, written_text}
use Rattle.idl_spec.specs.Values as meant
use Rattle.idl_spec.specs.Harts.{State, Outcome, done, raised, stuck, and_then}
use Rattle.idl_spec.specs.Settings.{with_bits, with_flag}
use Rattle.idl_forms.specs.declared.values.Stop.{Stop}
use Rattle.idl_forms.specs.declared.values.Stop.TheVariants.{Memory, Raised, Stuck}
use Rattle.idl_forms.specs.States.{Ends}

-- equal outcomes and equal answers
pub ends-same : {A B : Type 0} (f : A → B) (o p : Outcome B) (r q : Result A Stop) (s : State) → o ≡ p → r ≡ q → Ends f p q s → Ends f o r s
ends-same f o p r q s e d h = subst (λ x. Ends f x r s) (sym e) (subst (λ x. Ends f p x s) (sym d) h)

-- an early end ends what is done next
pub early : {A B C D : Type 0} (f : A → B) (g : C → D) (o : Outcome B) (next : B → State → Outcome D) (stop : Stop) (s : State) → Ends f o (Err stop) s → Ends g (and_then o next) (Err stop) s
early f g o next Memory s h = tt
early f g o next (Raised code tval) s h = rw h refl
early f g o next Stuck s h = rw h refl

bits-next : {A : Type 0} (o : Outcome meant.Value) (next : BitVector → State → Outcome A) → with_bits o next ≡ and_then (with_bits o done) next
bits-next (done (bits v) s) next = refl
bits-next (done (flag x) s) next = refl
bits-next (done (member k n) s) next = refl
bits-next (done (given_text x) s) next = refl
bits-next (done (written_text x) s) next = refl
bits-next (raised code tval s) next = refl
bits-next stuck next = refl

flag-next : {A : Type 0} (o : Outcome meant.Value) (next : Bool → State → Outcome A) → with_flag o next ≡ and_then (with_flag o done) next
flag-next (done (bits v) s) next = refl
flag-next (done (flag x) s) next = refl
flag-next (done (member k n) s) next = refl
flag-next (done (given_text x) s) next = refl
flag-next (done (written_text x) s) next = refl
flag-next (raised code tval s) next = refl
flag-next stuck next = refl

-- bits go on
pub bits-given : {A : Type 0} (o : Outcome meant.Value) (next : BitVector → State → Outcome A) (v : BitVector) (s : State) → with_bits o done ≡ done v s → with_bits o next ≡ next v s
bits-given o next v s e = bits-next o next ∙ ap (λ (p : Outcome BitVector). and_then p next) e

-- a part that isn't a truth value ends what is done with it
pub flag-early : {C D : Type 0} (g : C → D) (o : Outcome meant.Value) (next : Bool → State → Outcome D) (stop : Stop) (s : State) → Ends (λ (b : Bool). b) (with_flag o done) (Err stop) s → Ends g (with_flag o next) (Err stop) s
flag-early g o next stop s h = ends-same g (with_flag o next) (and_then (with_flag o done) next) (Err stop) (Err stop) s (flag-next o next) refl (early (λ (b : Bool). b) g (with_flag o done) next stop s h)
