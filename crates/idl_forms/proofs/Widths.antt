-- Values of a width from 1 to 128, and values side by side.
use Rattle.std.proofs.Common.{◌≡◌, ℕ, ◌+◌, ◌<◌, List, [], ◌∷◌, drop, length, get_or, Option, Some, None, Ok, sym, ap, ◌∙◌, arith}
use Rattle.std.specs.Prelude.{nat_le}
use Rattle.std.proofs.lemmas.Bool.{cond-false, and_right, lt-leb}
use Rattle.std.proofs.lemmas.List.{drop_more}
use Rattle.idl_bits.specs.BitVector.{BitVector}
use Rattle.idl_bits.specs.Operators.{join_of}
use Rattle.idl_spec.specs.Harts.{State, stuck}
use Rattle.idl_spec.specs.Settings.{sized}
use Rattle.idl_forms.specs.States.{or_stop}
use Rattle.idl_forms.specs.Steps.{behind}

pub sized-stuck : (v : BitVector) (s : State) → 128 < v.width → sized v s ≡ stuck
sized-stuck v s h = cond-false _ _ _ (and_right (nat_le 1 v.width) (nat_le v.width 128) (lt-leb v.width 128 h))

pub some-of : {A : Type 0} (x : Option A) (a : A) → Ok a ≡ or_stop x → x ≡ Some a
some-of None a e = absurd cc
some-of (Some b) a e = let same : b ≡ a = cc in ap Some same

-- values side by side only grow
pub behind-stuck : (v : BitVector) (ws : List BitVector) (s : State) → 128 < v.width → behind v ws s ≡ stuck
unfolding join_of
behind-stuck v [] s h = sized-stuck v s h
behind-stuck v (w ∷ ws) s h =
    let more : 128 < v.width + w.width = omega arith in
    behind-stuck (join_of v w) ws s more

-- one more of them
pub behind-more : (v : BitVector) (ws : List BitVector) (i : ℕ) (w : BitVector) (s : State) → i < length ws → w ≡ get_or ws i w → behind v (drop i ws) s ≡ behind (join_of v w) (drop (i + 1) ws) s
behind-more v ws i w s h r = ap (λ xs. behind v xs s) (drop_more ws i w h) ∙ ap (λ x. behind (join_of v x) (drop (i + 1) ws) s) (sym r)
