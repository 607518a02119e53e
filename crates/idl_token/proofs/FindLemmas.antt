-- The first element that passes, looked for from a place on.
use Rattle.std.proofs.Common.{◌≡◌, ℕ, ◌+◌, ◌<◌, ◌≤◌, Bool, true, false, List, length, get_or, drop, Some, None, sym, ap, ◌∙◌, cond}
use Rattle.std.specs.List.{find}
use Rattle.std.proofs.lemmas.List.{drop_more, drop_all}

find_at : {X : Type 0} (p : X → Bool) (xs : List X) (i : ℕ) (x : X) → i < length xs → x ≡ get_or xs i x → find p (drop i xs) ≡ cond (p x) (Some x) (find p (drop (i + 1) xs))
find_at p xs i x lt is = ap (λ ys. find p ys) (drop_more xs i x lt) ∙ ap (λ y. cond (p y) (Some y) (find p (drop (i + 1) xs))) (sym is)

pub find_here : {X : Type 0} (p : X → Bool) (xs : List X) (i : ℕ) (x : X) → i < length xs → x ≡ get_or xs i x → p x ≡ true → find p (drop i xs) ≡ Some x
find_here p xs i x lt is yes_here = find_at p xs i x lt is ∙ ap (λ b. cond b (Some x) (find p (drop (i + 1) xs))) yes_here

pub find_next : {X : Type 0} (p : X → Bool) (xs : List X) (i : ℕ) (x : X) → i < length xs → x ≡ get_or xs i x → p x ≡ false → find p (drop (i + 1) xs) ≡ find p (drop i xs)
find_next p xs i x lt is no_here = sym (find_at p xs i x lt is ∙ ap (λ b. cond b (Some x) (find p (drop (i + 1) xs))) no_here)

pub find_past : {X : Type 0} (p : X → Bool) (xs : List X) (i : ℕ) → length xs ≤ i → find p (drop i xs) ≡ None
find_past p xs i le = ap (λ ys. find p ys) (drop_all i xs le)

pub ruleset find_steps = (find_here, find_next, find_past)
