-- A number and the digits so far.
use Rattle.std.proofs.Common.{◌≡◌, ℕ, ◌+◌, ◌*◌, ◌<◌, ◌≤◌, List, length, get_or, take, sym, ap, ◌∙◌, subst, arith}
use Rattle.std.specs.Char.{digit_value}
use Rattle.std.specs.Str.Parse.{digits_value}
use Rattle.std.proofs.lemmas.Int.Digits.{digits_value_more}
use Rattle.std.proofs.lemmas.Str.Parse.{digits_value-take-le}
use Rattle.std.proofs.lemmas.List.{take_all}

-- where one more digit is too much, all of them are
pub too_much : (base : ℕ) (ds : List ℕ) (i v limit : ℕ) → 0 < base → i < length ds → v ≡ digits_value base (take i ds) → (v * base + digit_value (get_or ds i 0) < limit → ⊥) → digits_value base ds < limit → ⊥
too_much base ds i v limit some lt is no_room below =
    let more = digits_value_more base ds i lt in
    let le = digits_value-take-le base ds (i + 1) (omega arith) in
    let step = ap (λ n. n * base + digit_value (get_or ds i 0)) is in
    no_room (omega (arith, more, le, step, below))

pub one_more : (base : ℕ) (ds : List ℕ) (i v : ℕ) → i < length ds → v ≡ digits_value base (take i ds) → v * base + digit_value (get_or ds i 0) ≡ digits_value base (take (i + 1) ds)
one_more base ds i v lt is = ap (λ n. n * base + digit_value (get_or ds i 0)) is ∙ sym (digits_value_more base ds i lt)

pub all_of_them : (base : ℕ) (ds : List ℕ) (i v limit : ℕ) → length ds ≤ i → v ≡ digits_value base (take i ds) → v < limit → (digits_value base ds < limit) × (v ≡ digits_value base ds)
all_of_them base ds i v limit le is below =
    let e : v ≡ digits_value base ds = is ∙ ap (λ xs. digits_value base xs) (take_all i ds le) in
    (subst (λ n. n < limit) e below, e)
