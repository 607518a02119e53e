-- Bytes of the memory, read and written in turn.
use Rattle.std.proofs.Common.{◌≡◌, ℕ, ◌+◌, ◌*◌, ◌/◌, ◌%◌, ◌^◌, ◌<◌, ◌≤◌, List, [], ◌∷◌, ◌++◌, length, get_or, set, take, drop, bit_or, refl, sym, ap, ◌∙◌, arith, add-one}
use Rattle.std.proofs.lemmas.List.{drop_more, take_more_set, append_assoc, take-append-drop, drop-set-lt}
use Rattle.std.proofs.lemmas.Nat.{or_shifted, shl_whole, pow-add}
use Rattle.idl_spec.specs.Harts.{loaded, stored, little_endian, low_bytes}

pub loaded-none : (ram : List ℕ) (at k : ℕ) → k ≡ 0 → 0 ≡ loaded ram at k
unfolding loaded
loaded-none ram at k e = rw e refl

pub loaded-more : (ram : List ℕ) (p m k b : ℕ) → p < length ram → m ≡ k + 1 → b ≡ get_or ram p 0 → loaded ram p m ≡ b + 256 * loaded ram (p + 1) k
unfolding loaded
loaded-more ram p m k b h e f =
    let taken : take m (drop p ram) ≡ get_or ram p 0 ∷ take k (drop (p + 1) ram) = rw (e, drop_more ram p 0 h, add-one k) refl in
    ap little_endian taken ∙ ap (λ x. x + 256 * little_endian (take k (drop (p + 1) ram))) (sym f)

-- one byte more below what was read
pub shifted-in : (n k b : ℕ) → n < 2 ^ (8 * k) → 8 * k + 8 ≤ 64 → b < 256 → bit_or ((n * 2 ^ 8) % 2 ^ 64) b ≡ b + 256 * n
shifted-in n k b h l m = rw (shl_whole n (8 * k) 8 64 h l, or_shifted n 8 b m) (omega arith)

pub byte-fits : (n k m b : ℕ) → n < 2 ^ (8 * k) → m ≡ k + 1 → b < 256 → b + 256 * n < 2 ^ (8 * m)
byte-fits n k m b h e l =
    let bits : 8 * m ≡ 8 * k + 8 = omega arith in
    let power = ap (λ i. 2 ^ i) bits ∙ pow-add 2 (8 * k) 8 in
    omega arith

pub stored-none : (xs : List ℕ) (p k n : ℕ) → k ≡ 0 → stored xs p k n ≡ xs
unfolding stored
stored-none xs p k n e =
    let same : p + k ≡ p = omega arith in
    rw (same, e) (take-append-drop p xs)

pub stored-more : (xs : List ℕ) (p m k n : ℕ) → p < length xs → m ≡ k + 1 → stored xs p m n ≡ stored (set xs p (n % 256)) (p + 1) k (n / 256)
unfolding stored
stored-more xs p m k n h e =
    let far : p + m ≡ (p + 1) + k = omega arith in
    let past : p < (p + 1) + k = omega arith in
    let low : low_bytes m n ≡ n % 256 ∷ low_bytes k (n / 256) = rw (e, add-one k) refl in
    rw (far, low, take_more_set xs p (n % 256) h, drop-set-lt ((p + 1) + k) xs p (n % 256) past, append_assoc (take p xs) (n % 256 ∷ []) (low_bytes k (n / 256) ++ drop ((p + 1) + k) xs)) refl
