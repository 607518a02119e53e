-- Fronts of texts, and numbers as texts.
use Rattle.std.proofs.Common.{◌≡◌, ℕ, ◌==◌, nat_eq, Bool, true, false, ◌&&◌, List, [], ◌∷◌, ◌++◌, length, drop, None, Some, Result, Ok, refl, sym, ap, ◌∙◌, cond, subst}
use Rattle.std.specs.List.{starts_with}
use Rattle.std.specs.Fmt.{decimal}
use Rattle.std.specs.Str.{IsUtf8}
use Rattle.std.specs.Str.Parse.{ParsesUnsigned}
use Rattle.std.proofs.lemmas.Bool.{eq-eqb, eqb-true, false≢true}
use Rattle.std.proofs.lemmas.Option.{none-some, same_Some}
use Rattle.std.proofs.lemmas.Fmt.{parse-decimal, IsAscii-decimal}
use Rattle.std.proofs.lemmas.Str.{IsUtf8-from_ascii}
use Rattle.udb_base.specs.Fronts.{after, IsNumberOf}

-- ---- fronts

pub after-starts : (front text : List ℕ) → starts_with nat_eq text front ≡ true → Some (drop (length front) text) ≡ after front text
after-starts [] text e = refl
after-starts (b ∷ front) [] e = absurd (false≢true e)
after-starts (b ∷ front) (c ∷ text) e = step (b == c) e (after-starts front text) where
  step : (t : Bool) → (t && starts_with nat_eq text front) ≡ true → (starts_with nat_eq text front ≡ true → Some (drop (length front) text) ≡ after front text) → Some (drop (length front) text) ≡ cond t (after front text) None
  step true h rest = rest h
  step false h rest = absurd (false≢true h)

pub after-not : (front text : List ℕ) → starts_with nat_eq text front ≡ false → None ≡ after front text
after-not [] text e = absurd (false≢true (sym e))
after-not (b ∷ front) [] e = refl
after-not (b ∷ front) (c ∷ text) e = step (b == c) e (after-not front text) where
  step : (t : Bool) → (t && starts_with nat_eq text front) ≡ false → (starts_with nat_eq text front ≡ false → None ≡ after front text) → None ≡ cond t (after front text) None
  step true h rest = rest h
  step false h rest = refl

pub after-is : (front text rest : List ℕ) → after front text ≡ Some rest → front ++ rest ≡ text
after-is [] text rest e = sym (same_Some text rest e)
after-is (b ∷ front) [] rest e = absurd (none-some rest e)
after-is (b ∷ front) (c ∷ text) rest e = step (b == c) refl e (after-is front text rest) where
  step : (t : Bool) → (b == c) ≡ t → cond t (after front text) None ≡ Some rest → (after front text ≡ Some rest → front ++ rest ≡ text) → b ∷ front ++ rest ≡ c ∷ text
  step true is h inner = let same : b ≡ c = eqb-true b c is in ap (λ x. x ∷ front ++ rest) same ∙ ap (λ xs. c ∷ xs) (inner h)
  step false is h inner = absurd (none-some rest h)

pub after-own : (front rest : List ℕ) → after front (front ++ rest) ≡ Some rest
after-own [] rest = refl
after-own (b ∷ front) rest = rw (eq-eqb b b refl) (after-own front rest)

pub not-after : (front text rest : List ℕ) → None ≡ after front text → front ++ rest ≡ text → ⊥
not-after front text rest none is = none-some rest (none ∙ ap (after front) (sym is) ∙ after-own front rest)

-- ---- numbers

pub no-utf8 : (text : List ℕ) → (IsUtf8 text → ⊥) → IsNumberOf text None
no-utf8 text bad n small is = bad (subst IsUtf8 is (IsUtf8-from_ascii (decimal n) (IsAscii-decimal n small)))

pub no-parse : {E : Type 0} (text digits : List ℕ) (r : Result ℕ E) → digits ≡ text → ParsesUnsigned 64 10 digits r → ((n : ℕ) → r ≡ Ok n → ⊥) → IsNumberOf text None
no-parse text digits r same parses none n small is = none n (parse-decimal 64 n digits r small small (same ∙ sym is) parses)

pub other-text : {E : Type 0} (text digits : List ℕ) (r : Result ℕ E) (m : ℕ) → digits ≡ text → ParsesUnsigned 64 10 digits r → r ≡ Ok m → (decimal m ≡ text → ⊥) → IsNumberOf text None
other-text text digits r m same parses is_m other n small is =
    let both : r ≡ Ok n = parse-decimal 64 n digits r small small (same ∙ sym is) parses in
    let one : m ≡ n = cc in
    other (ap decimal one ∙ is)
