-- The test of names.
use Rattle.std.proofs.Common.{◌≡◌, ◌≢◌, ℕ, ◌<◌, true, false, List, [], ◌∷◌, length, get_or, All, refl, arith}
use Rattle.std.specs.List.{list_all}
use Rattle.std.proofs.lemmas.Bool.{and_parts, and_from, leb-true, le-leb, eqb-false, ne_eqb, not-true, not_from_false, false_from_ne_true}
use Rattle.std.proofs.lemmas.List.Elements.{All-head, All-tail, All-cons, All-nil}
use Rattle.udb_base.specs.Names.{IsName, IsNameByte}
use Rattle.udb_bundle.specs.Reading.{is_name, is_name_byte}

byte_is : (b : ℕ) → is_name_byte b ≡ true → IsNameByte b
byte_is b h =
    let p = and_parts _ _ h in
    let q = and_parts _ _ p.1 in
    let r = and_parts _ _ q.1 in
    let s = and_parts _ _ r.1 in
    let t = and_parts _ _ s.1 in (
      leb-true 33 b p.0,
      leb-true b 126 q.0,
      eqb-false b 47 (not-true _ r.0),
      eqb-false b 37 (not-true _ s.0),
      eqb-false b 63 (not-true _ t.0),
      eqb-false b 35 (not-true _ t.1),
    )

is_byte : (b : ℕ) → IsNameByte b → is_name_byte b ≡ true
is_byte b h =
    and_from _ _ (le-leb 33 b h.0) (and_from _ _ (le-leb b 126 h.1)
    (and_from _ _ (not_from_false _ (ne_eqb b 47 h.2)) (and_from _ _ (not_from_false _ (ne_eqb b 37 h.3))
    (and_from _ _ (not_from_false _ (ne_eqb b 63 h.4)) (not_from_false _ (ne_eqb b 35 h.5))))))

bytes_are : (bs : List ℕ) → list_all is_name_byte bs ≡ true → All IsNameByte bs
bytes_are [] h = All-nil IsNameByte
bytes_are (b ∷ bs) h = let p = and_parts _ _ h in All-cons IsNameByte b bs (byte_is b p.0) (bytes_are bs p.1)

are_bytes : (bs : List ℕ) → All IsNameByte bs → list_all is_name_byte bs ≡ true
are_bytes [] h = refl
are_bytes (b ∷ bs) h = and_from _ _ (is_byte b (All-head IsNameByte b bs h)) (are_bytes bs (All-tail IsNameByte b bs h))

-- what the test passes is a name
pub name_is : (text : List ℕ) → is_name text ≡ true → IsName text
name_is text h =
    let p = and_parts _ _ h in
    let q = and_parts _ _ p.1 in
    record { some = leb-true 1 (length text) p.0; short = leb-true (length text) 64 q.0; alphabet = bytes_are text q.1 }

-- and each name passes
pub is_name-true : (text : List ℕ) → IsName text → is_name text ≡ true
is_name-true text h = and_from _ _ (le-leb 1 (length text) h.some) (and_from _ _ (le-leb (length text) 64 h.short) (are_bytes text h.alphabet))

pub is_name-false : (text : List ℕ) → (IsName text → ⊥) → is_name text ≡ false
is_name-false text h = false_from_ne_true (is_name text) (λ e. h (name_is text e))

-- no space stands in a name
pub name_spaceless : (text : List ℕ) → IsName text → (i : ℕ) → i < length text → get_or text i 0 ≢ 32
name_spaceless text h i l e = let b = h.alphabet i 0 l in omega (arith, b.0, e)
