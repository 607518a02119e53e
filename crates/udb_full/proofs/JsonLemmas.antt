-- What a JSON text has of each character.
use Rattle.std.proofs.Common.{◌≡◌, ◌≢◌, ◌<◌, ◌≤◌, ◌++◌, ℕ, suc, List, [], ◌∷◌, length, get_or, map, refl, ap, sym, subst, ◌∙◌, arith, ⊎_elim, append-nil}
use Rattle.std.specs.Prelude.{encode_utf8, encode_utf8_all}
use Rattle.std.specs.Str.{IsUtf8, chars}
use Rattle.std.specs.List.{flat_map}
use Rattle.std.proofs.lemmas.Str.{inside_one, encode_ascii, encodes-append, encodes-chars}
use Rattle.std.proofs.lemmas.Grind.{flat_map-append}
use Rattle.std.proofs.lemmas.Bool.Decides.{nat_tests}
use Rattle.std.proofs.lemmas.Bool.{cases_lt}
use Rattle.std.proofs.lemmas.List.{map-id}
use Rattle.udb_spec.specs.ProofText.{json_byte}

-- a byte or character that stands as it is
pub record IsPlain (b : ℕ) : Type 0 where
  pub control : 32 ≤ b
  pub quote : b ≢ 34
  pub backslash : b ≢ 92

pub plain_byte : (b : ℕ) → IsPlain b → json_byte b ≡ b ∷ []
plain_byte b p = grind (arith, nat_tests)

plain_bytes : (bs : List ℕ) → ((k : ℕ) → k < length bs → IsPlain (get_or bs k 0)) → flat_map json_byte bs ≡ bs
plain_bytes [] h = refl
plain_bytes (b ∷ bs) h =
    ap (λ (x : List ℕ). x ++ flat_map json_byte bs) (plain_byte b (h 0 (omega arith)))
    ∙ ap (λ (x : List ℕ). b ∷ x) (plain_bytes bs (λ k l. h (suc k) (omega arith)))

high_plain : (b : ℕ) → 128 ≤ b → IsPlain b
high_plain b h = record { control = omega arith; quote = λ e. omega arith; backslash = λ e. omega arith }

pub plain_letter : (c : ℕ) → IsPlain c → flat_map json_byte (encode_utf8 c) ≡ encode_utf8 c
plain_letter c p =
    plain_bytes (encode_utf8 c) (λ k l. ⊎_elim
    (λ h. subst IsPlain (inside_one c [] (encode_utf8 c) k (sym (append-nil (encode_utf8 c))) l h) p)
    (λ h. high_plain (get_or (encode_utf8 c) k 0) h)
    (cases_lt (get_or (encode_utf8 c) k 0) 128))

pub other_letter : (c : ℕ) → 32 ≤ c → c ≢ 34 → c ≢ 92 → flat_map json_byte (encode_utf8 c) ≡ encode_utf8 c
other_letter c l q b = plain_letter c (record { control = l; quote = q; backslash = b })

pub control_letter : (c : ℕ) → c < 32 → flat_map json_byte (encode_utf8 c) ≡ json_byte c
control_letter c l = ap (flat_map json_byte) (encode_ascii c (omega arith)) ∙ append-nil (json_byte c)

-- one more character
pub one_more_letter : (ys : List ℕ) (c : ℕ) → flat_map json_byte (encode_utf8_all (ys ++ c ∷ [])) ≡ flat_map json_byte (encode_utf8_all ys) ++ flat_map json_byte (encode_utf8 c)
one_more_letter ys c =
    ap (flat_map json_byte) (encodes-append ys (c ∷ []) ∙ ap (λ (x : List ℕ). encode_utf8_all ys ++ x) (append-nil (encode_utf8 c)))
    ∙ flat_map-append json_byte (encode_utf8_all ys) (encode_utf8 c)

-- all characters of a text
pub all_letters : (word ys : List ℕ) → IsUtf8 word → map (λ c. c) ys ≡ chars word → flat_map json_byte (encode_utf8_all ys) ≡ flat_map json_byte word
all_letters word ys u e = ap (λ (cs : List ℕ). flat_map json_byte (encode_utf8_all cs)) (sym (map-id ys) ∙ e) ∙ ap (flat_map json_byte) (encodes-chars word u)
