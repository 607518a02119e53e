-- Texts of versions, words and choices are told apart.
use Rattle.std.proofs.Common.{◌≡◌, ◌<◌, ◌≤◌, ◌^◌, ◌+◌, ◌-◌, ◌*◌, ℕ, zero, suc, nat_lt, ◌==◌, ◌&&◌, ◌||◌, Bool, true, false, List, [], ◌∷◌, ◌++◌, length, map, drop, get_or, Option, None, Some, refl, sym, ap, subst, ◌∙◌, codes, arith, append_assoc, ⊎_elim, not}
use Rattle.std.specs.Prelude.{Contains, IfSome, if◌then◌else◌}
use Rattle.std.specs.List.{flat_map, list_any}
use Rattle.std.specs.Fmt.{decimal}
use Rattle.std.specs.Str.{all_ascii_digits}
use Rattle.std.specs.Char.{is_ascii_digit}
use Rattle.std.proofs.lemmas.Bool.{cases_lt, eq-eqb, eqb-true, false≢true}
use Rattle.std.proofs.lemmas.List.{append_cancel_left, length-map}
use Rattle.std.proofs.Math.ListN as n
use Rattle.std.proofs.lemmas.Fmt.{decimal_injective, digits_decimal}
use Rattle.std.proofs.lemmas.Str.Parse.{numerals_by_value, tells_all_ascii_digits}
use Rattle.udb_base.specs.declared.versions.Version.{Version}
use Rattle.udb_base.specs.declared.versions.Listed.{Listed}
use Rattle.udb_base.specs.declared.spaces.ExtSpace.{ExtSpace}
use Rattle.udb_spec.specs.Versions.{IsListed}
use Rattle.udb_spec.specs.ProofText.{json_byte, json_text, version_text, choice_text}
use Rattle.udb_full.specs.Found.{IsFound, IsChoiceOf, IsShortVersion}
use Rattle.udb_full.proofs.FoundLaws.{get-any, none-found}
use Rattle.udb_full.proofs.JsonLemmas.{IsPlain, plain_byte}

both-right : (a b : Bool) → (a && b) ≡ true → b ≡ true
both-right true b e = e
both-right false b e = absurd (false≢true e)

both-left : (a b : Bool) → (a && b) ≡ true → a ≡ true
both-left true b e = refl
both-left false b e = absurd (false≢true e)

digits-of : (n : ℕ) → n < 2 ^ 64 → all_ascii_digits (decimal n) ≡ true
digits-of n small = digits_decimal (numerals_by_value (λ ds. all_ascii_digits ds ≡ true) tells_all_ascii_digits) n small

dot-digit : (y : ℕ) → is_ascii_digit y ≡ true → y ≡ 46 → ⊥
dot-digit y d e = false≢true (ap is_ascii_digit (sym e) ∙ d)

-- digits end at a dot
parted : (ds es r s : List ℕ) → all_ascii_digits ds ≡ true → all_ascii_digits es ≡ true → ds ++ (46 ∷ r) ≡ es ++ (46 ∷ s) → (ds ≡ es) × (r ≡ s)
parted [] [] r s hd he e = (refl, ap (drop 1) e)
parted [] (y ∷ es) r s hd he e = absurd (dot-digit y (both-left (is_ascii_digit y) (all_ascii_digits es) he) (ap (λ xs. get_or xs 0 0) (sym e)))
parted (x ∷ ds) [] r s hd he e = absurd (dot-digit x (both-left (is_ascii_digit x) (all_ascii_digits ds) hd) (ap (λ xs. get_or xs 0 0) e))
parted (x ∷ ds) (y ∷ es) r s hd he e =
    let rest = parted ds es r s (both-right (is_ascii_digit x) (all_ascii_digits ds) hd) (both-right (is_ascii_digit y) (all_ascii_digits es) he) (ap (drop 1) e) in
    let first : x ≡ y = ap (λ xs. get_or xs 0 0) e in
    (ap (λ z. z ∷ ds) first ∙ ap (λ zs. y ∷ zs) rest.0, rest.1)

pub version-same : (a b : Version) → IsShortVersion a → IsShortVersion b → version_text a ≡ version_text b → a ≡ b
version-same a b sa sb e =
    let one = parted (decimal a.major) (decimal b.major) (decimal a.minor ++ (46 ∷ decimal a.patch)) (decimal b.minor ++ (46 ∷ decimal b.patch)) (digits-of a.major sa.major) (digits-of b.major sb.major) e in
    let two = parted (decimal a.minor) (decimal b.minor) (decimal a.patch) (decimal b.patch) (digits-of a.minor sa.minor) (digits-of b.minor sb.minor) one.1 in
    let major : a.major ≡ b.major = decimal_injective a.major b.major sa.major sb.major one.0 in
    let minor : a.minor ≡ b.minor = decimal_injective a.minor b.minor sa.minor sb.minor two.0 in
    let patch : a.patch ≡ b.patch = decimal_injective a.patch b.patch sa.patch sb.patch two.1 in
    ap (λ x. record { major = x; minor = a.minor; patch = a.patch }) major
    ∙ ap (λ x. record { major = b.major; minor = x; patch = a.patch }) minor
    ∙ ap (λ x. record { major = b.major; minor = b.minor; patch = x }) patch

-- ---- absent is no version

has-dot : (d t : List ℕ) → list_any (λ b. b == 46) (d ++ (46 ∷ t)) ≡ true
has-dot [] t = refl
has-dot (x ∷ d) t = step (x == 46) (list_any (λ b. b == 46) (d ++ (46 ∷ t))) (has-dot d t) where
  step : (a r : Bool) → r ≡ true → (a || r) ≡ true
  step true r e = refl
  step false r e = e

not-absent : (v : Version) → version_text v ≡ codes "absent" → ⊥
not-absent v e = false≢true (ap (list_any (λ b. b == 46)) (sym e) ∙ has-dot (decimal v.major) (decimal v.minor ++ (46 ∷ decimal v.patch)))

pub absent-found : (ext : ExtSpace) (text : List ℕ) → text ≡ codes "absent" → IsFound (IsChoiceOf ext) choice_text text (Some None)
absent-found ext text is = record { right = (tt, sym is); only = by_choice } where
  by_choice : (c : Option Version) → IsChoiceOf ext c → choice_text c ≡ text → Some None ≡ Some c
  by_choice None of e = refl
  by_choice (Some v) of e = absurd (not-absent v (e ∙ is))

-- ---- JSON texts

-- by the forms that a byte takes in a JSON text
byte-cases : (P : ℕ → Type 0) → ((b : ℕ) → b < 32 → P b) → P 34 → P 92 → ((b : ℕ) → IsPlain b → P b) → (b : ℕ) → P b
byte-cases P control quote backslash plain b =
    ⊎_elim (λ (lt : b < 32). control b lt) (λ (ge : 32 ≤ b). by_quote (b == 34) refl ge) (cases_lt b 32) where
      by_backslash : (t : Bool) → (b == 92) ≡ t → (b == 34) ≡ false → 32 ≤ b → P b
      by_backslash true is other ge = subst P (sym (eqb-true b 92 is)) backslash
      by_backslash false is other ge = plain b (record { control = ge; quote = λ e. false≢true (sym other ∙ eq-eqb b 34 e); backslash = λ e. false≢true (sym is ∙ eq-eqb b 92 e) })

      by_quote : (t : Bool) → (b == 34) ≡ t → 32 ≤ b → P b
      by_quote true is ge = subst P (sym (eqb-true b 34 is)) quote
      by_quote false is ge = by_backslash (b == 92) refl is ge

abbrev all-below : (ℕ → Bool) → ℕ → Bool
all-below test zero = true
all-below test (suc n) = test n && all-below test n

from-all : (test : ℕ → Bool) (n : ℕ) → all-below test n ≡ true → (b : ℕ) → b < n → test b ≡ true
from-all test zero all b lt = absurd (omega arith)
from-all test (suc n) all b lt =
    ⊎_elim (λ (below : b < n). from-all test n (both-right (test n) (all-below test n) all) b below)
    (λ (ge : n ≤ b). let same : n ≡ b = omega arith in subst (λ k. test k ≡ true) same (both-left (test n) (all-below test n) all)) (cases_lt b n)

abbrev hex-value : ℕ → ℕ
hex-value d = if nat_lt d 58 then d - 48 else d - 87

abbrev letter-value : ℕ → List ℕ → ℕ
letter-value l xs =
    if l == 98 then 8 else
    (if l == 102 then 12 else
    (if l == 110 then 10 else
    (if l == 114 then 13 else
    (if l == 116 then 9 else
    (if l == 117 then 16 * hex-value (get_or xs 4 0) + hex-value (get_or xs 5 0) else l)))))

-- the byte with which a JSON text goes on
abbrev next-byte : List ℕ → ℕ
next-byte xs = if get_or xs 0 0 == 92 then letter-value (get_or xs 1 0) xs else get_or xs 0 0

next-is : (x : List ℕ) (b : ℕ) → next-byte (json_byte b ++ x) ≡ b
next-is x = byte-cases (λ b. next-byte (json_byte b ++ x) ≡ b)
    (λ b lt. eqb-true (next-byte (json_byte b ++ x)) b (from-all (λ k. next-byte (json_byte k ++ x) == k) 32 refl b lt))
    refl refl (λ b plain. ap (λ bs. next-byte (bs ++ x)) (plain_byte b plain) ∙ stands (b == 92) refl plain) where
      stands : {b : ℕ} (t : Bool) → (b == 92) ≡ t → IsPlain b → (if t then letter-value (get_or (b ∷ x) 1 0) (b ∷ x) else b) ≡ b
      stands {b} true is plain = absurd (plain.backslash (eqb-true b 92 is))
      stands {b} false is plain = refl

no-end : (x : List ℕ) (b : ℕ) → get_or (json_byte b ++ x) 0 0 ≡ 34 → ⊥
no-end x = byte-cases (λ b. get_or (json_byte b ++ x) 0 0 ≡ 34 → ⊥)
    (λ b lt e. false≢true (from-not (get_or (json_byte b ++ x) 0 0 == 34) (from-all (λ k. not (get_or (json_byte k ++ x) 0 0 == 34)) 32 refl b lt) ∙ eq-eqb (get_or (json_byte b ++ x) 0 0) 34 e))
    (λ e. omega (arith, e)) (λ e. omega (arith, e))
    (λ b plain e. plain.quote (ap (λ bs. get_or (bs ++ x) 0 0) (sym (plain_byte b plain)) ∙ e)) where
      from-not : (t : Bool) → not t ≡ true → false ≡ t
      from-not true e = absurd (false≢true e)
      from-not false e = refl

ended : (v w : List ℕ) → flat_map json_byte v ++ 34 ∷ [] ≡ flat_map json_byte w ++ 34 ∷ [] → v ≡ w
ended [] [] e = refl
ended [] (c ∷ w) e = absurd (no-end (flat_map json_byte w ++ 34 ∷ []) c (ap (λ xs. get_or xs 0 0) (sym (append_assoc (json_byte c) (flat_map json_byte w) (34 ∷ []))) ∙ ap (λ xs. get_or xs 0 0) (sym e)))
ended (b ∷ v) [] e = absurd (no-end (flat_map json_byte v ++ 34 ∷ []) b (ap (λ xs. get_or xs 0 0) (sym (append_assoc (json_byte b) (flat_map json_byte v) (34 ∷ []))) ∙ ap (λ xs. get_or xs 0 0) e))
ended (b ∷ v) (c ∷ w) e =
    let whole : json_byte b ++ (flat_map json_byte v ++ 34 ∷ []) ≡ json_byte c ++ (flat_map json_byte w ++ 34 ∷ []) = sym (append_assoc (json_byte b) (flat_map json_byte v) (34 ∷ [])) ∙ e ∙ append_assoc (json_byte c) (flat_map json_byte w) (34 ∷ []) in
    let same : b ≡ c = sym (next-is (flat_map json_byte v ++ 34 ∷ []) b) ∙ ap next-byte whole ∙ next-is (flat_map json_byte w ++ 34 ∷ []) c in
    let rest : v ≡ w = ended v w (append_cancel_left (json_byte b) (flat_map json_byte v ++ 34 ∷ []) (flat_map json_byte w ++ 34 ∷ []) (whole ∙ ap (λ k. json_byte k ++ (flat_map json_byte w ++ 34 ∷ [])) (sym same))) in
    ap (λ k. k ∷ v) same ∙ ap (λ xs. c ∷ xs) rest

pub json-same : (v w : List ℕ) → json_text v ≡ json_text w → v ≡ w
json-same v w e = ended v w (ap (drop 1) e)

-- ---- listed words

abbrev pub NoWord : List (List ℕ) → List ℕ → ℕ → Type 0
NoWord ws text i = (w : List ℕ) (k : ℕ) → k < i → get_or ws k w ≡ w → json_text w ≡ text → ⊥

pub no-word : (ws : List (List ℕ)) (text : List ℕ) (i : ℕ) (w : List ℕ) → i < length ws → w ≡ get_or ws i w → (json_text w ≡ text → ⊥) → NoWord ws text i → NoWord ws text (i + 1)
no-word ws text i w lt at other so_far v k below is e =
    ⊎_elim (λ (earlier : k < i). so_far v k earlier is e)
    (λ (here : i ≤ k).
    let same : i ≡ k = omega arith in
    let words : v ≡ w = sym is ∙ ap (λ j. get_or ws j v) (sym same) ∙ get-any ws i w v lt ∙ sym at in
    other (ap json_text (sym words) ∙ e)) (cases_lt k i)

pub one-word : (ws : List (List ℕ)) (text : List ℕ) (i : ℕ) (w : List ℕ) → i < length ws → w ≡ get_or ws i w → json_text w ≡ text → IsFound (Contains ws) json_text text (Some w)
one-word ws text i w lt at is = record { right = ((i, lt, sym at), is); only = λ v of e. ap Some (json-same w v (is ∙ sym e)) }

pub words-end : (ws : List (List ℕ)) (text : List ℕ) (i : ℕ) → length ws ≤ i → NoWord ws text i → IsFound (Contains ws) json_text text None
words-end ws text i all none = none-found (Contains ws) json_text text (λ w of is. none w of.0 (omega (arith, of.1)) of.2 is)

-- ---- listed versions

abbrev version_of : Listed → Version
version_of l = l.version

-- what is found has the text, and no other version so far has it
pub record IsScan (vs : List Listed) (text : List ℕ) (i : ℕ) (found : Option Version) : Type 0 where
  pub short : IfSome found IsShortVersion
  pub right : IfSome found (λ v. IsListed vs v × (version_text v ≡ text))
  pub only : (v : Version) (k : ℕ) → k < i → get_or (map version_of vs) k v ≡ v → version_text v ≡ text → found ≡ Some v

here-is : (vs : List Listed) (i k : ℕ) (l : Listed) (v : Version) → i < length vs → l ≡ get_or vs i l → i ≡ k → get_or (map version_of vs) k v ≡ v → l.version ≡ v
here-is vs i k l v lt at same is =
    let long : i < length (map version_of vs) = omega (arith, length-map vs version_of) in
    ap version_of at ∙ sym (n.get_or-map version_of vs i l) ∙ get-any (map version_of vs) i v l.version long ∙ ap (λ j. get_or (map version_of vs) j v) same ∙ is

pub scan-hit : (vs : List Listed) (text : List ℕ) (i : ℕ) (found : Option Version) (l : Listed) → i < length vs → l ≡ get_or vs i l → IsShortVersion l.version → version_text l.version ≡ text → IsScan vs text i found → IsScan vs text (i + 1) (Some l.version)
scan-hit vs text i found l lt at short is scan = record {
  short = short;
  right = ((i, omega (arith, length-map vs version_of, lt), n.get_or-map version_of vs i l ∙ ap version_of (sym at)), is);
  only = λ v k below there e.
      ⊎_elim (λ (earlier : k < i).
      let before : found ≡ Some v = scan.only v k earlier there e in
      ap Some (version-same l.version v short (subst (λ o. IfSome o IsShortVersion) before scan.short) (is ∙ sym e)))
      (λ (late : i ≤ k). let same : i ≡ k = omega arith in ap Some (here-is vs i k l v lt at same there)) (cases_lt k i);
}

pub scan-miss : (vs : List Listed) (text : List ℕ) (i : ℕ) (found : Option Version) (l : Listed) → i < length vs → l ≡ get_or vs i l → (version_text l.version ≡ text → ⊥) → IsScan vs text i found → IsScan vs text (i + 1) found
scan-miss vs text i found l lt at other scan = record {
  short = scan.short;
  right = scan.right;
  only = λ v k below there e.
      ⊎_elim (λ (earlier : k < i). scan.only v k earlier there e)
      (λ (late : i ≤ k). let same : i ≡ k = omega arith in absurd (other (ap version_text (here-is vs i k l v lt at same there) ∙ e))) (cases_lt k i);
}

pub scan-end : (vs : List Listed) (text : List ℕ) (i : ℕ) (found : Option Version) → length vs ≤ i → IsScan vs text i found → IsFound (IsListed vs) version_text text found
scan-end vs text i found all scan = record {
  right = scan.right;
  only = λ v of is. scan.only v of.0 (omega (arith, of.1, length-map vs version_of)) of.2 is;
}
