-- The end of a head, as more and more bytes are read.
use Rattle.std.proofs.Common.{◌≡◌, ℕ, zero, suc, ◌-◌, ◌≤◌, List, [], ◌∷◌, ◌++◌, length, drop, take, Option, Some, None, refl, sym, ap, ◌∙◌, arith, append-nil, append_assoc, subst}
use Rattle.std.proofs.lemmas.List.{length-append, length-take, drop_all, drop-append-le, take-append-drop}
use Rattle.udb_http.specs.declared.scans.Scan.{Scan}
use Rattle.udb_http.specs.Heads.{head_length, head_from, head_limit}
use Rattle.udb_http.specs.Scans.{IsScanned, past}
use Rattle.udb_http.specs.Sessions.{unread, Stays, HasEnd, HasNoEnd}

pub limit_is : head_limit ≡ 16384
unfolding head_limit
limit_is = refl

pub take-nil : (n : ℕ) → take {A = ℕ} n [] ≡ []
take-nil zero = refl
take-nil (suc n) = refl

take_split : (n : ℕ) (a b : List ℕ) → take n (a ++ b) ≡ take n a ++ take (n - length a) b
take_split n [] b = let e : n - 0 ≡ n = omega arith in rw (e, take-nil n) refl
take_split zero (x ∷ a) b = let e : zero - suc (length a) ≡ zero = omega arith in rw e refl
take_split (suc n) (x ∷ a) b =
    let e : suc n - suc (length a) ≡ n - length a = omega arith in rw e (ap (λ l. x ∷ l) (take_split n a b))

-- where all bytes were searched, no head ends in them
pub none_ends : (bytes : List ℕ) (scan : Scan) → scan.at ≡ length bytes → IsScanned bytes scan → head_length bytes ≡ None
none_ends bytes scan all h =
    let gone : drop scan.at bytes ≡ [] = drop_all scan.at bytes (omega (arith, all)) in
    let same = h.same [] in
    ap head_length (sym (append-nil bytes)) ∙ same ∙ ap (λ l. past scan.at (head_from scan.begun scan.line (l ++ []))) gone

more_scanned : (bytes more : List ℕ) (scan : Scan) → IsScanned bytes scan → IsScanned (bytes ++ more) scan
more_scanned bytes more scan h = record {
  within = omega (arith, h.within, length-append bytes more);
  same = λ rest.
      let cut : drop scan.at (bytes ++ more) ≡ drop scan.at bytes ++ more = drop-append-le scan.at bytes more h.within in
      ap head_length (append_assoc bytes more rest) ∙ h.same (more ++ rest)
      ∙ ap (λ l. past scan.at (head_from scan.begun scan.line l)) (sym (append_assoc (drop scan.at bytes) more rest) ∙ ap (λ l. l ++ rest) (sym cut));
}

-- a search goes on after a read
pub still_scanned : (n : ℕ) (held more : List ℕ) (scan : Scan) → take (length held) more ≡ held → IsScanned (take n held) scan → IsScanned (take n more) scan
still_scanned n held more scan front h =
    let whole : more ≡ held ++ drop (length held) more = sym (take-append-drop (length held) more) ∙ ap (λ l. l ++ drop (length held) more) front in
    let cut = ap (take n) whole ∙ take_split n held (drop (length held) more) in
    subst (λ l. IsScanned l scan) (sym cut) (more_scanned (take n held) _ scan h)

-- an end that was found in the first bytes is there whatever follows
pub found_end : (held front : List ℕ) (n : ℕ) → front ≡ take head_limit held → n ≤ length front → ((more : List ℕ) → head_length (front ++ more) ≡ Some n)
    → (n ≤ length held) × (n ≤ 16384) × ((more : List ℕ) → HasEnd (held ++ more) n)
found_end held front n e within h =
    let len = ap length e ∙ length-take head_limit held in (
      omega (arith, within, len),
      omega (arith, within, len, limit_is),
      λ more.
          ap head_length (take_split head_limit held more ∙ ap (λ l. l ++ take (head_limit - length held) more) (sym e)) ∙ h (take (head_limit - length held) more),
    )

-- the bytes that are left, where the link tells them
pub unread_is : (held : List ℕ) (left : Option (List ℕ)) (bytes : List ℕ) → unread held left ≡ Some bytes → (rest : List ℕ) × (left ≡ Some rest) × (bytes ≡ held ++ rest)
unread_is held None bytes e = absurd cc
unread_is held (Some rest) bytes e = (rest, refl, cc)

pub too_long : (before left : Option (List ℕ)) (held front : List ℕ) → Stays before (unread held left) → front ≡ take head_limit held → length front ≡ head_limit → head_length front ≡ None
    → (bytes : List ℕ) → before ≡ Some bytes → (head_limit ≤ length bytes) × HasNoEnd bytes
too_long before left held front stays e full none bytes told =
    let rest = unread_is held left bytes (stays bytes told) in
    let whole = rest.2 in
    let long : head_limit ≤ length held = omega (arith, full, ap length e ∙ length-take head_limit held) in
    let zero_more : head_limit - length held ≡ 0 = omega (arith, long) in
    let same : take head_limit bytes ≡ front =
    ap (take head_limit) whole ∙ take_split head_limit held rest.0 ∙ ap (λ k. take head_limit held ++ take k rest.0) zero_more ∙ append-nil (take head_limit held) ∙ sym e in
    (omega (arith, long, ap length whole, length-append held rest.0), ap head_length same ∙ none)
