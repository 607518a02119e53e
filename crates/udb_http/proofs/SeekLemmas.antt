-- What the router's walk finds where one row alone goes on: words, and segments for parameters.
use Rattle.std.proofs.Common.{◌≡◌, ℕ, zero, suc, ◌+◌, ◌-◌, ◌<◌, ◌≤◌, List, [], ◌∷◌, ◌++◌, length, drop, Option, Some, None, Bool, true, false, cond, refl, ap, ◌∙◌, arith, nat_eq, ◌==◌, inl, inr}
use Rattle.std.specs.Prelude.{ltb, ◌&&◌}
use Rattle.std.proofs.lemmas.Bool.{cases_Bool}
use Rattle.std.proofs.lemmas.Bool.Decides.{nat_tests}
use Rattle.std.proofs.lemmas.List.{drop_at, length-append, drop_all}
use Rattle.std.specs.List.{ends_with, AllByRecursion}
use Rattle.udb_http.proofs.LengthLemmas.{both_true}
use Rattle.matchit.specs.Rows.{RowsOf, param_token, catch_all_token}
use Rattle.matchit.specs.Seek.{step, or_else, seek, param_step, has_slash, segment, slash, cuts, longest_suffix, with_suffix}

-- bytes
abbrev pub Low : List ℕ → Type 0
Low = AllByRecursion (λ b. b < 256)

abbrev end : List ℕ
end = 47 ∷ []

segment-cut : (part rest : List ℕ) → has_slash part ≡ false → segment (part ++ 47 ∷ rest) ≡ part ++ end
segment-cut [] rest h = refl
segment-cut (b ∷ part) rest h = elim (cases_Bool (b == slash)) [
  | inl hit ↦ absurd (let e = rw hit at h in cc)
  | inr miss ↦ rw miss (ap (λ q. b ∷ q) (segment-cut part rest (rw miss at h)))
]

ends-cut : (part : List ℕ) → ends_with nat_eq (part ++ end) end ≡ true
ends-cut part =
    let n : length (part ++ end) - length end ≡ length part = omega (arith, length-append part end) in
    let d : drop (length part) (part ++ end) ≡ end = drop_at part end (length part) refl in
    rw (n, d) refl

module _ {K : Type 0} where
  abbrev is_empty : RowsOf K → Bool
  is_empty [] = true
  is_empty (r ∷ rs) = false

  none_is : (rs : RowsOf K) → is_empty rs ≡ true → rs ≡ []
  none_is [] h = refl
  none_is (r ∷ rs) h = absurd cc

  -- the rows that are left after a word, and whether no parameter begins in it
  abbrev pub goes_on : List ℕ → RowsOf K → RowsOf K
  goes_on [] rs = rs
  goes_on (b ∷ w) rs = goes_on w (step b rs)

  abbrev pub is_plain : List ℕ → RowsOf K → Bool
  is_plain [] rs = true
  is_plain (b ∷ w) rs = is_empty (step param_token rs) && (is_empty (step catch_all_token rs) && is_plain w (step b rs))

  or_else-none : (a : Option K) → or_else a None ≡ a
  or_else-none None = refl
  or_else-none (Some k) = refl

  param_step-empty : (p : List ℕ) → (param_step {K = K} [] p).1 ≡ []
  unfolding param_step
  param_step-empty p =
      elim (has_slash p) as (λ v. (cond {A = ℕ × RowsOf K} v (0, []) (length p, [])).1 ≡ []) [ true ↦ refl | false ↦ refl ]

  seek-empty : (k : ℕ) (p : List ℕ) → seek {K = K} k [] p ≡ None
  unfolding seek
  seek-empty k [] = refl
  seek-empty (suc k) (b ∷ p) = seek-empty k p
  seek-empty zero (b ∷ p) = simp (seek-empty 0 p, param_step-empty (b ∷ p), seek-empty ((param_step {K = K} [] (b ∷ p)).0 - 1) p)

  seek-drop : (k : ℕ) (r : RowsOf K) (p : List ℕ) → seek k r p ≡ seek 0 r (drop k p)
  unfolding seek
  seek-drop zero r p = refl
  seek-drop (suc k) r [] = refl
  seek-drop (suc k) r (b ∷ p) = seek-drop k r p

  -- where rows go on with bytes alone
  seek-byte : (rs : RowsOf K) (b : ℕ) (p : List ℕ) → step param_token rs ≡ [] → step catch_all_token rs ≡ []
      → seek 0 rs (b ∷ p) ≡ seek 0 (step b rs) p
  unfolding seek
  seek-byte rs b p h1 h2 = simp (h1, h2, param_step-empty (b ∷ p), seek-empty ((param_step {K = K} [] (b ∷ p)).0 - 1) p, or_else-none)

  pub seek-word : (w : List ℕ) (rs : RowsOf K) (p : List ℕ) → is_plain w rs ≡ true → seek 0 rs (w ++ p) ≡ seek 0 (goes_on w rs) p
  seek-word [] rs p h = refl
  seek-word (b ∷ w) rs p h =
      let s = both_true (is_empty (step param_token rs)) (is_empty (step catch_all_token rs) && is_plain w (step b rs)) h in
      let t = both_true (is_empty (step catch_all_token rs)) (is_plain w (step b rs)) s.1 in
      seek-byte rs b (w ++ p) (none_is _ s.0) (none_is _ t.0) ∙ seek-word w (step b rs) p t.1

  -- where a row goes on with a parameter
  wild : (t : List ℕ) (k : K) (qs : RowsOf K) (n b : ℕ) (p : List ℕ) → b < 256 → param_step ((t, k) ∷ []) (b ∷ p) ≡ (n, qs)
      → seek 0 ((param_token ∷ t, k) ∷ []) (b ∷ p) ≡ seek 0 qs (drop (n - 1) p)
  unfolding seek
  wild t k qs n b p low e =
      let away : (param_token == b) ≡ false = grind (arith, nat_tests, low) in
      let rs : RowsOf K = (param_token ∷ t, k) ∷ [] in
      let ps : RowsOf K = (t, k) ∷ [] in
      let none : step b rs ≡ [] = ap (λ v. cond v ps []) away in
      let g = seek ((param_step ps (b ∷ p)).0 - 1) (param_step ps (b ∷ p)).1 p in
      ap (λ (x : RowsOf K). or_else (seek 0 x p) (or_else g None)) none
      ∙ ap (λ o. or_else o (or_else g None)) (seek-empty 0 p)
      ∙ or_else-none g
      ∙ ap (λ (q : ℕ × RowsOf K). seek (q.0 - 1) q.1 p) e
      ∙ seek-drop (n - 1) qs p

  param-by : (rs : RowsOf K) (p s : List ℕ) → longest_suffix (segment p) rs ≡ s
      → param_step rs p ≡ cond (ltb 0 (length s)) (length (segment p) - length s, with_suffix s rs) (cond (has_slash p) (0, []) (length p, rs))
  unfolding param_step
  param-by rs p s e =
      ap (λ (s : List ℕ). cond {A = ℕ × RowsOf K} (ltb 0 (length s)) (length (segment p) - length s, with_suffix s rs) (cond (has_slash p) (0, []) (length p, rs))) e

  -- a segment and a slash, where a parameter and a slash stand
  pub seek-segment : (t : List ℕ) (k : K) (part rest : List ℕ) → has_slash part ≡ false → 1 ≤ length part → Low (part ++ 47 ∷ rest)
      → seek 0 ((param_token ∷ 47 ∷ t, k) ∷ []) (part ++ 47 ∷ rest) ≡ seek 0 ((t, k) ∷ []) rest
  seek-segment t k [] rest bare some low = absurd (omega (arith, some))
  seek-segment t k (b ∷ part) rest bare some low =
      let path = b ∷ (part ++ 47 ∷ rest) in
      let ps : RowsOf K = (47 ∷ t, k) ∷ [] in
      let seg : segment path ≡ (b ∷ part) ++ end = segment-cut (b ∷ part) rest bare in
      let len : length (segment path) ≡ suc (length part + 1) = ap length seg ∙ ap suc (length-append part end) in
      let long : ltb 1 (length (segment path)) ≡ true = grind (arith, nat_tests, len) in
      let ended : ends_with nat_eq (segment path) end ≡ true = ap (λ s. ends_with nat_eq s end) seg ∙ ends-cut (b ∷ part) in
      let cut : cuts (segment path) end ≡ true = ap (λ v. v && ends_with nat_eq (segment path) end) long ∙ ended in
      let most : longest_suffix (segment path) ps ≡ end = ap (λ v. cond v end []) cut in
      let n = length (segment path) - 1 in
      let here : drop (n - 1) (part ++ 47 ∷ rest) ≡ 47 ∷ rest = drop_at part (47 ∷ rest) (n - 1) (omega (arith, len)) in
      wild (47 ∷ t) k ps n b (part ++ 47 ∷ rest) low.0 (param-by ps path end most)
      ∙ ap (seek 0 ps) here ∙ seek-byte ps 47 rest refl refl

  no-suffix : (b : ℕ) (p : List ℕ) (k : K) → longest_suffix (segment (b ∷ p)) (([], k) ∷ []) ≡ []
  no-suffix b p k = refl

  -- a segment that ends the path, where a last parameter stands
  pub seek-last : (k : K) (part : List ℕ) → has_slash part ≡ false → 1 ≤ length part → Low part
      → seek 0 ((param_token ∷ [], k) ∷ []) part ≡ Some k
  unfolding seek
  seek-last k [] bare some low = absurd (omega (arith, some))
  seek-last k (b ∷ p) bare some low =
      let gone : drop (length (b ∷ p) - 1) p ≡ [] = drop_all (length (b ∷ p) - 1) p (omega arith) in
      wild [] k (([], k) ∷ []) (length (b ∷ p)) b p low.0
      (param-by (([], k) ∷ []) (b ∷ p) [] (no-suffix b p k) ∙ ap (λ v. cond {A = ℕ × RowsOf K} v (0, []) (length (b ∷ p), ([], k) ∷ [])) bare)
      ∙ ap (seek 0 (([], k) ∷ [])) gone
