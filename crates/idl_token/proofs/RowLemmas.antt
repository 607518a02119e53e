-- Rows of tokens: one after the other, at most one for a source, and the places of their tokens.
use Rattle.std.proofs.Common.{◌≡◌, ◌⊎◌, inl, inr, ℕ, zero, suc, Bool, true, false, cond, ◌+◌, ◌<◌, ◌≤◌, List, [], ◌∷◌, ◌++◌, length, take, drop, All, Result, Ok, Err, IfOk, refl, sym, ap, ◌∙◌, subst, arith, append-nil}
use Rattle.std.proofs.lemmas.List.{length-drop, length-take-le, drop-drop}
use Rattle.std.proofs.lemmas.List.Elements.{All-nil, All-cons}
use Rattle.idl_token.specs.declared.kinds.TokenKind.{TokenKind}
use Rattle.idl_token.specs.declared.before.Before.{Before}
use Rattle.idl_token.specs.declared.front.Front.{Front}
use Rattle.idl_token.specs.declared.front.Front.TheVariants.{Gap, Token, Nothing}
use Rattle.idl_token.specs.declared.tokens.LexFault.{LexFault}
use Rattle.idl_token.specs.declared.tokens.LexFault.TheVariants as fault
use Rattle.idl_token.specs.Spelling.{special_words, signs}
use Rattle.idl_token.specs.Lexeme.{Lexeme, lexeme}
use Rattle.idl_token.specs.Front.{start, after, plain_at, front_at}
use Rattle.idl_token.specs.Rows.{Reads, done, gap, token, IsRow, IsBadAt, IsSlice, PlacesRise, Answers, Faults}
use Rattle.idl_token.proofs.CutLemmas.{Ends, EndsFront, front-ends}

-- ---- one after the other

pub Reads-then : {a b c : Before} {n m k : ℕ} {s t r : List ℕ} {ts us : List Lexeme} → Reads a n s ts b m t → Reads b m t us c k r → Reads a n s (ts ++ us) c k r
Reads-then done q = q
Reads-then (gap e p) q = gap e (Reads-then p q)
Reads-then (token e p) q = token e (Reads-then p q)

pub Reads-gap : {a b : Before} {n m i : ℕ} {s t : List ℕ} {ts : List Lexeme} → Reads a n s ts b m t → front_at b t ≡ Gap i → Reads a n s ts b (m + i) (drop i t)
Reads-gap {a} {b} {n} {m} {i} {s} {t} {ts} p e = subst (λ us. Reads a n s us b (m + i) (drop i t)) (append-nil ts) (Reads-then p (gap e done))

pub Reads-token : {a b : Before} {n m i : ℕ} {s t : List ℕ} {ts : List Lexeme} {x : TokenKind} → Reads a n s ts b m t → front_at b t ≡ Token x i
    → Reads a n s (ts ++ lexeme x (take i t) m ∷ []) (after b x) (m + i) (drop i t)
Reads-token p e = Reads-then p (token e done)

-- the same by what the code has
pub Reads-step : {a : Before} (source : List ℕ) (ts us : List Lexeme) (b now : Before) (at len : ℕ) (t r text : List ℕ) (x : TokenKind) → Reads a 0 source ts b at t → Token x len ≡ front_at b t → text ≡ take len t → r ≡ drop len t
    → now ≡ after b x → us ≡ ts ++ lexeme x text at ∷ [] → Reads a 0 source us now (at + len) r
Reads-step {a} source ts us b now at len t r text x p e is_text is_rest is_now is_row =
    let row : us ≡ ts ++ lexeme x (take len t) at ∷ [] = is_row ∙ ap (λ y. ts ++ lexeme x y at ∷ []) is_text in
    subst (λ vs. Reads a 0 source vs now (at + len) r) (sym row) (subst (λ c. Reads a 0 source (ts ++ lexeme x (take len t) at ∷ []) c (at + len) r) (sym is_now)
    (subst (λ q. Reads a 0 source (ts ++ lexeme x (take len t) at ∷ []) (after b x) (at + len) q) (sym is_rest) (Reads-token p (sym e))))

-- ---- at most one

pub nothing-at-end : (b : Before) → front_at b [] ≡ Nothing
unfolding front_at special_words signs
nothing-at-end b = by_place b.in_description where
  by_width : (w : Bool) → plain_at w [] ≡ Nothing
  by_width true = refl
  by_width false = refl

  by_place : (d : Bool) → cond d (plain_at b.in_width []) (plain_at b.in_width []) ≡ Nothing
  by_place true = by_width b.in_width
  by_place false = by_width b.in_width

pub record IsSame (ts us : List Lexeme) (m k : ℕ) (t r : List ℕ) : Type 0 where
  pub tokens : ts ≡ us
  pub place : m ≡ k
  pub rest : t ≡ r

gap_is : {i j : ℕ} → Gap i ≡ Gap j → j ≡ i
gap_is e = cc

token_is : {x y : TokenKind} {i j : ℕ} → Token x i ≡ Token y j → (y ≡ x) × (j ≡ i)
token_is e = (cc, cc)

pub Reads-unique : {a b c : Before} {n m k : ℕ} {s t r : List ℕ} {ts us : List Lexeme} → Reads a n s ts b m t → front_at b t ≡ Nothing → Reads a n s us c k r → front_at c r ≡ Nothing → IsSame ts us m k t r
Reads-unique done e done f = record { tokens = refl; place = refl; rest = refl }
Reads-unique done e (gap g q) f = absurd cc
Reads-unique done e (token g q) f = absurd cc
Reads-unique (gap g p) e done f = absurd cc
Reads-unique {a} {b} {c} {n} {m} {k} {s} {t} {r} {ts} {us} (gap g p) e (gap h q) f =
    Reads-unique p e (subst (λ x. Reads a (n + x) (drop x s) us c k r) (gap_is (sym g ∙ h)) q) f
Reads-unique (gap g p) e (token h q) f = absurd cc
Reads-unique (token g p) e done f = absurd cc
Reads-unique (token g p) e (gap h q) f = absurd cc
Reads-unique {a} {b} {c} {n} {m} {k} {s} {t} {r} (token {i = i} {ts = ts} {x = x} g p) e (token {i = j} {ts = us} {x = y} h q) f =
    let same = token_is (sym g ∙ h) in
    let q2 = subst (λ l. Reads (after a y) (n + l) (drop l s) us c k r) same.1 q in
    let q3 = subst (λ z. Reads (after a z) (n + i) (drop i s) us c k r) same.0 q2 in
    let is = Reads-unique p e q3 f in
    let heads : lexeme x (take i s) n ≡ lexeme y (take j s) n = ap (λ z. lexeme z (take i s) n) (sym same.0) ∙ ap (λ l. lexeme y (take l s) n) (sym same.1) in
    record { tokens = ap (λ w. w ∷ ts) heads ∙ ap (λ ws. lexeme y (take j s) n ∷ ws) is.tokens; place = is.place; rest = is.rest }

-- ---- places

pub token-ends : (b : Before) (s : List ℕ) (x : TokenKind) (i : ℕ) → front_at b s ≡ Token x i → Ends s i
token-ends b s x i e = subst (EndsFront s) e (front-ends b s)

pub gap-ends : (b : Before) (s : List ℕ) (i : ℕ) → front_at b s ≡ Gap i → Ends s i
gap-ends b s i e = subst (EndsFront s) e (front-ends b s)

further : (source s : List ℕ) (n i : ℕ) → s ≡ drop n source → drop i s ≡ drop (n + i) source
further source s n i e = ap (drop i) e ∙ drop-drop i n source

further-length : (source s : List ℕ) (n i : ℕ) → n + length s ≡ length source → Ends s i → n + i + length (drop i s) ≡ length source
further-length source s n i e h = let len = length-drop i s in let within = h.within in omega arith

Reads-slices : {b c : Before} {n m : ℕ} {s t : List ℕ} {ts : List Lexeme} (source : List ℕ) → s ≡ drop n source → n + length s ≡ length source → Reads b n s ts c m t → All (IsSlice source) ts
Reads-slices source is len done = All-nil (IsSlice source)
Reads-slices {b} {c} {n} {m} {s} source is len (gap {i = i} e p) = Reads-slices source (further source s n i is) (further-length source s n i len (gap-ends b s i e)) p
Reads-slices {b} {c} {n} {m} {s} source is len (token {i = i} {ts = ts} {x = x} e p) =
    let ends = token-ends b s x i e in
    let some = ends.some in
    let within = ends.within in
    let size : length (take i s) ≡ i = length-take-le i s ends.within in
    All-cons (IsSlice source) (lexeme x (take i s) n) ts
    record { within = omega arith; some = omega arith; slice = ap (λ l. take l s) (sym size) ∙ ap (λ r. take (length (take i s)) r) is }
    (Reads-slices source (further source s n i is) (further-length source s n i len ends) p)

PlacesRise-from : (k n : ℕ) (ts : List Lexeme) → k ≤ n → PlacesRise n ts → PlacesRise k ts
PlacesRise-from k n [] le h = tt
PlacesRise-from k n (t ∷ ts) le h = let first = h.0 in (omega arith, h.1)

Reads-rise : {b c : Before} {n m : ℕ} {s t : List ℕ} {ts : List Lexeme} → Reads b n s ts c m t → PlacesRise n ts
Reads-rise done = tt
Reads-rise {b} {c} {n} {m} {s} {t} {ts} (gap {i = i} e p) = PlacesRise-from n (n + i) ts (omega arith) (Reads-rise p)
Reads-rise {b} {c} {n} {m} {s} (token {i = i} {ts = ts} {x = x} e p) =
    let size : length (take i s) ≡ i = length-take-le i s (token-ends b s x i e).within in
    (omega arith, subst (λ l. PlacesRise (n + l) ts) (sym size) (Reads-rise p))

-- ---- what an answer says

pub row-unique : (source : List ℕ) (ts us : List Lexeme) → IsRow source ts → IsRow source us → ts ≡ us
row-unique source ts us p q = (Reads-unique p.2 (nothing-at-end p.0) q.2 (nothing-at-end q.0)).tokens

pub bad-unique : (source : List ℕ) (at to : ℕ) → IsBadAt source at → IsBadAt source to → at ≡ to
bad-unique source at to p q = (Reads-unique p.3 p.5 q.3 q.5).place

pub row-not-bad : (source : List ℕ) (ts : List Lexeme) (at : ℕ) → IsRow source ts → IsBadAt source at → ⊥
row-not-bad source ts at p q =
    let same = Reads-unique p.2 (nothing-at-end p.0) q.3 q.5 in
    let len : 0 ≡ length q.2 = ap length same.rest in
    let some = q.4 in
    omega arith

pub row-slices : (source : List ℕ) (ts : List Lexeme) → IsRow source ts → All (IsSlice source) ts
row-slices source ts p =
    let front : source ≡ drop 0 source = refl in
    let whole : 0 + length source ≡ length source = omega arith in
    Reads-slices source front whole p.2

pub row-rises : (source : List ℕ) (ts : List Lexeme) → IsRow source ts → PlacesRise 0 ts
row-rises source ts p = Reads-rise p.2

pub answers : {T : Type 0} (view : T → List Lexeme) (source : List ℕ) (r : Result T LexFault) → IfOk r (λ us. IsRow source (view us)) → ((at : ℕ) → r ≡ Err (fault.BadToken at) → IsBadAt source at)
    → (ts : List Lexeme) → IsRow source ts → Answers view r ts
answers view source (Ok us) row bad ts p = row-unique source (view us) ts row p
answers view source (Err fault.Memory) row bad ts p = tt
answers view source (Err (fault.BadToken at)) row bad ts p = row-not-bad source ts at p (bad at refl)

pub faults : {T : Type 0} (view : T → List Lexeme) (source : List ℕ) (r : Result T LexFault) → IfOk r (λ us. IsRow source (view us)) → ((at : ℕ) → r ≡ Err (fault.BadToken at) → IsBadAt source at)
    → (at : ℕ) → IsBadAt source at → Faults r at
faults view source (Ok us) row bad at p = row-not-bad source (view us) at row p
faults view source (Err fault.Memory) row bad at p = tt
faults view source (Err (fault.BadToken n)) row bad at p = bad-unique source n at (bad n refl) p

pub when-ok : {T : Type 0} (P Q : T → Type 0) → ((x : T) → P x → Q x) → (r : Result T LexFault) → IfOk r P → IfOk r Q
when-ok P Q f (Ok x) p = f x p
when-ok P Q f (Err e) p = tt

-- ---- every source is read up to its end or to a bad place

abbrev Stops : Before → ℕ → List ℕ → Type 0
Stops b n s = (ts : List Lexeme) × (c : Before) × (m : ℕ) × (t : List ℕ) × Reads b n s ts c m t × ((t ≡ []) ⊎ ((0 < length t) × (front_at c t ≡ Nothing)))

stops-from : (fuel : ℕ) (b : Before) (n : ℕ) (s : List ℕ) → length s ≤ fuel → Stops b n s
stops-from fuel b n [] le = ([], b, n, [], done, inl refl)
stops-from zero b n (c ∷ s) le = absurd (omega arith)
stops-from (suc fuel) b n (c ∷ s) le = by_front (front_at b (c ∷ s)) refl (λ a k r h. stops-from fuel a k r h) where
  shorter : (i : ℕ) → Ends (c ∷ s) i → length (drop i (c ∷ s)) ≤ fuel
  shorter i e = let some = e.some in let len = length-drop i (c ∷ s) in omega arith

  by_front : (x : Front) → front_at b (c ∷ s) ≡ x → ((a : Before) (k : ℕ) (r : List ℕ) → length r ≤ fuel → Stops a k r) → Stops b n (c ∷ s)
  by_front (Gap i) e again =
      let h = again b (n + i) (drop i (c ∷ s)) (shorter i (gap-ends b (c ∷ s) i e)) in
      (h.0, h.1, h.2, h.3, gap e h.4, h.5)
  by_front (Token x i) e again =
      let h = again (after b x) (n + i) (drop i (c ∷ s)) (shorter i (token-ends b (c ∷ s) x i e)) in
      (lexeme x (take i (c ∷ s)) n ∷ h.0, h.1, h.2, h.3, token e h.4, h.5)
  by_front Nothing e again = ([], b, n, c ∷ s, done, inr (omega arith, e))

pub row-or-bad : (source : List ℕ) → ((ts : List Lexeme) × IsRow source ts) ⊎ ((at : ℕ) × IsBadAt source at)
row-or-bad source = by_end (stops-from (length source) start 0 source (omega arith)) where
  by_end : Stops start 0 source → ((ts : List Lexeme) × IsRow source ts) ⊎ ((at : ℕ) × IsBadAt source at)
  by_end (ts, c, m, t, p, inl e) = inl (ts, (c, m, subst (λ r. Reads start 0 source ts c m r) e p))
  by_end (ts, c, m, t, p, inr e) = inr (m, (ts, c, t, p, e.0, e.1))
