-- All of the tokens: what is read is in the grammar, what is in the grammar is read as one tree, and a
-- fault is the first one.
use Rattle.std.proofs.Common.{◌≡◌, ℕ, suc, ◌+◌, ◌-◌, ◌<◌, ◌≤◌, max, List, [], ◌∷◌, ◌++◌, length, take, Result, Ok, Err, refl, sym, ap, subst, ◌∙◌, append_assoc, length-append, arith, ◌⊎◌, inl, inr}
use Rattle.std.proofs.lemmas.List.{nil_from_length, take_at}
use Rattle.idl_token.specs.Symbol.{Symbol}
use Rattle.idl_grammar.specs.Outcome as o
use Rattle.idl_grammar.specs.Outcome.{Outcome, Reader, left_of}
use Rattle.idl_grammar.specs.StmtGrammar.{ReadsStmts, ReadsFunctions}
use Rattle.idl_grammar.specs.StmtReader as sr
use Rattle.idl_grammar.specs.Faults.{Grammar, OfBody, OfFunctions, ReadsAs, ReadsWithin, GoesOn, GoesOnWithin, IsFirstFault}
use Rattle.idl_grammar.proofs.Law.{Reads, Law, Tells, Alike, both_read, both_refused, beyond}
use Rattle.idl_grammar.proofs.StmtBounds.{stmts_bounded, functions_bounded}
use Rattle.idl_grammar.proofs.StmtLaw.{StmtsAt}
use Rattle.idl_grammar.proofs.BodyLaw.{FunctionsAt, stmts_law, functions_law}
use Rattle.idl_grammar.proofs.BodyAgain.{stmts_again, functions_again}
use Rattle.idl_grammar.proofs.BodyLimit.{stmts_grows, functions_grows}
use Rattle.idl_grammar.proofs.Limit as limit
use Rattle.idl_grammar.proofs.Limit.{Deeper}

-- the same answer, or a refusal at a token
abbrev pub Limited : {B : Type 0} → ℕ → ℕ → Result B (List Symbol) → Result B (List Symbol) → Type 0
Limited n l q q' = (q ≡ q') ⊎ ((c : Symbol) × (w : List Symbol) × (q ≡ Err (c ∷ w)) × (n + length (c ∷ w) ≤ l + 2))

-- a reader of all of the tokens within a limit, and all that it keeps
pub record Exact {A : Type 0} (R : Grammar A) (whole : ℕ → List Symbol → Result (A × ℕ) (List Symbol)) : Type 0 where
  pub tells : (n : ℕ) (ts : List Symbol) (x : A × ℕ) → whole n ts ≡ Ok x → R x.1 ts x.0 × (x.1 ≤ n)
  pub reads : (n h : ℕ) (ts : List Symbol) (x : A) → R h ts x → h ≤ n → whole n ts ≡ Ok (x, h)
  pub faults : (n : ℕ) (ts rest : List Symbol) → whole n ts ≡ Err rest → (front : List Symbol) × (ts ≡ front ++ rest) × GoesOnWithin R n front
  pub steady : (n : ℕ) (front : List Symbol) (c : Symbol) (w w' : List Symbol) → whole n (front ++ c ∷ w) ≡ Err (c ∷ w) → whole n (front ++ c ∷ w') ≡ Err (c ∷ w')
  pub deeper : (n n' : ℕ) (ts : List Symbol) → n ≤ n' → Limited n (length ts) (whole n ts) (whole n' ts)
  pub small : (h : ℕ) (ts : List Symbol) (x : A) → R h ts x → h ≤ length ts

-- ---- from a reader of the front

ended-cons : {A : Type 0} (x : A) (front : List Symbol) (c : Symbol) (w : List Symbol) → o.ended x (front ++ c ∷ w) ≡ Err (front ++ c ∷ w)
ended-cons x [] c w = refl
ended-cons x (d ∷ front) c w = refl

same_end : (front u v : List Symbol) → front ++ u ≡ u → front ++ v ≡ v
same_end front u v e = let none : front ≡ [] = nil_from_length front (omega (arith, length-append front u, ap length e)) in rw none refl

alike_err : {A : Type 0} (c : Symbol) (w w' : List Symbol) {q q' : Outcome A} → Alike (c ∷ w) (c ∷ w') q q' → o.all_of q ≡ Err (c ∷ w) → o.all_of q' ≡ Err (c ∷ w')
alike_err c w w' (both_read x front) e =
    let is : front ++ c ∷ w ≡ c ∷ w = let e' = sym (ended-cons x front c w) ∙ e in cc in
    ended-cons x front c w' ∙ ap (λ (v : List Symbol). Err v) (same_end front (c ∷ w) (c ∷ w') is)
alike_err c w w' (both_refused front) e = let is : front ++ c ∷ w ≡ c ∷ w = cc in ap (λ (v : List Symbol). Err v) (same_end front (c ∷ w) (c ∷ w') is)
alike_err {A} c w w' (beyond {q} {q'} lt) e = absurd (past q lt e)
  where
    past : (q : Outcome A) → left_of q < suc (length w) → o.all_of q ≡ Err (c ∷ w) → ⊥
    past (Ok (y, [])) l e = absurd cc
    past (Ok (y, d ∷ us)) l e = let is : d ∷ us ≡ c ∷ w = cc in absurd (omega (arith, ap length is))
    past (Err us) l e = let is : us ≡ c ∷ w = cc in absurd (omega (arith, ap length is))

module _ {A : Type 0} (R : ℕ → List Symbol → List Symbol → A → Type 0) (At : ℕ → Reads (A × ℕ)) (read : ℕ → Reader (A × ℕ))
    (at_reads : (n : ℕ) (ts us : List Symbol) (x : A × ℕ) → At n ts us x → R x.1 ts us x.0) (at_within : (n : ℕ) (ts us : List Symbol) (x : A × ℕ) → At n ts us x → x.1 ≤ n)
    (law : (n : ℕ) → Law (At n) (read n)) where
  abbrev Whole_of : Grammar A
  Whole_of h ts x = R h ts [] x

  ok_tells : (n : ℕ) (ts : List Symbol) (q : Outcome (A × ℕ)) (x : A × ℕ) → Tells (At n) ts q → o.all_of q ≡ Ok x → R x.1 ts [] x.0 × (x.1 ≤ n)
  ok_tells n ts (Ok (y, [])) x k e =
      let is : y ≡ x = cc in let here = subst (λ (v : List Symbol). At n v [] y) (sym k.parts) (k.reads []) in
      subst (λ (z : A × ℕ). R z.1 ts [] z.0 × (z.1 ≤ n)) is (at_reads n ts [] y here, at_within n ts [] y here)
  ok_tells n ts (Ok (y, c ∷ us)) x k e = absurd cc
  ok_tells n ts (Err us) x k e = absurd cc

  err_tells : (n : ℕ) (ts rest : List Symbol) (q : Outcome (A × ℕ)) → Tells (At n) ts q → o.all_of q ≡ Err rest → (front : List Symbol) × (ts ≡ front ++ rest) × GoesOnWithin Whole_of n front
  err_tells n ts rest (Ok (y, [])) k e = absurd cc
  err_tells n ts rest (Ok (y, c ∷ us)) k e = let is : c ∷ us ≡ rest = cc in let here = k.reads [] in
      (k.text, k.parts ∙ ap (λ (v : List Symbol). k.text ++ v) is, ([], y.0, (y.1, at_within n _ [] y here, at_reads n _ [] y here)))
  err_tells n ts rest (Err us) k e = let is : us ≡ rest = cc in let here = k.goes.reads [] in
      (k.front, k.parts ∙ ap (λ (v : List Symbol). k.front ++ v) is, (k.goes.more ++ [], k.goes.value.0, (k.goes.value.1, at_within n _ [] k.goes.value here, at_reads n _ [] k.goes.value here)))

  all_deeper : (n l : ℕ) (q q' : Outcome (A × ℕ)) → Deeper n l q q' → Limited n l (o.all_of q) (o.all_of q')
  all_deeper n l q q' (limit.same e) = inl (ap o.all_of e)
  all_deeper n l q q' (limit.stops c w e b) = inr (c, w, ap o.all_of e, b)

  pub exact_of : ((n h : ℕ) (ts : List Symbol) (x : A) → R h ts [] x → h ≤ n → read n ts ≡ Ok ((x, h), [])) → ((n n' : ℕ) (ts : List Symbol) → n ≤ n' → Deeper n (length ts) (read n ts) (read n' ts)) → ((h : ℕ) (ts : List Symbol) (x : A) → R h ts [] x → h ≤ length ts)
      → Exact Whole_of (λ n ts. o.all_of (read n ts))
  exact_of again grows small = record {
    tells = λ n ts x e. ok_tells n ts (read n ts) x ((law n).tells ts) e;
    reads = λ n h ts x q le. ap o.all_of (again n h ts x q le);
    faults = λ n ts rest e. err_tells n ts rest (read n ts) ((law n).tells ts) e;
    steady = λ n front c w w' e. alike_err c w w' ((law n).alike c w w' front) e;
    deeper = λ n n' ts le. all_deeper n (length ts) (read n ts) (read n' ts) (grows n n' ts le);
    small = small;
  }

pub body_exact : Exact OfBody sr.whole_body
unfolding sr.whole_body
body_exact = exact_of ReadsStmts StmtsAt sr.stmts (λ n ts us x k. k.reads) (λ n ts us x k. k.within) stmts_law (λ n h ts x q le. stmts_again n h ts [] x q le refl refl) (λ n n' ts le. stmts_grows n n' (length ts) ts le (omega arith))
    (λ h ts x q. let b = stmts_bounded q in omega arith)

pub functions_exact : Exact OfFunctions sr.whole_functions
unfolding sr.whole_functions
functions_exact = exact_of ReadsFunctions FunctionsAt sr.functions (λ n ts us x k. k.reads) (λ n ts us x k. k.within) functions_law (λ n h ts x q le. functions_again n h ts [] x q le refl) (λ n n' ts le. functions_grows n n' le (length ts) ts (omega arith))
    (λ h ts x q. let b = functions_bounded q in omega arith)

-- ---- what follows from it

module _ {A : Type 0} (R : Grammar A) (whole : ℕ → List Symbol → Result (A × ℕ) (List Symbol)) (exact : Exact R whole) where
  -- a row of tokens reads as one tree, with one nesting
  pub reads_one : (h i : ℕ) (ts : List Symbol) (x y : A) → R h ts x → R i ts y → x ≡ y
  reads_one h i ts x y q m =
      let one = exact.reads (max h i) h ts x q (omega arith) in let two = exact.reads (max h i) i ts y m (omega arith) in
      let is : ◌≡◌ {A = A × ℕ} (x, h) (y, i) = cc in ap (λ (p : A × ℕ). p.0) is

  pub read_within : (n : ℕ) (ts : List Symbol) (x : A) (h : ℕ) → whole n ts ≡ Ok (x, h) → ReadsWithin R n ts x
  read_within n ts x h e = let k = exact.tells n ts (x, h) e in (h, k.1, k.0)

  pub read_only : (n : ℕ) (ts : List Symbol) (x y : A) (h : ℕ) → whole n ts ≡ Ok (x, h) → ReadsWithin R n ts y → x ≡ y
  read_only n ts x y h e q = reads_one h q.0 ts x y (exact.tells n ts (x, h) e).0 q.2

  -- past as many levels as there are tokens, and two more, the limit doesn't matter
  pub enough : (n n' : ℕ) (ts : List Symbol) → length ts + 2 ≤ n → n ≤ n' → whole n ts ≡ whole n' ts
  enough n n' ts high le = elim (exact.deeper n n' ts le) [ inl e ↦ e | inr k ↦ absurd (let b = k.3 in omega arith) ]

  -- no text within n begins with the tokens up to a fault
  stops_within : (n h : ℕ) (front : List Symbol) (c : Symbol) (w more : List Symbol) (x : A) → whole n (front ++ c ∷ w) ≡ Err (c ∷ w) → R h (front ++ c ∷ more) x → h ≤ n → ⊥
  stops_within n h front c w more x e q le = let one = exact.steady n front c w more e in let two = exact.reads n h (front ++ c ∷ more) x q le in absurd cc

  -- the place of a fault, as a number
  place : (Goes : List Symbol → Type 0) (ts front rest : List Symbol) → ts ≡ front ++ rest → Goes front → ((c : Symbol) (w : List Symbol) → rest ≡ c ∷ w → Goes (front ++ c ∷ []) → ⊥) → IsFirstFault Goes ts (length ts - length rest)
  place Goes ts front rest parts goes stops =
      let long : length ts ≡ length front + length rest = ap length parts ∙ length-append front rest in
      let at : length front ≡ length ts - length rest = omega arith in
      record {
        within = omega arith;
        before = subst Goes (sym (ap (take (length ts - length rest)) parts ∙ take_at front rest (length ts - length rest) at)) goes;
        stops = λ lt. next rest stops (length ts - length rest) at parts (omega arith);
      }
    where
      next : (rest : List Symbol) → ((c : Symbol) (w : List Symbol) → rest ≡ c ∷ w → Goes (front ++ c ∷ []) → ⊥) → (k : ℕ) → length front ≡ k → ts ≡ front ++ rest → 0 < length rest → Goes (take (k + 1) ts) → ⊥
      next [] stops k at parts lt goes = absurd (omega arith)
      next (c ∷ w) stops k at parts lt goes =
          let one : take (k + 1) ts ≡ front ++ c ∷ [] = ap (take (k + 1)) (parts ∙ sym (append_assoc front (c ∷ []) w)) ∙ take_at (front ++ c ∷ []) w (k + 1) (omega (arith, length-append front (c ∷ []))) in
          stops c w refl (subst Goes one goes)

  -- A fault within n: the first token at which nothing within n goes on.
  pub fault_within : (n : ℕ) (ts rest : List Symbol) → whole n ts ≡ Err rest → IsFirstFault (GoesOnWithin R n) ts (length ts - length rest) × ((x : A) → ReadsWithin R n ts x → ⊥)
  fault_within n ts rest e =
      let b = exact.faults n ts rest e in (
        place (GoesOnWithin R n) ts b.0 rest b.1 b.2
            (λ c w is goes. stops_within n goes.2.0 b.0 c w goes.0 goes.1 (ap (whole n) (sym (b.1 ∙ ap (λ (v : List Symbol). b.0 ++ v) is)) ∙ e ∙ ap (λ (v : List Symbol). Err v) is)
            (subst (λ (v : List Symbol). R goes.2.0 v goes.1) (append_assoc b.0 (c ∷ []) goes.0) goes.2.2) goes.2.1),
        λ x q. let again = exact.reads n q.0 ts x q.2 q.1 in absurd cc,
      )

  -- A fault with as many levels as there are tokens, and two more: the first token at which nothing goes on.
  pub fault_free : (ts rest : List Symbol) → whole (length ts + 2) ts ≡ Err rest → IsFirstFault (GoesOn R) ts (length ts - length rest) × ((x : A) → ReadsAs R ts x → ⊥)
  fault_free ts rest e =
      let b = exact.faults (length ts + 2) ts rest e in (
        place (GoesOn R) ts b.0 rest b.1 (b.2.0, b.2.1, (b.2.2.0, b.2.2.2))
            (λ c w is goes. let m : ℕ = max goes.2.0 (length ts + 2) in let free = enough (length ts + 2) m ts (omega arith) (omega arith) in
            stops_within m goes.2.0 b.0 c w goes.0 goes.1 (ap (whole m) (sym (b.1 ∙ ap (λ (v : List Symbol). b.0 ++ v) is)) ∙ sym free ∙ e ∙ ap (λ (v : List Symbol). Err v) is)
            (subst (λ (v : List Symbol). R goes.2.0 v goes.1) (append_assoc b.0 (c ∷ []) goes.0) goes.2.1) (omega arith)),
        λ x q. let low = exact.small q.0 ts x q.1 in let again = exact.reads (length ts + 2) q.0 ts x q.1 (omega arith) in absurd cc,
      )

  -- Where the tokens read with a higher nesting, the fault within n is at a token.
  pub deep_at_token : (n : ℕ) (ts rest : List Symbol) (x : A × ℕ) → whole (length ts + 2) ts ≡ Ok x → whole n ts ≡ Err rest → 0 < length rest
  deep_at_token n ts rest x free e = let m : ℕ = max n (length ts + 2) in
      elim (exact.deeper n m ts (omega arith)) [
        | inl is ↦ absurd (let more = enough (length ts + 2) m ts (omega arith) (omega arith) in cc)
        | inr k ↦ (let at : ◌≡◌ {A = Result (A × ℕ) (List Symbol)} (Err rest) (Err (k.0 ∷ k.1)) = sym e ∙ k.2 in let is : rest ≡ k.0 ∷ k.1 = cc in rw is (omega arith))
      ]
