-- Two readers that never both read one text: the one that reads it is the farther one.
use Rattle.std.proofs.Common.{◌≡◌, ◌≤◌, List, [], ◌∷◌, ◌++◌, length, Ok, Err, refl, sym, ap, subst, ◌∙◌, append_assoc, length-append, arith, inl, inr}
use Rattle.std.proofs.lemmas.Bool.Decides.{leb_tells}
use Rattle.idl_token.specs.Symbol.{Symbol}
use Rattle.idl_grammar.specs.Outcome as o
use Rattle.idl_grammar.specs.Outcome.{Outcome, Reader, left_of}
use Rattle.idl_grammar.proofs.Law.{Reads, Law, Took, Broke, Tells}

-- the longer of two fronts goes on from the shorter
pub longer_front : (a b u v : List Symbol) → a ++ u ≡ b ++ v → length v ≤ length u → (z : List Symbol) × (b ≡ a ++ z)
longer_front [] b u v e lt = (b, refl)
longer_front (x ∷ a) [] u v e lt = absurd (let long = ap length e in omega (arith, length-append a u))
longer_front (x ∷ a) (y ∷ b) u v e lt =
    let head_is : x ≡ y = cc in let tail_is : a ++ u ≡ b ++ v = cc in let k = longer_front a b u v tail_is lt in
    (k.0, ap (λ (c : Symbol). c ∷ b) (sym head_is) ∙ ap (λ (w : List Symbol). x ∷ w) k.1)

abbrev pub Apart : {A : Type 0} → Reads A → Reads A → Type 0
Apart {A} P Q = (ts us vs : List Symbol) (x y : A) → P ts us x → Q ts vs y → ⊥

module _ {A : Type 0} (P Q : Reads A) (apart : Apart P Q) where
  -- no fault of the other stands farther
  pub beyond_apart : (ts us rest : List Symbol) (x : A) → Took P ts x us → Broke Q ts rest → length rest ≤ length us → ⊥
  beyond_apart ts us rest x k m lt =
      let f = longer_front k.text m.front us rest (sym k.parts ∙ m.parts) lt in
      let same : k.text ++ (f.0 ++ (m.goes.more ++ [])) ≡ m.front ++ (m.goes.more ++ []) = sym (append_assoc k.text f.0 (m.goes.more ++ [])) ∙ ap (λ (v : List Symbol). v ++ (m.goes.more ++ [])) (sym f.1) in
      apart (k.text ++ (f.0 ++ (m.goes.more ++ []))) (f.0 ++ (m.goes.more ++ [])) [] x m.goes.value (k.reads (f.0 ++ (m.goes.more ++ []))) (subst (λ (v : List Symbol). Q v [] m.goes.value) (sym same) (m.goes.reads []))

  pub took_apart : (ts us rest : List Symbol) (x y : A) → Took P ts x us → Took Q ts y rest → ⊥
  took_apart ts us rest x y k m = apart ts us rest x y (subst (λ (v : List Symbol). P v us x) (sym k.parts) (k.reads us)) (subst (λ (v : List Symbol). Q v rest y) (sym m.parts) (m.reads rest))

  pub farther_one : (ts us : List Symbol) (x : A) (q : Outcome A) → Took P ts x us → Tells Q ts q → o.farther (Ok (x, us)) q ≡ Ok (x, us)
  farther_one ts us x (Ok p) k m = absurd (took_apart ts us p.1 x p.0 k m)
  farther_one ts us x (Err rest) k m = elim (leb_tells (length us) (length rest)) [
    | inl e ↦ (let is = e.0 in rw is refl)
    | inr e ↦ absurd (beyond_apart ts us rest x k m (let lt = e.1 in omega arith))
  ]

  pub farther_other : (ts us : List Symbol) (x : A) (q : Outcome A) → Took P ts x us → Tells Q ts q → o.farther q (Ok (x, us)) ≡ Ok (x, us)
  farther_other ts us x (Ok p) k m = absurd (took_apart ts us p.1 x p.0 k m)
  farther_other ts us x (Err rest) k m = elim (leb_tells (length us) (length rest)) [
    | inl e ↦ (let is = e.0 in rw is refl)
    | inr e ↦ absurd (beyond_apart ts us rest x k m (let lt = e.1 in omega arith))
  ]

pub apart_back : {A : Type 0} (P Q : Reads A) → Apart P Q → Apart Q P
apart_back P Q apart ts us vs x y q p = apart ts vs us y x p q

tells_took : {A : Type 0} (P : Reads A) (ts us : List Symbol) (x : A) (q : Outcome A) → Tells P ts q → q ≡ Ok (x, us) → Took P ts x us
tells_took {A} P ts us x (Ok p) k e = let same : p ≡ (x, us) = cc in subst (λ (w : A × List Symbol). Took P ts w.0 w.1) same k
tells_took P ts us x (Err rest) k e = absurd cc

pub law_took : {A : Type 0} (P : Reads A) (p : Reader A) → Law P p → (ts us : List Symbol) (x : A) → p ts ≡ Ok (x, us) → Took P ts x us
law_took P p law ts us x e = tells_took P ts us x (p ts) (law.tells ts) e

pub either_one : {A : Type 0} (P Q : Reads A) (p q : Reader A) → Law P p → Law Q q → Apart P Q → (ts us : List Symbol) (x : A) → p ts ≡ Ok (x, us) → o.either p q ts ≡ Ok (x, us)
either_one P Q p q one two apart ts us x e = rw e (farther_one P Q apart ts us x (q ts) (law_took P p one ts us x e) (two.tells ts))

pub either_two : {A : Type 0} (P Q : Reads A) (p q : Reader A) → Law P p → Law Q q → Apart P Q → (ts us : List Symbol) (x : A) → q ts ≡ Ok (x, us) → o.either p q ts ≡ Ok (x, us)
either_two P Q p q one two apart ts us x e = rw e (farther_other Q P (apart_back P Q apart) ts us x (p ts) (law_took Q q two ts us x e) (one.tells ts))

-- where the first always refuses
pub either_none : {A : Type 0} (p q : Reader A) (ts us : List Symbol) (x : A) → p ts ≡ Err ts → q ts ≡ Ok (x, us) → length us ≤ length ts → o.either p q ts ≡ Ok (x, us)
either_none p q ts us x none e le = elim (leb_tells (length us) (length ts)) [
  | inl k ↦ (let is = k.0 in rw (none, e, is) refl)
  | inr k ↦ absurd (let lt = k.1 in omega arith)
]

-- what was read reads so
took_reads : {A : Type 0} (P : Reads A) (ts us : List Symbol) (x : A) → Took P ts x us → P ts us x
took_reads P ts us x k = subst (λ (v : List Symbol). P v us x) (sym k.parts) (k.reads us)

pub law_reads : {A : Type 0} (P : Reads A) (p : Reader A) → Law P p → (ts us : List Symbol) (x : A) → p ts ≡ Ok (x, us) → P ts us x
law_reads P p law ts us x e = took_reads P ts us x (law_took P p law ts us x e)
