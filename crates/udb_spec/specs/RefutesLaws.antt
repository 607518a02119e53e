-- What a proof is under a path, form by form, and induction over proofs.
use Rattle.std.specs.Prelude.{◌≡◌, ◌&&◌, Bool, ℕ, List, [], ◌∷◌, map, length, Option, None, Some, if◌then◌else◌}
use Rattle.std.proofs.Common.{sym, ap, subst, ◌∙◌}
use Rattle.std.proofs.lemmas.List.{length-map}
use Rattle.udb_base.specs.declared.conditions.Cond.{Cond}
use Rattle.udb_base.specs.declared.refutations.Partial.{Partial}
use Rattle.udb_base.specs.declared.refutations.Proof.{Proof}
use Rattle.udb_base.specs.declared.refutations.Proof.TheVariants as p
use Rattle.udb_base.specs.declared.refutations.Proof.TheOpen.{Proof-F}
use Rattle.udb_base.specs.declared.refutations.Proof.TheFolds.{fold-Proof, fold-roll-Proof, ind-Proof, map-Proof}
use Rattle.udb_base.specs.declared.refutations.Proof.TheViews.{roll-Proof}
use Rattle.udb_base.specs.declared.spaces.Space.{Space}
use Rattle.udb_spec.specs.Cells.{Step, Child, Below, From}
use Rattle.udb_spec.specs.Refutes.{is_leaf, is_split, is_cut, each_refutes, refutes_step, refutes_under, or_later, first_in_parts, first_wrong_step, first_wrong_under}

module _ (space : Space) (part : Partial) (cond : Cond) where
  pub refutes-Leaf : (number : ℕ) (path : List Step) → refutes_under space part cond (p.Leaf number) path ≡ is_leaf space part cond path number
  unfolding refutes_under
  refutes-Leaf number path = ap (λ f. f path) (ap (fold-Proof (List Step → Bool) (refutes_step space part cond)) (sym (p.rolls-Leaf number)) ∙ fold-roll-Proof (List Step → Bool) (refutes_step space part cond) _)

  pub refutes-Split : (param : Bool) (place : ℕ) (parts : List Proof) (path : List Step) → refutes_under space part cond (p.Split param place parts) path ≡ (is_split space path param place (length parts) && each_refutes (map (refutes_under space part cond) parts) param place 0 path)
  unfolding refutes_under
  refutes-Split param place parts path = ap (λ f. f path) (ap (fold-Proof (List Step → Bool) (refutes_step space part cond)) (sym (p.rolls-Split param place parts)) ∙ fold-roll-Proof (List Step → Bool) (refutes_step space part cond) _)
      ∙ ap (λ n. is_split space path param place n && each_refutes (map (refutes_under space part cond) parts) param place 0 path) (length-map parts (refutes_under space part cond))

  pub refutes-Cut : (place at : ℕ) (below from : Proof) (path : List Step) → refutes_under space part cond (p.Cut place at below from) path ≡ (is_cut space path place at && (refutes_under space part cond below (Below place at ∷ path) && refutes_under space part cond from (From place at ∷ path)))
  unfolding refutes_under
  refutes-Cut place at below from path = ap (λ f. f path) (ap (fold-Proof (List Step → Bool) (refutes_step space part cond)) (sym (p.rolls-Cut place at below from)) ∙ fold-roll-Proof (List Step → Bool) (refutes_step space part cond) _)

  pub wrong-Leaf : (number : ℕ) (path : List Step) → first_wrong_under space part cond (p.Leaf number) path ≡ (if is_leaf space part cond path number then None else Some [])
  unfolding first_wrong_under
  wrong-Leaf number path = ap (λ f. f path) (ap (fold-Proof (List Step → Option (List ℕ)) (first_wrong_step space part cond)) (sym (p.rolls-Leaf number)) ∙ fold-roll-Proof (List Step → Option (List ℕ)) (first_wrong_step space part cond) _)

  pub wrong-Split : (param : Bool) (place : ℕ) (parts : List Proof) (path : List Step) → first_wrong_under space part cond (p.Split param place parts) path ≡ (if is_split space path param place (length parts) then first_in_parts (map (first_wrong_under space part cond) parts) param place 0 path else Some [])
  unfolding first_wrong_under
  wrong-Split param place parts path = ap (λ f. f path) (ap (fold-Proof (List Step → Option (List ℕ)) (first_wrong_step space part cond)) (sym (p.rolls-Split param place parts)) ∙ fold-roll-Proof (List Step → Option (List ℕ)) (first_wrong_step space part cond) _)
      ∙ ap (λ n. if is_split space path param place n then first_in_parts (map (first_wrong_under space part cond) parts) param place 0 path else Some []) (length-map parts (first_wrong_under space part cond))

  pub wrong-Cut : (place at : ℕ) (below from : Proof) (path : List Step) → first_wrong_under space part cond (p.Cut place at below from) path ≡ (if is_cut space path place at then or_later 1 (first_wrong_under space part cond below (Below place at ∷ path)) (or_later 2 (first_wrong_under space part cond from (From place at ∷ path)) None) else Some [])
  unfolding first_wrong_under
  wrong-Cut place at below from path = ap (λ f. f path) (ap (fold-Proof (List Step → Option (List ℕ)) (first_wrong_step space part cond)) (sym (p.rolls-Cut place at below from)) ∙ fold-roll-Proof (List Step → Option (List ℕ)) (first_wrong_step space part cond) _)

-- a fact of each proof of a list
abbrev pub EachProof : (Proof → Type 0) → List Proof → Type 0
EachProof P [] = Unit {0}
EachProof P (x ∷ xs) = P x × EachProof P xs

each : (P : Proof → Type 0) (ys : List ((x : Proof) × P x)) → EachProof P (map (λ e. e.0) ys)
each P [] = tt
each P (y ∷ ys) = (y.1, each P ys)

-- what is to be shown for a fact of all proofs, form by form
pub record Cases-Proof (P : Proof → Type 0) : Type 0 where
  pub leaf : (number : ℕ) → P (p.Leaf number)
  pub split : (param : Bool) (place : ℕ) (parts : List Proof) → EachProof P parts → P (p.Split param place parts)
  pub cut : (place at : ℕ) (below from : Proof) → P below → P from → P (p.Cut place at below from)

module _ (P : Proof → Type 0) (cases : Cases-Proof P) where
  layer : (y : Proof-F ((e : Proof) × P e)) → P (roll-Proof (map-Proof ((e : Proof) × P e) Proof (λ e. e.0) y))
  layer (Proof-F.Leaf number) = subst P (sym (p.rolls-Leaf number)) (cases.leaf number)
  layer (Proof-F.Split param place parts) = subst P (sym (p.rolls-Split param place (map (λ e. e.0) parts))) (cases.split param place (map (λ e. e.0) parts) (each P parts))
  layer (Proof-F.Cut place at below from) = subst P (sym (p.rolls-Cut place at below.0 from.0)) (cases.cut place at below.0 from.0 below.1 from.1)

  pub induct-Proof : (x : Proof) → P x
  induct-Proof = ind-Proof P (λ x y is. subst (λ z. P (roll-Proof z)) is (layer y))
