-- A proof without a wrong node refutes.
use Rattle.std.proofs.Common.{◌≡◌, ℕ, ◌+◌, Bool, true, false, not, ◌&&◌, List, [], ◌∷◌, map, length, Option, None, Some, refl, sym, ap, ◌∙◌, cond}
use Rattle.std.specs.Option.{is_some}
use Rattle.udb_base.specs.declared.conditions.Cond.{Cond}
use Rattle.udb_base.specs.declared.refutations.Partial.{Partial}
use Rattle.udb_base.specs.declared.refutations.Proof.{Proof}
use Rattle.udb_base.specs.declared.refutations.Proof.TheVariants as p
use Rattle.udb_base.specs.declared.spaces.Space.{Space}
use Rattle.udb_spec.specs.Cells.{Step, Child, Below, From}
use Rattle.udb_spec.specs.Refutes.{is_leaf, is_split, is_cut, each_refutes, refutes_under, or_later, first_in_parts, first_wrong_under}
use Rattle.udb_spec.specs.RefutesLaws.{refutes-Leaf, refutes-Split, refutes-Cut, wrong-Leaf, wrong-Split, wrong-Cut, EachProof, induct-Proof}

wrong-or : (number : ℕ) (o later : Option (List ℕ)) → not (is_some (or_later number o later)) ≡ (not (is_some o) && not (is_some later))
wrong-or number None later = refl
wrong-or number (Some node) later = refl

wrong-if : (right : Bool) (o : Option (List ℕ)) → not (is_some (cond right o (Some []))) ≡ (right && not (is_some o))
wrong-if true o = refl
wrong-if false o = refl

and-true : (b : Bool) → (b && true) ≡ b
and-true true = refl
and-true false = refl

module _ (space : Space) (part : Partial) (asked : Cond) where
  abbrev W : Proof → List Step → Option (List ℕ)
  W = first_wrong_under space part asked

  abbrev R : Proof → List Step → Bool
  R = refutes_under space part asked

  abbrev Flawless : Proof → Type 0
  Flawless proof = (path : List Step) → not (is_some (first_wrong_under space part asked proof path)) ≡ refutes_under space part asked proof path

  parts-flawless : (parts : List Proof) (param : Bool) (place n : ℕ) (path : List Step) → EachProof Flawless parts → not (is_some (first_in_parts (map W parts) param place n path)) ≡ each_refutes (map R parts) param place n path
  parts-flawless [] param place n path each = refl
  parts-flawless (x ∷ xs) param place n path each =
      wrong-or (n + 1) (W x (Child param place n ∷ path)) (first_in_parts (map W xs) param place (n + 1) path)
      ∙ ap (λ b. b && not (is_some (first_in_parts (map W xs) param place (n + 1) path))) (each.0 (Child param place n ∷ path))
      ∙ ap (λ b. R x (Child param place n ∷ path) && b) (parts-flawless xs param place (n + 1) path each.1)

  leaf-flawless : (number : ℕ) → Flawless (p.Leaf number)
  leaf-flawless number path = ap (λ o. not (is_some o)) (wrong-Leaf space part asked number path) ∙ wrong-if (is_leaf space part asked path number) None ∙ and-true (is_leaf space part asked path number) ∙ sym (refutes-Leaf space part asked number path)

  split-flawless : (param : Bool) (place : ℕ) (parts : List Proof) → EachProof Flawless parts → Flawless (p.Split param place parts)
  split-flawless param place parts each path =
      ap (λ o. not (is_some o)) (wrong-Split space part asked param place parts path)
      ∙ wrong-if (is_split space path param place (length parts)) (first_in_parts (map W parts) param place 0 path)
      ∙ ap (λ b. is_split space path param place (length parts) && b) (parts-flawless parts param place 0 path each)
      ∙ sym (refutes-Split space part asked param place parts path)

  cut-flawless : (place at : ℕ) (below from : Proof) → Flawless below → Flawless from → Flawless (p.Cut place at below from)
  cut-flawless place at below from low high path =
      let low_wrong : Option (List ℕ) = W below (Below place at ∷ path) in
      let high_wrong : Option (List ℕ) = W from (From place at ∷ path) in
      ap (λ o. not (is_some o)) (wrong-Cut space part asked place at below from path)
      ∙ wrong-if (is_cut space path place at) (or_later 1 low_wrong (or_later 2 high_wrong None))
      ∙ ap (λ b. is_cut space path place at && b) (wrong-or 1 low_wrong (or_later 2 high_wrong None) ∙ ap (λ b. not (is_some low_wrong) && b) (wrong-or 2 high_wrong None ∙ and-true (not (is_some high_wrong))))
      ∙ ap (λ b. is_cut space path place at && (b && not (is_some high_wrong))) (low (Below place at ∷ path))
      ∙ ap (λ b. is_cut space path place at && (R below (Below place at ∷ path) && b)) (high (From place at ∷ path))
      ∙ sym (refutes-Cut space part asked place at below from path)

  pub flawless : (proof : Proof) → Flawless proof
  flawless = induct-Proof Flawless (record { leaf = leaf-flawless; split = split-flawless; cut = cut-flawless })
