-- The lines of a proof, and what is asked of its places and numbers, form by form.
use Rattle.std.specs.Prelude.{◌≡◌, ◌&&◌, ◌++◌, ◌^◌, Bool, true, ℕ, nat_lt, List, [], ◌∷◌, map, length}
use Rattle.std.specs.List.{flat_map, list_all}
use Rattle.std.proofs.Common.{sym, ap, refl, ◌∙◌}
use Rattle.std.proofs.lemmas.List.{length-map}
use Rattle.udb_base.specs.declared.refutations.Proof.{Proof}
use Rattle.udb_base.specs.declared.refutations.Proof.TheVariants as p
use Rattle.udb_base.specs.declared.refutations.Proof.TheFolds.{fold-Proof, fold-roll-Proof}
use Rattle.udb_base.specs.declared.spaces.Space.{Space}
use Rattle.udb_spec.specs.ProofText.{leaf_text, split_text, cut_text, proof_lines_step, proof_lines, has_place, is_named_step, is_named, is_sized_step, is_sized}

flat-mapped : {X Y : Type 0} (f : X → List Y) (xs : List X) → flat_map (λ ys. ys) (map f xs) ≡ flat_map f xs
flat-mapped f [] = refl
flat-mapped f (x ∷ xs) = ap (λ ys. f x ++ ys) (flat-mapped f xs)

all-mapped : {X : Type 0} (f : X → Bool) (xs : List X) → list_all (λ b. b) (map f xs) ≡ list_all f xs
all-mapped f [] = refl
all-mapped f (x ∷ xs) = ap (λ b. f x && b) (all-mapped f xs)

module _ (space : Space) where
  pub lines-Leaf : (number : ℕ) → proof_lines space (p.Leaf number) ≡ leaf_text number ∷ []
  unfolding proof_lines
  lines-Leaf number = ap (fold-Proof (List (List ℕ)) (proof_lines_step space)) (sym (p.rolls-Leaf number)) ∙ fold-roll-Proof (List (List ℕ)) (proof_lines_step space) _

  pub lines-Split : (param : Bool) (place : ℕ) (parts : List Proof) → proof_lines space (p.Split param place parts) ≡ split_text space param place (length parts) ∷ flat_map (proof_lines space) parts
  unfolding proof_lines
  lines-Split param place parts =
      ap (fold-Proof (List (List ℕ)) (proof_lines_step space)) (sym (p.rolls-Split param place parts)) ∙ fold-roll-Proof (List (List ℕ)) (proof_lines_step space) _
      ∙ ap (λ n. split_text space param place n ∷ flat_map (λ ys. ys) (map (proof_lines space) parts)) (length-map parts (proof_lines space))
      ∙ ap (λ ys. split_text space param place (length parts) ∷ ys) (flat-mapped (proof_lines space) parts)

  pub lines-Cut : (place at : ℕ) (below from : Proof) → proof_lines space (p.Cut place at below from) ≡ cut_text space place at ∷ proof_lines space below ++ proof_lines space from
  unfolding proof_lines
  lines-Cut place at below from = ap (fold-Proof (List (List ℕ)) (proof_lines_step space)) (sym (p.rolls-Cut place at below from)) ∙ fold-roll-Proof (List (List ℕ)) (proof_lines_step space) _

  pub named-Leaf : (number : ℕ) → is_named space (p.Leaf number) ≡ true
  unfolding is_named
  named-Leaf number = ap (fold-Proof Bool (is_named_step space)) (sym (p.rolls-Leaf number)) ∙ fold-roll-Proof Bool (is_named_step space) _

  pub named-Split : (param : Bool) (place : ℕ) (parts : List Proof) → is_named space (p.Split param place parts) ≡ (has_place space param place && (nat_lt (length parts) (2 ^ 32) && list_all (is_named space) parts))
  unfolding is_named
  named-Split param place parts =
      ap (fold-Proof Bool (is_named_step space)) (sym (p.rolls-Split param place parts)) ∙ fold-roll-Proof Bool (is_named_step space) _
      ∙ ap (λ n. has_place space param place && (nat_lt n (2 ^ 32) && list_all (λ b. b) (map (is_named space) parts))) (length-map parts (is_named space))
      ∙ ap (λ b. has_place space param place && (nat_lt (length parts) (2 ^ 32) && b)) (all-mapped (is_named space) parts)

  pub named-Cut : (place at : ℕ) (below from : Proof) → is_named space (p.Cut place at below from) ≡ (has_place space true place && (is_named space below && is_named space from))
  unfolding is_named
  named-Cut place at below from = ap (fold-Proof Bool (is_named_step space)) (sym (p.rolls-Cut place at below from)) ∙ fold-roll-Proof Bool (is_named_step space) _

pub sized-Leaf : (number : ℕ) → is_sized (p.Leaf number) ≡ nat_lt number (2 ^ 32)
unfolding is_sized
sized-Leaf number = ap (fold-Proof Bool is_sized_step) (sym (p.rolls-Leaf number)) ∙ fold-roll-Proof Bool is_sized_step _

pub sized-Split : (param : Bool) (place : ℕ) (parts : List Proof) → is_sized (p.Split param place parts) ≡ list_all is_sized parts
unfolding is_sized
sized-Split param place parts = ap (fold-Proof Bool is_sized_step) (sym (p.rolls-Split param place parts)) ∙ fold-roll-Proof Bool is_sized_step _ ∙ all-mapped is_sized parts

pub sized-Cut : (place at : ℕ) (below from : Proof) → is_sized (p.Cut place at below from) ≡ (nat_lt at (2 ^ 64) && (is_sized below && is_sized from))
unfolding is_sized
sized-Cut place at below from = ap (fold-Proof Bool is_sized_step) (sym (p.rolls-Cut place at below from)) ∙ fold-roll-Proof Bool is_sized_step _
