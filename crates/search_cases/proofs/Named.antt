-- A proof that refutes names places of the space.
use Rattle.std.specs.Prelude.{◌≡◌, ◌&&◌, ◌∷◌, ◌==◌, ◌+◌, ◌^◌, nat_lt, nat_le, option_and_then, Bool, true, false, ℕ, List, [], map, length, Option, None, Some, slice_get}
use Rattle.std.specs.List.{list_all}
use Rattle.std.specs.Option.{option_map, option_map_or, is_some}
use Rattle.std.proofs.Common.{refl, sym, ◌∙◌}
use Rattle.std.proofs.lemmas.Bool.{and_parts, and_from, false≢true}
use Rattle.udb_base.specs.declared.conditions.Cond.{Cond}
use Rattle.udb_base.specs.declared.refutations.Partial.{Partial}
use Rattle.udb_base.specs.declared.refutations.Proof.{Proof}
use Rattle.udb_base.specs.declared.refutations.Proof.TheVariants as p
use Rattle.udb_base.specs.declared.spaces.Space.{Space}
use Rattle.udb_base.specs.declared.spaces.ParamSpace.{ParamSpace}
use Rattle.udb_spec.specs.Cells.{Step, Child, Below, From, param_cells, ext_cells}
use Rattle.udb_spec.specs.Refutes.{is_unsplit, cells_left, ends_of, is_split, is_cut, each_refutes, refutes_under, refutes}
use Rattle.udb_spec.specs.RefutesLaws.{EachProof, Cases-Proof, induct-Proof, refutes-Split, refutes-Cut}
use Rattle.udb_spec.specs.ProofText.{has_place, is_named}
use Rattle.udb_spec.specs.ProofTextLaws.{named-Leaf, named-Split, named-Cut}

some-place : {A : Type 0} (o : Option A) (f : A → Bool) → option_map_or f o false ≡ true → is_some o ≡ true
some-place None f h = absurd (false≢true h)
some-place (Some x) f h = refl

some-mapped : {A B : Type 0} (o : Option A) (f : A → B) → is_some (option_map f o) ≡ true → is_some o ≡ true
some-mapped None f h = absurd (false≢true h)
some-mapped (Some x) f h = refl

module _ (space : Space) (part : Partial) (cond : Cond) where
  has-cells : (path : List Step) (param : Bool) (place : ℕ) → is_some (cells_left space path param place) ≡ true → has_place space param place ≡ true
  has-cells path true place h = some-mapped (slice_get space.params place) (λ q. length (param_cells path place q.domain)) h
  has-cells path false place h = some-mapped (slice_get space.extensions place) (λ e. length (ext_cells path place e)) h

  ends-place : (path : List Step) (place at : ℕ) (o : Option ParamSpace) → option_map_or (λ ends. nat_lt ends.0 at && nat_le at ends.1) (option_and_then (λ q. ends_of path place q.domain) o) false ≡ true → is_some o ≡ true
  ends-place path place at None h = absurd (false≢true h)
  ends-place path place at (Some q) h = refl

  abbrev Named : Proof → Type 0
  Named proof = (path : List Step) → refutes_under space part cond proof path ≡ true → is_named space proof ≡ true

  each-named : (parts : List Proof) → EachProof Named parts → (param : Bool) (place n : ℕ) (path : List Step) → each_refutes (map (refutes_under space part cond) parts) param place n path ≡ true → list_all (is_named space) parts ≡ true
  each-named [] each param place n path h = refl
  each-named (x ∷ xs) each param place n path h =
      let both : (refutes_under space part cond x (Child param place n ∷ path) ≡ true) × (each_refutes (map (refutes_under space part cond) xs) param place (n + 1) path ≡ true) = and_parts (refutes_under space part cond x (Child param place n ∷ path)) (each_refutes (map (refutes_under space part cond) xs) param place (n + 1) path) h in
      and_from (is_named space x) (list_all (is_named space) xs) (each.0 (Child param place n ∷ path) both.0) (each-named xs each.1 param place (n + 1) path both.1)

  split-named : (param : Bool) (place : ℕ) (parts : List Proof) (path : List Step) → is_split space path param place (length parts) ≡ true → list_all (is_named space) parts ≡ true → is_named space (p.Split param place parts) ≡ true
  split-named param place parts path h each =
      let few : (is_unsplit path param place ≡ true) × ((option_map_or (λ cells. cells == length parts) (cells_left space path param place) false && nat_lt (length parts) (2 ^ 32)) ≡ true) = and_parts (is_unsplit path param place) (option_map_or (λ cells. cells == length parts) (cells_left space path param place) false && nat_lt (length parts) (2 ^ 32)) h in
      let at : (option_map_or (λ cells. cells == length parts) (cells_left space path param place) false ≡ true) × (nat_lt (length parts) (2 ^ 32) ≡ true) = and_parts (option_map_or (λ cells. cells == length parts) (cells_left space path param place) false) (nat_lt (length parts) (2 ^ 32)) few.1 in
      named-Split space param place parts ∙ and_from (has_place space param place) (nat_lt (length parts) (2 ^ 32) && list_all (is_named space) parts) (has-cells path param place (some-place (cells_left space path param place) (λ cells. cells == length parts) at.0)) (and_from (nat_lt (length parts) (2 ^ 32)) (list_all (is_named space) parts) at.1 each)

  cases : Cases-Proof Named
  cases = record {
    leaf = λ number path h. named-Leaf space number;
    split = λ param place parts each path h. (let both : (is_split space path param place (length parts) ≡ true) × (each_refutes (map (refutes_under space part cond) parts) param place 0 path ≡ true) = and_parts (is_split space path param place (length parts)) (each_refutes (map (refutes_under space part cond) parts) param place 0 path) (sym (refutes-Split space part cond param place parts path) ∙ h) in split-named param place parts path both.0 (each-named parts each param place 0 path both.1));
    cut = λ place at below from nb nf path h. (let all : (is_cut space path place at ≡ true) × ((refutes_under space part cond below (Below place at ∷ path) && refutes_under space part cond from (From place at ∷ path)) ≡ true) = and_parts (is_cut space path place at) (refutes_under space part cond below (Below place at ∷ path) && refutes_under space part cond from (From place at ∷ path)) (sym (refutes-Cut space part cond place at below from path) ∙ h) in
        let both : (refutes_under space part cond below (Below place at ∷ path) ≡ true) × (refutes_under space part cond from (From place at ∷ path) ≡ true) = and_parts (refutes_under space part cond below (Below place at ∷ path)) (refutes_under space part cond from (From place at ∷ path)) all.1 in
        named-Cut space place at below from ∙ and_from (has_place space true place) (is_named space below && is_named space from) (ends-place path place at (slice_get space.params place) all.0) (and_from (is_named space below) (is_named space from) (nb (Below place at ∷ path) both.0) (nf (From place at ∷ path) both.1)));
  }

  pub refuted_named : (proof : Proof) → refutes space part cond proof ≡ true → is_named space proof ≡ true
  refuted_named proof = induct-Proof Named cases proof []
