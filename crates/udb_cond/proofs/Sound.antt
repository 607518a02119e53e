-- Where a proof refutes, no completion meets the condition.
use Rattle.std.proofs.Common.{◌≡◌, ℕ, zero, suc, ◌+◌, ◌<◌, ◌==◌, nat_lt, nat_le, ◌^◌, ◌≤◌, Bool, true, false, ◌&&◌, List, [], ◌∷◌, map, length, Option, None, Some, IfSome, IsTrue, All, slice_get, refl, sym, ◌∙◌, subst, arith, ⊎_elim}
use Rattle.std.specs.List.{AllZip}
use Rattle.std.specs.Option.{option_map, option_map_or, option_and_then}
use Rattle.std.proofs.lemmas.Bool.{eqb-true, cases_eq, false≢true, true≢false}
use Rattle.std.proofs.lemmas.Option.{none-some}
use Rattle.udb_base.specs.declared.versions.Version.{Version}
use Rattle.udb_base.specs.declared.conditions.Value.{Value}
use Rattle.udb_base.specs.declared.conditions.Cond.{Cond}
use Rattle.udb_base.specs.declared.refutations.Known.{Known}
use Rattle.udb_base.specs.declared.refutations.Known.TheVariants.{Yes, No, Unknown}
use Rattle.udb_base.specs.declared.refutations.Partial.{Partial}
use Rattle.udb_base.specs.declared.refutations.Proof.{Proof}
use Rattle.udb_base.specs.declared.refutations.Proof.TheVariants as p
use Rattle.udb_base.specs.declared.spaces.ExtSpace.{ExtSpace}
use Rattle.udb_base.specs.declared.spaces.ParamSpace.{ParamSpace}
use Rattle.udb_base.specs.declared.spaces.Space.{Space}
use Rattle.udb_base.specs.declared.spaces.Full.{Full}
use Rattle.udb_spec.specs.Versions.{IsListed}
use Rattle.udb_spec.specs.Conditions.{holds}
use Rattle.udb_spec.specs.Spaces.{InDomain, IsChoice, IsValue, Valid, Completes}
use Rattle.udb_spec.specs.Lawful.{Lawful}
use Rattle.udb_spec.specs.Constraints.{constraints, numbered, IsInDomains}
use Rattle.udb_spec.specs.Cells.{Step, Child, Below, From, ext_cells, param_cells, Within}
use Rattle.udb_spec.specs.Known.{is_no, known}
use Rattle.udb_spec.specs.Refutes.{is_unsplit, cells_left, ends_of, is_split, is_cut, each_refutes, refutes_under, refutes}
use Rattle.udb_spec.specs.RefutesLaws.{refutes-Leaf, refutes-Split, refutes-Cut, EachProof, induct-Proof}
use Rattle.udb_cond.proofs.Agreement.{known-no}
use Rattle.udb_cond.proofs.Completions.{at-number, completion-meets}
use Rattle.udb_cond.proofs.Splits.{splits-ext, splits-param, cuts-param, within-all}
use Rattle.udb_cond.proofs.Unsplit.{values-unsplit, choices-unsplit}

is-no : (k : Known) → is_no k ≡ true → k ≡ No
is-no Yes e = absurd (false≢true e)
is-no No e = refl
is-no Unknown e = absurd (false≢true e)

both-left : (a b : Bool) → (a && b) ≡ true → a ≡ true
both-left true b e = refl
both-left false b e = absurd (false≢true e)

both-right : (a b : Bool) → (a && b) ≡ true → b ≡ true
both-right true b e = e
both-right false b e = absurd (false≢true e)

-- the one that is counted is there
there : {X : Type 0} (f : X → ℕ) (n : ℕ) (o : Option X) → option_map_or (λ m. m == n) (option_map f o) false ≡ true → (x : X) × (o ≡ Some x) × (f x ≡ n)
there f n None e = absurd (false≢true e)
there f n (Some x) e = (x, refl, eqb-true (f x) n e)

module _ (space : Space) (part : Partial) (asked : Cond) (full : Full) (all : All (λ c. IsTrue (holds space full c)) (constraints space part asked)) where
  abbrev Refuted : Proof → Type 0
  Refuted proof = (path : List Step) → refutes_under space part asked proof path ≡ true → Within space path full → ⊥

  failing : (path : List Step) (found : Option Cond) → IfSome found (λ c. IsTrue (holds space full c)) → option_map_or (λ c. is_no (known space path c)) found false ≡ true → Within space path full → ⊥
  failing path None held e w = false≢true e
  failing path (Some c) held e w = true≢false (sym held ∙ known-no space path full w c (known space path c) refl (is-no (known space path c) e))

  leaf-sound : (number : ℕ) → Refuted (p.Leaf number)
  leaf-sound number path e w =
      failing path (numbered (constraints space part asked) number) (at-number (λ c. IsTrue (holds space full c)) (constraints space part asked) number all) (sym (refutes-Leaf space part asked number path) ∙ e) w

  parts-sound : (parts : List Proof) (param : Bool) (place n k : ℕ) (path : List Step) → EachProof Refuted parts → each_refutes (map (refutes_under space part asked) parts) param place n path ≡ true → n ≤ k → k < n + length parts → Within space (Child param place k ∷ path) full → ⊥
  parts-sound [] param place n k path each e le lt w = omega arith
  parts-sound (x ∷ xs) param place n k path each e le lt w =
      ⊎_elim
      (λ (is : k ≡ n). each.0 (Child param place n ∷ path) (both-left (refutes_under space part asked x (Child param place n ∷ path)) (each_refutes (map (refutes_under space part asked) xs) param place (n + 1) path) e) (subst (λ m. Within space (Child param place m ∷ path) full) is w))
      (λ (ne : k ≡ n → ⊥). parts-sound xs param place (n + 1) k path each.1 (both-right (refutes_under space part asked x (Child param place n ∷ path)) (each_refutes (map (refutes_under space part asked) xs) param place (n + 1) path) e) (omega arith) (omega (arith, lt)) w)
      (cases_eq k n)

  -- a full configuration is within one of the parts of a right split
  within-part : (param : Bool) (place parts : ℕ) (path : List Step) → is_split space path param place parts ≡ true → Within space path full → (k : ℕ) × (k < parts) × Within space (Child param place k ∷ path) full
  within-part true place parts path e w =
      let unsplit = both-left (is_unsplit path true place) _ e in
      let counted = both-left (option_map_or (λ cells. cells == parts) (cells_left space path true place) false) (nat_lt parts (2 ^ 32)) (both-right (is_unsplit path true place) _ e) in
      let at = there (λ q. length (param_cells path place q.domain)) parts (slice_get space.params place) counted in
      let split = splits-param space path full place at.0 at.1 w in
      (split.0, omega (arith, split.1, values-unsplit path place at.0.domain unsplit, at.2), split.2)
  within-part false place parts path e w =
      let unsplit = both-left (is_unsplit path false place) _ e in
      let counted = both-left (option_map_or (λ cells. cells == parts) (cells_left space path false place) false) (nat_lt parts (2 ^ 32)) (both-right (is_unsplit path false place) _ e) in
      let at = there (λ x. length (ext_cells path place x)) parts (slice_get space.extensions place) counted in
      let split = splits-ext space path full place at.0 at.1 w in
      (split.0, omega (arith, split.1, choices-unsplit path place at.0 unsplit, at.2), split.2)

  split-sound : (param : Bool) (place : ℕ) (parts : List Proof) → EachProof Refuted parts → Refuted (p.Split param place parts)
  split-sound param place parts each path e w =
      let both = sym (refutes-Split space part asked param place parts path) ∙ e in
      let at = within-part param place (length parts) path (both-left (is_split space path param place (length parts)) _ both) w in
      parts-sound parts param place 0 at.0 path each (both-right (is_split space path param place (length parts)) _ both) (omega arith) (omega (arith, at.1)) at.2

  place-there : (ps : List ParamSpace) (i : ℕ) (q : ParamSpace) → slice_get ps i ≡ Some q → i < length ps
  place-there [] i q e = absurd (none-some q e)
  place-there (x ∷ ps) zero q e = omega arith
  place-there (x ∷ ps) (suc i) q e = omega (arith, place-there ps i q e)

  cut-place : (place at : ℕ) (path : List Step) → is_cut space path place at ≡ true → place < length space.params
  cut-place place at path e = in_space (slice_get space.params place) refl e where
    in_space : (o : Option ParamSpace) → slice_get space.params place ≡ o → option_map_or (λ ends. nat_lt ends.0 at && nat_le at ends.1) (option_and_then (λ q. ends_of path place q.domain) o) false ≡ true → place < length space.params
    in_space None is h = absurd (false≢true h)
    in_space (Some q) is h = place-there space.params place q is

  cut-sound : (place at : ℕ) (below from : Proof) → Refuted below → Refuted from → Refuted (p.Cut place at below from)
  cut-sound place at below from low high path e w =
      let all_right = sym (refutes-Cut space part asked place at below from path) ∙ e in
      let sides = both-right (is_cut space path place at) _ all_right in
      ⊎_elim
      (λ (v : Within space (Below place at ∷ path) full). low (Below place at ∷ path) (both-left (refutes_under space part asked below (Below place at ∷ path)) _ sides) v)
      (λ (v : Within space (From place at ∷ path) full). high (From place at ∷ path) (both-right (refutes_under space part asked below (Below place at ∷ path)) _ sides) v)
      (cuts-param space path full place at (cut-place place at path (both-left (is_cut space path place at) _ all_right)) w)

  pub sound : (proof : Proof) → Refuted proof
  sound = induct-Proof Refuted (record { leaf = leaf-sound; split = split-sound; cut = cut-sound })

-- a valid full configuration is within the domains
choices-listed : (space : Space) (full : Full) (es : List ExtSpace) (cs : List (Option Version)) → AllZip (IsChoice space full) es cs → AllZip (λ e c. IfSome c (IsListed e.versions)) es cs
choices-listed space full [] [] h = tt
choices-listed space full [] (c ∷ cs) h = absurd h
choices-listed space full (e ∷ es) [] h = absurd h
choices-listed space full (e ∷ es) (None ∷ cs) h = (tt, choices-listed space full es cs h.1)
choices-listed space full (e ∷ es) (Some x ∷ cs) h = (h.0.0, choices-listed space full es cs h.1)

values-within : (space : Space) (full : Full) (ps : List ParamSpace) (xs : List Value) → AllZip (IsValue space full) ps xs → AllZip (λ p x. InDomain p.domain x) ps xs
values-within space full [] [] h = tt
values-within space full [] (x ∷ xs) h = absurd h
values-within space full (p ∷ ps) [] h = absurd h
values-within space full (p ∷ ps) (x ∷ xs) h = (h.0.in_domain, values-within space full ps xs h.1)

pub valid-within : (space : Space) (full : Full) → Valid space full → IsInDomains space full
valid-within space full valid = record { choices = choices-listed space full space.extensions full.extensions valid.choices; values = values-within space full space.params full.params valid.values }

-- what refutes leaves no completion that meets the condition
pub none-meets : (space : Space) (part : Partial) (asked : Cond) (proof : Proof) → Lawful space → refutes space part asked proof ≡ true → (full : Full) → Completes space part full → holds space full asked ≡ false
none-meets space part asked proof lawful right full done = by_truth (holds space full asked) refl where
  by_truth : (b : Bool) → holds space full asked ≡ b → b ≡ false
  by_truth false e = refl
  by_truth true e = absurd (sound space part asked full (completion-meets space full part asked lawful done e) proof [] right (within-all space full (valid-within space full done.valid)))
