-- A proof that refutes names places of its space alone.
use Rattle.std.proofs.Common.{◌≡◌, ◌==◌, ◌+◌, ◌&&◌, Bool, true, false, IsTrue, ℕ, List, [], ◌∷◌, length, map, Option, Some, None, is_some, refl, sym, ap, ◌∙◌}
use Rattle.std.specs.List.{list_all}
use Rattle.std.specs.Option.{option_map, option_map_or}
use Rattle.std.specs.Prelude.{option_and_then, slice_get}
use Rattle.udb_base.specs.declared.conditions.Cond.{Cond}
use Rattle.udb_base.specs.declared.refutations.Partial.{Partial}
use Rattle.udb_base.specs.declared.refutations.Proof.{Proof}
use Rattle.udb_base.specs.declared.refutations.Proof.TheVariants as p
use Rattle.udb_base.specs.declared.spaces.Space.{Space}
use Rattle.udb_spec.specs.Cells.{Step, Child, Below, From}
use Rattle.udb_spec.specs.Refutes.{is_unsplit, cells_left, is_split, is_cut, each_refutes, refutes_under, refutes}
use Rattle.udb_spec.specs.RefutesLaws.{refutes-Split, refutes-Cut, EachProof, Cases-Proof, induct-Proof}
use Rattle.udb_spec.specs.ProofText.{has_place, is_named}
use Rattle.udb_spec.specs.ProofTextLaws.{named-Leaf, named-Split, named-Cut}

both_left : (a b : Bool) → (a && b) ≡ true → a ≡ true
both_left true b h = refl
both_left false b h = absurd (cc)

both_right : (a b : Bool) → (a && b) ≡ true → b ≡ true
both_right true b h = h
both_right false b h = absurd (cc)

both_true : (a b : Bool) → a ≡ true → b ≡ true → (a && b) ≡ true
both_true a b h g = ap (λ x. x && b) h ∙ g

mapped : {X Y : Type 0} (o : Option X) (f : X → Y) (test : Y → Bool) → option_map_or test (option_map f o) false ≡ true → is_some o ≡ true
mapped None f test h = absurd (cc)
mapped (Some x) f test h = refl

chained : {X Y : Type 0} (o : Option X) (f : X → Option Y) (test : Y → Bool) → option_map_or test (option_and_then f o) false ≡ true → is_some o ≡ true
chained None f test h = absurd (cc)
chained (Some x) f test h = refl

module _ (space : Space) (part : Partial) (cond : Cond) where
  split_place : (path : List Step) (param : Bool) (place n : ℕ) → option_map_or (λ cells. cells == n) (cells_left space path param place) false ≡ true → has_place space param place ≡ true
  split_place path true place n h = mapped (slice_get space.params place) _ _ h
  split_place path false place n h = mapped (slice_get space.extensions place) _ _ h

  cut_place : (path : List Step) (place at : ℕ) → is_cut space path place at ≡ true → has_place space true place ≡ true
  cut_place path place at h = chained (slice_get space.params place) _ _ h

  abbrev Names : Proof → Type 0
  Names x = (path : List Step) → refutes_under space part cond x path ≡ true → is_named space x ≡ true

  parts_named : (parts : List Proof) (param : Bool) (place n : ℕ) (path : List Step) → EachProof Names parts → each_refutes (map (refutes_under space part cond) parts) param place n path ≡ true → list_all (is_named space) parts ≡ true
  parts_named [] param place n path each h = refl
  parts_named (x ∷ xs) param place n path each h = both_true (is_named space x) (list_all (is_named space) xs) (each.0 (Child param place n ∷ path) (both_left _ _ h)) (parts_named xs param place (n + 1) path each.1 (both_right _ _ h))

  split_named : (param : Bool) (place : ℕ) (parts : List Proof) → EachProof Names parts → Names (p.Split param place parts)
  split_named param place parts each path h =
      let e = sym (refutes-Split space part cond param place parts path) ∙ h in
      let s : is_split space path param place (length parts) ≡ true = both_left _ _ e in
      let t = both_right (is_unsplit path param place) _ s in
      named-Split space param place parts
      ∙ both_true _ _ (split_place path param place (length parts) (both_left _ _ t))
      (both_true _ _ (both_right _ _ t) (parts_named parts param place 0 path each (both_right _ _ e)))

  cut_named : (place at : ℕ) (below from : Proof) → Names below → Names from → Names (p.Cut place at below from)
  cut_named place at below from b f path h =
      let e = sym (refutes-Cut space part cond place at below from path) ∙ h in
      let t = both_right _ _ e in
      named-Cut space place at below from
      ∙ both_true _ _ (cut_place path place at (both_left _ _ e)) (both_true _ _ (b (Below place at ∷ path) (both_left _ _ t)) (f (From place at ∷ path) (both_right _ _ t)))

  names : Cases-Proof Names
  names = record { leaf = λ number path h. named-Leaf space number; split = split_named; cut = cut_named }

  pub refuted_named : (proof : Proof) → refutes space part cond proof ≡ true → IsTrue (is_named space proof)
  refuted_named proof h = induct-Proof Names names proof [] h
