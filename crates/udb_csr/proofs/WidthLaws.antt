-- The width of the registers in a lawful space, and the condition that they have it.
use Rattle.std.proofs.Common.{◌≡◌, ◌⊎◌, ◌∙◌, inl, inr, ℕ, ◌==◌, ◌||◌, Bool, true, false, cond, List, [], ◌∷◌, Option, None, Some, arith, refl, sym, ap, subst}
use Rattle.std.specs.Prelude.{All, codes, if◌then◌else◌}
use Rattle.std.specs.List.{AllZip, list_any}
use Rattle.std.specs.Cmp.Lexicographic.{bytes_decides}
use Rattle.std.proofs.lemmas.Bool.Decides.{nat_tests}
use Rattle.std.proofs.lemmas.List.Elements.{All-contains, All-head, All-tail}
use Rattle.udb_base.specs.declared.conditions.Cond.{Cond}
use Rattle.udb_base.specs.declared.conditions.Cond.TheVariants as c
use Rattle.udb_base.specs.declared.conditions.Test.TheVariants.{Equal}
use Rattle.udb_base.specs.declared.conditions.Value.{Value}
use Rattle.udb_base.specs.declared.conditions.Value.TheVariants.{Flag, Number, Word}
use Rattle.udb_base.specs.declared.spaces.Domain.{Domain}
use Rattle.udb_base.specs.declared.spaces.Domain.TheVariants.{Flags, Numbers, Range, Words}
use Rattle.udb_base.specs.declared.spaces.ParamSpace.{ParamSpace}
use Rattle.udb_base.specs.declared.spaces.Space.{Space}
use Rattle.udb_base.specs.declared.spaces.Full.{Full}
use Rattle.udb_spec.specs.Conditions.{holds, same_bytes, value_among, value_of, option_passes}
use Rattle.udb_spec.specs.CondLaws.{holds-Always, holds-Never, holds-Param}
use Rattle.udb_spec.specs.Spaces.{Valid, IsValue, InDomain, mxlen, number_or}
use Rattle.udb_spec.specs.Lawful.{Lawful, IsLawfulParam, ListsWidths}
use Rattle.udb_csr.specs.Steps.{has_width, width_is, IsWidth}

width-in : (d : Domain) (x : Value) → ListsWidths d → InDomain d x → (k : ℕ) × ((x ≡ Number k) × IsWidth k)
width-in (Numbers ns) (Number n) w d = (n, (refl, All-contains (λ n. (n ≡ 32) ⊎ (n ≡ 64)) ns n w d))
width-in (Numbers ns) (Flag b) w d = absurd d
width-in (Numbers ns) (Word t) w d = absurd d
width-in Flags x w d = absurd w
width-in (Range low high) x w d = absurd w
width-in (Words ws) x w d = absurd w

module _ (space : Space) (full : Full) where
  abbrev name : List ℕ
  name = codes "MXLEN"

  -- the parameter has 32 or 64, or there is none
  abbrev Summary : Bool → Option Value → Type 0
  Summary has v = ((has ≡ true) × ((k : ℕ) × ((v ≡ Some (Number k)) × IsWidth k))) ⊎ ((has ≡ false) × (v ≡ None))

  some-width : (x : Value) → ((k : ℕ) × ((x ≡ Number k) × IsWidth k)) → (k : ℕ) × ((Some x ≡ Some (Number k)) × IsWidth k)
  some-width x w = (w.0, (ap (λ (y : Value). Some y) w.1.0, w.1.1))

  here : (p : ParamSpace) (ps : List ParamSpace) (x : Value) (xs : List Value) (same : Bool) → same_bytes p.name name ≡ same → IsValue space full p x → IsLawfulParam space p → Summary (list_any (λ q. same_bytes q.name name) ps) (value_among ps xs name) → Summary (same || list_any (λ q. same_bytes q.name name) ps) (cond same (Some x) (value_among ps xs name))
  here p ps x xs true e is lawful rest = inl (refl, some-width x (width-in p.domain x (lawful.widths ((bytes_decides p.name name).0 e)) is.in_domain))
  here p ps x xs false e is lawful rest = rest

  summary-of : (ps : List ParamSpace) (xs : List Value) → AllZip (IsValue space full) ps xs → All (IsLawfulParam space) ps → Summary (list_any (λ q. same_bytes q.name name) ps) (value_among ps xs name)
  summary-of [] xs zip lawful = inr (refl, refl)
  summary-of (p ∷ ps) [] zip lawful = absurd zip
  summary-of (p ∷ ps) (x ∷ xs) zip lawful = here p ps x xs (same_bytes p.name name) refl zip.0 (All-head (IsLawfulParam space) p ps lawful) (summary-of ps xs zip.1 (All-tail (IsLawfulParam space) p ps lawful))

  summary : Lawful space → Valid space full → Summary (has_width space) (value_of space full name)
  summary lawful valid = summary-of space.params full.params valid.values lawful.params

  width-by : Summary (has_width space) (value_of space full name) → IsWidth (mxlen space full)
  width-by (inl some) = subst (λ v. IsWidth (number_or 32 v)) (sym some.1.1.0) some.1.1.1
  width-by (inr none) = subst (λ v. IsWidth (number_or 32 v)) (sym none.1) (inl refl)

  pub width-cases : Lawful space → Valid space full → IsWidth (mxlen space full)
  width-cases lawful valid = width-by (summary lawful valid)

  -- ---- the condition

  chosen : (n : ℕ) (b : Bool) → Cond
  chosen n b = if b then c.Param name Equal (Number n) else (if n == 32 then c.Always else c.Never)

  -- what it says, by the value
  says : ℕ → Bool → Bool
  says n b = if b then option_passes Equal (value_of space full name) (Number n) else (n == 32)

  fixed : (b : Bool) → holds space full (if b then c.Always else c.Never) ≡ b
  fixed true = holds-Always space full
  fixed false = holds-Never space full

  says-is : (n : ℕ) (b : Bool) → holds space full (chosen n b) ≡ says n b
  unfolding chosen says
  says-is n true = holds-Param space full name Equal (Number n)
  says-is n false = fixed (n == 32)

  width-test : (n : ℕ) → IsWidth n → Summary (has_width space) (value_of space full name) → holds space full (width_is space n) ≡ (mxlen space full == n)
  unfolding chosen says
  width-test n w (inl some) =
      says-is n (has_width space)
      ∙ (ap (says n) some.0
      ∙ (ap (λ v. option_passes Equal v (Number n)) some.1.1.0 ∙ ap (λ v. number_or 32 v == n) (sym some.1.1.0)))
  width-test n w (inr none) =
      says-is n (has_width space)
      ∙ (ap (says n) none.0 ∙ (turned n w ∙ ap (λ v. number_or 32 v == n) (sym none.1)))
    where
      turned : (n : ℕ) → IsWidth n → (n == 32) ≡ (32 == n)
      turned n (inl e) = subst (λ k. (k == 32) ≡ (32 == k)) (sym e) refl
      turned n (inr e) = subst (λ k. (k == 32) ≡ (32 == k)) (sym e) refl

  test-same : (a b : ℕ) → (a == b) ≡ true → a ≡ b
  test-same a b h = grind (arith, nat_tests)

  same-test : (a b : ℕ) → a ≡ b → (a == b) ≡ true
  same-test a b h = grind (arith, nat_tests)

  pub width-from : Lawful space → Valid space full → (n : ℕ) → IsWidth n → holds space full (width_is space n) ≡ true → mxlen space full ≡ n
  width-from lawful valid n w h = test-same (mxlen space full) n (sym (width-test n w (summary lawful valid)) ∙ h)

  pub width-to : Lawful space → Valid space full → (n : ℕ) → IsWidth n → mxlen space full ≡ n → holds space full (width_is space n) ≡ true
  width-to lawful valid n w e = width-test n w (summary lawful valid) ∙ same-test (mxlen space full) n e
