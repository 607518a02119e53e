-- What is true of each element of a list, and lists of numbers and texts in domains.
use Rattle.std.proofs.Common.{◌≡◌, ◌⊎◌, ◌==◌, ◌∙◌, ℕ, ◌≤◌, Bool, false, nat_eq, List, [], ◌∷◌, length, take, arith, All, refl, sym, subst}
use Rattle.std.specs.Prelude.{IsTrue}
use Rattle.std.specs.Cmp.Lexicographic.{pointwise, bytes_decides}
use Rattle.std.specs.Bool.{Decides}
use Rattle.std.specs.List.{list_all}
use Rattle.std.proofs.lemmas.Bool.{false≢true}
use Rattle.std.proofs.lemmas.List.{take_all}
use Rattle.std.proofs.lemmas.Bool.Decides.{Decides-by_and, Decides-or, Decides-eqb}
use Rattle.udb_base.specs.Lists.{are_distinct}
use Rattle.udb_base.specs.declared.spaces.Domain.{Domain}
use Rattle.udb_base.specs.declared.spaces.Domain.TheVariants.{Numbers, Words}
use Rattle.udb_spec.specs.Lawful.{IsLawfulDomain, ListsWidths}
use Rattle.udb_lawful.specs.Tests.{is_width}
use Rattle.udb_lawful.proofs.Distinct.{distinct-decides}

pub all-of : {X : Type 0} (P : X → Type 0) (xs : List X) (i : ℕ) → length xs ≤ i → All P (take i xs) → All P xs
all-of P xs i long h = subst (All P) (take_all i xs long) h

pub widths-decide : (ns : List ℕ) → Decides (list_all is_width ns) (All (λ n. (n ≡ 32) ⊎ (n ≡ 64)) ns)
widths-decide ns = Decides-by_and is_width (λ n. (n ≡ 32) ⊎ (n ≡ 64)) (list_all is_width) (λ n. Decides-or (n == 32) (n == 64) (Decides-eqb n 32) (Decides-eqb n 64)) refl (λ _ _. refl) ns

pub widths-at : (domain : Domain) (ns : List ℕ) (r : Bool) → domain ≡ Numbers ns → r ≡ list_all is_width ns → (IsTrue r → ListsWidths domain) × (ListsWidths domain → IsTrue r)
widths-at domain ns r is e = (
  λ yes. subst ListsWidths (sym is) ((widths-decide ns).0 (sym e ∙ yes)),
  λ h. e ∙ (widths-decide ns).1 (subst ListsWidths is h),
)

-- numbers, or words, of which there are some, are lawful where none stands twice
pub numbers-at : (domain : Domain) (ns : List ℕ) (r : Bool) → domain ≡ Numbers ns → 1 ≤ length ns → r ≡ are_distinct nat_eq ns → (IsTrue r → IsLawfulDomain domain) × (IsLawfulDomain domain → IsTrue r)
numbers-at domain ns r is some e = (
  λ yes. subst IsLawfulDomain (sym is) (some, (distinct-decides nat_eq Decides-eqb ns).0 (sym e ∙ yes)),
  λ h. (let lawful : IsLawfulDomain (Numbers ns) = subst IsLawfulDomain is h in e ∙ (distinct-decides nat_eq Decides-eqb ns).1 lawful.1),
)

pub words-at : (domain : Domain) (ws : List (List ℕ)) (r : Bool) → domain ≡ Words ws → 1 ≤ length ws → r ≡ are_distinct (pointwise nat_eq) ws → (IsTrue r → IsLawfulDomain domain) × (IsLawfulDomain domain → IsTrue r)
words-at domain ws r is some e = (
  λ yes. subst IsLawfulDomain (sym is) (some, (distinct-decides (pointwise nat_eq) bytes_decides ws).0 (sym e ∙ yes)),
  λ h. (let lawful : IsLawfulDomain (Words ws) = subst IsLawfulDomain is h in e ∙ (distinct-decides (pointwise nat_eq) bytes_decides ws).1 lawful.1),
)

-- a list that isn't empty has an element
pub some-of : {A : Type 0} (xs : List A) (empty : Bool) → (xs ≡ [] → IsTrue empty) → empty ≡ false → 1 ≤ length xs
some-of [] empty h is = absurd (false≢true (sym is ∙ h refl))
some-of (x ∷ xs) empty h is = omega arith
