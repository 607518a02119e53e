-- What is known of All, Any and One, part by part.
use Rattle.std.proofs.Common.{◌≡◌, ℕ, zero, suc, ◌+◌, ◌<◌, ◌≤◌, ◌==◌, nat_le, Bool, true, false, not, ◌&&◌, ◌||◌, List, [], ◌∷◌, map, drop, length, count_by, refl, sym, ap, ◌∙◌, cond, arith, ⊎_elim}
use Rattle.std.specs.List.{list_all, list_any}
use Rattle.std.proofs.lemmas.Bool.{cases_lt, cases_eq, eq-eqb, ne_eqb, le-leb}
use Rattle.std.proofs.lemmas.List.{drop_all}
use Rattle.std.proofs.lemmas.List.Sums.{sum_by-cons}
use Rattle.udb_base.specs.declared.refutations.Known.{Known}
use Rattle.udb_base.specs.declared.refutations.Known.TheVariants.{Yes, No, Unknown}
use Rattle.udb_spec.specs.Known.{is_yes, is_no, all_known, any_known, one_known}
use Rattle.udb_cond.specs.Tally.{is_unknown, one_by}
use Rattle.udb_spec.specs.KnownLaws.{known-Always, known-Never, known-Ext, known-Param, known-All, known-Any, known-One, known-Not}

pub ruleset known_laws = (known-Always, known-Never, known-Ext, known-Param, known-All, known-Any, known-One, known-Not)

-- what is known of All where a part before was Unknown, or none was
abbrev pub all_from : Bool → List Known → Known
all_from false parts = all_known parts
all_from true parts = cond (list_any is_no parts) No Unknown

pub all_from-yes : (open_ : Bool) (parts : List Known) → all_from open_ (Yes ∷ parts) ≡ all_from open_ parts
all_from-yes true parts = refl
all_from-yes false parts = refl

pub all_from-no : (open_ : Bool) (parts : List Known) → all_from open_ (No ∷ parts) ≡ No
all_from-no true parts = refl
all_from-no false parts = refl

pub all_from-unknown : (open_ : Bool) (parts : List Known) → all_from open_ (Unknown ∷ parts) ≡ all_from true parts
all_from-unknown true parts = refl
all_from-unknown false parts = refl

-- the same of Any
abbrev pub any_from : Bool → List Known → Known
any_from false parts = any_known parts
any_from true parts = cond (list_any is_yes parts) Yes Unknown

pub any_from-yes : (open_ : Bool) (parts : List Known) → any_from open_ (Yes ∷ parts) ≡ Yes
any_from-yes true parts = refl
any_from-yes false parts = refl

pub any_from-no : (open_ : Bool) (parts : List Known) → any_from open_ (No ∷ parts) ≡ any_from open_ parts
any_from-no true parts = refl
any_from-no false parts = refl

pub any_from-unknown : (open_ : Bool) (parts : List Known) → any_from open_ (Unknown ∷ parts) ≡ any_from true parts
any_from-unknown true parts = refl
any_from-unknown false parts = refl

-- a count, one element after another
pub count-cons : {X : Type 0} (p : X → Bool) (x : X) (xs : List X) → count_by p (x ∷ xs) ≡ cond (p x) 1 0 + count_by p xs
count-cons p x xs = sum_by-cons (λ y. cond (p y) 1 0) x xs

or-false : (b : Bool) → (b || false) ≡ b
or-false true = refl
or-false false = refl

and-false : (a : Bool) → (a && false) ≡ false
and-false true = refl
and-false false = refl

all_no : (parts : List Known) → list_all is_no parts ≡ ((count_by is_yes parts == 0) && not (list_any is_unknown parts))
all_no [] = refl
all_no (Yes ∷ parts) = rw (ne_eqb (count_by is_yes (Yes ∷ parts)) 0 (λ e. omega (arith, count-cons is_yes Yes parts))) refl
all_no (No ∷ parts) = all_no parts
all_no (Unknown ∷ parts) = sym (and-false (count_by is_yes parts == 0))

counts : (parts : List Known) → count_by is_no parts + (count_by is_yes parts + count_by is_unknown parts) ≡ length parts
counts [] = refl
counts (Yes ∷ parts) = omega (arith, counts parts, count-cons is_yes Yes parts, count-cons is_no Yes parts, count-cons is_unknown Yes parts)
counts (No ∷ parts) = omega (arith, counts parts, count-cons is_yes No parts, count-cons is_no No parts, count-cons is_unknown No parts)
counts (Unknown ∷ parts) = omega (arith, counts parts, count-cons is_yes Unknown parts, count-cons is_no Unknown parts, count-cons is_unknown Unknown parts)

no_unknown : (parts : List Known) → list_any is_unknown parts ≡ false → count_by is_unknown parts ≡ 0
no_unknown [] h = refl
no_unknown (Yes ∷ parts) h = no_unknown parts h
no_unknown (No ∷ parts) h = no_unknown parts h
no_unknown (Unknown ∷ parts) h = cc

some_unknown : (parts : List Known) → list_any is_unknown parts ≡ true → 1 ≤ count_by is_unknown parts
some_unknown [] h = cc
some_unknown (Yes ∷ parts) h = some_unknown parts h
some_unknown (No ∷ parts) h = some_unknown parts h
some_unknown (Unknown ∷ parts) h = omega (arith, count-cons is_unknown Unknown parts)

unknown-and : (a : Bool) → cond (a && false) Yes Unknown ≡ Unknown
unknown-and true = refl
unknown-and false = refl

not_one : (y n u m : ℕ) → 1 ≤ u → n + (y + u) ≡ m → cond ((y == 1) && (n + 1 == m)) Yes Unknown ≡ Unknown
not_one y n u m some e = ⊎_elim (λ one. rw (ne_eqb (n + 1) m (λ f. omega arith)) (unknown-and (y == 1))) (λ ne. rw (ne_eqb y 1 ne) refl) (cases_eq y 1)

by_few : (y n m : ℕ) → y < 2 → n + y ≡ m → cond (nat_le 2 y) No (cond ((y == 0) && true) No (cond ((y == 1) && (n + 1 == m)) Yes Unknown)) ≡ cond (nat_le 2 y) No (cond ((y == 0) && true) No Yes)
by_few zero n m few e = refl
by_few (suc zero) n m few e = rw (eq-eqb (n + 1) m e) refl
by_few (suc (suc y)) n m few e = absurd (omega arith)

last-open : (y n u m : ℕ) → 1 ≤ u → n + (y + u) ≡ m → cond (nat_le 2 y) No (cond ((y == 0) && false) No (cond ((y == 1) && (n + 1 == m)) Yes Unknown)) ≡ cond (nat_le 2 y) No (cond ((y == 0) && false) No Unknown)
last-open y n u m some e = ap (λ x. cond (nat_le 2 y) No (cond ((y == 0) && false) No x)) (not_one y n u m some e)

last-closed : (y n u m : ℕ) → u ≡ 0 → n + (y + u) ≡ m → cond (nat_le 2 y) No (cond ((y == 0) && true) No (cond ((y == 1) && (n + 1 == m)) Yes Unknown)) ≡ cond (nat_le 2 y) No (cond ((y == 0) && true) No Yes)
last-closed y n u m none e = ⊎_elim (λ few. by_few y n m few (omega (arith, none, e))) (λ many. rw (le-leb 2 y many) refl) (cases_lt y 2)

last-case : (y n u m : ℕ) (open_ : Bool) → (open_ ≡ false → u ≡ 0) → (open_ ≡ true → 1 ≤ u) → n + (y + u) ≡ m → cond (nat_le 2 y) No (cond ((y == 0) && not open_) No (cond ((y == 1) && (n + 1 == m)) Yes Unknown)) ≡ one_by y open_
last-case y n u m true h k e = last-open y n u m (k refl) e
last-case y n u m false h k e = last-closed y n u m (h refl) e

pub one_known-by : (parts : List Known) → one_known parts ≡ one_by (count_by is_yes parts) (list_any is_unknown parts)
one_known-by parts = rw (all_no parts) (last-case (count_by is_yes parts) (count_by is_no parts) (count_by is_unknown parts) (length parts) (list_any is_unknown parts) (no_unknown parts) (some_unknown parts) (counts parts))

-- the answer after the last part
pub one-done : {X : Type 0} (g : X → Known) (xs : List X) (i holding : ℕ) (undecided : Bool) (k : Known) → k ≡ one_by holding undecided → length xs ≤ i → holding + count_by is_yes (map g (drop i xs)) ≡ count_by is_yes (map g xs) → (undecided || list_any is_unknown (map g (drop i xs))) ≡ list_any is_unknown (map g xs) → k ≡ one_known (map g xs)
one-done g xs i holding undecided k is le counted any =
    let h : holding ≡ count_by is_yes (map g xs) = omega (arith, rw (drop_all i xs le) at counted) in
    let u : undecided ≡ list_any is_unknown (map g xs) = sym (or-false undecided) ∙ (rw (drop_all i xs le) at any) in
    is ∙ ap (λ n. one_by n undecided) h ∙ ap (λ b. one_by (count_by is_yes (map g xs)) b) u ∙ sym (one_known-by (map g xs))
