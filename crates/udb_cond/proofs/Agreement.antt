-- Where something is known of a condition, it is so in every full configuration within the cells.
use Rattle.std.proofs.Common.{◌≡◌, ℕ, ◌+◌, ◌≤◌, ◌==◌, nat_le, Bool, true, false, not, ◌&&◌, ◌||◌, List, [], ◌∷◌, map, Option, Some, length, get_or, count_by, Contains, refl, sym, ap, ◌∙◌, cond, subst, arith}
use Rattle.std.specs.List.{list_all, list_any}
use Rattle.std.proofs.lemmas.List.Recursion.{and_at, or_at}
use Rattle.std.proofs.lemmas.Bool.{and_left, and_right, and_from, eq-eqb, ne_eqb, leb-true, eqb-true}
use Rattle.udb_base.specs.declared.versions.Version.{Version}
use Rattle.udb_base.specs.declared.versions.Requirement.{Requirement}
use Rattle.udb_base.specs.declared.conditions.Value.{Value}
use Rattle.udb_base.specs.declared.conditions.Test.{Test}
use Rattle.udb_base.specs.declared.conditions.Cond.{Cond}
use Rattle.udb_base.specs.declared.refutations.Known.{Known}
use Rattle.udb_base.specs.declared.refutations.Known.TheVariants.{Yes, No, Unknown}
use Rattle.udb_base.specs.declared.spaces.ExtSpace.{ExtSpace}
use Rattle.udb_base.specs.declared.spaces.ParamSpace.{ParamSpace}
use Rattle.udb_base.specs.declared.spaces.Space.{Space}
use Rattle.udb_base.specs.declared.spaces.Full.{Full}
use Rattle.udb_spec.specs.Conditions.{same_bytes, choice_meets, passes, present_among, value_among, option_passes, exactly_one, holds}
use Rattle.udb_spec.specs.CondLaws.{holds-Always, holds-Never, holds-Ext, holds-Param, holds-All, holds-Any, holds-One, holds-Not}
use Rattle.udb_spec.specs.CondInduction.{Each, Cases-Cond, induct-Cond}
use Rattle.udb_spec.specs.Cells.{Step, ExtsWithin, ParamsWithin, Within, ext_cells, param_cells}
use Rattle.udb_spec.specs.Known.{is_yes, is_no, known_over, ext_known, param_known, one_known, not_known, known}
use Rattle.udb_cond.proofs.KnownLemmas.{count-cons}
use Rattle.udb_spec.specs.KnownLaws.{known-Always, known-Never, known-Ext, known-Param, known-All, known-Any, known-One, known-Not}

-- Yes says true, No says false
abbrev pub Agrees : Known → Bool → Type 0
Agrees Yes b = b ≡ true
Agrees No b = b ≡ false
Agrees Unknown b = Unit {0}

-- three-way choices as the definitions write them
agrees-cond : (a b : Bool) (h : Bool) (x y z : Known) → (a ≡ true → Agrees x h) → (a ≡ false → b ≡ true → Agrees y h) → (a ≡ false → b ≡ false → Agrees z h) → Agrees (cond a x (cond b y z)) h
agrees-cond true b h x y z p q r = p refl
agrees-cond false true h x y z p q r = q refl refl
agrees-cond false false h x y z p q r = r refl refl

module _ {X : Type 0} (p : X → Bool) (xs : List X) (x : X) (among : Contains xs x) where
  holds-each : list_all (λ b. b) (map p xs) ≡ true → p x ≡ true
  holds-each h = subst (λ y. p y ≡ true) among.2 (and_at (λ ys. list_all (λ b. b) (map p ys)) p refl (λ _ _. refl) xs among.0 x among.1 h)

  fails-each : list_any (λ b. b) (map p xs) ≡ false → p x ≡ false
  fails-each h = by_cases (p x) refl where
    by_cases : (b : Bool) → p x ≡ b → p x ≡ false
    by_cases true e = let at : p (get_or xs among.0 x) ≡ true = subst (λ y. p y ≡ true) (sym among.2) e in let f = or_at (λ ys. list_any (λ b. b) (map p ys)) p refl (λ _ _. refl) xs among.0 x among.1 at in cc
    by_cases false e = e

  over-agrees : Agrees (known_over (map p xs)) (p x)
  over-agrees = agrees-cond (list_all (λ b. b) (map p xs)) (list_any (λ b. b) (map p xs)) (p x) Yes Unknown No holds-each (λ _ _. tt) (λ _ h. fails-each h)

agrees-if : (b : Bool) (k l : Known) (h i : Bool) → Agrees k h → Agrees l i → Agrees (cond b k l) (cond b h i)
agrees-if true k l h i x y = x
agrees-if false k l h i x y = y

ext-agrees : (path : List Step) (place : ℕ) (es : List ExtSpace) (cs : List (Option Version)) (name : List ℕ) (needs : List Requirement) → ExtsWithin path place es cs → Agrees (ext_known path place es name needs) (present_among es cs name needs)
ext-agrees path place [] cs name needs w = refl
ext-agrees path place (e ∷ es) [] name needs w = absurd w
ext-agrees path place (e ∷ es) (c ∷ cs) name needs w =
    agrees-if (same_bytes e.name name) _ _ _ _ (over-agrees (choice_meets e.versions needs) (ext_cells path place e) c w.0) (ext-agrees path (place + 1) es cs name needs w.1)

passes-if : (b : Bool) (x : Value) (o : Option Value) (test : Test) (given : Value) → option_passes test (cond b (Some x) o) given ≡ cond b (passes test x given) (option_passes test o given)
passes-if true x o test given = refl
passes-if false x o test given = refl

param-agrees : (path : List Step) (place : ℕ) (ps : List ParamSpace) (xs : List Value) (name : List ℕ) (test : Test) (given : Value) → ParamsWithin path place ps xs → Agrees (param_known path place ps name test given) (option_passes test (value_among ps xs name) given)
param-agrees path place [] xs name test given w = refl
param-agrees path place (p ∷ ps) [] name test given w = absurd w
param-agrees path place (p ∷ ps) (x ∷ xs) name test given w =
    rw (passes-if (same_bytes p.name name) x (value_among ps xs name) test given)
    (agrees-if (same_bytes p.name name) _ _ _ _ (over-agrees (λ y. passes test y given) (param_cells path place p.domain) x w.0) (param-agrees path (place + 1) ps xs name test given w.1))

not-agrees : (k : Known) (h : Bool) → Agrees k h → Agrees (not_known k) (not h)
not-agrees Yes h e = ap not e
not-agrees No h e = ap not e
not-agrees Unknown h e = tt

-- the first part beside the others
no-first : (k : Known) (h others fact : Bool) → Agrees k h → (others ≡ true → fact ≡ false) → (is_no k || others) ≡ true → (h && fact) ≡ false
no-first Yes h others fact a rest e = and_right h fact (rest e)
no-first No h others fact a rest e = and_left h fact a
no-first Unknown h others fact a rest e = and_right h fact (rest e)

yes-first : (k : Known) (h others fact : Bool) → Agrees k h → (others ≡ true → fact ≡ true) → (is_yes k && others) ≡ true → (h && fact) ≡ true
yes-first Yes h others fact a rest e = and_from h fact a (rest e)
yes-first No h others fact a rest e = cc
yes-first Unknown h others fact a rest e = cc

or-left : (a b : Bool) → a ≡ true → (a || b) ≡ true
or-left true b e = refl
or-left false b e = cc

or-right : (a b : Bool) → b ≡ true → (a || b) ≡ true
or-right true b e = refl
or-right false b e = e

or-neither : (a b : Bool) → a ≡ false → b ≡ false → (a || b) ≡ false
or-neither true b e f = cc
or-neither false b e f = f

some-first : (k : Known) (h others fact : Bool) → Agrees k h → (others ≡ true → fact ≡ true) → (is_yes k || others) ≡ true → (h || fact) ≡ true
some-first Yes h others fact a rest e = or-left h fact a
some-first No h others fact a rest e = or-right h fact (rest e)
some-first Unknown h others fact a rest e = or-right h fact (rest e)

none-first : (k : Known) (h others fact : Bool) → Agrees k h → (others ≡ true → fact ≡ false) → (is_no k && others) ≡ true → (h || fact) ≡ false
none-first Yes h others fact a rest e = cc
none-first No h others fact a rest e = or-neither h fact a (rest e)
none-first Unknown h others fact a rest e = cc

yes-counted : (k : Known) (h : Bool) (m n : ℕ) → Agrees k h → m ≤ n → cond (is_yes k) 1 0 + m ≤ cond h 1 0 + n
yes-counted Yes h m n a le = rw a (omega arith)
yes-counted No h m n a le = omega arith
yes-counted Unknown h m n a le = omega arith

one-at-most : (h : Bool) → cond h 1 0 ≤ 1
one-at-most true = omega arith
one-at-most false = omega arith

no-counted : (k : Known) (h : Bool) (m n l : ℕ) → Agrees k h → m + n ≤ l → (cond h 1 0 + m) + (cond (is_no k) 1 0 + n) ≤ l + 1
no-counted Yes h m n l a le = omega (arith, one-at-most h)
no-counted No h m n l a le = rw a (omega arith)
no-counted Unknown h m n l a le = omega (arith, one-at-most h)

all-no-counted : (ks : List Known) → list_all is_no ks ≡ true → count_by is_no ks ≡ length ks
all-no-counted [] e = refl
all-no-counted (Yes ∷ ks) e = cc
all-no-counted (No ∷ ks) e = omega (arith, all-no-counted ks e, count-cons is_no No ks)
all-no-counted (Unknown ∷ ks) e = cc

one-alone : (y n h m : ℕ) → y ≤ h → h + n ≤ m → (b c : Bool) → (y == 1) ≡ b → (n + 1 == m) ≡ c → Agrees (cond (b && c) Yes Unknown) (h == 1)
one-alone y n h m few many true true e f = eq-eqb h 1 (omega (arith, eqb-true y 1 e, eqb-true (n + 1) m f))
one-alone y n h m few many true false e f = tt
one-alone y n h m few many false c e f = tt

one-step : (y n h m : ℕ) (none : Bool) → y ≤ h → h + n ≤ m → (none ≡ true → n ≡ m) → Agrees (cond (nat_le 2 y) No (cond none No (cond ((y == 1) && (n + 1 == m)) Yes Unknown))) (h == 1)
one-step y n h m none few many all_none =
    agrees-cond (nat_le 2 y) none (h == 1) No No (cond ((y == 1) && (n + 1 == m)) Yes Unknown)
    (λ e. ne_eqb h 1 (λ f. omega (arith, leb-true 2 y e)))
    (λ _ e. ne_eqb h 1 (λ f. omega (arith, all_none e)))
    (λ _ _. one-alone y n h m few many (y == 1) (n + 1 == m) refl refl)

module _ (space : Space) (path : List Step) (full : Full) where
  abbrev K : Cond → Known
  K = known space path

  abbrev H : Cond → Bool
  H = holds space full

  abbrev P : Cond → Type 0
  P c = Agrees (known space path c) (holds space full c)

  some-no : (parts : List Cond) → Each P parts → list_any is_no (map K parts) ≡ true → list_all (λ b. b) (map H parts) ≡ false
  some-no [] each e = cc
  some-no (x ∷ xs) each e = no-first (K x) (H x) _ _ each.0 (some-no xs each.1) e

  all-yes : (parts : List Cond) → Each P parts → list_all is_yes (map K parts) ≡ true → list_all (λ b. b) (map H parts) ≡ true
  all-yes [] each e = refl
  all-yes (x ∷ xs) each e = yes-first (K x) (H x) _ _ each.0 (all-yes xs each.1) e

  some-yes : (parts : List Cond) → Each P parts → list_any is_yes (map K parts) ≡ true → list_any (λ b. b) (map H parts) ≡ true
  some-yes [] each e = cc
  some-yes (x ∷ xs) each e = some-first (K x) (H x) _ _ each.0 (some-yes xs each.1) e

  all-no : (parts : List Cond) → Each P parts → list_all is_no (map K parts) ≡ true → list_any (λ b. b) (map H parts) ≡ false
  all-no [] each e = refl
  all-no (x ∷ xs) each e = none-first (K x) (H x) _ _ each.0 (all-no xs each.1) e

  yes-count : (parts : List Cond) → Each P parts → count_by is_yes (map K parts) ≤ count_by (λ b. b) (map H parts)
  yes-count [] each = omega arith
  yes-count (x ∷ xs) each = omega (arith, yes-counted (K x) (H x) (count_by is_yes (map K xs)) (count_by (λ b. b) (map H xs)) each.0 (yes-count xs each.1), count-cons is_yes (K x) (map K xs), count-cons (λ b. b) (H x) (map H xs))

  no-count : (parts : List Cond) → Each P parts → count_by (λ b. b) (map H parts) + count_by is_no (map K parts) ≤ length (map K parts)
  no-count [] each = omega arith
  no-count (x ∷ xs) each = omega (arith, no-counted (K x) (H x) (count_by (λ b. b) (map H xs)) (count_by is_no (map K xs)) (length (map K xs)) each.0 (no-count xs each.1), count-cons is_no (K x) (map K xs), count-cons (λ b. b) (H x) (map H xs))

  one-agrees : (parts : List Cond) → Each P parts → Agrees (one_known (map K parts)) (exactly_one (map H parts))
  one-agrees parts each =
      one-step (count_by is_yes (map K parts)) (count_by is_no (map K parts)) (count_by (λ b. b) (map H parts)) (length (map K parts)) (list_all is_no (map K parts)) (yes-count parts each) (no-count parts each) (all-no-counted (map K parts))

  cases : Within space path full → Cases-Cond P
  cases w = record {
    always = rw (known-Always space path, holds-Always space full) refl;
    never = rw (known-Never space path, holds-Never space full) refl;
    ext = λ name needs. rw (known-Ext space path name needs, holds-Ext space full name needs) (ext-agrees path 0 space.extensions full.extensions name needs w.extensions);
    param = λ name test given. rw (known-Param space path name test given, holds-Param space full name test given) (param-agrees path 0 space.params full.params name test given w.params);
    all = λ parts each. rw (known-All space path parts, holds-All space full parts) (agrees-cond (list_any is_no (map K parts)) (list_all is_yes (map K parts)) (list_all (λ b. b) (map H parts)) No Yes Unknown (some-no parts each) (λ _ e. all-yes parts each e) (λ _ _. tt));
    any = λ parts each. rw (known-Any space path parts, holds-Any space full parts) (agrees-cond (list_any is_yes (map K parts)) (list_all is_no (map K parts)) (list_any (λ b. b) (map H parts)) Yes No Unknown (some-yes parts each) (λ _ e. all-no parts each e) (λ _ _. tt));
    one = λ parts each. rw (known-One space path parts, holds-One space full parts) (one-agrees parts each);
    not = λ part at. rw (known-Not space path part, holds-Not space full part) (not-agrees (K part) (H part) at);
  }

  pub known-agrees : Within space path full → (cond : Cond) → Agrees (known space path cond) (holds space full cond)
  known-agrees w = induct-Cond P (cases w)

  pub known-yes : Within space path full → (cond : Cond) (k : Known) → k ≡ known space path cond → k ≡ Yes → holds space full cond ≡ true
  known-yes w c k is yes_ = subst (λ x. Agrees x (holds space full c)) (sym is ∙ yes_) (known-agrees w c)

  pub known-no : Within space path full → (cond : Cond) (k : Known) → k ≡ known space path cond → k ≡ No → holds space full cond ≡ false
  known-no w c k is no_ = subst (λ x. Agrees x (holds space full c)) (sym is ∙ no_) (known-agrees w c)
