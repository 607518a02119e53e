-- What is answered of tables: exactly one of the causes holds.
use Rattle.std.proofs.Common.{◌≡◌, inl, inr, ℕ, ◌≤◌, ◌==◌, nat_lt, ◌&&◌, ◌||◌, Bool, true, false, List, [], Result, Ok, Err, refl, sym, ap, subst, ◌∙◌, arith}
use Rattle.std.specs.Ordering.{is_lt, ordering_reverse}
use Rattle.std.specs.declared.cmp.Ordering.{Ordering}
use Rattle.std.specs.declared.cmp.Ordering.TheVariants.{Less, Equal, Greater}
use Rattle.std.specs.Cmp.Lexicographic.{bytes_decides}
use Rattle.std.proofs.lemmas.Bool.Decides.{nat_tests}
use Rattle.udb_base.specs.declared.kinds.Kind.{Kind}
use Rattle.udb_base.specs.declared.rows.Row.{Row}
use Rattle.udb_spec.specs.Conditions.{same_bytes}
use Rattle.udb_tables.specs.Order.{kind_place, row_lt, row_cmp}
use Rattle.udb_tables.proofs.OrderLemmas.{row_total, row_lt-cmp, tie_is}
use Rattle.udb_entry.specs.Rules.{Lines}
use Rattle.db_spec.specs.declared.broken.Broken.{Broken}
use Rattle.db_spec.specs.Rules.{Rule, rule_number, pass_of}
use Rattle.db_spec.specs.Sites.{Site, entry, database, site_lt, same_site, is_before, is_earlier}
use Rattle.db_spec.specs.Breaks.{Give}
use Rattle.db_spec.specs.First.{First, Sound, HasReadKinds, told, IsFirst, KeepsUpTo}
use Rattle.udb_db.specs.declared.accepting.AcceptFault.{AcceptFault}
use Rattle.udb_db.specs.declared.accepting.AcceptFault.TheVariants as fault
use Rattle.udb_db.specs.declared.accepting.Examined.{Examined}
use Rattle.udb_db.specs.Databases.{IsDraft}
use Rattle.udb_db.specs.Accepts.{IsSuccess, IsSameBreach, IsRefusal, IsAccepted, IsOpened, IsWhole}

-- ---- one first breach

abbrev row_at : Kind → List ℕ → Row
row_at k n = record { kind = k; name = n; text = [] }

tie_by : (a b : Row) (o : Ordering) → row_cmp a b ≡ o → row_lt a b ≡ false → row_lt b a ≡ false → (a.kind ≡ b.kind) × (a.name ≡ b.name)
tie_by a b Less e h g = let t : true ≡ false = sym (ap is_lt e) ∙ (row_lt-cmp a b ∙ h) in absurd (cc)
tie_by a b Equal e h g = tie_is a b e
tie_by a b Greater e h g = let t : true ≡ false = sym (ap is_lt (row_total.antisymm b a ∙ ap ordering_reverse e)) ∙ (row_lt-cmp b a ∙ g) in absurd (cc)

site_same : (s t : Site) → site_lt s t ≡ false → site_lt t s ≡ false → s ≡ t
site_same database database h g = refl
site_same database (entry k n) h g = absurd (cc)
site_same (entry k n) database h g = absurd (cc)
site_same (entry k n) (entry j m) h g = let key = tie_by (row_at k n) (row_at j m) (row_cmp (row_at k n) (row_at j m)) refl h g in ap (λ i. entry i n) key.0 ∙ ap (λ i. entry j i) key.1

bytes_same : (n : List ℕ) → same_bytes n n ≡ true
bytes_same n = (bytes_decides n n).1 refl

itself_by : (k : ℕ) (b : Bool) → b ≡ true → ((k == k) && b) ≡ true
itself_by k b h = grind (arith, nat_tests)

site_itself : (s : Site) → same_site s s ≡ true
site_itself database = refl
site_itself (entry k n) = itself_by (kind_place k) (same_bytes n n) (bytes_same n)

or_left : (a b : Bool) → (a || b) ≡ false → a ≡ false
or_left false b h = refl
or_left true b h = absurd (cc)

or_right : (a b : Bool) → (a || b) ≡ false → b ≡ false
or_right false b h = h
or_right true b h = absurd (cc)

and_right : (a b : Bool) → a ≡ true → (a && b) ≡ false → b ≡ false
and_right true b h g = g
and_right false b h g = absurd (cc)

nat_same : (n m : ℕ) → nat_lt n m ≡ false → nat_lt m n ≡ false → n ≡ m
nat_same n m h g = grind (arith, nat_tests)

eq_true : (n m : ℕ) → n ≡ m → (n == m) ≡ true
eq_true n m h = grind (arith, nat_tests)

pass_same : (s t : Site) (r q : Rule) → is_earlier s r t q ≡ false → is_earlier t q s r ≡ false → pass_of r ≡ pass_of q
pass_same s t r q h g = nat_same (pass_of r) (pass_of q) (or_left _ _ h) (or_left _ _ g)

not_before : (s t : Site) (r q : Rule) → pass_of r ≡ pass_of q → is_earlier s r t q ≡ false → is_before s r t q ≡ false
not_before s t r q p h = and_right (pass_of r == pass_of q) (is_before s r t q) (eq_true (pass_of r) (pass_of q) p) (or_right (nat_lt (pass_of r) (pass_of q)) _ h)

number_by : (s : Site) (r q : Rule) → is_before s r s q ≡ false → nat_lt (rule_number r) (rule_number q) ≡ false
number_by s r q h = and_right (same_site s s) (nat_lt (rule_number r) (rule_number q)) (site_itself s) (or_right (site_lt s s) _ h)

pub record IsOne (s t : Site) (r q : Rule) : Type 0 where
  pub site : s ≡ t
  pub number : rule_number r ≡ rule_number q

pub one_first : (rows : List Row) (s t : Site) (r q : Rule) (l m : Lines) → First rows s r l → First rows t q m → IsOne s t r q
one_first rows s t r q l m f g =
    let h = f.least t q m g.breaks in
    let i = g.least s r l f.breaks in
    let p = pass_same s t r q i h in
    let a = not_before s t r q p i in
    let b = not_before t s q r (sym p) h in
    let site : s ≡ t = site_same s t (or_left _ _ a) (or_left _ _ b) in
    record {
      site = site;
      number = nat_same (rule_number r) (rule_number q) (number_by t r q (subst (λ x. is_before x r t q ≡ false) site a)) (number_by t q r (subst (λ x. is_before t q x r ≡ false) site b));
    }

told_kind : (s : Site) (r q : Rule) (l m : Lines) → (told s r l).kind ≡ (told s q m).kind
told_kind database r q l m = refl
told_kind (entry k n) r q l m = refl

told_name : (s : Site) (r q : Rule) (l m : Lines) → (told s r l).name ≡ (told s q m).name
told_name database r q l m = refl
told_name (entry k n) r q l m = refl

told_rule : (s : Site) (r : Rule) (l : Lines) → (told s r l).rule ≡ rule_number r
told_rule database r l = refl
told_rule (entry k n) r l = refl

same_told : (a b : Broken) (s t : Site) (r q : Rule) (l m : Lines) → a ≡ told s r l → b ≡ told t q m → IsOne s t r q → IsSameBreach a b
same_told a b s t r q l m e f one = record {
  kind = ap (λ (x : Broken). x.kind) e ∙ (ap (λ x. (told x r l).kind) one.site ∙ (told_kind t r q l m ∙ sym (ap (λ (x : Broken). x.kind) f)));
  name = ap (λ (x : Broken). x.name) e ∙ (ap (λ x. (told x r l).name) one.site ∙ (told_name t r q l m ∙ sym (ap (λ (x : Broken). x.name) f)));
  rule = ap (λ (x : Broken). x.rule) e ∙ (told_rule s r l ∙ (one.number ∙ (sym (told_rule t q m) ∙ sym (ap (λ (x : Broken). x.rule) f))));
}

pub same_breach : (rows : List Row) (a b : Broken) → IsFirst rows a → IsFirst rows b → IsSameBreach a b
same_breach rows a b f g = same_told a b f.site g.site f.rule g.rule f.shows g.shows f.is g.is (one_first rows f.site g.site f.rule g.rule f.shows g.shows f.first g.first)

-- ---- answers

pub sound_success : (rows : List Row) (r : Result (List Row) AcceptFault) → IsAccepted rows r → Sound rows → IsSuccess rows r
sound_success rows (Ok ts) a s = inl (ap Ok a.0)
sound_success rows (Err (fault.Memory ts)) a s = inr (ap (λ x. Err (fault.Memory x)) a)
sound_success rows (Err (fault.Broken b ts)) a s = absurd (s a.0.site a.0.rule a.0.shows a.0.first.breaks)

pub first_refusal : (rows : List Row) (r : Result (List Row) AcceptFault) (b : Broken) → IsAccepted rows r → IsFirst rows b → IsRefusal rows b r
first_refusal rows (Ok ts) b a f = absurd (a.1 f.site f.rule f.shows f.first.breaks)
first_refusal rows (Err (fault.Memory ts)) b a f = a
first_refusal rows (Err (fault.Broken c ts)) b a f = (same_breach rows c b a.0 f, a.1)

pub answer_is : (rows : List Row) (r s : Result (List Row) AcceptFault) → IsAccepted rows r → r ≡ s → IsAccepted rows s
answer_is rows r s a e = subst (IsAccepted rows) e a

-- ---- answers up to 12

early_rule : (rows : List Row) (b : Broken) (f : IsFirst rows b) → b.rule ≤ 12 → rule_number f.rule ≤ 12
early_rule rows b f le = subst (λ n. n ≤ 12) (ap (λ (x : Broken). x.rule) f.is ∙ told_rule f.site f.rule f.shows) le

pub kept_success : (rows : List Row) (r : Result (List Row) AcceptFault) → IsOpened rows r → KeepsUpTo 12 rows → IsSuccess rows r
kept_success rows (Ok ts) a k = inl (ap Ok a.0)
kept_success rows (Err (fault.Memory ts)) a k = inr (ap (λ x. Err (fault.Memory x)) a)
kept_success rows (Err (fault.Broken b ts)) a k = absurd (k a.0.site a.0.rule a.0.shows (early_rule rows b a.0 a.1) a.0.first.breaks)

pub early_refusal : (rows : List Row) (r : Result (List Row) AcceptFault) (b : Broken) → IsOpened rows r → IsFirst rows b → b.rule ≤ 12 → IsRefusal rows b r
early_refusal rows (Ok ts) b a f le = absurd (a.1 f.site f.rule f.shows (early_rule rows b f le) f.first.breaks)
early_refusal rows (Err (fault.Memory ts)) b a f le = a
early_refusal rows (Err (fault.Broken c ts)) b a f le = (same_breach rows c b a.0 f, a.2)

pub opened_is : (rows : List Row) (r s : Result (List Row) AcceptFault) → IsOpened rows r → r ≡ s → IsOpened rows s
opened_is rows r s a e = subst (IsOpened rows) e a

-- ---- drafts

pub draft_of : (tables rows : List Row) (x : Examined) → rows ≡ tables → HasReadKinds tables → IsWhole rows x → IsDraft tables x.entries x.space
draft_of tables rows x same kinds whole = record {
  kinds = kinds;
  give = subst (λ r. Give r x.entries) same whole.give;
  kept = subst (KeepsUpTo 12) same whole.kept;
  space_is = whole.space;
  lawful = whole.lawful;
}

pub opened_whole : (tables rows : List Row) (x : Examined) → rows ≡ tables → IsWhole rows x → KeepsUpTo 12 tables
opened_whole tables rows x same whole = subst (KeepsUpTo 12) same whole.kept
