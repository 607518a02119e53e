-- What the phases of an examination answer is the first breach of the tables, or that they are sound.
use Rattle.std.proofs.Common.{◌≡◌, ◌⊎◌, inl, inr, ℕ, ◌<◌, ◌≤◌, ◌==◌, nat_lt, ◌&&◌, ◌||◌, Bool, true, false, IsTrue, List, length, get_or, take, Option, Some, None, refl, sym, ap, subst, ◌∙◌, arith}
use Rattle.std.specs.List.{Contains, All}
use Rattle.std.specs.Cmp.Lexicographic.{bytes_decides}
use Rattle.std.proofs.lemmas.Bool.Decides.{nat_tests}
use Rattle.std.proofs.lemmas.List.{get_or_default, get_or-take, length-take-le}
use Rattle.udb_base.specs.declared.kinds.Kind.{Kind}
use Rattle.udb_base.specs.declared.rows.Row.{Row}
use Rattle.udb_base.specs.declared.spaces.Space.{Space}
use Rattle.udb_spec.specs.Conditions.{same_bytes}
use Rattle.udb_tables.specs.Order.{kind_place, key_lt, IsInOrder}
use Rattle.udb_tables.proofs.OrderLemmas.{kind_place-is, stands_before, one_place}
use Rattle.udb_entry.specs.declared.answers.Entry.{Entry}
use Rattle.udb_entry.specs.declared.answers.Breach.{Breach}
use Rattle.udb_entry.specs.Rules.{Lines}
use Rattle.udb_entry.specs.First.{breach, FirstBroken, Gives}
use Rattle.db_spec.specs.Kinds.{is_read_kind}
use Rattle.db_spec.specs.Rules.{Rule, rule_number, pass_of, names_are_known, some_full, has_completion}
use Rattle.db_spec.specs.Sites.{Site, entry, database, site_lt, same_site, is_before, is_earlier}
use Rattle.db_spec.specs.Entries.{kind_of, name_of, space_of, unconfigured, part_of}
use Rattle.db_spec.specs.Breaks.{Give, IsRowAt, AtRow, AtEntry, HasUnknownName, HasNoCompletion, LacksCompletion, Breaks}
use Rattle.db_spec.specs.First.{First, Sound, IsFirst, HasReadKinds, KeepsUpTo}
use Rattle.db_spec.proofs.RowLaws.{RowBreach, row_breach, gives_keeps, first_least, RowRule, first_breaks}
use Rattle.db_spec.proofs.EntryLaws.{gives_kind, gives_name, give_one, give_long, gives_at}
use Rattle.db_spec.proofs.LateLaws.{LateBreach, of_names, of_full, of_config, breach_way, first_pass, earlier, not_true}
use Rattle.db_spec.specs.declared.broken.Broken.{Broken}
use Rattle.udb_base.specs.declared.refutations.Partial.{Partial}
use Rattle.udb_base.specs.declared.kinds.Kind.TheVariants as kind
use Rattle.udb_entry.specs.declared.answers.Entry.TheVariants.{Extension, Param, Instruction, Csr, Functions, Config}
use Rattle.udb_db.specs.Databases.{IsDraft, HasKey, IsFound, FindsEntry, IsPartOf, FindsConfig}
use Rattle.udb_db.proofs.EarlyRules.{early_number}
use Rattle.udb_db.specs.declared.examining.Halt.{Halt}
use Rattle.udb_db.specs.declared.examining.Halt.TheVariants as halt
use Rattle.udb_db.specs.Phases.{IsFirstAt, IsBrokenAt, KnowsNames, IsCompleted, HasCompletion, TellsAt, IsHalt, IsEarlyHalt, part_in}

-- ---- earlier sites

before_by : (lt same b : Bool) → (lt || (same && b)) ≡ true → (lt ≡ true) ⊎ ((same ≡ true) × (b ≡ true))
before_by true same b h = inl refl
before_by false true b h = inr (refl, h)
before_by false false b h = absurd (cc)

before : (s : Site) (r : Rule) (site : Site) (rule : Rule) → is_before s r site rule ≡ true → (site_lt s site ≡ true) ⊎ ((same_site s site ≡ true) × (nat_lt (rule_number r) (rule_number rule) ≡ true))
before s r site rule h = before_by (site_lt s site) (same_site s site) (nat_lt (rule_number r) (rule_number rule)) h

lt_of : (p q : ℕ) → nat_lt p q ≡ true → p < q
lt_of p q h = grind (arith, nat_tests)

key_by : (j k : Kind) (n m : List ℕ) (a b : Bool) → (kind_place j == kind_place k) ≡ a → same_bytes n m ≡ b → (a && b) ≡ true → (j ≡ k) × (n ≡ m)
key_by j k n m true true e f h = (kind_place-is j k (grind (arith, nat_tests)), (bytes_decides n m).0 f)
key_by j k n m true false e f h = absurd (cc)
key_by j k n m false b e f h = absurd (cc)

key_of : (j k : Kind) (n m : List ℕ) → same_site (entry j n) (entry k m) ≡ true → (j ≡ k) × (n ≡ m)
key_of j k n m h = key_by j k n m (kind_place j == kind_place k) (same_bytes n m) refl refl h

-- the row at a place, of a kind and a name
pub record Placed (rows : List Row) (kind : Kind) (name : List ℕ) : Type 0 where
  pub place : ℕ
  pub row : Row
  pub within : place < length rows
  pub here : row ≡ get_or rows place row
  pub of_kind : row.kind ≡ kind
  pub of_name : row.name ≡ name

abbrev placed_row : (rows : List Row) (k : Kind) (n : List ℕ) (row : Row) → IsRowAt rows k n row → Placed rows k n
placed_row rows k n row at = record { place = at.among.0; row = row; within = at.among.1; here = sym at.among.2; of_kind = at.of_kind; of_name = at.of_name }

-- an earlier site is an earlier place
earlier_place : (rows : List Row) → IsInOrder rows → (k : Kind) (n : List ℕ) (p : Placed rows k n) (place : ℕ) (row : Row) → place < length rows → row ≡ get_or rows place row → site_lt (entry k n) (entry row.kind row.name) ≡ true → p.place < place
earlier_place rows o k n p place row lt is h =
    stands_before rows o p.place place p.row row p.within lt p.here is
    (subst (λ m. key_lt p.row.kind m row.kind row.name ≡ true) (sym p.of_name) (subst (λ j. key_lt j n row.kind row.name ≡ true) (sym p.of_kind) h))

-- the same site is the same place
same_place : (rows : List Row) → IsInOrder rows → (k : Kind) (n : List ℕ) (p : Placed rows k n) (place : ℕ) (row : Row) → place < length rows → row ≡ get_or rows place row → same_site (entry k n) (entry row.kind row.name) ≡ true → p.place ≡ place
same_place rows o k n p place row lt is h = let key = key_of k row.kind n row.name h in one_place rows o p.place place p.row row p.within lt p.here is (p.of_kind ∙ key.0) (p.of_name ∙ key.1)

-- ---- the texts

read_kind : (rows : List Row) → HasReadKinds rows → (row : Row) → Contains rows row → IsTrue (is_read_kind row.kind)
read_kind rows kinds row h = subst (λ (y : Row). IsTrue (is_read_kind y.kind)) h.2 (kinds h.0 row h.1)

row_kept : (rows : List Row) (es : List Entry) → HasReadKinds rows → (r : Rule) (l : Lines) (site : Site) → Give rows es → AtRow rows site (λ row. RowBreach row r l) → ⊥
row_kept rows es kinds r l database g h = h
row_kept rows es kinds r l (entry k n) g h =
    let at = gives_at rows es h.1.among.0 g h.1.among.1 in
    let same : at.row ≡ h.0 = at.row_is ∙ (get_or_default rows h.1.among.0 at.row h.0 h.1.among.1 ∙ h.1.among.2) in
    gives_keeps h.0 at.entry r l (read_kind rows kinds h.0 h.1.among) (subst (λ x. Gives x at.entry) same at.gives) h.2

pub texts_kept : (rows : List Row) (es : List Entry) → HasReadKinds rows → (site : Site) (r : Rule) (l : Lines) → Give rows es → Breaks rows site r l → pass_of r ≡ 1 → ⊥
texts_kept rows es kinds site r l g h p = row_kept rows es kinds r l site g (row_breach rows site r l p h)

row_earlier : (rows : List Row) → IsInOrder rows → HasReadKinds rows → (place : ℕ) (row : Row) (es : List Entry) → place < length rows → row ≡ get_or rows place row → Give (take place rows) es → (k : Kind) (n : List ℕ) (other : Row) (at : IsRowAt rows k n other) (r : Rule) (l : Lines) → RowBreach other r l → site_lt (entry k n) (entry row.kind row.name) ≡ true → ⊥
row_earlier rows o kinds place row es lt is g k n other at r l x h =
    let j = at.among.0 in
    let less : j < place = earlier_place rows o k n (placed_row rows k n other at) place row lt is h in
    let long : length (take place rows) ≡ place = length-take-le place rows (omega arith) in
    let gives = gives_at (take place rows) es j g (omega (arith, less, long)) in
    let same : gives.row ≡ other = gives.row_is ∙ (get_or-take place rows j gives.row less ∙ (get_or_default rows j gives.row other at.among.1 ∙ at.among.2)) in
    gives_keeps other gives.entry r l (read_kind rows kinds other at.among) (subst (λ y. Gives y gives.entry) same gives.gives) x

row_same : (rows : List Row) → IsInOrder rows → HasReadKinds rows → (place : ℕ) (row : Row) (b : Breach) → place < length rows → row ≡ get_or rows place row → FirstBroken row b → (k : Kind) (n : List ℕ) (other : Row) (at : IsRowAt rows k n other) (r : Rule) (l : Lines) → RowBreach other r l → same_site (entry k n) (entry row.kind row.name) ≡ true → rule_number r < b.rule → ⊥
row_same rows o kinds place row b lt is f k n other at r l x h less =
    let e : at.among.0 ≡ place = same_place rows o k n (placed_row rows k n other at) place row lt is h in
    let same : other ≡ row = sym at.among.2 ∙ (ap (λ i. get_or rows i other) e ∙ (get_or_default rows place other row lt ∙ sym is)) in
    first_least row b r l (read_kind rows kinds row (place, lt, sym is)) f (subst (λ y. RowBreach y r l) same x) less

row_before : (rows : List Row) → IsInOrder rows → HasReadKinds rows → (place : ℕ) (row : Row) (b : Breach) (es : List Entry) → place < length rows → row ≡ get_or rows place row → FirstBroken row b → Give (take place rows) es → (rule : Rule) → rule_number rule ≡ b.rule → (s : Site) (r : Rule) (l : Lines) → AtRow rows s (λ y. RowBreach y r l) → is_before s r (entry row.kind row.name) rule ≡ true → ⊥
row_before rows o kinds place row b es lt is f g rule num database r l h e = h
row_before rows o kinds place row b es lt is f g rule num (entry k n) r l h e =
    elim (before (entry k n) r (entry row.kind row.name) rule e) [
      | inl x ↦ row_earlier rows o kinds place row es lt is g k n h.0 h.1 r l h.2 x
      | inr x ↦ row_same rows o kinds place row b lt is f k n h.0 h.1 r l h.2 x.0 (subst (λ m. rule_number r < m) num (lt_of (rule_number r) (rule_number rule) x.1))
    ]

row_clash : (rows : List Row) → IsInOrder rows → HasReadKinds rows → (place : ℕ) (row : Row) (b : Breach) (es : List Entry) → place < length rows → row ≡ get_or rows place row → FirstBroken row b → Give (take place rows) es → (rule : Rule) → rule_number rule ≡ b.rule → pass_of rule ≡ 1 → (s : Site) (r : Rule) (l : Lines) → Breaks rows s r l → (pass_of r < pass_of rule) ⊎ ((pass_of r ≡ pass_of rule) × (is_before s r (entry row.kind row.name) rule ≡ true)) → ⊥
row_clash rows o kinds place row b es lt is f g rule num pass s r l h (inl less) = absurd (omega (arith, first_pass r))
row_clash rows o kinds place row b es lt is f g rule num pass s r l h (inr x) = row_before rows o kinds place row b es lt is f g rule num s r l (row_breach rows s r l (x.0 ∙ pass) h) x.1

pub row_first : (rows : List Row) → IsInOrder rows → HasReadKinds rows → (place : ℕ) (row : Row) (b : Breach) (es : List Entry) → place < length rows → row ≡ get_or rows place row → FirstBroken row b → Give (take place rows) es → (x : RowRule rows row b) → First rows (entry row.kind row.name) x.rule b.shows
row_first rows o kinds place row b es lt is f g x = record {
  breaks = x.breaks;
  least = λ s r l h. not_true (is_earlier s r (entry row.kind row.name) x.rule) (λ e. row_clash rows o kinds place row b es lt is f g x.rule x.number x.pass s r l h (earlier s r (entry row.kind row.name) x.rule e));
}

-- ---- the read entries

-- the entry of a site among those that the rows give, with what is said of it
pub record Found (rows : List Row) (es : List Entry) (kind : Kind) (name : List ℕ) (P : Space → Entry → Type 0) : Type 0 where
  pub at : Placed rows kind name
  pub one : Entry
  pub within : at.place < length es
  pub here : one ≡ get_or es at.place one
  pub is : P (space_of es) one

found_by : (rows : List Row) (es : List Entry) → HasReadKinds rows → Give rows es → (k : Kind) (n : List ℕ) (P : Space → Entry → Type 0) (e : Entry) (i : ℕ) → i < length es → get_or es i e ≡ e → kind_of e ≡ k → name_of e ≡ n → P (space_of es) e → Found rows es k n P
found_by rows es kinds g k n P e i lt is kind name p =
    let in_rows : i < length rows = omega (arith, give_long rows es g) in
    let x = gives_at rows es i g in_rows in
    let same : x.entry ≡ e = x.entry_is ∙ (get_or_default es i x.entry e lt ∙ is) in
    record {
      at = record { place = i; row = x.row; within = in_rows; here = x.row_is; of_kind = sym (gives_kind x.row x.entry x.gives) ∙ (ap kind_of same ∙ kind); of_name = sym (gives_name x.row x.entry x.gives) ∙ (ap name_of same ∙ name) };
      one = e;
      within = lt;
      here = sym is;
      is = p;
    }

pub found : (rows : List Row) (es : List Entry) → HasReadKinds rows → Give rows es → (k : Kind) (n : List ℕ) (P : Space → Entry → Type 0) → AtEntry rows (entry k n) P → Found rows es k n P
found rows es kinds g k n P h =
    let same : h.0 ≡ es = give_one rows h.0 es h.2.give g in
    found_by rows es kinds g k n P h.1 h.2.among.0 (subst (λ xs. h.2.among.0 < length xs) same h.2.among.1) (subst (λ xs. get_or xs h.2.among.0 h.1 ≡ h.1) same h.2.among.2) h.2.of_kind h.2.of_name (subst (λ xs. P (space_of xs) h.1) same h.3)

-- the entry at a place breaks a rule at the site of its row
pub entry_site : (rows : List Row) (es : List Entry) → HasReadKinds rows → Give rows es → (place : ℕ) (e : Entry) (row : Row) → place < length es → e ≡ get_or es place e → row ≡ get_or rows place row → (P : Space → Entry → Type 0) → P (space_of es) e → AtEntry rows (entry row.kind row.name) P
entry_site rows es kinds g place e row lt is here P p =
    let in_rows : place < length rows = omega (arith, give_long rows es g) in
    let x = gives_at rows es place g in_rows in
    let same : x.entry ≡ e = x.entry_is ∙ (get_or_default es place x.entry e lt ∙ sym is) in
    let same_row : x.row ≡ row = x.row_is ∙ (get_or_default rows place x.row row in_rows ∙ sym here) in
    (es, e, record { give = g; among = (place, lt, sym is); of_kind = sym (ap kind_of same) ∙ (gives_kind x.row x.entry x.gives ∙ ap (λ (y : Row). y.kind) same_row); of_name = sym (ap name_of same) ∙ (gives_name x.row x.entry x.gives ∙ ap (λ (y : Row). y.name) same_row) }, p)

at_front : (P : Entry → Type 0) (es : List Entry) (place j : ℕ) (e : Entry) → All P (take place es) → j < place → place ≤ length es → e ≡ get_or es j e → P e
at_front P es place j e all lt le is =
    let long : length (take place es) ≡ place = length-take-le place es le in
    let h = all j e (omega (arith, lt, long)) in
    subst P (get_or-take place es j e lt ∙ sym is) h

at_all : (P : Entry → Type 0) (es : List Entry) (j : ℕ) (e : Entry) → All P es → j < length es → e ≡ get_or es j e → P e
at_all P es j e all lt is = subst P (sym is) (all j e lt)

-- an entry that is named at an earlier site stands at an earlier place
entry_earlier : (rows : List Row) (es : List Entry) → IsInOrder rows → HasReadKinds rows → Give rows es → (place : ℕ) (row : Row) → place < length es → row ≡ get_or rows place row → (Q : Space → Entry → Type 0) → All (λ e. Q (space_of es) e → ⊥) (take place es) → (s : Site) (r rule : Rule) → rule_number r ≡ rule_number rule → AtEntry rows s Q → is_before s r (entry row.kind row.name) rule ≡ true → ⊥
entry_earlier rows es o kinds g place row lt here Q all database r rule num h e = h
entry_earlier rows es o kinds g place row lt here Q all (entry k n) r rule num h e =
    let in_rows : place < length rows = omega (arith, give_long rows es g) in
    let f = found rows es kinds g k n Q h in
    elim (before (entry k n) r (entry row.kind row.name) rule e) [
      | inl x ↦ at_front (λ d. Q (space_of es) d → ⊥) es place f.at.place f.one all (earlier_place rows o k n f.at place row in_rows here x) (omega arith) f.here f.is
      | inr x ↦ let less = lt_of (rule_number r) (rule_number rule) x.1 in absurd (omega (arith, less, num))
    ]

entry_all : (rows : List Row) (es : List Entry) → HasReadKinds rows → Give rows es → (Q : Space → Entry → Type 0) → All (λ e. Q (space_of es) e → ⊥) es → (s : Site) → AtEntry rows s Q → ⊥
entry_all rows es kinds g Q all database h = h
entry_all rows es kinds g Q all (entry k n) h = let f = found rows es kinds g k n Q h in at_all (λ d. Q (space_of es) d → ⊥) es f.at.place f.one all f.within f.here f.is

-- ---- names

abbrev Unknown : Lines → Space → Entry → Type 0
Unknown l space e = HasUnknownName space e l

abbrev Lacking : Lines → Space → Entry → Type 0
Lacking l space e = LacksCompletion space e l

known_front : (es : List Entry) (n : ℕ) (l : Lines) → All (KnowsNames (space_of es)) (take n es) → All (λ e. HasUnknownName (space_of es) e l → ⊥) (take n es)
known_front es n l all k d lt h = all k d lt l h

known_all : (es : List Entry) (l : Lines) → All (KnowsNames (space_of es)) es → All (λ e. HasUnknownName (space_of es) e l → ⊥) es
known_all es l all k d lt h = all k d lt l h

completed_front : (es : List Entry) (n : ℕ) (l : Lines) → All (IsCompleted (space_of es)) (take n es) → All (λ e. LacksCompletion (space_of es) e l → ⊥) (take n es)
completed_front es n l all k d lt h = all k d lt l h

completed_all : (es : List Entry) (l : Lines) → All (IsCompleted (space_of es)) es → All (λ e. LacksCompletion (space_of es) e l → ⊥) es
completed_all es l all k d lt h = all k d lt l h

names_late : (rows : List Row) (es : List Entry) → IsInOrder rows → HasReadKinds rows → Give rows es → (place : ℕ) (row : Row) → place < length es → row ≡ get_or rows place row → All (KnowsNames (space_of es)) (take place es) → (s : Site) (r : Rule) (l : Lines) → LateBreach rows s r l → (pass_of r < 2) ⊎ ((pass_of r ≡ 2) × (is_before s r (entry row.kind row.name) names_are_known ≡ true)) → ⊥
names_late rows es o kinds g place row lt here all s r l (of_names is h) (inl x) = absurd (omega (arith, x, ap pass_of is))
names_late rows es o kinds g place row lt here all s r l (of_names is h) (inr x) = entry_earlier rows es o kinds g place row lt here (Unknown l) (known_front es place l all) s r names_are_known (ap rule_number is) h x.1
names_late rows es o kinds g place row lt here all s r l (of_full is h) (inl x) = absurd (omega (arith, x, ap pass_of is))
names_late rows es o kinds g place row lt here all s r l (of_full is h) (inr x) = absurd (omega (arith, x.0, ap pass_of is))
names_late rows es o kinds g place row lt here all s r l (of_config is h) (inl x) = absurd (omega (arith, x, ap pass_of is))
names_late rows es o kinds g place row lt here all s r l (of_config is h) (inr x) = absurd (omega (arith, x.0, ap pass_of is))

names_clash : (rows : List Row) (es : List Entry) → IsInOrder rows → HasReadKinds rows → Give rows es → (place : ℕ) (row : Row) → place < length es → row ≡ get_or rows place row → All (KnowsNames (space_of es)) (take place es) → (s : Site) (r : Rule) (l : Lines) → Breaks rows s r l → (pass_of r ≡ 1) ⊎ LateBreach rows s r l → (pass_of r < 2) ⊎ ((pass_of r ≡ 2) × (is_before s r (entry row.kind row.name) names_are_known ≡ true)) → ⊥
names_clash rows es o kinds g place row lt here all s r l h (inl p) x = texts_kept rows es kinds s r l g h p
names_clash rows es o kinds g place row lt here all s r l h (inr late) x = names_late rows es o kinds g place row lt here all s r l late x

pub names_first : (rows : List Row) (es : List Entry) → IsInOrder rows → HasReadKinds rows → Give rows es → (place : ℕ) (row : Row) (shows : Lines) → row ≡ get_or rows place row → IsFirstAt (KnowsNames (space_of es)) (λ e. HasUnknownName (space_of es) e shows) es place → First rows (entry row.kind row.name) names_are_known shows
names_first rows es o kinds g place row shows here f = record {
  breaks = entry_site rows es kinds g place f.one row f.within f.here here (Unknown shows) f.is;
  least = λ s r l h. not_true (is_earlier s r (entry row.kind row.name) names_are_known) (λ e. names_clash rows es o kinds g place row f.within here f.before s r l h (breach_way rows s r l h) (earlier s r (entry row.kind row.name) names_are_known e));
}

-- ---- full configurations

full_site : (s : Site) (r : Rule) → is_before s r database some_full ≡ true → rule_number r < 22
full_site s r h = elim (before s r database some_full h) [ inl x ↦ absurd (none_before s x) | inr x ↦ lt_of (rule_number r) 22 x.1 ]
  where
    none_before : (s : Site) → site_lt s database ≡ true → ⊥
    none_before database x = cc
    none_before (entry k n) x = cc

full_late : (rows : List Row) (es : List Entry) → HasReadKinds rows → Give rows es → All (KnowsNames (space_of es)) es → (s : Site) (r : Rule) (l : Lines) → LateBreach rows s r l → (pass_of r < 5) ⊎ ((pass_of r ≡ 5) × (is_before s r database some_full ≡ true)) → ⊥
full_late rows es kinds g all s r l (of_names is h) x = entry_all rows es kinds g (Unknown l) (known_all es l all) s h
full_late rows es kinds g all s r l (of_full is h) (inl x) = absurd (omega (arith, x, ap pass_of is))
full_late rows es kinds g all s r l (of_full is h) (inr x) = absurd (omega (arith, full_site s r x.1, ap rule_number is))
full_late rows es kinds g all s r l (of_config is h) (inl x) = absurd (omega (arith, x, ap pass_of is))
full_late rows es kinds g all s r l (of_config is h) (inr x) = absurd (omega (arith, full_site s r x.1, ap rule_number is))

full_clash : (rows : List Row) (es : List Entry) → HasReadKinds rows → Give rows es → All (KnowsNames (space_of es)) es → (s : Site) (r : Rule) (l : Lines) → Breaks rows s r l → (pass_of r ≡ 1) ⊎ LateBreach rows s r l → (pass_of r < 5) ⊎ ((pass_of r ≡ 5) × (is_before s r database some_full ≡ true)) → ⊥
full_clash rows es kinds g all s r l h (inl p) x = texts_kept rows es kinds s r l g h p
full_clash rows es kinds g all s r l h (inr late) x = full_late rows es kinds g all s r l late x

pub full_first : (rows : List Row) (es : List Entry) → HasReadKinds rows → Give rows es → All (KnowsNames (space_of es)) es → (shows : Lines) → HasNoCompletion (space_of es) unconfigured shows → First rows database some_full shows
full_first rows es kinds g all shows none = record {
  breaks = (es, g, none);
  least = λ s r l h. not_true (is_earlier s r database some_full) (λ e. full_clash rows es kinds g all s r l h (breach_way rows s r l h) (earlier s r database some_full e));
}

-- ---- configurations

abbrev NoneFull : List Row → Site → Lines → Type 0
NoneFull rows s l = (es : List Entry) → Give rows es → HasCompletion (space_of es) unconfigured → Breaks rows s some_full l → ⊥

no_full : (rows : List Row) (s : Site) (l : Lines) → NoneFull rows s l
no_full rows database l es g c h = let same : h.0 ≡ es = give_one rows h.0 es h.1 g in let none : HasNoCompletion (space_of es) unconfigured l = subst (λ xs. HasNoCompletion (space_of xs) unconfigured l) same h.2 in none.none c.0 c.1
no_full rows (entry k n) l es g c h = h

configs_late : (rows : List Row) (es : List Entry) → IsInOrder rows → HasReadKinds rows → Give rows es → All (KnowsNames (space_of es)) es → HasCompletion (space_of es) unconfigured → (place : ℕ) (row : Row) → place < length es → row ≡ get_or rows place row → All (IsCompleted (space_of es)) (take place es) → (s : Site) (r : Rule) (l : Lines) → LateBreach rows s r l → (pass_of r < 5) ⊎ ((pass_of r ≡ 5) × (is_before s r (entry row.kind row.name) has_completion ≡ true)) → ⊥
configs_late rows es o kinds g all full place row lt here done s r l (of_names is h) x = entry_all rows es kinds g (Unknown l) (known_all es l all) s h
configs_late rows es o kinds g all full place row lt here done s r l (of_full is h) x = no_full rows s l es g full h
configs_late rows es o kinds g all full place row lt here done s r l (of_config is h) (inl x) = absurd (omega (arith, x, ap pass_of is))
configs_late rows es o kinds g all full place row lt here done s r l (of_config is h) (inr x) = entry_earlier rows es o kinds g place row lt here (Lacking l) (completed_front es place l done) s r has_completion (ap rule_number is) h x.1

configs_clash : (rows : List Row) (es : List Entry) → IsInOrder rows → HasReadKinds rows → Give rows es → All (KnowsNames (space_of es)) es → HasCompletion (space_of es) unconfigured → (place : ℕ) (row : Row) → place < length es → row ≡ get_or rows place row → All (IsCompleted (space_of es)) (take place es) → (s : Site) (r : Rule) (l : Lines) → Breaks rows s r l → (pass_of r ≡ 1) ⊎ LateBreach rows s r l → (pass_of r < 5) ⊎ ((pass_of r ≡ 5) × (is_before s r (entry row.kind row.name) has_completion ≡ true)) → ⊥
configs_clash rows es o kinds g all full place row lt here done s r l h (inl p) x = texts_kept rows es kinds s r l g h p
configs_clash rows es o kinds g all full place row lt here done s r l h (inr late) x = configs_late rows es o kinds g all full place row lt here done s r l late x

pub configs_first : (rows : List Row) (es : List Entry) → IsInOrder rows → HasReadKinds rows → Give rows es → All (KnowsNames (space_of es)) es → HasCompletion (space_of es) unconfigured → (place : ℕ) (row : Row) (shows : Lines) → row ≡ get_or rows place row → IsFirstAt (IsCompleted (space_of es)) (λ e. LacksCompletion (space_of es) e shows) es place → First rows (entry row.kind row.name) has_completion shows
configs_first rows es o kinds g all full place row shows here f = record {
  breaks = entry_site rows es kinds g place f.one row f.within f.here here (Lacking shows) f.is;
  least = λ s r l h. not_true (is_earlier s r (entry row.kind row.name) has_completion) (λ e. configs_clash rows es o kinds g all full place row f.within here f.before s r l h (breach_way rows s r l h) (earlier s r (entry row.kind row.name) has_completion e));
}

-- ---- sound tables

sound_late : (rows : List Row) (es : List Entry) → HasReadKinds rows → Give rows es → All (KnowsNames (space_of es)) es → HasCompletion (space_of es) unconfigured → All (IsCompleted (space_of es)) es → (s : Site) (r : Rule) (l : Lines) → LateBreach rows s r l → ⊥
sound_late rows es kinds g all full done s r l (of_names is h) = entry_all rows es kinds g (Unknown l) (known_all es l all) s h
sound_late rows es kinds g all full done s r l (of_full is h) = no_full rows s l es g full h
sound_late rows es kinds g all full done s r l (of_config is h) = entry_all rows es kinds g (Lacking l) (completed_all es l done) s h

sound_by : (rows : List Row) (es : List Entry) → HasReadKinds rows → Give rows es → All (KnowsNames (space_of es)) es → HasCompletion (space_of es) unconfigured → All (IsCompleted (space_of es)) es → (s : Site) (r : Rule) (l : Lines) → Breaks rows s r l → (pass_of r ≡ 1) ⊎ LateBreach rows s r l → ⊥
sound_by rows es kinds g all full done s r l h (inl p) = texts_kept rows es kinds s r l g h p
sound_by rows es kinds g all full done s r l h (inr late) = sound_late rows es kinds g all full done s r l late

pub sound : (rows : List Row) (es : List Entry) → HasReadKinds rows → Give rows es → All (KnowsNames (space_of es)) es → HasCompletion (space_of es) unconfigured → All (IsCompleted (space_of es)) es → Sound rows
sound rows es kinds g all full done s r l h = sound_by rows es kinds g all full done s r l h (breach_way rows s r l h)

-- ---- the same as it is told

one_row : (rows : List Row) (place : ℕ) (a b : Row) → place < length rows → a ≡ get_or rows place a → b ≡ get_or rows place b → a ≡ b
one_row rows place a b lt p q = p ∙ (get_or_default rows place a b lt ∙ sym q)

told_at : (row other : Row) (n m : ℕ) (shows : Lines) (b : Broken) → row ≡ other → n ≡ m → b ≡ record { kind = Some row.kind; name = Some row.name; rule = n; shows = shows } → b ≡ record { kind = Some other.kind; name = Some other.name; rule = m; shows = shows }
told_at row other n m shows b e f is =
    let P : Row → ℕ → Type 0 = λ x k. b ≡ record { kind = Some x.kind; name = Some x.name; rule = k; shows = shows } in
    subst (λ k. P other k) f (subst (λ x. P x n) e is)

halt_row : (rows : List Row) → IsInOrder rows → HasReadKinds rows → (place rule : ℕ) (shows : Lines) (h : Halt) → IsBrokenAt rows place rule shows → TellsAt rows place rule shows h → IsHalt rows h
halt_row rows o kinds place rule shows halt.Memory x t = tt
halt_row rows o kinds place rule shows (halt.Broken b) x t =
    let among : Contains rows x.broken = (place, x.within, sym x.here) in
    let r = first_breaks rows x.broken (breach rule shows) (read_kind rows kinds x.broken among) among x.first in
    record {
      site = entry x.broken.kind x.broken.name;
      rule = r.rule;
      shows = shows;
      first = row_first rows o kinds place x.broken (breach rule shows) x.before.0 x.within x.here x.first x.before.1 r;
      is = told_at t.row x.broken rule (rule_number r.rule) shows b (one_row rows place t.row x.broken x.within t.here x.here) (sym r.number) t.is;
    }

halt_names : (rows : List Row) (es : List Entry) (space : Space) → IsInOrder rows → HasReadKinds rows → Give rows es → space ≡ space_of es → (place : ℕ) (shows : Lines) (h : Halt) → IsFirstAt (KnowsNames space) (λ e. HasUnknownName space e shows) es place → TellsAt rows place 10 shows h → IsHalt rows h
halt_names rows es space o kinds g is place shows halt.Memory x t = tt
halt_names rows es space o kinds g is place shows (halt.Broken b) x t =
    let y : IsFirstAt (KnowsNames (space_of es)) (λ e. HasUnknownName (space_of es) e shows) es place = subst (λ s. IsFirstAt (KnowsNames s) (λ e. HasUnknownName s e shows) es place) is x in
    record { site = entry t.row.kind t.row.name; rule = names_are_known; shows = shows; first = names_first rows es o kinds g place t.row shows t.here y; is = t.is }

-- what is told by an early rule
early_told : (rows : List Row) (place rule : ℕ) (shows : Lines) (h : Halt) → rule ≤ 12 → TellsAt rows place rule shows h → IsHalt rows h → IsEarlyHalt rows h
early_told rows place rule shows halt.Memory le t x = tt
early_told rows place rule shows (halt.Broken b) le t x = (x, subst (λ n. n ≤ 12) (sym (ap (λ (y : Broken). y.rule) t.is)) le)

pub early_row : (rows : List Row) → IsInOrder rows → HasReadKinds rows → (place rule : ℕ) (shows : Lines) (h : Halt) → IsBrokenAt rows place rule shows → TellsAt rows place rule shows h → IsEarlyHalt rows h
early_row rows o kinds place rule shows h x t =
    let among : Contains rows x.broken = (place, x.within, sym x.here) in
    let r = first_breaks rows x.broken (breach rule shows) (read_kind rows kinds x.broken among) among x.first in
    early_told rows place rule shows h (subst (λ n. n ≤ 12) r.number (early_number r.rule r.pass)) t (halt_row rows o kinds place rule shows h x t)

pub early_names : (rows : List Row) (es : List Entry) (space : Space) → IsInOrder rows → HasReadKinds rows → Give rows es → space ≡ space_of es → (place : ℕ) (shows : Lines) (h : Halt) → IsFirstAt (KnowsNames space) (λ e. HasUnknownName space e shows) es place → TellsAt rows place 10 shows h → IsEarlyHalt rows h
early_names rows es space o kinds g is place shows h x t = early_told rows place 10 shows h (omega arith) t (halt_names rows es space o kinds g is place shows h x t)

pub halt_full : (rows : List Row) (es : List Entry) (space : Space) → HasReadKinds rows → Give rows es → space ≡ space_of es → All (KnowsNames space) es → (shows : Lines) → HasNoCompletion space unconfigured shows → IsFirst rows (record { kind = None; name = None; rule = 22; shows = shows })
halt_full rows es space kinds g is all shows none = record {
  site = database;
  rule = some_full;
  shows = shows;
  first = full_first rows es kinds g (subst (λ s. All (KnowsNames s) es) is all) shows (subst (λ s. HasNoCompletion s unconfigured shows) is none);
  is = refl;
}

pub halt_configs : (rows : List Row) (es : List Entry) (space : Space) → IsInOrder rows → HasReadKinds rows → Give rows es → space ≡ space_of es → All (KnowsNames space) es → HasCompletion space unconfigured → (place : ℕ) (shows : Lines) (h : Halt) → IsFirstAt (IsCompleted space) (λ e. LacksCompletion space e shows) es place → TellsAt rows place 23 shows h → IsHalt rows h
halt_configs rows es space o kinds g is all full place shows halt.Memory x t = tt
halt_configs rows es space o kinds g is all full place shows (halt.Broken b) x t =
    let y : IsFirstAt (IsCompleted (space_of es)) (λ e. LacksCompletion (space_of es) e shows) es place = subst (λ s. IsFirstAt (IsCompleted s) (λ e. LacksCompletion s e shows) es place) is x in
    record {
      site = entry t.row.kind t.row.name;
      rule = has_completion;
      shows = shows;
      first = configs_first rows es o kinds g (subst (λ s. All (KnowsNames s) es) is all) (subst (λ s. HasCompletion s unconfigured) is full) place t.row shows t.here y;
      is = t.is;
    }

pub sound_at : (rows : List Row) (es : List Entry) (space : Space) → HasReadKinds rows → Give rows es → space ≡ space_of es → All (KnowsNames space) es → HasCompletion space unconfigured → All (IsCompleted space) es → Sound rows
sound_at rows es space kinds g is all full done = sound rows es kinds g (subst (λ s. All (KnowsNames s) es) is all) (subst (λ s. HasCompletion s unconfigured) is full) (subst (λ s. All (IsCompleted s) es) is done)

-- ---- the rules up to 12

kept_late : (rows : List Row) (es : List Entry) → HasReadKinds rows → Give rows es → All (KnowsNames (space_of es)) es → (s : Site) (r : Rule) (l : Lines) → rule_number r ≤ 12 → LateBreach rows s r l → ⊥
kept_late rows es kinds g all s r l le (of_names is h) = entry_all rows es kinds g (Unknown l) (known_all es l all) s h
kept_late rows es kinds g all s r l le (of_full is h) = absurd (omega (arith, le, ap rule_number is))
kept_late rows es kinds g all s r l le (of_config is h) = absurd (omega (arith, le, ap rule_number is))

kept_way : (rows : List Row) (es : List Entry) → HasReadKinds rows → Give rows es → All (KnowsNames (space_of es)) es → (s : Site) (r : Rule) (l : Lines) → rule_number r ≤ 12 → Breaks rows s r l → (pass_of r ≡ 1) ⊎ LateBreach rows s r l → ⊥
kept_way rows es kinds g all s r l le h (inl p) = texts_kept rows es kinds s r l g h p
kept_way rows es kinds g all s r l le h (inr late) = kept_late rows es kinds g all s r l le late

pub kept_at : (rows : List Row) (es : List Entry) (space : Space) → HasReadKinds rows → Give rows es → space ≡ space_of es → All (KnowsNames space) es → KeepsUpTo 12 rows
kept_at rows es space kinds g is all s r l le h = kept_way rows es kinds g (subst (λ s. All (KnowsNames s) es) is all) s r l le h (breach_way rows s r l h)

-- each entry names what there is
pub known_names : (rows : List Row) (es : List Entry) (space : Space) → HasReadKinds rows → Give rows es → KeepsUpTo 12 rows → space ≡ space_of es → All (KnowsNames space) es
known_names rows es space kinds g kept is k e lt shows h =
    let one : Entry = get_or es k e in
    let in_rows : k < length rows = omega (arith, lt, give_long rows es g) in
    let x = gives_at rows es k g in_rows in
    kept (entry x.row.kind x.row.name) names_are_known shows (omega arith)
    (entry_site rows es kinds g k one x.row lt (get_or_default es k e one lt) x.row_is (Unknown shows) (subst (λ s. HasUnknownName s one shows) is h))

pub names_kept : (rows : List Row) (es : List Entry) (space : Space) → IsDraft rows es space → All (KnowsNames space) es
names_kept rows es space d = known_names rows es space d.kinds d.give d.kept d.space_is

-- ---- entries by their keys

found_none : (rows : List Row) (es : List Entry) → HasReadKinds rows → Give rows es → (k : Kind) (n : List ℕ) → All (λ e. HasKey k n e → ⊥) es → (row : Row) → IsRowAt rows k n row → ⊥
found_none rows es kinds g k n none row at =
    let x = gives_at rows es at.among.0 g at.among.1 in
    let same : x.row ≡ row = x.row_is ∙ (get_or_default rows at.among.0 x.row row at.among.1 ∙ at.among.2) in
    let key : HasKey k n x.entry = (gives_kind x.row x.entry x.gives ∙ (ap (λ (y : Row). y.kind) same ∙ at.of_kind), gives_name x.row x.entry x.gives ∙ (ap (λ (y : Row). y.name) same ∙ at.of_name)) in
    none at.among.0 x.entry x.in_entries (subst (λ y. HasKey k n y) x.entry_is key)

pub finds_entry : (rows : List Row) (es : List Entry) (space : Space) (k : Kind) (n : List ℕ) (o : Option Entry) → IsDraft rows es space → IsFound k n es o → FindsEntry rows k n o
finds_entry rows es space k n None d f = found_none rows es d.kinds d.give k n f
finds_entry rows es space k n (Some e) d f = (es, record { give = d.give; among = f.0; of_kind = f.1.0; of_name = f.1.1 })

config_by : (rows : List Row) (es : List Entry) (space : Space) (n : List ℕ) (e : Entry) → IsDraft rows es space → Contains es e → HasKey kind.Config n e → FindsConfig rows n (part_in space e)
config_by rows es space n (Extension x) d among key = let k = key.0 in absurd (cc)
config_by rows es space n (Param x) d among key = let k = key.0 in absurd (cc)
config_by rows es space n (Instruction x) d among key = let k = key.0 in absurd (cc)
config_by rows es space n (Csr x) d among key = let k = key.0 in absurd (cc)
config_by rows es space n (Functions x) d among key = let k = key.0 in absurd (cc)
config_by rows es space n (Config x) d among key = (es, x, record { give = d.give; among = among; of_kind = refl; of_name = key.1 }, ap (λ s. part_of s x) d.space_is)

pub finds_config : (rows : List Row) (es : List Entry) (space : Space) (n : List ℕ) (o : Option Entry) (part : Option Partial) → IsDraft rows es space → IsFound kind.Config n es o → IsPartOf space o part → FindsConfig rows n part
finds_config rows es space n None part d f is = subst (FindsConfig rows n) (sym is) (found_none rows es d.kinds d.give kind.Config n f)
finds_config rows es space n (Some e) part d f is = subst (FindsConfig rows n) (sym is) (config_by rows es space n e d f.0 f.1)
