-- The rules on the text of one row: the first broken one, and none where the row gives an entry.
use Rattle.std.proofs.Common.{◌≡◌, ◌⊎◌, inl, inr, ℕ, ◌<◌, ◌≤◌, Bool, true, false, IsTrue, codes, List, [], ◌∷◌, Option, Some, None, refl, sym, ap, subst, ◌∙◌, arith}
use Rattle.std.specs.List.{Contains}
use Rattle.yaml_spec.specs.declared.tree.Tree.{Tree}
use Rattle.yaml_spec.specs.declared.tree.Mark.{Mark}
use Rattle.yaml_spec.specs.Texts.{lines_of, Spelled}
use Rattle.yaml_spec.proofs.Whole.{spells_one, least_none}
use Rattle.udb_base.specs.declared.kinds.Kind.{Kind}
use Rattle.udb_base.specs.declared.kinds.Kind.TheVariants as kind
use Rattle.udb_base.specs.declared.rows.Row.{Row}
use Rattle.udb_schema.specs.declared.words.Word.{Word}
use Rattle.udb_schema.specs.declared.words.Schema.{Schema}
use Rattle.udb_schema.specs.Meets.{meets}
use Rattle.udb_schema.specs.Faults.{FirstFault}
use Rattle.udb_schema.proofs.MeetLemmas.{one_refutes}
use Rattle.udb_entry.specs.declared.answers.Entry.{Entry}
use Rattle.udb_entry.specs.declared.answers.Breach.{Breach}
use Rattle.entry_form.specs.Forms.{schema_of}
use Rattle.udb_entry.specs.Rules.{Lines, name_rule, alphabet_rule, or_later, domain_rule, condition_rule, members_rule, implemented_rule}
use Rattle.udb_entry.specs.First.{fault_line, word_text, breach, broken, or_else, first_of, kind_breach, first_breach, FirstBroken, unspelled, unfit, wrong, Gives}
use Rattle.db_spec.specs.Rules.{Rule, rule_number, pass_of, is_spelled, meets_schema, has_name, has_alphabet, versions_rise, domain_is_sound, encodings_are_formed, conditions_are_read, bodies_are_read, names_are_known, functions_are_declared_once, addresses_are_apart, words_are_known, kinds_fit, widths_fit, slices_fit, parts_are_present, cost_is_bounded, order_is_kept, encodings_are_apart, fields_are_apart, some_full, has_completion}
use Rattle.db_spec.specs.Kinds.{is_read_kind, kind_version_rule, kind_domain_rule, kind_condition_rule}
use Rattle.db_spec.specs.Sites.{Site, entry, database}
use Rattle.db_spec.specs.Breaks.{IsRowAt, AtRow, IsUnspelled, IsUnfit, BreaksTree, HasWrongEncoding, HasUnreadBody, Breaks}

-- ---- what a row breaks, in three ways

abbrev pub tree_rule : Row → Rule → Tree → Option Lines
tree_rule row has_name t = name_rule row.name t
tree_rule row has_alphabet t = alphabet_rule row.kind t
tree_rule row versions_rise t = kind_version_rule row.kind t
tree_rule row domain_is_sound t = kind_domain_rule row.kind t
tree_rule row conditions_are_read t = kind_condition_rule row.kind t
tree_rule row _ t = None

pub data RowBreach (row : Row) (r : Rule) (shows : Lines) : Type 0 where
  spelling : rule_number r ≡ 1 → IsUnspelled row shows → RowBreach row r shows
  schema : rule_number r ≡ 2 → IsUnfit row shows → RowBreach row r shows
  on_tree : 3 ≤ rule_number r → BreaksTree row (tree_rule row r) shows → RowBreach row r shows

no_encoding : (k : Kind) (row : Row) (l : Lines) → HasWrongEncoding k row l → ⊥
no_encoding kind.Extension row l h = h
no_encoding kind.Parameter row l h = h
no_encoding kind.Instruction row l h = h
no_encoding kind.Csr row l h = h
no_encoding kind.Functions row l h = h
no_encoding kind.Config row l h = h

no_body : (k : Kind) (row : Row) (l : Lines) → HasUnreadBody k row l → ⊥
no_body kind.Extension row l h = h
no_body kind.Parameter row l h = h
no_body kind.Instruction row l h = h
no_body kind.Csr row l h = h
no_body kind.Functions row l h = h
no_body kind.Config row l h = h

row_by : (rows : List Row) (site : Site) (P Q : Row → Type 0) → ((row : Row) → P row → Q row) → AtRow rows site P → AtRow rows site Q
row_by rows database P Q f h = absurd h
row_by rows (entry k n) P Q f h = (h.0, h.1, f h.0 h.2)

pub row_breach : (rows : List Row) (site : Site) (r : Rule) (l : Lines) → pass_of r ≡ 1 → Breaks rows site r l → AtRow rows site (λ row. RowBreach row r l)
row_breach rows site is_spelled l p h = row_by rows site (λ row. IsUnspelled row l) (λ row. RowBreach row is_spelled l) (λ row x. spelling refl x) h
row_breach rows site meets_schema l p h = row_by rows site (λ row. IsUnfit row l) (λ row. RowBreach row meets_schema l) (λ row x. schema refl x) h
row_breach rows site has_name l p h = row_by rows site (λ row. BreaksTree row (name_rule row.name) l) (λ row. RowBreach row has_name l) (λ row x. on_tree (omega arith) x) h
row_breach rows site has_alphabet l p h = row_by rows site (λ row. BreaksTree row (alphabet_rule row.kind) l) (λ row. RowBreach row has_alphabet l) (λ row x. on_tree (omega arith) x) h
row_breach rows site versions_rise l p h = row_by rows site (λ row. BreaksTree row (kind_version_rule row.kind) l) (λ row. RowBreach row versions_rise l) (λ row x. on_tree (omega arith) x) h
row_breach rows site domain_is_sound l p h = row_by rows site (λ row. BreaksTree row (kind_domain_rule row.kind) l) (λ row. RowBreach row domain_is_sound l) (λ row x. on_tree (omega arith) x) h
row_breach rows site encodings_are_formed l p h = row_by rows site (λ row. HasWrongEncoding row.kind row l) (λ row. RowBreach row encodings_are_formed l) (λ row x. absurd (no_encoding row.kind row l x)) h
row_breach rows site conditions_are_read l p h = row_by rows site (λ row. BreaksTree row (kind_condition_rule row.kind) l) (λ row. RowBreach row conditions_are_read l) (λ row x. on_tree (omega arith) x) h
row_breach rows site bodies_are_read l p h = row_by rows site (λ row. HasUnreadBody row.kind row l) (λ row. RowBreach row bodies_are_read l) (λ row x. absurd (no_body row.kind row l x)) h
row_breach rows site names_are_known l p h = absurd (omega arith)
row_breach rows site functions_are_declared_once l p h = absurd (omega arith)
row_breach rows site addresses_are_apart l p h = absurd (omega arith)
row_breach rows site words_are_known l p h = absurd (omega arith)
row_breach rows site kinds_fit l p h = absurd (omega arith)
row_breach rows site widths_fit l p h = absurd (omega arith)
row_breach rows site slices_fit l p h = absurd (omega arith)
row_breach rows site parts_are_present l p h = absurd (omega arith)
row_breach rows site cost_is_bounded l p h = absurd (omega arith)
row_breach rows site order_is_kept l p h = absurd (omega arith)
row_breach rows site encodings_are_apart l p h = absurd (omega arith)
row_breach rows site fields_are_apart l p h = absurd (omega arith)
row_breach rows site some_full l p h = absurd (omega arith)
row_breach rows site has_completion l p h = absurd (omega arith)

-- ---- the first of the rules on a tree

abbrev Rules : Type 0
Rules = List (ℕ × Option Lines)

first_none : (n : ℕ) (o : Option Lines) (rs : Rules) → first_of ((n, o) ∷ rs) ≡ None → (o ≡ None) × (first_of rs ≡ None)
first_none n None rs e = (refl, e)
first_none n (Some s) rs e = absurd (cc)

first_some : (n : ℕ) (o : Option Lines) (rs : Rules) (b : Breach) → first_of ((n, o) ∷ rs) ≡ Some b → ((n ≡ b.rule) × (o ≡ Some b.shows)) ⊎ ((o ≡ None) × (first_of rs ≡ Some b))
first_some n None rs b e = inr (refl, e)
first_some n (Some s) rs b e = let is : breach n s ≡ b = cc in inl (ap (λ (x : Breach). x.rule) is, ap (λ (x : Breach). Some x.shows) is)

-- the rules of a kind that is examined, from a number on
abbrev from_8 : Kind → Tree → Rules
from_8 k t = (8, kind_condition_rule k t) ∷ []

abbrev from_6 : Kind → Tree → Rules
from_6 k t = (6, kind_domain_rule k t) ∷ from_8 k t

abbrev from_5 : Kind → Tree → Rules
from_5 k t = (5, kind_version_rule k t) ∷ from_6 k t

abbrev from_4 : Kind → Tree → Rules
from_4 k t = (4, alphabet_rule k t) ∷ from_5 k t

abbrev pub rules_of : Row → Tree → Rules
rules_of row t = (3, name_rule row.name t) ∷ from_4 row.kind t

two_read : (a b : Option Lines) → or_else (broken 8 a) (or_else (broken 8 b) None) ≡ or_else (broken 8 (or_later a b)) None
two_read None b = refl
two_read (Some s) b = refl

three_read : (a b c : Option Lines) → or_else (broken 8 a) (or_else (broken 8 b) (or_else (broken 8 c) None)) ≡ or_else (broken 8 (or_later a (or_later b c))) None
three_read None b c = two_read b c
three_read (Some s) b c = refl

kind_is : (k : Kind) (t : Tree) → IsTrue (is_read_kind k) → kind_breach k t ≡ first_of (from_5 k t)
kind_is kind.Extension t h = refl
kind_is kind.Parameter t h =
    ap (or_else (broken 6 (domain_rule t))) (two_read (condition_rule t (codes "definedBy")) (condition_rule t (codes "requirements")))
kind_is kind.Instruction t h = absurd (cc)
kind_is kind.Csr t h = absurd (cc)
kind_is kind.Functions t h = absurd (cc)
kind_is kind.Config t h =
    three_read (members_rule t (codes "mandatory_extensions")) (members_rule t (codes "prohibited_extensions")) (implemented_rule t (codes "implemented_extensions"))

first_is : (row : Row) (t : Tree) → IsTrue (is_read_kind row.kind) → first_breach row t ≡ first_of (rules_of row t)
first_is row t h = ap (λ b. or_else (broken 3 (name_rule row.name t)) (or_else (broken 4 (alphabet_rule row.kind t)) b)) (kind_is row.kind t h)

none_4 : (row : Row) (t : Tree) → first_of (rules_of row t) ≡ None → first_of (from_4 row.kind t) ≡ None
none_4 row t e = (first_none 3 (name_rule row.name t) (from_4 row.kind t) e).1

none_5 : (row : Row) (t : Tree) → first_of (rules_of row t) ≡ None → first_of (from_5 row.kind t) ≡ None
none_5 row t e = (first_none 4 (alphabet_rule row.kind t) (from_5 row.kind t) (none_4 row t e)).1

none_6 : (row : Row) (t : Tree) → first_of (rules_of row t) ≡ None → first_of (from_6 row.kind t) ≡ None
none_6 row t e = (first_none 5 (kind_version_rule row.kind t) (from_6 row.kind t) (none_5 row t e)).1

none_8 : (row : Row) (t : Tree) → first_of (rules_of row t) ≡ None → first_of (from_8 row.kind t) ≡ None
none_8 row t e = (first_none 6 (kind_domain_rule row.kind t) (from_8 row.kind t) (none_6 row t e)).1

none_at : (row : Row) (r : Rule) (t : Tree) → first_of (rules_of row t) ≡ None → tree_rule row r t ≡ None
none_at row has_name t e = (first_none 3 (name_rule row.name t) (from_4 row.kind t) e).0
none_at row has_alphabet t e = (first_none 4 (alphabet_rule row.kind t) (from_5 row.kind t) (none_4 row t e)).0
none_at row versions_rise t e = (first_none 5 (kind_version_rule row.kind t) (from_6 row.kind t) (none_5 row t e)).0
none_at row domain_is_sound t e = (first_none 6 (kind_domain_rule row.kind t) (from_8 row.kind t) (none_6 row t e)).0
none_at row conditions_are_read t e = (first_none 8 (kind_condition_rule row.kind t) [] (none_8 row t e)).0
none_at row _ t e = refl

-- each number is at least n
abbrev From : ℕ → Rules → Type 0
From n [] = Unit {0}
From n ((m, o) ∷ rs) = (n ≤ m) × From n rs

abbrev Rising : Rules → Type 0
Rising [] = Unit {0}
Rising ((n, o) ∷ rs) = From n rs × Rising rs

-- nothing is shown at a number below n
abbrev NoneBelow : ℕ → Rules → Type 0
NoneBelow n [] = Unit {0}
NoneBelow n ((m, o) ∷ rs) = (m < n → o ≡ None) × NoneBelow n rs

none_from : (n m : ℕ) (rs : Rules) → n ≤ m → From m rs → NoneBelow n rs
none_from n m [] h f = tt
none_from n m ((k, o) ∷ rs) h f = (λ lt. absurd (omega (arith, f.0)), none_from n m rs h f.1)

none_below : (rs : Rules) (b : Breach) → Rising rs → first_of rs ≡ Some b → NoneBelow b.rule rs
none_below [] b h e = tt
none_below ((n, None) ∷ rs) b h e = (λ lt. refl, none_below rs b h.1 e)
none_below ((n, Some s) ∷ rs) b h e = let is : breach n s ≡ b = cc in let at : n ≡ b.rule = ap (λ (x : Breach). x.rule) is in (λ lt. absurd (omega arith), none_from b.rule n rs (omega arith) h.0)

rules_rise : (row : Row) (t : Tree) → Rising (rules_of row t)
rules_rise row t = ((omega arith, (omega arith, (omega arith, (omega arith, tt)))), ((omega arith, (omega arith, (omega arith, tt))), ((omega arith, (omega arith, tt)), ((omega arith, tt), (tt, tt)))))

below_at : (row : Row) (r : Rule) (t : Tree) (b : Breach) → first_of (rules_of row t) ≡ Some b → rule_number r < b.rule → tree_rule row r t ≡ None
below_at row has_name t b e lt = (none_below (rules_of row t) b (rules_rise row t) e).0 lt
below_at row has_alphabet t b e lt = (none_below (rules_of row t) b (rules_rise row t) e).1.0 lt
below_at row versions_rise t b e lt = (none_below (rules_of row t) b (rules_rise row t) e).1.1.0 lt
below_at row domain_is_sound t b e lt = (none_below (rules_of row t) b (rules_rise row t) e).1.1.1.0 lt
below_at row conditions_are_read t b e lt = (none_below (rules_of row t) b (rules_rise row t) e).1.1.1.1.0 lt
below_at row _ t b e lt = refl

-- ---- a row that gives an entry breaks none of them

met_refuted : (s : Schema) (t x : Tree) (p : List ℕ) (u : Word) → t ≡ x → FirstFault (s ∷ []) t p u → meets s x ≡ true → ⊥
met_refuted s t x p u same h m = let e : false ≡ true = sym (one_refutes h) ∙ (ap (meets s) same ∙ m) in absurd (cc)

shown_none : (row : Row) (r : Rule) (t x : Tree) (l : Lines) → t ≡ x → tree_rule row r x ≡ None → tree_rule row r t ≡ Some l → ⊥
shown_none row r t x l same h g = let e : Some l ≡ None = sym g ∙ (ap (tree_rule row r) same ∙ h) in absurd (cc)

pub gives_keeps : (row : Row) (e : Entry) (r : Rule) (l : Lines) → IsTrue (is_read_kind row.kind) → Gives row e → RowBreach row r l → ⊥
gives_keeps row e r l k g (spelling n x) = least_none (lines_of row.text) x.line g.tree x.least g.spelled
gives_keeps row e r l k g (schema n x) = met_refuted (schema_of row.kind) x.tree g.tree x.path x.word (spells_one (lines_of row.text) x.tree g.tree x.spelled g.spelled) x.fault g.meets_schema
gives_keeps row e r l k g (on_tree n x) = shown_none row r x.tree g.tree l (spells_one (lines_of row.text) x.tree g.tree x.spelled g.spelled) (none_at row r g.tree (sym (first_is row g.tree k) ∙ g.unbroken)) x.broken

-- ---- the first that a row breaks

at_rule : (b : Breach) (n : ℕ) (l : Lines) → b ≡ breach n l → b.rule ≡ n
at_rule b n l e = ap (λ (x : Breach). x.rule) e

pub first_least : (row : Row) (b : Breach) (r : Rule) (l : Lines) → IsTrue (is_read_kind row.kind) → FirstBroken row b → RowBreach row r l → rule_number r < b.rule → ⊥
first_least row b r l read (unspelled n o h g e) (spelling k x) lt = absurd (omega (arith, at_rule b _ _ e))
first_least row b r l read (unspelled n o h g e) (schema k x) lt = absurd (omega (arith, at_rule b _ _ e))
first_least row b r l read (unspelled n o h g e) (on_tree k x) lt = absurd (omega (arith, at_rule b _ _ e))
first_least row b r l read (unfit t p u s h e) (spelling k x) lt = least_none (lines_of row.text) x.line t x.least s
first_least row b r l read (unfit t p u s h e) (schema k x) lt = absurd (omega (arith, at_rule b _ _ e))
first_least row b r l read (unfit t p u s h e) (on_tree k x) lt = absurd (omega (arith, at_rule b _ _ e))
first_least row b r l read (wrong t s m h) (spelling k x) lt = least_none (lines_of row.text) x.line t x.least s
first_least row b r l read (wrong t s m h) (schema k x) lt = met_refuted (schema_of row.kind) x.tree t x.path x.word (spells_one (lines_of row.text) x.tree t x.spelled s) x.fault m
first_least row b r l read (wrong t s m h) (on_tree k x) lt = shown_none row r x.tree t l (spells_one (lines_of row.text) x.tree t x.spelled s) (below_at row r t b (sym (first_is row t read) ∙ h) lt) x.broken

-- ---- and it is broken in the tables

pub record RowRule (rows : List Row) (row : Row) (b : Breach) : Type 0 where
  pub rule : Rule
  pub number : rule_number rule ≡ b.rule
  pub pass : pass_of rule ≡ 1
  pub breaks : Breaks rows (entry row.kind row.name) rule b.shows

at_row : (rows : List Row) (row : Row) → Contains rows row → IsRowAt rows row.kind row.name row
at_row rows row h = record { among = h; of_kind = refl; of_name = refl }

empty_none : (b : Breach) → first_of [] ≡ Some b → ⊥
empty_none b e = cc

from_rule_8 : (rows : List Row) (row : Row) (b : Breach) → Contains rows row → (t : Tree) → Spelled row.text t → meets (schema_of row.kind) t ≡ true → (((8 ≡ b.rule) × (kind_condition_rule row.kind t ≡ Some b.shows)) ⊎ ((kind_condition_rule row.kind t ≡ None) × (first_of [] ≡ Some b))) → RowRule rows row b
from_rule_8 rows row b h t s m (inl x) = record { rule = conditions_are_read; number = x.0; pass = refl; breaks = (row, at_row rows row h, record { tree = t; spelled = s; fits = m; broken = x.1 }) }
from_rule_8 rows row b h t s m (inr x) = absurd (empty_none b x.1)

from_rule_6 : (rows : List Row) (row : Row) (b : Breach) → Contains rows row → (t : Tree) → Spelled row.text t → meets (schema_of row.kind) t ≡ true → (((6 ≡ b.rule) × (kind_domain_rule row.kind t ≡ Some b.shows)) ⊎ ((kind_domain_rule row.kind t ≡ None) × (first_of (from_8 row.kind t) ≡ Some b))) → RowRule rows row b
from_rule_6 rows row b h t s m (inl x) = record { rule = domain_is_sound; number = x.0; pass = refl; breaks = (row, at_row rows row h, record { tree = t; spelled = s; fits = m; broken = x.1 }) }
from_rule_6 rows row b h t s m (inr x) = from_rule_8 rows row b h t s m (first_some 8 (kind_condition_rule row.kind t) [] b x.1)

from_rule_5 : (rows : List Row) (row : Row) (b : Breach) → Contains rows row → (t : Tree) → Spelled row.text t → meets (schema_of row.kind) t ≡ true → (((5 ≡ b.rule) × (kind_version_rule row.kind t ≡ Some b.shows)) ⊎ ((kind_version_rule row.kind t ≡ None) × (first_of (from_6 row.kind t) ≡ Some b))) → RowRule rows row b
from_rule_5 rows row b h t s m (inl x) = record { rule = versions_rise; number = x.0; pass = refl; breaks = (row, at_row rows row h, record { tree = t; spelled = s; fits = m; broken = x.1 }) }
from_rule_5 rows row b h t s m (inr x) = from_rule_6 rows row b h t s m (first_some 6 (kind_domain_rule row.kind t) (from_8 row.kind t) b x.1)

from_rule_4 : (rows : List Row) (row : Row) (b : Breach) → Contains rows row → (t : Tree) → Spelled row.text t → meets (schema_of row.kind) t ≡ true → (((4 ≡ b.rule) × (alphabet_rule row.kind t ≡ Some b.shows)) ⊎ ((alphabet_rule row.kind t ≡ None) × (first_of (from_5 row.kind t) ≡ Some b))) → RowRule rows row b
from_rule_4 rows row b h t s m (inl x) = record { rule = has_alphabet; number = x.0; pass = refl; breaks = (row, at_row rows row h, record { tree = t; spelled = s; fits = m; broken = x.1 }) }
from_rule_4 rows row b h t s m (inr x) = from_rule_5 rows row b h t s m (first_some 5 (kind_version_rule row.kind t) (from_6 row.kind t) b x.1)

from_rule_3 : (rows : List Row) (row : Row) (b : Breach) → Contains rows row → (t : Tree) → Spelled row.text t → meets (schema_of row.kind) t ≡ true → (((3 ≡ b.rule) × (name_rule row.name t ≡ Some b.shows)) ⊎ ((name_rule row.name t ≡ None) × (first_of (from_4 row.kind t) ≡ Some b))) → RowRule rows row b
from_rule_3 rows row b h t s m (inl x) = record { rule = has_name; number = x.0; pass = refl; breaks = (row, at_row rows row h, record { tree = t; spelled = s; fits = m; broken = x.1 }) }
from_rule_3 rows row b h t s m (inr x) = from_rule_4 rows row b h t s m (first_some 4 (alphabet_rule row.kind t) (from_5 row.kind t) b x.1)

pub first_breaks : (rows : List Row) (row : Row) (b : Breach) → IsTrue (is_read_kind row.kind) → Contains rows row → FirstBroken row b → RowRule rows row b
first_breaks rows row b read h (unspelled n o l m e) = record {
  rule = is_spelled;
  number = sym (at_rule b _ _ e);
  pass = refl;
  breaks = (row, at_row rows row h, record { line = n; mark = o; least = l; has_mark = m; shown = ap (λ (x : Breach). x.shows) e });
}
first_breaks rows row b read h (unfit t p u s f e) = record {
  rule = meets_schema;
  number = sym (at_rule b _ _ e);
  pass = refl;
  breaks = (row, at_row rows row h, record { tree = t; spelled = s; path = p; word = u; fault = f; shown = ap (λ (x : Breach). x.shows) e });
}
first_breaks rows row b read h (wrong t s m f) = from_rule_3 rows row b h t s m (first_some 3 (name_rule row.name t) (from_4 row.kind t) b (sym (first_is row t read) ∙ f))
