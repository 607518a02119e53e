-- A parameter of the width lists widths, where an entry that depends on it keeps the rule on names.
use Rattle.std.proofs.Common.{◌≡◌, ℕ, ◌+◌, ◌<◌, nat_lt, Bool, true, false, IsTrue, List, [], ◌∷◌, length, get_or, take, refl, sym, ap, subst, ◌∙◌, arith}
use Rattle.std.specs.List.{Contains, AllPairs, Any, flat_map, list_all}
use Rattle.std.proofs.lemmas.Bool.Decides.{nat_tests}
use Rattle.std.proofs.lemmas.List.{get_or_default}
use Rattle.std.proofs.lemmas.List.Concat.{get_or-flat_map}
use Rattle.std.proofs.lemmas.List.Folds.{length-flat_map-take}
use Rattle.udb_base.specs.declared.kinds.Kind.TheVariants as kind
use Rattle.udb_base.specs.declared.rows.Row.{Row}
use Rattle.udb_base.specs.declared.spaces.Domain.{Domain}
use Rattle.udb_base.specs.declared.spaces.Domain.TheVariants.{Flags, Numbers, Range, Words}
use Rattle.udb_base.specs.declared.spaces.ParamSpace.{ParamSpace}
use Rattle.udb_base.specs.declared.spaces.Space.{Space}
use Rattle.udb_spec.specs.Lawful.{name_lt, ListsWidths}
use Rattle.udb_lawful.specs.Tests.{is_width}
use Rattle.udb_lawful.proofs.Lists.{widths-decide}
use Rattle.udb_lawful.proofs.Rising.{pair-of}
use Rattle.udb_tables.proofs.OrderLemmas.{same_key_lt}
use Rattle.entry_tree.specs.declared.ParamEntry.{ParamEntry}
use Rattle.manual_spec.specs.Entries.{param_space}
use Rattle.udb_entry.specs.declared.answers.Entry.{Entry}
use Rattle.udb_entry.specs.declared.answers.Entry.TheVariants.{Param}
use Rattle.db_spec.specs.Entries.{width_name, IsWidths}
use Rattle.db_spec.specs.Breaks.{no_width}
use Rattle.udb_db.specs.Phases.{KnowsNames, param_spaces_in}

abbrev pub ParamBefore : ParamSpace → ParamSpace → Type 0
ParamBefore a b = IsTrue (name_lt a.name b.name)

abbrev row_of : List ℕ → Row
row_of n = record { kind = kind.Extension; name = n; text = [] }

not_itself : (n : List ℕ) → IsTrue (name_lt n n) → ⊥
not_itself n h = same_key_lt (row_of n) (row_of n) refl refl h

below : (i j : ℕ) → nat_lt i j ≡ true → i < j
below i j h = grind (arith, nat_tests)

one_place : (i j : ℕ) → nat_lt i j ≡ false → nat_lt j i ≡ false → i ≡ j
one_place i j h g = grind (arith, nat_tests)

one_by : (ps : List ParamSpace) → AllPairs ParamBefore ps → (i j : ℕ) (p q : ParamSpace) → i < length ps → j < length ps → p ≡ get_or ps i p → q ≡ get_or ps j q → p.name ≡ q.name → (b c : Bool) → nat_lt i j ≡ b → nat_lt j i ≡ c → p ≡ q
one_by ps all i j p q lt less here there same true c e f = absurd (not_itself q.name (subst (λ n. IsTrue (name_lt n q.name)) same (pair-of ParamBefore ps i j p q (below i j e) less here there all)))
one_by ps all i j p q lt less here there same false true e f = absurd (not_itself q.name (subst (λ n. IsTrue (name_lt q.name n)) same (pair-of ParamBefore ps j i q p (below j i f) lt there here all)))
one_by ps all i j p q lt less here there same false false e f = here ∙ (ap (λ k. get_or ps k p) (one_place i j e f) ∙ (get_or_default ps j p q less ∙ sym there))

widths_by : (ps : List ParamSpace) → AllPairs ParamBefore ps → (x : ParamSpace) → Contains ps x → x.name ≡ width_name → Any IsWidths ps → ListsWidths x.domain
widths_by ps all x among name has =
    let w : IsWidths has.1 = has.4 in
    let one : has.1 ≡ x = one_by ps all has.0 among.0 has.1 x has.2 among.1 (sym has.3) (sym among.2) (w.0 ∙ sym name) (nat_lt has.0 among.0) (nat_lt among.0 has.0) refl refl in
    subst (λ (y : ParamSpace). ListsWidths y.domain) one w.1

numbers_by : (ns : List ℕ) (b : Bool) → list_all is_width ns ≡ b → ((ListsWidths (Numbers ns) → ⊥) → ⊥) → ListsWidths (Numbers ns)
numbers_by ns true e h = (widths-decide ns).0 e
numbers_by ns false e h = absurd (h (λ all. (let t : true ≡ false = sym ((widths-decide ns).1 all) ∙ e in absurd (cc))))

lists_by : (d : Domain) → ((ListsWidths d → ⊥) → ⊥) → ListsWidths d
lists_by Flags h = h (λ x. x)
lists_by (Numbers ns) h = numbers_by ns (list_all is_width ns) refl h
lists_by (Range low high) h = h (λ x. x)
lists_by (Words ws) h = h (λ x. x)

pub param_among : (es : List Entry) (k : ℕ) (x : ParamEntry) → k < length es → get_or es k (Param x) ≡ Param x → Contains (flat_map param_spaces_in es) (param_space x)
param_among es k x lt is =
    let here : param_spaces_in (get_or es k (Param x)) ≡ param_space x ∷ [] = ap param_spaces_in is in
    let long : length (param_spaces_in (get_or es k (Param x))) ≡ 1 = ap length here in
    (length (flat_map param_spaces_in (take k es)) + 0, omega (arith, length-flat_map-take param_spaces_in es k (Param x) lt, long), get_or-flat_map param_spaces_in es k 0 (Param x) (param_space x) lt (omega (arith, long)) ∙ ap (λ l. get_or l 0 (param_space x)) here)

pub param_widths : (space : Space) (x : ParamEntry) → KnowsNames space (Param x) → AllPairs ParamBefore space.params → Contains space.params (param_space x) → x.name ≡ width_name → ListsWidths x.domain
param_widths space x known rise among name = lists_by x.domain (λ not. known (width_name ∷ []) (no_width name (λ has. not (widths_by space.params rise (param_space x) among name has)) refl))
