-- An extension whose row breaks no rule lists its versions in rising order.
use Rattle.std.proofs.Common.{◌≡◌, ℕ, zero, suc, Bool, true, false, IsTrue, List, [], ◌∷◌, get_or, map, Option, Some, None, refl, sym, ap, subst, arith, if◌then◌else◌}
use Rattle.std.specs.List.{All, AllPairs}
use Rattle.std.specs.Option.{unwrap_or}
use Rattle.std.specs.Prelude.{codes, option_map}
use Rattle.std.proofs.lemmas.List.Kept.{AllPairs-cons}
use Rattle.yaml_spec.specs.declared.tree.Tree.{Tree}
use Rattle.udb_base.specs.declared.kinds.Kind.{Kind}
use Rattle.udb_base.specs.declared.kinds.Kind.TheVariants as kind
use Rattle.udb_base.specs.declared.rows.Row.{Row}
use Rattle.udb_base.specs.declared.versions.Version.{Version}
use Rattle.udb_base.specs.declared.versions.Listed.{Listed}
use Rattle.udb_spec.specs.Versions.{version_lt}
use Rattle.udb_lawful.proofs.Rising.{version-trans}
use Rattle.udb_entry.specs.declared.answers.Entry.{Entry}
use Rattle.udb_entry.specs.declared.answers.Entry.TheVariants.{Extension, Param, Instruction, Csr, Functions, Config}
use Rattle.udb_entry.specs.Keys.{items_at}
use Rattle.udb_entry.specs.Entries.{version_text, version_in, no_version, listed_of, entry_of}
use Rattle.udb_entry.specs.Rules.{one_line, name_rule, alphabet_rule, version_rule, follows, first_wrong}
use Rattle.udb_entry.specs.First.{kind_breach, first_breach, Gives}
use Rattle.db_spec.proofs.EntryLaws.{both_kept}

abbrev IsBelow : Listed → Listed → Type 0
IsBelow a b = IsTrue (version_lt a.version b.version)

abbrev IsAbove : Version → Listed → Type 0
IsAbove u l = IsTrue (version_lt u l.version)

abbrev Rises : Version → List Tree → Type 0
Rises u xs = All (IsAbove u) (map listed_of xs) × AllPairs IsBelow (map listed_of xs)

none : {X : Type 0} (P : X → Type 0) → All P []
none P k d lt = absurd (omega (arith, lt))

no_pairs : {X : Type 0} (R : X → X → Type 0) → AllPairs R []
no_pairs R i j d less lt = absurd (omega (arith, lt))

all_cons : {X : Type 0} (P : X → Type 0) (x : X) (xs : List X) → P x → All P xs → All P (x ∷ xs)
all_cons P x xs p all zero d lt = p
all_cons P x xs p all (suc k) d lt = all k d (omega (arith, lt))

chosen : (b : Bool) (r : Option (List ℕ)) (text : List ℕ) → (if b then r else Some text) ≡ None → (b ≡ true) × (r ≡ None)
chosen true r text h = (refl, h)
chosen false r text h = absurd (cc)

version_is : (x : Tree) (w : Version) → version_in x ≡ Some w → (listed_of x).version ≡ w
version_is x w e = ap (λ o. unwrap_or o no_version) e

pairs_by : (x : Tree) (xs : List Tree) (w : Version) → version_in x ≡ Some w → Rises w xs → AllPairs IsBelow (listed_of x ∷ map listed_of xs)
pairs_by x xs w e r = AllPairs-cons IsBelow (listed_of x) (map listed_of xs) (subst (λ v. All (IsAbove v) (map listed_of xs)) (sym (version_is x w e)) r.0) r.1

rises_by : (u : Version) (x : Tree) (xs : List Tree) (o : Option Version) → version_in x ≡ o → ((w : Version) → first_wrong (Some w) xs ≡ None → Rises w xs) → (if follows (Some u) o then first_wrong o xs else Some (version_text x)) ≡ None → Rises u (x ∷ xs)
rises_by u x xs None e ih h = absurd (cc)
rises_by u x xs (Some w) e ih h =
    let s = chosen (version_lt u w) (first_wrong (Some w) xs) (version_text x) h in
    let r = ih w s.1 in
    let here : IsAbove u (listed_of x) = subst (λ v. IsTrue (version_lt u v)) (sym (version_is x w e)) s.0 in
    (all_cons (IsAbove u) (listed_of x) (map listed_of xs) here (λ k d lt. version-trans u w (get_or (map listed_of xs) k d).version s.0 (r.0 k d lt)), pairs_by x xs w e r)

rises : (xs : List Tree) (u : Version) → first_wrong (Some u) xs ≡ None → Rises u xs
rises [] u h = (none (IsAbove u), no_pairs IsBelow)
rises (x ∷ xs) u h = rises_by u x xs (version_in x) refl (rises xs) h

start_by : (x : Tree) (xs : List Tree) (o : Option Version) → version_in x ≡ o → (if follows None o then first_wrong o xs else Some (version_text x)) ≡ None → AllPairs IsBelow (map listed_of (x ∷ xs))
start_by x xs None e h = absurd (cc)
start_by x xs (Some w) e h = pairs_by x xs w e (rises xs w h)

start : (xs : List Tree) → first_wrong None xs ≡ None → AllPairs IsBelow (map listed_of xs)
start [] h = no_pairs IsBelow
start (x ∷ xs) h = start_by x xs (version_in x) refl h

-- ---- of a row

unmapped : (o : Option (List ℕ)) → option_map one_line o ≡ None → o ≡ None
unmapped None h = refl
unmapped (Some l) h = absurd (cc)

-- the rules on the name are kept, and so are those of the kind
pub kind_kept : (row : Row) (t : Tree) → first_breach row t ≡ None → kind_breach row.kind t ≡ None
kind_kept row t h =
    let a = both_kept 3 (name_rule row.name t) _ h in
    (both_kept 4 (alphabet_rule row.kind t) _ a.1).1

abbrev pub HasRisingVersions : Entry → Type 0
HasRisingVersions (Extension x) = AllPairs IsBelow x.versions
HasRisingVersions (Param x) = Unit {0}
HasRisingVersions (Instruction x) = Unit {0}
HasRisingVersions (Csr x) = Unit {0}
HasRisingVersions (Functions x) = Unit {0}
HasRisingVersions (Config x) = Unit {0}

of_kind : (k : Kind) (t : Tree) → kind_breach k t ≡ None → HasRisingVersions (entry_of k t)
of_kind kind.Extension t h = start (items_at t (codes "versions")) (unmapped _ (both_kept 5 (version_rule t) _ h).0)
of_kind kind.Parameter t h = tt
of_kind kind.Instruction t h = tt
of_kind kind.Csr t h = tt
of_kind kind.Functions t h = tt
of_kind kind.Config t h = tt

pub versions_rise : (row : Row) (e : Entry) → Gives row e → HasRisingVersions e
versions_rise row e g = subst HasRisingVersions (sym g.is) (of_kind row.kind g.tree (kind_kept row g.tree g.unbroken))
