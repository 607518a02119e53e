-- The space of tables that keep the rules up to that on names is lawful, as far as names and their order go.
use Rattle.std.proofs.Common.{◌≡◌, ℕ, zero, suc, ◌<◌, IsTrue, List, [], ◌∷◌, length, get_or, Option, Some, None, refl, sym, ap, subst, ◌∙◌, arith}
use Rattle.std.specs.List.{Contains, All, AllPairs, flat_map}
use Rattle.std.specs.Option.{is_none}
use Rattle.std.proofs.lemmas.List.{get_or_default}
use Rattle.std.proofs.lemmas.List.Concat.{flat_map-cons}
use Rattle.std.proofs.lemmas.List.Elements.{All-append}
use Rattle.std.proofs.lemmas.List.Kept.{AllPairs-cons}
use Rattle.udb_base.specs.declared.rows.Row.{Row}
use Rattle.udb_base.specs.declared.conditions.Cond.{Cond}
use Rattle.udb_base.specs.declared.spaces.ExtSpace.{ExtSpace}
use Rattle.udb_base.specs.declared.spaces.ParamSpace.{ParamSpace}
use Rattle.udb_base.specs.declared.spaces.Space.{Space}
use Rattle.udb_spec.specs.Versions.{version_lt}
use Rattle.udb_spec.specs.Lawful.{fits, name_lt, IsLawfulDomain, ListsWidths, IsLawfulExt, IsLawfulParam, Lawful}
use Rattle.udb_lawful.specs.Misfit.{first_misfit}
use Rattle.udb_lawful.specs.MisfitLaws.{misfit-none}
use Rattle.udb_tables.specs.Order.{key_lt, row_lt, IsInOrder}
use Rattle.entry_tree.specs.declared.ExtensionEntry.{ExtensionEntry}
use Rattle.entry_tree.specs.declared.ParamEntry.{ParamEntry}
use Rattle.manual_spec.specs.Entries.{ext_space, param_space}
use Rattle.udb_entry.specs.declared.answers.Entry.{Entry}
use Rattle.udb_entry.specs.declared.answers.Entry.TheVariants.{Extension, Param, Instruction, Csr, Functions, Config}
use Rattle.db_spec.specs.Entries.{kind_of, name_of, conditions_of, space_of, width_name}
use Rattle.db_spec.specs.Breaks.{Give, named}
use Rattle.db_spec.specs.First.{HasReadKinds}
use Rattle.db_spec.proofs.EntryLaws.{gives_kind, gives_name, give_long, gives_at}
use Rattle.udb_db.proofs.Steps.{extensions_are, params_are}
use Rattle.udb_db.specs.Phases.{KnowsNames, ext_spaces_in, param_spaces_in}

-- ---- conditions fit

fits_by : (space : Space) (e : Entry) (x : Cond) (o : Option (List ℕ)) → KnowsNames space e → Contains (conditions_of e) x → first_misfit space x ≡ o → IsTrue (fits space x)
fits_by space e x None known among is = misfit-none space x ∙ ap is_none is
fits_by space e x (Some n) known among is = absurd (known (n ∷ []) (named x n among is refl))

pub conditions_fit : (space : Space) (e : Entry) (x : Cond) → KnowsNames space e → Contains (conditions_of e) x → IsTrue (fits space x)
conditions_fit space e x known among = fits_by space e x (first_misfit space x) known among refl

-- ---- entries stand in the order of their rows

abbrev IsBefore : Entry → Entry → Type 0
IsBefore a b = IsTrue (key_lt (kind_of a) (name_of a) (kind_of b) (name_of b))

pub entries_rise : (rows : List Row) (es : List Entry) → IsInOrder rows → HasReadKinds rows → Give rows es → AllPairs IsBefore es
entries_rise rows es o kinds g i j d less lt =
    let long = give_long rows es g in
    let first : i < length rows = omega (arith, less, lt, long) in
    let second : j < length rows = omega (arith, lt, long) in
    let x = gives_at rows es i g first in
    let y = gives_at rows es j g second in
    let x_is : x.entry ≡ get_or es i d = x.entry_is ∙ get_or_default es i x.entry d x.in_entries in
    let y_is : y.entry ≡ get_or es j d = y.entry_is ∙ get_or_default es j y.entry d lt in
    let y_here : y.row ≡ get_or rows j x.row = y.row_is ∙ get_or_default rows j y.row x.row second in
    let row : IsTrue (row_lt x.row y.row) = subst (λ r. IsTrue (row_lt x.row r)) (sym y_here) (subst (λ r. IsTrue (row_lt r (get_or rows j x.row))) (sym x.row_is) (o i j x.row less second)) in
    let a : IsTrue (key_lt (kind_of x.entry) (name_of x.entry) y.row.kind y.row.name) = subst (λ n. IsTrue (key_lt (kind_of x.entry) n y.row.kind y.row.name)) (sym (gives_name x.row x.entry x.gives)) (subst (λ k. IsTrue (key_lt k x.row.name y.row.kind y.row.name)) (sym (gives_kind x.row x.entry x.gives)) row) in
    let b : IsBefore x.entry y.entry = subst (λ n. IsTrue (key_lt (kind_of x.entry) (name_of x.entry) (kind_of y.entry) n)) (sym (gives_name y.row y.entry y.gives)) (subst (λ k. IsTrue (key_lt (kind_of x.entry) (name_of x.entry) k y.row.name)) (sym (gives_kind y.row y.entry y.gives)) a) in
    subst (λ e. IsBefore (get_or es i d) e) y_is (subst (λ e. IsBefore e y.entry) x_is b)

-- ---- lists of what entries have

single : {X : Type 0} (P : X → Type 0) (x : X) → P x → All P (x ∷ [])
single P x p zero d lt = p
single P x p (suc k) d lt = absurd (omega (arith, lt))

none : {X : Type 0} (P : X → Type 0) → All P []
none P k d lt = absurd (omega (arith, lt))

all_flat : {X : Type 0} (P : Entry → Type 0) (Q : X → Type 0) (f : Entry → List X) → ((e : Entry) → P e → All Q (f e)) → (es : List Entry) → All P es → All Q (flat_map f es)
all_flat P Q f step [] all = none Q
all_flat P Q f step (e ∷ es) all = subst (All Q) (sym (flat_map-cons f e es)) (All-append Q (f e) (flat_map f es) (step e (all 0 e (omega arith))) (all_flat P Q f step es (λ k d lt. all (suc k) d (omega (arith, lt)))))

later : {X : Type 0} (R : X → X → Type 0) (x : X) (xs : List X) → AllPairs R (x ∷ xs) → AllPairs R xs
later R x xs h i j d less lt = h (suc i) (suc j) d (omega (arith, less)) (omega (arith, lt))

first : {X : Type 0} (R : X → X → Type 0) (x : X) (xs : List X) → AllPairs R (x ∷ xs) → All (R x) xs
first R x xs h k d lt = h 0 (suc k) d (omega arith) (omega (arith, lt))

-- ---- extensions and parameters rise

abbrev ExtBefore : ExtSpace → ExtSpace → Type 0
ExtBefore a b = IsTrue (name_lt a.name b.name)

abbrev ParamBefore : ParamSpace → ParamSpace → Type 0
ParamBefore a b = IsTrue (name_lt a.name b.name)

ext_after : (x : ExtensionEntry) (e : Entry) → IsBefore (Extension x) e → All (ExtBefore (ext_space x)) (ext_spaces_in e)
ext_after x (Extension y) h = single (ExtBefore (ext_space x)) (ext_space y) h
ext_after x (Param y) h = none (ExtBefore (ext_space x))
ext_after x (Instruction y) h = none (ExtBefore (ext_space x))
ext_after x (Csr y) h = none (ExtBefore (ext_space x))
ext_after x (Functions y) h = none (ExtBefore (ext_space x))
ext_after x (Config y) h = none (ExtBefore (ext_space x))

param_after : (x : ParamEntry) (e : Entry) → IsBefore (Param x) e → All (ParamBefore (param_space x)) (param_spaces_in e)
param_after x (Extension y) h = none (ParamBefore (param_space x))
param_after x (Param y) h = single (ParamBefore (param_space x)) (param_space y) h
param_after x (Instruction y) h = none (ParamBefore (param_space x))
param_after x (Csr y) h = none (ParamBefore (param_space x))
param_after x (Functions y) h = none (ParamBefore (param_space x))
param_after x (Config y) h = none (ParamBefore (param_space x))

pub extensions_rise : (es : List Entry) → AllPairs IsBefore es → AllPairs ExtBefore (flat_map ext_spaces_in es)
extensions_rise [] h = λ i j d less lt. absurd (omega (arith, lt))
extensions_rise (Extension x ∷ es) h =
    subst (AllPairs ExtBefore) (sym (flat_map-cons ext_spaces_in (Extension x) es))
    (AllPairs-cons ExtBefore (ext_space x) (flat_map ext_spaces_in es) (all_flat (IsBefore (Extension x)) (ExtBefore (ext_space x)) ext_spaces_in (ext_after x) es (first IsBefore (Extension x) es h)) (extensions_rise es (later IsBefore (Extension x) es h)))
extensions_rise (Param x ∷ es) h = subst (AllPairs ExtBefore) (sym (flat_map-cons ext_spaces_in (Param x) es)) (extensions_rise es (later IsBefore (Param x) es h))
extensions_rise (Instruction x ∷ es) h = subst (AllPairs ExtBefore) (sym (flat_map-cons ext_spaces_in (Instruction x) es)) (extensions_rise es (later IsBefore (Instruction x) es h))
extensions_rise (Csr x ∷ es) h = subst (AllPairs ExtBefore) (sym (flat_map-cons ext_spaces_in (Csr x) es)) (extensions_rise es (later IsBefore (Csr x) es h))
extensions_rise (Functions x ∷ es) h = subst (AllPairs ExtBefore) (sym (flat_map-cons ext_spaces_in (Functions x) es)) (extensions_rise es (later IsBefore (Functions x) es h))
extensions_rise (Config x ∷ es) h = subst (AllPairs ExtBefore) (sym (flat_map-cons ext_spaces_in (Config x) es)) (extensions_rise es (later IsBefore (Config x) es h))

pub params_rise : (es : List Entry) → AllPairs IsBefore es → AllPairs ParamBefore (flat_map param_spaces_in es)
params_rise [] h = λ i j d less lt. absurd (omega (arith, lt))
params_rise (Extension x ∷ es) h = subst (AllPairs ParamBefore) (sym (flat_map-cons param_spaces_in (Extension x) es)) (params_rise es (later IsBefore (Extension x) es h))
params_rise (Param x ∷ es) h =
    subst (AllPairs ParamBefore) (sym (flat_map-cons param_spaces_in (Param x) es))
    (AllPairs-cons ParamBefore (param_space x) (flat_map param_spaces_in es) (all_flat (IsBefore (Param x)) (ParamBefore (param_space x)) param_spaces_in (param_after x) es (first IsBefore (Param x) es h)) (params_rise es (later IsBefore (Param x) es h)))
params_rise (Instruction x ∷ es) h = subst (AllPairs ParamBefore) (sym (flat_map-cons param_spaces_in (Instruction x) es)) (params_rise es (later IsBefore (Instruction x) es h))
params_rise (Csr x ∷ es) h = subst (AllPairs ParamBefore) (sym (flat_map-cons param_spaces_in (Csr x) es)) (params_rise es (later IsBefore (Csr x) es h))
params_rise (Functions x ∷ es) h = subst (AllPairs ParamBefore) (sym (flat_map-cons param_spaces_in (Functions x) es)) (params_rise es (later IsBefore (Functions x) es h))
params_rise (Config x ∷ es) h = subst (AllPairs ParamBefore) (sym (flat_map-cons param_spaces_in (Config x) es)) (params_rise es (later IsBefore (Config x) es h))

-- ---- lawful spaces

-- what an entry shows by itself, and of its domain
abbrev pub IsSoundEntry : Entry → Type 0
IsSoundEntry (Extension x) = AllPairs (λ a b. IsTrue (version_lt a.version b.version)) x.versions
IsSoundEntry (Param x) = IsLawfulDomain x.domain × (x.name ≡ width_name → ListsWidths x.domain)
IsSoundEntry (Instruction x) = Unit {0}
IsSoundEntry (Csr x) = Unit {0}
IsSoundEntry (Functions x) = Unit {0}
IsSoundEntry (Config x) = Unit {0}

abbrev IsKnown : Space → Entry → Type 0
IsKnown space e = KnowsNames space e × IsSoundEntry e

ext_lawful : (space : Space) (e : Entry) → IsKnown space e → All (IsLawfulExt space) (ext_spaces_in e)
ext_lawful space (Extension x) h = single (IsLawfulExt space) (ext_space x) (record { rising = h.1; needs = conditions_fit space (Extension x) x.needs h.0 (0, omega arith, refl) })
ext_lawful space (Param x) h = none (IsLawfulExt space)
ext_lawful space (Instruction x) h = none (IsLawfulExt space)
ext_lawful space (Csr x) h = none (IsLawfulExt space)
ext_lawful space (Functions x) h = none (IsLawfulExt space)
ext_lawful space (Config x) h = none (IsLawfulExt space)

param_lawful : (space : Space) (e : Entry) → IsKnown space e → All (IsLawfulParam space) (param_spaces_in e)
param_lawful space (Extension x) h = none (IsLawfulParam space)
param_lawful space (Param x) h = single (IsLawfulParam space) (param_space x) (record {
  domain = h.1.0;
  widths = h.1.1;
  defined = conditions_fit space (Param x) x.defined h.0 (0, omega arith, refl);
  needs = conditions_fit space (Param x) x.needs h.0 (1, omega arith, refl);
})
param_lawful space (Instruction x) h = none (IsLawfulParam space)
param_lawful space (Csr x) h = none (IsLawfulParam space)
param_lawful space (Functions x) h = none (IsLawfulParam space)
param_lawful space (Config x) h = none (IsLawfulParam space)

pub lawful_by : (rows : List Row) (es : List Entry) (space : Space) → IsInOrder rows → HasReadKinds rows → Give rows es → space ≡ space_of es → All (KnowsNames space) es → All IsSoundEntry es → Lawful space
lawful_by rows es space o kinds g is known sound =
    let rise = entries_rise rows es o kinds g in
    let exts : space.extensions ≡ flat_map ext_spaces_in es = ap (λ (s : Space). s.extensions) is ∙ extensions_are es in
    let params : space.params ≡ flat_map param_spaces_in es = ap (λ (s : Space). s.params) is ∙ params_are es in
    let both : All (IsKnown space) es = λ k d lt. (known k d lt, sound k d lt) in
    record {
      extension_names = subst (AllPairs ExtBefore) (sym exts) (extensions_rise es rise);
      param_names = subst (AllPairs ParamBefore) (sym params) (params_rise es rise);
      extensions = subst (All (IsLawfulExt space)) (sym exts) (all_flat (IsKnown space) (IsLawfulExt space) ext_spaces_in (ext_lawful space) es both);
      params = subst (All (IsLawfulParam space)) (sym params) (all_flat (IsKnown space) (IsLawfulParam space) param_spaces_in (param_lawful space) es both);
    }
