-- Which rules tables of extensions, parameters and configurations can break once their texts are kept.
use Rattle.std.proofs.Common.{◌≡◌, ◌⊎◌, inl, inr, ℕ, ◌<◌, ◌≤◌, ◌==◌, nat_lt, ◌&&◌, ◌||◌, Bool, true, false, List, [], ◌∷◌, refl, sym, ap, subst, ◌∙◌, arith}
use Rattle.std.proofs.lemmas.Bool.Decides.{nat_tests}
use Rattle.udb_base.specs.declared.rows.Row.{Row}
use Rattle.udb_base.specs.declared.spaces.Space.{Space}
use Rattle.entry_tree.specs.declared.ExtensionEntry.{ExtensionEntry}
use Rattle.entry_tree.specs.declared.ParamEntry.{ParamEntry}
use Rattle.entry_tree.specs.declared.InstructionEntry.{InstructionEntry}
use Rattle.entry_tree.specs.declared.CsrEntry.{CsrEntry}
use Rattle.entry_tree.specs.declared.FunctionsEntry.{FunctionsEntry}
use Rattle.entry_tree.specs.declared.ConfigEntry.{ConfigEntry}
use Rattle.udb_entry.specs.declared.answers.Entry.{Entry}
use Rattle.udb_entry.specs.declared.answers.Entry.TheVariants.{Extension, Param, Instruction, Csr, Functions, Config}
use Rattle.udb_entry.specs.Rules.{Lines}
use Rattle.db_spec.specs.Rules.{Rule, rule_number, pass_of, is_spelled, meets_schema, has_name, has_alphabet, versions_rise, domain_is_sound, encodings_are_formed, conditions_are_read, bodies_are_read, names_are_known, functions_are_declared_once, addresses_are_apart, words_are_known, kinds_fit, widths_fit, slices_fit, parts_are_present, cost_is_bounded, order_is_kept, encodings_are_apart, fields_are_apart, some_full, has_completion}
use Rattle.db_spec.specs.Sites.{Site, entry, database, is_before, is_earlier}
use Rattle.db_spec.specs.Entries.{unconfigured}
use Rattle.db_spec.specs.Breaks.{AtEntry, AtDatabase, HasUnknownName, HasRepeatedFunction, HasSharedAddress, HasUnknownWord, HasMismatch, HasWrongWidth, HasWrongSlice, HasAbsentPart, HasExcessCost, HasWrongOrder, HasSharedWord, HasSharedBit, HasNoCompletion, LacksCompletion, Breaks}

-- ---- rules that no entry of these kinds breaks

never_by : (e : Entry) (P : Entry → Type 0) → ((x : ExtensionEntry) → P (Extension x) → ⊥) → ((x : ParamEntry) → P (Param x) → ⊥) → ((x : InstructionEntry) → P (Instruction x) → ⊥) → ((x : CsrEntry) → P (Csr x) → ⊥) → ((x : FunctionsEntry) → P (Functions x) → ⊥) → ((x : ConfigEntry) → P (Config x) → ⊥) → P e → ⊥
never_by (Extension x) P a b c d f g h = a x h
never_by (Param x) P a b c d f g h = b x h
never_by (Instruction x) P a b c d f g h = c x h
never_by (Csr x) P a b c d f g h = d x h
never_by (Functions x) P a b c d f g h = f x h
never_by (Config x) P a b c d f g h = g x h

no_entry : (rows : List Row) (site : Site) (P : Space → Entry → Type 0) → ((space : Space) (e : Entry) → P space e → ⊥) → AtEntry rows site P → ⊥
no_entry rows database P n h = h
no_entry rows (entry k m) P n h = n _ h.1 h.3

-- ---- what is broken behind the texts

pub data LateBreach (rows : List Row) (site : Site) (r : Rule) (shows : Lines) : Type 0 where
  of_names : r ≡ names_are_known → AtEntry rows site (λ space e. HasUnknownName space e shows) → LateBreach rows site r shows
  of_full : r ≡ some_full → AtDatabase rows site (λ space. HasNoCompletion space unconfigured shows) → LateBreach rows site r shows
  of_config : r ≡ has_completion → AtEntry rows site (λ space e. LacksCompletion space e shows) → LateBreach rows site r shows

pub breach_way : (rows : List Row) (site : Site) (r : Rule) (l : Lines) → Breaks rows site r l → (pass_of r ≡ 1) ⊎ LateBreach rows site r l
breach_way rows site is_spelled l h = inl refl
breach_way rows site meets_schema l h = inl refl
breach_way rows site has_name l h = inl refl
breach_way rows site has_alphabet l h = inl refl
breach_way rows site versions_rise l h = inl refl
breach_way rows site domain_is_sound l h = inl refl
breach_way rows site encodings_are_formed l h = inl refl
breach_way rows site conditions_are_read l h = inl refl
breach_way rows site bodies_are_read l h = inl refl
breach_way rows site names_are_known l h = inr (of_names refl h)
breach_way rows site functions_are_declared_once l h = absurd (no_entry rows site (λ space e. HasRepeatedFunction space e l) (λ space e. never_by e (λ d. HasRepeatedFunction space d l) (λ x y. y) (λ x y. y) (λ x y. y) (λ x y. y) (λ x y. y) (λ x y. y)) h)
breach_way rows site addresses_are_apart l h = absurd (no_entry rows site (λ space e. HasSharedAddress space e l) (λ space e. never_by e (λ d. HasSharedAddress space d l) (λ x y. y) (λ x y. y) (λ x y. y) (λ x y. y) (λ x y. y) (λ x y. y)) h)
breach_way rows site words_are_known l h = absurd (no_entry rows site (λ space e. HasUnknownWord space e l) (λ space e. never_by e (λ d. HasUnknownWord space d l) (λ x y. y) (λ x y. y) (λ x y. y) (λ x y. y) (λ x y. y) (λ x y. y)) h)
breach_way rows site kinds_fit l h = absurd (no_entry rows site (λ space e. HasMismatch space e l) (λ space e. never_by e (λ d. HasMismatch space d l) (λ x y. y) (λ x y. y) (λ x y. y) (λ x y. y) (λ x y. y) (λ x y. y)) h)
breach_way rows site widths_fit l h = absurd (no_entry rows site (λ space e. HasWrongWidth space e l) (λ space e. never_by e (λ d. HasWrongWidth space d l) (λ x y. y) (λ x y. y) (λ x y. y) (λ x y. y) (λ x y. y) (λ x y. y)) h)
breach_way rows site slices_fit l h = absurd (no_entry rows site (λ space e. HasWrongSlice space e l) (λ space e. never_by e (λ d. HasWrongSlice space d l) (λ x y. y) (λ x y. y) (λ x y. y) (λ x y. y) (λ x y. y) (λ x y. y)) h)
breach_way rows site parts_are_present l h = absurd (no_entry rows site (λ space e. HasAbsentPart space e l) (λ space e. never_by e (λ d. HasAbsentPart space d l) (λ x y. y) (λ x y. y) (λ x y. y) (λ x y. y) (λ x y. y) (λ x y. y)) h)
breach_way rows site cost_is_bounded l h = absurd (no_entry rows site (λ space e. HasExcessCost space e l) (λ space e. never_by e (λ d. HasExcessCost space d l) (λ x y. y) (λ x y. y) (λ x y. y) (λ x y. y) (λ x y. y) (λ x y. y)) h)
breach_way rows site order_is_kept l h = absurd (no_entry rows site (λ space e. HasWrongOrder space e l) (λ space e. never_by e (λ d. HasWrongOrder space d l) (λ x y. y) (λ x y. y) (λ x y. y) (λ x y. y) (λ x y. y) (λ x y. y)) h)
breach_way rows site encodings_are_apart l h = absurd (no_entry rows site (λ space e. HasSharedWord space e l) (λ space e. never_by e (λ d. HasSharedWord space d l) (λ x y. y) (λ x y. y) (λ x y. y) (λ x y. y) (λ x y. y) (λ x y. y)) h)
breach_way rows site fields_are_apart l h = absurd (no_entry rows site (λ space e. HasSharedBit space e l) (λ space e. never_by e (λ d. HasSharedBit space d l) (λ x y. y) (λ x y. y) (λ x y. y) (λ x y. y) (λ x y. y) (λ x y. y)) h)
breach_way rows site some_full l h = inr (of_full refl h)
breach_way rows site has_completion l h = inr (of_config refl h)

pub first_pass : (r : Rule) → 1 ≤ pass_of r
first_pass is_spelled = omega arith
first_pass meets_schema = omega arith
first_pass has_name = omega arith
first_pass has_alphabet = omega arith
first_pass versions_rise = omega arith
first_pass domain_is_sound = omega arith
first_pass encodings_are_formed = omega arith
first_pass conditions_are_read = omega arith
first_pass bodies_are_read = omega arith
first_pass names_are_known = omega arith
first_pass functions_are_declared_once = omega arith
first_pass addresses_are_apart = omega arith
first_pass words_are_known = omega arith
first_pass kinds_fit = omega arith
first_pass widths_fit = omega arith
first_pass slices_fit = omega arith
first_pass parts_are_present = omega arith
first_pass cost_is_bounded = omega arith
first_pass order_is_kept = omega arith
first_pass encodings_are_apart = omega arith
first_pass fields_are_apart = omega arith
first_pass some_full = omega arith
first_pass has_completion = omega arith

-- ---- earlier breaches

earlier_by : (p q : ℕ) (lt eq b : Bool) → nat_lt p q ≡ lt → (p == q) ≡ eq → (lt || (eq && b)) ≡ true → (p < q) ⊎ ((p ≡ q) × (b ≡ true))
earlier_by p q true eq b l e h = inl (grind (arith, nat_tests))
earlier_by p q false true b l e h = inr (grind (arith, nat_tests), h)
earlier_by p q false false b l e h = absurd (cc)

pub earlier : (s : Site) (r : Rule) (site : Site) (rule : Rule) → is_earlier s r site rule ≡ true → (pass_of r < pass_of rule) ⊎ ((pass_of r ≡ pass_of rule) × (is_before s r site rule ≡ true))
earlier s r site rule h = earlier_by (pass_of r) (pass_of rule) (nat_lt (pass_of r) (pass_of rule)) (pass_of r == pass_of rule) (is_before s r site rule) refl refl h

pub not_true : (b : Bool) → (b ≡ true → ⊥) → b ≡ false
not_true true h = absurd (h refl)
not_true false h = refl
