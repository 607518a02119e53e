-- No given value is left out.
use Rattle.std.proofs.Common.{◌≡◌, ◌≢◌, ℕ, zero, suc, ◌<◌, Bool, true, false, List, [], ◌∷◌, map, length, get_or, Some, cond, refl, sym, ap, subst, ◌∙◌, arith}
use Rattle.std.specs.Prelude.{AllPairs}
use Rattle.std.specs.List.{Contains, flat_map}
use Rattle.std.specs.Cmp.Lexicographic.{bytes_decides}
use Rattle.std.proofs.lemmas.List.Elements.{Contains-append_left, Contains-append_right}
use Rattle.std.proofs.lemmas.List.Concat.{flat_map-cons}
use Rattle.udb_base.specs.declared.conditions.Test.TheVariants.{Equal}
use Rattle.udb_base.specs.declared.conditions.Cond.{Cond}
use Rattle.udb_base.specs.declared.conditions.Cond.TheVariants as c
use Rattle.udb_base.specs.declared.refutations.Partial.{Partial}
use Rattle.udb_base.specs.declared.spaces.ParamSpace.{ParamSpace}
use Rattle.udb_base.specs.declared.spaces.Space.{Space}
use Rattle.udb_spec.specs.Conditions.{same_bytes}
use Rattle.entry_tree.specs.declared.Given.{Given}
use Rattle.entry_tree.specs.declared.ConfigKind.{ConfigKind}
use Rattle.entry_tree.specs.declared.ConfigKind.TheVariants.{Unconfigured, Partially, Fully}
use Rattle.entry_tree.specs.declared.ConfigEntry.{ConfigEntry}
use Rattle.udb_entry.specs.Config.{given_among, given_constraints, value_constraints, present, contrary, others_absent, unless_additional, part_constraints, full_constraints, constraints_by, config_constraints, IsValued, HasValues}

first_step : (t : Bool) (h : Given) (gs : List Given) (g : Given) → same_bytes h.name g.name ≡ t → (h.name ≡ g.name → ⊥) → given_among gs g.name ≡ Some g → given_among (h ∷ gs) g.name ≡ Some g
first_step true h gs g e other more = absurd (other ((bytes_decides h.name g.name).0 e))
first_step false h gs g e other more = ap (λ t. cond t (Some h) (given_among gs g.name)) e ∙ more

-- the pair at a place is the first of its name, where no earlier one has it
first_at : (gs : List Given) (k : ℕ) (g : Given) → k < length gs → get_or gs k g ≡ g → ((i : ℕ) → i < k → (get_or gs i g).name ≡ g.name → ⊥) → given_among gs g.name ≡ Some g
first_at [] k g lt is other = absurd (omega arith)
first_at (h ∷ gs) zero g lt is other = ap (λ t. cond t (Some h) (given_among gs g.name)) ((bytes_decides h.name g.name).1 (ap (λ (x : Given). x.name) is)) ∙ ap Some is
first_at (h ∷ gs) (suc k) g lt is other = first_step (same_bytes h.name g.name) h gs g refl (other 0 (omega arith)) (first_at gs k g (omega arith) is (λ i l. other (suc i) (omega arith)))

-- what a part of a list gives is among what all of them give
given_at : {X A : Type 0} (f : X → List A) (xs : List X) (k : ℕ) (x : X) (y : A) → k < length xs → get_or xs k x ≡ x → Contains (f x) y → Contains (flat_map f xs) y
given_at f [] k x y lt is h = absurd (omega arith)
given_at f (z ∷ xs) zero x y lt is h = subst (λ ys. Contains ys y) (sym (flat_map-cons f z xs)) (Contains-append_left (f z) (flat_map f xs) y (subst (λ w. Contains (f w) y) (sym is) h))
given_at f (z ∷ xs) (suc k) x y lt is h = subst (λ ys. Contains ys y) (sym (flat_map-cons f z xs)) (Contains-append_right (f z) (flat_map f xs) y (given_at f xs k x y (omega arith) is h))

alone : (y : Cond) → Contains (y ∷ []) y
alone y = (0, omega arith, refl)

valued : (params : List ParamSpace) (gs : List Given) → AllPairs (λ a b. a.name ≢ b.name) gs → (g : Given) (p : ParamSpace) → Contains gs g → Contains params p → p.name ≡ g.name → Contains (value_constraints params gs) (c.Param g.name Equal g.value)
valued params gs differ g p at_g at_p same =
    given_at (λ q. given_constraints (given_among gs q.name)) params at_p.0 p (c.Param g.name Equal g.value) at_p.1 at_p.2
    (subst (λ o. Contains (given_constraints o) (c.Param g.name Equal g.value)) (sym (ap (given_among gs) same ∙ first_at gs at_g.0 g at_g.1 at_g.2 (λ i l e. differ i at_g.0 g l at_g.1 (e ∙ ap (λ (x : Given). x.name) (sym at_g.2))))) (alone (c.Param g.name Equal g.value)))

valued_part : (space : Space) (x : ConfigEntry) → IsValued space x (part_constraints space x)
valued_part space x differ g p at_g at_p same =
    let y : Cond = c.Param g.name Equal g.value in
    Contains-append_left _ (unless_additional x.additional space.extensions x.mandatory) y
    (Contains-append_left _ (map contrary x.prohibited) y
    (Contains-append_left _ (map present x.mandatory) y (valued space.params x.params differ g p at_g at_p same)))

valued_full : (space : Space) (x : ConfigEntry) → IsValued space x (full_constraints space x)
valued_full space x differ g p at_g at_p same =
    let y : Cond = c.Param g.name Equal g.value in
    Contains-append_left _ (others_absent space.extensions x.implemented) y
    (Contains-append_left _ (map present x.implemented) y (valued_part space x differ g p at_g at_p same))

valued_by : (kind : ConfigKind) (space : Space) (x : ConfigEntry) → kind ≢ Unconfigured → IsValued space x (constraints_by kind space x)
valued_by Unconfigured space x ne = absurd (ne refl)
valued_by Partially space x ne = valued_part space x
valued_by Fully space x ne = valued_full space x

pub all_valued : (space : Space) (x : ConfigEntry) (part : Partial) → part.constraints ≡ config_constraints space x → HasValues space x part
all_valued space x part is = λ ne. subst (IsValued space x) (sym is) (valued_by x.kind space x ne)
