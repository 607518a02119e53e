-- Steps of the loops over entries.
use Rattle.std.proofs.Common.{◌≡◌, true, false, ℕ, ◌+◌, ◌*◌, ◌<◌, Err, length-append, List, [], ◌∷◌, ◌++◌, length, get_or, take, map, refl, sym, ap, subst, ◌∙◌, arith}
use Rattle.std.specs.List.{flat_map}
use Rattle.std.proofs.lemmas.List.Concat.{flat_map-cons}
use Rattle.std.proofs.lemmas.List.{map-append}
use Rattle.std.proofs.lemmas.List.{length-map}
use Rattle.udb_base.specs.declared.rows.Row.{Row}
use Rattle.udb_base.specs.declared.conditions.Cond.{Cond}
use Rattle.udb_base.specs.declared.conditions.Cond.TheVariants as c
use Rattle.udb_base.specs.declared.refutations.Proof.{Proof}
use Rattle.udb_spec.specs.CondLaws.{holds-Always}
use Rattle.udb_spec.specs.ProofText.{proof_lines}
use Rattle.udb_refute.specs.declared.search.Found.{Found}
use Rattle.udb_refute.specs.declared.search.Found.TheVariants.{Refuted}
use Rattle.udb_refute.specs.Answers.{IsAnswer}
use Rattle.udb_base.specs.declared.refutations.Partial.{Partial}
use Rattle.udb_base.specs.declared.spaces.ExtSpace.{ExtSpace}
use Rattle.udb_base.specs.declared.spaces.ParamSpace.{ParamSpace}
use Rattle.udb_base.specs.declared.spaces.Space.{Space}
use Rattle.udb_spec.specs.Constraints.{ext_constraint, param_constraints, constraints}
use Rattle.manual_spec.specs.Entries.{ext_space, param_space}
use Rattle.udb_entry.specs.declared.answers.Entry.{Entry}
use Rattle.udb_entry.specs.declared.answers.Breach.{Breach}
use Rattle.udb_entry.specs.declared.answers.EntryFault.{EntryFault}
use Rattle.udb_entry.specs.declared.answers.EntryFault.TheVariants as entry
use Rattle.udb_entry.specs.Rules.{Lines}
use Rattle.udb_entry.specs.First.{breach, fault_of, FirstBroken, Gives}
use Rattle.db_spec.specs.Entries.{extension_in, param_in, space_of}
use Rattle.db_spec.specs.Breaks.{Give, HasNoCompletion}
use Rattle.db_spec.proofs.EntryLaws.{give_more}
use Rattle.udb_db.specs.declared.reading.RowFault.{RowFault}
use Rattle.udb_db.specs.declared.reading.RowFault.TheVariants as row
use Rattle.udb_db.specs.Phases.{ext_spaces_in, param_spaces_in, IsFaultAt, IsBrokenAt, IsRead}

map_flat : {X Y Z : Type 0} (f : Y → Z) (g : X → List Y) (xs : List X) → map f (flat_map g xs) ≡ flat_map (λ x. map f (g x)) xs
map_flat f g [] = refl
map_flat f g (x ∷ xs) = ap (map f) (flat_map-cons g x xs) ∙ (map-append f (g x) (flat_map g xs) ∙ (ap (λ ys. map f (g x) ++ ys) (map_flat f g xs) ∙ sym (flat_map-cons (λ z. map f (g z)) x xs)))

pub extensions_are : (entries : List Entry) → map ext_space (flat_map extension_in entries) ≡ flat_map ext_spaces_in entries
extensions_are entries = map_flat ext_space extension_in entries

pub params_are : (entries : List Entry) → map param_space (flat_map param_in entries) ≡ flat_map param_spaces_in entries
params_are entries = map_flat param_space param_in entries

pub space_is : (entries : List Entry) (space : Space) → space.extensions ≡ flat_map ext_spaces_in entries → space.params ≡ flat_map param_spaces_in entries → space ≡ space_of entries
space_is entries space e p =
    let a : space.extensions ≡ map ext_space (flat_map extension_in entries) = e ∙ sym (map_flat ext_space extension_in entries) in
    let b : space.params ≡ map param_space (flat_map param_in entries) = p ∙ sym (map_flat param_space param_in entries) in
    ap (λ (xs : List ExtSpace). let s : Space = record { extensions = xs; params = space.params } in s) a ∙ ap (λ (ps : List ParamSpace). let s : Space = record { extensions = map ext_space (flat_map extension_in entries); params = ps } in s) b

-- ---- rows

fault_here : (rows : List Row) (place at rule number : ℕ) (shows lines : Lines) → IsBrokenAt rows place rule shows → at ≡ place → number ≡ rule → lines ≡ shows → IsBrokenAt rows at number lines
fault_here rows place at rule number shows lines x e f g = subst (λ l. IsBrokenAt rows at number l) (sym g) (subst (λ k. IsBrokenAt rows at k shows) (sym f) (subst (λ k. IsBrokenAt rows k rule shows) (sym e) x))

pub read_fault : (rows : List Row) (place : ℕ) (broken : Row) (es : List Entry) (fault : EntryFault) (r : RowFault) → place < length rows → broken ≡ get_or rows place broken → Give (take place rows) es → ((b : Breach) → fault ≡ fault_of b → FirstBroken broken b) → IsFaultAt place fault r → IsRead rows (Err r)
read_fault rows place broken es entry.Memory row.Memory lt is g f h = tt
read_fault rows place broken es entry.Memory (row.Broken at number lines) lt is g f h = absurd h
read_fault rows place broken es (entry.Broken rule shows) row.Memory lt is g f h = absurd h
read_fault rows place broken es (entry.Broken rule shows) (row.Broken at number lines) lt is g f h =
    fault_here rows place at rule number shows lines (record { broken = broken; within = lt; here = is; first = f (breach rule shows) refl; before = (es, g) }) h.0 h.1 h.2

pub give_pushed : (rows : List Row) (i : ℕ) (r : Row) (es now : List Entry) (e : Entry) → i < length rows → r ≡ get_or rows i r → Give (take i rows) es → Gives r e → now ≡ es ++ e ∷ [] → Give (take (i + 1) rows) now
give_pushed rows i r es now e lt is g h same = subst (λ xs. Give (take (i + 1) rows) xs) (sym same) (give_more rows i r es e lt is g h)

-- ---- constraints

params_long : (ps : List ParamSpace) → length (param_constraints ps) ≡ 2 * length ps
params_long [] = refl
params_long (p ∷ ps) = omega (arith, params_long ps)

pub constraints_long : (space : Space) (part : Partial) (cond : Cond) → length (constraints space part cond) ≡ length space.extensions + (2 * length space.params + (length part.constraints + 1))
constraints_long space part cond =
    omega (arith, length-append (map ext_constraint space.extensions) (param_constraints space.params ++ (part.constraints ++ cond ∷ [])), length-append (param_constraints space.params) (part.constraints ++ cond ∷ []), length-append part.constraints (cond ∷ []), length-map space.extensions ext_constraint, params_long space.params)

-- ---- answers of a search

pub searched_none : (space : Space) (part : Partial) (found : Found) (proof : Proof) (lines : Lines) → IsAnswer space part c.Always found → found ≡ Refuted proof → lines ≡ proof_lines space proof → HasNoCompletion space part lines
searched_none space part found proof lines answer is shown =
    let a : IsAnswer space part c.Always (Refuted proof) = subst (IsAnswer space part c.Always) is answer in
    record {
      none = λ full completes. (let t : true ≡ false = sym (holds-Always space full) ∙ a.1 full completes in absurd (cc));
      proof = proof;
      refuted = a.0;
      shown = shown;
    }
