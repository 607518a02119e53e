-- The calls of bodies of fields, and the functions that these reach.
use Rattle.std.proofs.lemmas.List.{drop_more, drop-drop}
use Rattle.std.proofs.lemmas.List.Folds.{list_any-append}
use Rattle.std.proofs.Common.{◌≡◌, ◌<◌, ◌+◌, ℕ, zero, suc, length, get_or, drop, Bool, true, false, List, [], ◌∷◌, ◌++◌, map, refl, sym, ap, ◌∙◌}
use Rattle.std.specs.Prelude.{◌||◌, flat_map}
use Rattle.std.specs.List.{list_any}
use Rattle.udb_base.specs.Lists.{is_among}
use Rattle.udb_base.specs.declared.names.Name.{Name}
use Rattle.udb_spec.specs.Conditions.{same_bytes}
use Rattle.idl_tree.specs.declared.programs.Body.{Body}
use Rattle.idl_tree.specs.declared.programs.Function.{Function}
use Rattle.idl_tree.specs.declared.programs.Program.{Program}
use Rattle.idl_spec.specs.Deeds.{called_names, deeds_of, repeated_for, reached}
use Rattle.idl_spec.specs.Costs.{field_bodies, reached_by_fields}
use Rattle.idl_reach.specs.Asked.{chosen, mark_at, name_if, body_calls, fields_call, called_by_fields}
use Rattle.idl_reach.proofs.MarkedFunctions.{call-among, marked-filter, mark-drop, filter-same}

pub ruleset call_laws = (list_any-append)

among-all : (name : Name) (bodies : List Body) → is_among same_bytes name (flat_map (λ body. called_names (deeds_of body.statements)) bodies) ≡ list_any (body_calls name) bodies
among-all name [] = refl
among-all name (body ∷ bodies) =
    list_any-append (same_bytes name) (called_names (deeds_of body.statements)) (flat_map (λ b. called_names (deeds_of b.statements)) bodies)
    ∙ ap (λ b. b || is_among same_bytes name (flat_map (λ c. called_names (deeds_of c.statements)) bodies)) (call-among name (deeds_of body.statements))
    ∙ ap (λ b. body_calls name body || b) (among-all name bodies)

pub marked-by-fields : (program : Program) → chosen program.functions (map (λ f. fields_call f.name program.csrs) program.functions) ≡ called_by_fields program
marked-by-fields program = marked-filter (λ f. fields_call f.name program.csrs) program.functions ∙ filter-same _ _ (λ f. sym (among-all f.name (field_bodies program))) program.functions

-- ---- the names of those that are marked

abbrev names : List Function → List Name
names fs = map (λ f. f.name) fs

names-first : (f : Function) (gs : List Function) (ms : List Bool) → names (chosen (f ∷ gs) ms) ≡ name_if (mark_at ms 0) f ++ names (chosen gs (drop 1 ms))
names-first f [] [] = refl
names-first f (g ∷ gs) [] = refl
names-first f gs (true ∷ ms) = refl
names-first f gs (false ∷ ms) = refl

pub names-next : (fs : List Function) (ms : List Bool) (i : ℕ) (f : Function) → i < length fs → f ≡ get_or fs i f
    → names (chosen (drop i fs) (drop i ms)) ≡ name_if (mark_at ms i) f ++ names (chosen (drop (i + 1) fs) (drop (i + 1) ms))
names-next fs ms i f lt is =
    let at : drop i fs ≡ f ∷ drop (i + 1) fs = drop_more fs i f lt ∙ ap (λ g. g ∷ drop (i + 1) fs) (sym is) in
    ap (λ gs. names (chosen gs (drop i ms))) at
    ∙ names-first f (drop (i + 1) fs) (drop i ms)
    ∙ ap (λ b. name_if b f ++ names (chosen (drop (i + 1) fs) (drop 1 (drop i ms)))) (sym (mark-drop ms i))
    ∙ ap (λ ns. name_if (mark_at ms i) f ++ names (chosen (drop (i + 1) fs) ns)) (drop-drop 1 i ms)

pub reached-marked : (program : Program) → map (λ f. f.name) (repeated_for program.functions program.functions (called_by_fields program)) ≡ reached_by_fields program
unfolding reached
reached-marked program = refl
