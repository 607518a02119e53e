-- Functions that are marked, and those that are reached.
use Rattle.std.proofs.lemmas.List.{drop_more, drop-drop}
use Rattle.std.proofs.lemmas.Grind.{take_at_read}
use Rattle.std.proofs.Common.{◌≡◌, ◌<◌, ◌+◌, ℕ, zero, suc, length, get_or, drop, Bool, true, false, List, [], ◌∷◌, ◌++◌, take, map, refl, sym, ap, ◌∙◌, arith}
use Rattle.std.specs.Prelude.{◌||◌, ◌&&◌, not, filter, if◌then◌else◌}
use Rattle.std.specs.List.{list_any, list_all}
use Rattle.udb_base.specs.Lists.{is_among}
use Rattle.udb_base.specs.declared.names.Name.{Name}
use Rattle.udb_spec.specs.Conditions.{same_bytes}
use Rattle.idl_tree.specs.declared.expressions.Expr.{Expr}
use Rattle.idl_tree.specs.declared.programs.Function.{Function}
use Rattle.idl_spec.specs.Deeds.{Deed, calls, reads_field, reads_state, reads_memory, acts, called_names, with_called, repeated_for, reached, is_quiet, is_loud, leaves_fields, stays_in_fields, function_deeds, expr_deeds}
use Rattle.idl_reach.specs.Asked.{is_call, is_met, does, chosen, mark_at, named, called_by}

-- ---- calls

pub call-among : (name : Name) (ds : List Deed) → is_among same_bytes name (called_names ds) ≡ list_any (is_call name) ds
call-among name [] = refl
call-among name (calls n ∷ ds) = ap (λ b. same_bytes name n || b) (call-among name ds)
call-among name (reads_field ∷ ds) = call-among name ds
call-among name (reads_state ∷ ds) = call-among name ds
call-among name (reads_memory ∷ ds) = call-among name ds
call-among name (acts ∷ ds) = call-among name ds

-- ---- marks

pub marked-filter : (p : Function → Bool) (fs : List Function) → chosen fs (map p fs) ≡ filter p fs
marked-filter p [] = refl
marked-filter p (f ∷ fs) = at (p f) (marked-filter p fs)
  where
    at : (b : Bool) {xs ys : List Function} → xs ≡ ys → (if b then f ∷ xs else xs) ≡ (if b then f ∷ ys else ys)
    at true e = ap (λ zs. f ∷ zs) e
    at false e = e

pub filter-same : (p q : Function → Bool) → ((f : Function) → p f ≡ q f) → (fs : List Function) → filter p fs ≡ filter q fs
filter-same p q h [] = refl
filter-same p q h (f ∷ fs) = at (p f) (q f) (h f) (filter-same p q h fs)
  where
    at : (a b : Bool) {xs ys : List Function} → a ≡ b → xs ≡ ys → (if a then f ∷ xs else xs) ≡ (if b then f ∷ ys else ys)
    at true true i e = ap (λ zs. f ∷ zs) e
    at true false i e = absurd (cc)
    at false true i e = absurd (cc)
    at false false i e = e

or-swap : (a b c d : Bool) → ((a || b) || (c || d)) ≡ ((a || c) || (b || d))
or-swap true b c d = refl
or-swap false true true d = refl
or-swap false true false d = refl
or-swap false false c d = refl

-- a function is met by one of some
met-either : (name : Name) (some : List Function) → list_any (is_met name) some ≡ (is_among same_bytes name (map (λ f. f.name) some) || list_any (λ f. is_among same_bytes name (called_names (function_deeds f))) some)
met-either name [] = refl
met-either name (f ∷ some) =
    ap (λ b. is_met name f || b) (met-either name some)
    ∙ or-swap (same_bytes name f.name) (does (is_call name) f) (is_among same_bytes name (map (λ f. f.name) some)) (list_any (λ f. is_among same_bytes name (called_names (function_deeds f))) some)
    ∙ ap (λ b. (same_bytes name f.name || is_among same_bytes name (map (λ f. f.name) some)) || (b || list_any (λ f. is_among same_bytes name (called_names (function_deeds f))) some)) (sym (call-among name (function_deeds f)))

pub marked-called : (functions some : List Function) → chosen functions (map (λ f. list_any (is_met f.name) some) functions) ≡ with_called functions some
marked-called functions some = marked-filter (λ f. list_any (is_met f.name) some) functions ∙ filter-same _ _ (λ f. met-either f.name some) functions

or-false : (b : Bool) → b ≡ (b || false)
or-false true = refl
or-false false = refl

pub marked-named : (name : Name) (functions : List Function) → chosen functions (map (λ f. same_bytes f.name name) functions) ≡ named name functions
marked-named name functions = marked-filter (λ f. same_bytes f.name name) functions ∙ filter-same _ _ (λ f. or-false (same_bytes f.name name)) functions

pub marked-by : (e : Expr) (functions : List Function) → chosen functions (map (λ f. list_any (is_call f.name) (expr_deeds e)) functions) ≡ called_by e functions
marked-by e functions = marked-filter (λ f. list_any (is_call f.name) (expr_deeds e)) functions ∙ filter-same _ _ (λ f. sym (call-among f.name (expr_deeds e))) functions

pub mark-drop : (ms : List Bool) (i : ℕ) → mark_at ms i ≡ mark_at (drop i ms) 0
mark-drop [] zero = refl
mark-drop [] (suc i) = refl
mark-drop (m ∷ ms) zero = refl
mark-drop (m ∷ ms) (suc i) = mark-drop ms i

any-first : (p : Function → Bool) (f : Function) (gs : List Function) (ms : List Bool) → list_any p (chosen (f ∷ gs) ms) ≡ ((mark_at ms 0 && p f) || list_any p (chosen gs (drop 1 ms)))
any-first p f [] [] = refl
any-first p f (g ∷ gs) [] = refl
any-first p f gs (true ∷ ms) = refl
any-first p f gs (false ∷ ms) = refl

pub any-next : (p : Function → Bool) (fs : List Function) (ms : List Bool) (i : ℕ) (f : Function) → i < length fs → f ≡ get_or fs i f
    → list_any p (chosen (drop i fs) (drop i ms)) ≡ ((mark_at ms i && p f) || list_any p (chosen (drop (i + 1) fs) (drop (i + 1) ms)))
any-next p fs ms i f lt is =
    let at : drop i fs ≡ f ∷ drop (i + 1) fs = drop_more fs i f lt ∙ ap (λ g. g ∷ drop (i + 1) fs) (sym is) in
    ap (λ gs. list_any p (chosen gs (drop i ms))) at
    ∙ any-first p f (drop (i + 1) fs) (drop i ms)
    ∙ ap (λ b. (b && p f) || list_any p (chosen (drop (i + 1) fs) (drop 1 (drop i ms)))) (sym (mark-drop ms i))
    ∙ ap (λ ns. (mark_at ms i && p f) || list_any p (chosen (drop (i + 1) fs) ns)) (drop-drop 1 i ms)

pub met-here : (p : Function → Bool) (fs : List Function) (ms : List Bool) (i : ℕ) (f : Function) (b : Bool) → i < length fs → f ≡ get_or fs i f
    → list_any p (chosen (drop i fs) (drop i ms)) ≡ list_any p (chosen fs ms) → b ≡ (mark_at ms i && p f) → b ≡ true → true ≡ list_any p (chosen fs ms)
met-here p fs ms i f b lt is so step holds =
    sym (ap (λ c. c || list_any p (chosen (drop (i + 1) fs) (drop (i + 1) ms))) (sym step ∙ holds)) ∙ sym (any-next p fs ms i f lt is) ∙ so

pub met-later : (p : Function → Bool) (fs : List Function) (ms : List Bool) (i : ℕ) (f : Function) (b : Bool) → i < length fs → f ≡ get_or fs i f
    → list_any p (chosen (drop i fs) (drop i ms)) ≡ list_any p (chosen fs ms) → b ≡ (mark_at ms i && p f) → b ≡ false
    → list_any p (chosen (drop (i + 1) fs) (drop (i + 1) ms)) ≡ list_any p (chosen fs ms)
met-later p fs ms i f b lt is so step fails =
    sym (ap (λ c. c || list_any p (chosen (drop (i + 1) fs) (drop (i + 1) ms))) (sym step ∙ fails)) ∙ sym (any-next p fs ms i f lt is) ∙ so

map-last : (p : Function → Bool) (fs : List Function) (f : Function) → map p (fs ++ f ∷ []) ≡ map p fs ++ p f ∷ []
map-last p [] f = refl
map-last p (g ∷ fs) f = ap (λ bs. p g ∷ bs) (map-last p fs f)

pub map-more : (p : Function → Bool) (fs : List Function) (i : ℕ) (f : Function) (bs : List Bool) (b : Bool) → i < length fs → f ≡ get_or fs i f
    → bs ≡ map p (take i fs) → b ≡ p f → bs ++ b ∷ [] ≡ map p (take (i + 1) fs)
map-more p fs i f bs b lt is so step =
    ap (λ c. bs ++ c ∷ []) step ∙ ap (λ cs. cs ++ p f ∷ []) so ∙ sym (map-last p (take i fs) f)
    ∙ sym (ap (map p) ((take_at_read fs i f lt).1 ∙ ap (λ g. take i fs ++ g ∷ []) (sym is)))

-- ---- turns

pub turn-first : (turns : List Function) (functions some : List Function) → repeated_for turns functions (with_called functions some) ≡ with_called functions (repeated_for turns functions some)
turn-first [] functions some = refl
turn-first (t ∷ turns) functions some = ap (with_called functions) (turn-first turns functions some)

pub turn-next : (fs some : List Function) (i : ℕ) → i < length fs → repeated_for (drop (i + 1) fs) fs (with_called fs some) ≡ repeated_for (drop i fs) fs some
turn-next [] some i lt = absurd (omega arith)
turn-next (f ∷ fs) some i lt =
    turn-first (drop (i + 1) (f ∷ fs)) (f ∷ fs) some
    ∙ sym (ap (λ ts. repeated_for ts (f ∷ fs) some) (drop_more (f ∷ fs) i f lt))

-- ---- what is reached

pub none-leaves : (reads : Bool) (fs : List Function) → list_all (λ f. stays_in_fields reads f.body.statements) fs ≡ not (list_any (does (leaves_fields reads)) fs)
none-leaves reads [] = refl
none-leaves reads (f ∷ fs) = at (does (leaves_fields reads) f) (list_any (does (leaves_fields reads)) fs) (none-leaves reads fs)
  where
    at : (a b : Bool) {c : Bool} → c ≡ not b → (not a && c) ≡ not (a || b)
    at true b e = refl
    at false b e = e

pub reached-named : (name : Name) (functions : List Function) → reached functions (name ∷ []) ≡ repeated_for functions functions (named name functions)
unfolding reached
reached-named name functions = refl

pub loud-itself : (functions : List Function) (e : Expr) → list_any is_loud (expr_deeds e) ≡ true → is_quiet functions e ≡ false
unfolding is_quiet
loud-itself functions e h = ap (λ b. not b && not (list_any (λ f. list_any is_loud (function_deeds f)) (reached functions (called_names (expr_deeds e))))) h

pub quiet-reached : (functions : List Function) (e : Expr) → list_any is_loud (expr_deeds e) ≡ false
    → is_quiet functions e ≡ not (list_any (does is_loud) (repeated_for functions functions (called_by e functions)))
unfolding is_quiet reached
quiet-reached functions e h = ap (λ b. not b && not (list_any (λ f. list_any is_loud (function_deeds f)) (repeated_for functions functions (called_by e functions)))) h

pub stays-reached : (reads : Bool) (name : Name) (functions : List Function)
    → list_all (λ f. stays_in_fields reads f.body.statements) (reached functions (name ∷ [])) ≡ not (list_any (does (leaves_fields reads)) (repeated_for functions functions (named name functions)))
stays-reached reads name functions = none-leaves reads (reached functions (name ∷ [])) ∙ ap (λ fs. not (list_any (does (leaves_fields reads)) fs)) (reached-named name functions)

pub ruleset stay_laws = (stays-reached)

pub ruleset quiet_laws = (loud-itself, quiet-reached)
