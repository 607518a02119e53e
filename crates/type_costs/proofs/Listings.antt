-- The greatest number of turns over all listings, parameter by parameter.
use Rattle.std.proofs.Common.{◌≡◌, ◌++◌, ◌∷◌, [], ℕ, max, min, List, map, Option, None, refl, sym, ap, ◌∙◌, append_assoc, append-nil, length, arith}
use Rattle.std.specs.Prelude.{fold, flat_map}
use Rattle.std.proofs.Math.Nat.{min_comm}
use Rattle.udb_base.specs.declared.versions.Version.{Version}
use Rattle.udb_base.specs.declared.conditions.Value.{Value}
use Rattle.udb_base.specs.declared.spaces.ParamSpace.{ParamSpace}
use Rattle.udb_base.specs.declared.spaces.Full.{Full}
use Rattle.idl_spec.specs.Costs.{listings, turns_under, greatest_turns}
use Rattle.idl_spec.specs.Fields.{bits_scope}
use Rattle.type_costs.specs.declared.turns.Bounds.{Bounds}
use Rattle.type_costs.specs.Turns.{names_of, turns_in, values_for, with_values, with_value, greatest_from, greatest_over}

module _ (b : Bounds) where
  -- over some listings
  abbrev over : Full → ℕ → List (List Value) → ℕ
  over full before lists = fold max before (map (λ xs. turns_in b (with_values full xs)) lists)

  over-append : (full : Full) (before : ℕ) (ls ms : List (List Value)) → over full before (ls ++ ms) ≡ over full (over full before ls) ms
  over-append full before [] ms = refl
  over-append full before (l ∷ ls) ms = over-append full (max before (turns_in b (with_values full l))) ls ms

  over-value : (full : Full) (x : Value) (before : ℕ) (ls : List (List Value)) → over full before (map (λ xs. x ∷ xs) ls) ≡ over (with_value full x) before ls
  over-value full x before [] = refl
  over-value full x before (l ∷ ls) =
      ap (λ xs. over full (max before (turns_in b (record { extensions = full.extensions; params = xs }))) (map (λ ys. x ∷ ys) ls)) (sym (append_assoc full.params (x ∷ []) l))
      ∙ over-value full x (max before (turns_in b (with_values (with_value full x) l))) ls

  abbrev left : List ParamSpace → List (List Value)
  left ps = listings (names_of b.program.now b.variables.now b.from.now b.to.now) ps

  over-values : (ps : List ParamSpace) (full : Full) (before : ℕ) (vs : List Value) → over full before (flat_map (λ x. map (λ xs. x ∷ xs) (left ps)) vs) ≡ greatest_over b ps full vs before
  unfolding greatest_from
  over-values ps full before [] = refl
  over-values ps full before (v ∷ vs) =
      over-append full before (map (λ xs. v ∷ xs) (left ps)) (flat_map (λ x. map (λ xs. x ∷ xs) (left ps)) vs)
      ∙ ap (λ n. over full n (flat_map (λ x. map (λ xs. x ∷ xs) (left ps)) vs)) (over-value full v before (left ps))
      ∙ over-values ps full (over (with_value full v) before (left ps)) vs

  pub from-none : (ps : List ParamSpace) (full : Full) (before : ℕ) → length ps ≡ 0 → greatest_from b ps full before ≡ max before (turns_in b full)
  unfolding greatest_from
  from-none (p ∷ ps) full before h = absurd (omega arith)
  from-none [] full before h = ap (λ xs. max before (turns_in b (record { extensions = full.extensions; params = xs }))) (append-nil full.params)

  pub from-param : (p : ParamSpace) (ps : List ParamSpace) (full : Full) (before : ℕ) → greatest_from b (p ∷ ps) full before ≡ greatest_over b ps full (values_for b p) before
  unfolding greatest_from
  from-param p ps full before = over-values ps full before (values_for b p)

pub ruleset listing_laws = (from-none, from-param)

pub turns-are : (b : Bounds) (choices : List (Option Version)) (values : List Value) (ps : List ParamSpace) (n : ℕ) → b.scope.now ≡ bits_scope b.program.now b.variables.now
    → choices ≡ map (λ x. None) b.space.now.extensions → values ≡ [] → ps ≡ b.space.now.params
    → n ≡ greatest_from b ps (record { extensions = choices; params = values }) 0
    → min n 1024 ≡ greatest_turns b.space.now b.program.now b.variables.now b.from.now b.to.now
unfolding greatest_from greatest_turns
turns-are b choices values ps n scope none empty all is =
    min_comm n 1024
    ∙ ap (min 1024)
    (is ∙ ap (λ cs. greatest_from b ps (record { extensions = cs; params = values }) 0) none
    ∙ ap (λ xs. greatest_from b ps (record { extensions = map (λ x. None) b.space.now.extensions; params = xs }) 0) empty
    ∙ ap (λ qs. greatest_from b qs (record { extensions = map (λ x. None) b.space.now.extensions; params = [] }) 0) all)
    ∙ ap (λ s. min 1024 (fold max 0 (map (turns_under b.space.now s b.from.now b.to.now) (listings (names_of b.program.now b.variables.now b.from.now b.to.now) b.space.now.params)))) scope
