-- The costs of bodies by their places.
use Rattle.std.proofs.Common.{◌≡◌, ◌<◌, ◌≤◌, ◌+◌, length, ℕ, Bool, true, false, List, [], ◌∷◌, take, Option, None, Some, refl, sym, ap, ◌∙◌, ◌⊎◌, inl, inr, arith}
use Rattle.std.specs.Prelude.{nat_lt, slice_get, sum_by, if◌then◌else◌}
use Rattle.std.proofs.lemmas.List.{take_all}
use Rattle.std.proofs.lemmas.List.Sums.{sum_by-cons}
use Rattle.std.proofs.lemmas.Bool.{cases_lt, lt-ltb}
use Rattle.udb_base.specs.Lists.{is_among}
use Rattle.udb_base.specs.declared.names.Name.{Name}
use Rattle.udb_base.specs.declared.spaces.Space.{Space}
use Rattle.udb_spec.specs.Conditions.{same_bytes}
use Rattle.idl_tree.specs.declared.programs.Body.{Body}
use Rattle.idl_tree.specs.declared.programs.Function.{Function}
use Rattle.idl_tree.specs.declared.programs.Program.{Program}
use Rattle.idl_spec.specs.declared.scopes.BodyScope.{BodyScope}
use Rattle.idl_spec.specs.declared.scopes.BodyScope.TheVariants as scopes
use Rattle.idl_spec.specs.Costs.{Prices, cost_under, function_prices, field_bodies, reached_by_fields, cost_of_fields, soft_price, cost_of}
use Rattle.idl_spec.specs.Costs as meant
use Rattle.type_costs.specs.Capped.{capped}
use Rattle.type_costs.specs.Prices.{capped_prices, bare_prices, soft_of}
use Rattle.type_costs.specs.Bodies.{bodies_cost, body_prices, before_of, soft_at, soft_in}
use Rattle.type_costs.proofs.CappedSums.{small, large, capped-again, capped-both}
use Rattle.type_costs.proofs.SameCosts.{SamePrices, bare-same, prices-same, under-same}

-- ---- bodies of fields

bodies-next : (prices : Prices) (body : Body) (bodies : List Body) → bodies_cost prices (body ∷ bodies) ≡ capped (capped (cost_under prices body.statements) + bodies_cost prices bodies)
unfolding bodies_cost
bodies-next prices body bodies =
    let f : Body → ℕ = λ b. cost_under prices b.statements in
    ap capped (sum_by-cons f body bodies) ∙ sym (capped-both (f body) (sum_by f bodies))

bodies-same : (q r : Prices) → SamePrices q r → (bodies : List Body) → bodies_cost q bodies ≡ bodies_cost r bodies
unfolding bodies_cost
bodies-same q r same [] = refl
bodies-same q r same (body ∷ bodies) =
    bodies-next q body bodies
    ∙ (ap (λ n. capped (n + bodies_cost q bodies)) (under-same q r same body.statements) ∙ ap (λ n. capped (capped (cost_under r body.statements) + n)) (bodies-same q r same bodies))
    ∙ sym (bodies-next r body bodies)

pub fields-are : (space : Space) (program : Program) (fs : List (Name × ℕ)) → capped_prices fs ≡ capped_prices (function_prices space program (λ name. 0) [] program.functions)
    → bodies_cost (bare_prices space program fs 0) (field_bodies program) ≡ capped (cost_of_fields space program)
unfolding bodies_cost cost_of_fields
fields-are space program fs h =
    let known = function_prices space program (λ name. 0) [] program.functions in
    bodies-same (bare_prices space program fs 0) (bare_prices space program known 0) (bare-same space program fs known 0 0 h refl) (field_bodies program)

-- ---- places

pub all-before : (functions : List Function) (place : ℕ) → length functions ≤ place → before_of functions (scopes.Function place) ≡ functions
all-before functions place h = take_all place functions h

pub ruleset place_laws = (all-before)

soft-so : (reached : List Name) (cost : ℕ) (name : Name) → capped (soft_of reached (capped cost) name) ≡ capped (soft_of reached cost name)
soft-so reached cost name = at (is_among same_bytes name reached)
  where
    at : (b : Bool) → capped (if b then 0 else capped cost) ≡ capped (if b then 0 else cost)
    at true = refl
    at false = capped-again cost

soft-place : (reached : List Name) (cost : ℕ) (o : Option Function) → capped (soft_at reached (capped cost) o) ≡ capped (soft_at reached cost o)
soft-place reached cost None = refl
soft-place reached cost (Some f) = soft-so reached cost f.name

soft-scope : (functions : List Function) (reached : List Name) (cost : ℕ) (scope : BodyScope) → capped (soft_in functions reached (capped cost) scope) ≡ capped (soft_in functions reached cost scope)
soft-scope functions reached cost scopes.Operation = capped-again cost
soft-scope functions reached cost (scopes.Function place) = soft-place reached cost (slice_get functions place)
soft-scope functions reached cost (scopes.FieldType csr field) = refl
soft-scope functions reached cost (scopes.FieldReset csr field) = refl
soft-scope functions reached cost (scopes.FieldWrite csr field) = refl

-- what the cost of a body depends on
abbrev exact : Space → Program → BodyScope → Body → Prices
exact space program scope body =
    meant.prices_of space program (before_of program.functions scope) body (soft_in program.functions (reached_by_fields program) (cost_of_fields space program) scope)

cost-exact : (space : Space) (program : Program) (scope : BodyScope) (body : Body) → cost_under (exact space program scope body) body.statements ≡ cost_of space program scope body
unfolding cost_of
cost-exact space program scopes.Operation body = refl
cost-exact space program (scopes.Function place) body = at (slice_get program.functions place)
  where
    at : (o : Option Function)
        → cost_under (meant.prices_of space program (take place program.functions) body (soft_at (reached_by_fields program) (cost_of_fields space program) o)) body.statements
        ≡ cost_under (meant.prices_of space program (take place program.functions) body (meant.function_soft space program o)) body.statements
    at None = refl
    at (Some f) = refl
cost-exact space program (scopes.FieldType csr field) body = refl
cost-exact space program (scopes.FieldReset csr field) body = refl
cost-exact space program (scopes.FieldWrite csr field) body = refl

pub cost-is : (space : Space) (program : Program) (scope : BodyScope) (body : Body) (reached : List Name) (fields : ℕ) (before : List Function) (fs : List (Name × ℕ)) (soft : ℕ)
    → reached ≡ reached_by_fields program → fields ≡ capped (cost_of_fields space program) → before ≡ before_of program.functions scope
    → capped_prices fs ≡ capped_prices (function_prices space program (soft_of reached fields) [] before) → soft ≡ soft_in program.functions reached fields scope
    → capped (cost_under (body_prices space program body fs soft) body.statements) ≡ capped (cost_of space program scope body)
cost-is space program scope body reached fields before fs soft names cost called prices own =
    let all = cost_of_fields space program in
    let known = reached_by_fields program in
    under-same (body_prices space program body fs soft) (exact space program scope body)
    (record {
      space = refl;
      program = refl;
      variables = refl;
      functions = prices ∙ ap (λ ns. capped_prices (function_prices space program (soft_of ns fields) [] before)) names
          ∙ ap (λ n. capped_prices (function_prices space program (soft_of known n) [] before)) cost
          ∙ ap (λ gs. capped_prices (function_prices space program (soft_of known (capped all)) [] gs)) called
          ∙ prices-same space program (soft_of known (capped all)) (soft_price space program) [] [] (before_of program.functions scope) (soft-so known all) refl;
      soft = ap capped (own ∙ ap (λ ns. soft_in program.functions ns fields scope) names ∙ ap (λ n. soft_in program.functions known n scope) cost)
          ∙ soft-scope program.functions known all scope;
    })
    body.statements
    ∙ ap capped (cost-exact space program scope body)

-- ---- the bound

pub past-capped : (n : ℕ) → nat_lt 1048576 (capped n) ≡ nat_lt 1048576 n
past-capped n = at (cases_lt n 1048577)
  where
    at : (n < 1048577) ⊎ (1048577 ≤ n) → nat_lt 1048576 (capped n) ≡ nat_lt 1048576 n
    at (inl h) = ap (nat_lt 1048576) (small n (omega arith))
    at (inr h) = ap (nat_lt 1048576) (large n h) ∙ sym (lt-ltb 1048576 n (omega arith))

pub ruleset past_laws = (past-capped)
