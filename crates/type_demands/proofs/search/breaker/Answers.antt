use Rattle.std.proofs.Common.{◌++◌, ◌∷◌, []}
use Rattle.std.specs.Prelude.{Result, Ok, Err, IfOk}
use Rattle.udb_base.specs.declared.conditions.Cond.TheVariants as c
use Rattle.type_issues.specs.Issues.{demand_of}
use Rattle.type_demands.specs.Breaks.{IsBreaker, IsExample}
use Rattle.type_demands.proofs.BreachLaws.{breaker-from, breaker-never}
use Rattle.type_demands.proofs.search.breaker.Goals as goal

if-ok : {A E : Type 0} (r : Result A E) (P Q : A → Type 0) → IfOk r P → ((x : A) → P x → Q x) → IfOk r Q
if-ok (Ok x) P Q h f = f x h
if-ok (Err e) P Q h f = tt

pub returns-then-is_never : goal.returns-then-is_never
returns-then-is_never d =
    breaker-never d.args.space.now d.args.program.now d.args.variables.now d.args.context.now (demand_of d.args.demand.now) d.in_ok-breach.breach d.in_ok-breach.ensures (d.is_never.ensures d.if-is_never.true)

pub returns : goal.returns
returns d =
    if-ok d.example_under.result (IsExample d.args.space.now (c.All (d.args.context.now ++ d.in_ok-breach.breach ∷ [])))
    (IsBreaker d.args.space.now d.args.program.now d.args.variables.now d.args.context.now (demand_of d.args.demand.now))
    d.example_under.ensures
    (λ found example. breaker-from d.args.space.now d.args.program.now d.args.variables.now d.args.context.now (demand_of d.args.demand.now) d.in_ok-breach.breach found d.in_ok-breach.ensures example)
