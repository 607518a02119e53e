use Rattle.std.proofs.Common.{◌≡◌, ◌∙◌, ◌⊎◌, inl, inr, ◌∷◌, ◌+◌, ◌-◌, get_or, false, arith, refl, sym, ap, subst}
use Rattle.std.specs.Prelude.{Result, Ok, Err, IfOk}
use Rattle.type_issues.specs.Issues.{demand_of}
use Rattle.type_demands.specs.Reads.{demand_reads}
use Rattle.type_demands.specs.Cases.{numbers_of, has_numbers, verdict, listed_numbers, IsBreach, IsParamAt, HoldsAsAny}
use Rattle.type_demands.proofs.CaseLaws.{at-index, inside, breach-at-end, breach-unread, none-listed, one-more-listed, breach-of-all, breach-of-more}
use Rattle.type_demands.proofs.cases.+breaches.Goals as goal
use Rattle.type_demands.proofs.cases.+breaches.Goals.{cases-else-demand_reads-via-then-demand_reads+else-has_numbers, cases-else-demand_reads-via-else-demand_reads, number_cases-then-has_more+in_ok-rest+in_ok-push_case, number_cases-else-has_more}

if-ok : {A E : Type 0} (r : Result A E) (P Q : A → Type 0) → IfOk r P → ((x : A) → P x → Q x) → IfOk r Q
if-ok (Ok x) P Q h f = f x h
if-ok (Err e) P Q h f = tt

pub cases-returns-then-left-eq0 : goal.cases-returns-then-left-eq0
cases-returns-then-left-eq0 t c =
    let a = c.args.asked.now in
    if-ok c.verdict.result (λ cond. cond ≡ verdict a.space.now a.scope.now (demand_of a.demand.now) (numbers_of c.args.tried.now))
    (IsBreach a.space.now a.scope.now (demand_of a.demand.now) c.args.left (numbers_of c.args.tried.now))
    c.verdict.ensures
    (λ cond e. breach-at-end a.space.now a.scope.now (demand_of a.demand.now) c.args.left (numbers_of c.args.tried.now) cond c.if-left-eq0.true e)

pub cases-number_cases-requires : goal.cases-number_cases-requires
cases-number_cases-requires t c =
    let ps = c.args.asked.now.space.now.params in
    let p = c.index-as_slice-place.result in
    (omega (arith, c.decreases, c.if-left-eq0.false), (c.requires.lawful, (at-index ps (c.args.left - 1) p (omega (arith, c.requires.within, c.if-left-eq0.false)) (c.index-as_slice-place.is ∙ ap (λ qs. get_or qs (c.args.left - 1) p) c.as_slice.ensures), sym c.has_numbers.ensures ∙ c.if-has_numbers.true)))

pub cases-returns : goal.cases-returns
cases-returns t c =
    let a = c.args.asked.now in
    let ps = a.space.now.params in
    let p = c.index-as_slice-place.result in
    let one = demand_of a.demand.now in
    let at : IsParamAt a.space.now (c.args.left - 1) p = at-index ps (c.args.left - 1) p (omega (arith, c.requires.within, c.if-left-eq0.false)) (c.index-as_slice-place.is ∙ ap (λ qs. get_or qs (c.args.left - 1) p) c.as_slice.ensures) in
    let reads : c.demand_reads.result ≡ demand_reads one p.name = c.demand_reads.ensures ∙ ap (demand_reads one) c.as_str.ensures in
    let unread : (demand_reads one p.name ≡ false) ⊎ (has_numbers p.domain ≡ false) = elim c.else-demand_reads.branch [
      | cases-else-demand_reads-via-then-demand_reads+else-has_numbers w ↦ inr (sym w.has_numbers.ensures ∙ w.if-has_numbers.false)
      | cases-else-demand_reads-via-else-demand_reads w ↦ inl (sym reads ∙ w.if-demand_reads.false)
    ] in
    if-ok c.cases.result (IsBreach a.space.now a.scope.now one (c.args.left - 1) (0 ∷ numbers_of c.args.tried.now))
    (IsBreach a.space.now a.scope.now one c.args.left (numbers_of c.args.tried.now))
    c.cases.ensures
    (λ cond breach. breach-unread a.space.now a.scope.now one (c.args.left - 1) c.args.left (numbers_of c.args.tried.now) p cond c.requires.lawful (omega (arith, c.if-left-eq0.false)) at unread breach)

pub listed_cases-loop-number-init : goal.listed_cases-loop-number-init
listed_cases-loop-number-init t c =
    let a = c.args.asked.now in
    none-listed a.space.now a.scope.now (demand_of a.demand.now) (c.args.place + 1) (numbers_of c.args.tried.now) c.args.param.now.name c.new-parts.result c.new-parts.ensures

pub listed_cases-cases-requires : goal.listed_cases-cases-requires
listed_cases-cases-requires t c =
    let within = inside c.args.asked.now.space.now.params c.args.place c.args.param.now c.requires.at in
    (omega (arith, c.decreases), (c.requires.lawful, omega (arith, within)))

pub listed_cases-loop-number-preserved : goal.listed_cases-loop-number-preserved
listed_cases-loop-number-preserved t c =
    let a = c.args.asked.now in
    one-more-listed a.space.now a.scope.now (demand_of a.demand.now) c.args.place c.loop-number.number-index (get_or c.args.listed.now c.loop-number.number-index 0) (numbers_of c.args.tried.now) c.args.listed.now c.args.param.now c.in_ok-rest.rest c.loop-number.parts c.push_case.new.parts
    c.requires.at c.loop-number-test.true refl c.loop-number.invariant c.in_ok-rest.ensures c.in_ok-push_case.ensures

pub number_cases-returns : goal.number_cases-returns
number_cases-returns t c =
    let a = c.args.asked.now in
    let p = c.args.param.now in
    let one = demand_of a.demand.now in
    let listed : c.as_slice.result.now ≡ listed_numbers p.domain = c.as_slice.ensures ∙ c.in_ok-listed.ensures in
    elim c.if-has_more.branch [
      | number_cases-then-has_more+in_ok-rest+in_ok-push_case w ↦
          breach-of-more a.space.now a.scope.now one c.args.place (numbers_of c.args.tried.now) c.as_slice.result.now p c.in_ok-parts.parts w.push_case.new.parts w.in_ok-rest.rest c.any_of.result
          c.requires.lawful c.requires.at c.requires.numbers listed (sym c.has_more.ensures ∙ w.if-has_more.true) c.in_ok-parts.ensures w.in_ok-rest.ensures w.in_ok-push_case.ensures
          (subst (λ ps. HoldsAsAny ps c.any_of.result) w.parts-is c.any_of.ensures)
      | number_cases-else-has_more w ↦
          breach-of-all a.space.now a.scope.now one c.args.place (numbers_of c.args.tried.now) c.as_slice.result.now p c.in_ok-parts.parts c.any_of.result
          c.requires.lawful c.requires.at c.requires.numbers listed (sym c.has_more.ensures ∙ w.if-has_more.false) c.in_ok-parts.ensures
          (subst (λ ps. HoldsAsAny ps c.any_of.result) w.parts-is c.any_of.ensures)
    ]
