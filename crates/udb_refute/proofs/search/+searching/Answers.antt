use Rattle.std.proofs.Common.{◌≡◌, ◌-◌, ◌∷◌, [], true, map, length, ap, sym, subst, arith, length-append}
use Rattle.udb_spec.specs.Cells.{Child, Below, From}
use Rattle.udb_spec.specs.Refutes.{refutes_under, each_refutes}
use Rattle.udb_cond.specs.Steps.{steps_of}
use Rattle.udb_refute.specs.Search.{IsFound}
use Rattle.udb_refute.proofs.StepLaws.{child-open, child-less}
use Rattle.udb_refute.proofs.SearchLaws.{found-under, hold-under, part-more}
use Rattle.udb_refute.proofs.search.+searching.Goals as goal

pub search_cut-returns-in-Completion : goal.search_cut-returns-in-Completion
search_cut-returns-in-Completion t c =
    let path = steps_of c.args.cells.now in
    let step = Below c.args.place c.args.at in
    found-under c.args.space.now c.args.part.now c.args.cond.now path step c.in-Completion.full (subst (IsFound c.args.space.now c.args.part.now c.args.cond.now (step ∷ path)) c.in-Completion.is c.in_ok-full.ensures)

pub search_cut-returns-in-Completion-2 : goal.search_cut-returns-in-Completion-2
search_cut-returns-in-Completion-2 t c =
    let path = steps_of c.args.cells.now in
    let step = From c.args.place c.args.at in
    found-under c.args.space.now c.args.part.now c.args.cond.now path step c.in-Completion-2.full (subst (IsFound c.args.space.now c.args.part.now c.args.cond.now (step ∷ path)) c.in-Completion-2.is c.in_ok-full-2.ensures)

pub search_split-returns-in-Completion : goal.search_split-returns-in-Completion
search_split-returns-in-Completion t c =
    let path = steps_of c.args.cells.now in
    let step = Child c.args.param c.args.place c.loop-child.child in
    found-under c.args.space.now c.args.part.now c.args.cond.now path step c.in-Completion.full (subst (IsFound c.args.space.now c.args.part.now c.args.cond.now (step ∷ path)) c.in-Completion.is c.in_ok-full.ensures)

pub search_split-search-requires : goal.search_split-search-requires
search_split-search-requires t c =
    let path = steps_of c.args.cells.now in
    let step = Child c.args.param c.args.place c.loop-child.child in
    let less = child-less c.args.space.now path c.requires.open c.args.param c.args.place c.args.count c.loop-child.child c.requires.choice c.loop-child-test.true in
    let left = child-open c.args.space.now path c.requires.open c.args.param c.args.place c.args.count c.loop-child.child c.requires.choice c.loop-child-test.true in
    let before = hold-under c.args.space.now c.args.part.now c.args.cond.now step path (c.args.first - 1) c.requires.before in
    (omega (arith, c.decreases, less), (c.requires.lists, (c.requires.places, (c.requires.few, (c.requires.table, (left, (c.requires.first, before)))))))

pub search_split-loop-child-preserved : goal.search_split-loop-child-preserved
search_split-loop-child-preserved t c =
    let path = steps_of c.args.cells.now in
    let step = Child c.args.param c.args.place c.loop-child.child in
    let refuted = subst (IsFound c.args.space.now c.args.part.now c.args.cond.now (step ∷ path)) c.in-Refuted.is c.in_ok-full.ensures in
    let pushed = c.in_ok-push-in-Refuted.ensures.ok in
    let inv = c.loop-child.invariant in
    record {
      right = subst (λ ps. each_refutes (map (refutes_under c.args.space.now c.args.part.now c.args.cond.now) ps) c.args.param c.args.place 0 path ≡ true) (sym pushed) (part-more c.args.space.now c.args.part.now c.args.cond.now path c.loop-child.parts c.in-Refuted.proof c.args.param c.args.place c.loop-child.child inv.right inv.count refuted);
      count = omega (arith, ap length pushed, length-append c.loop-child.parts (c.in-Refuted.proof ∷ []), inv.count);
    }
