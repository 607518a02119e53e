use Rattle.std.proofs.Common.{ℕ, List, sym, subst}
use Rattle.idl_forms.specs.States.{state_of}
use Rattle.idl_forms.specs.Ready.{Keeps}
use Rattle.idl_forms.proofs.KeptParts.{memory-kept}
use Rattle.idl_forms.proofs.memory.write_memory.Goals as goal

pub returns-clause-kept : goal.returns-clause-kept
returns-clause-kept c =
    let scene = c.args.scene.now in
    let s = state_of c.args.state.now in
    subst (λ (ram : List ℕ). Keeps scene s (record s { ram = ram })) (sym c.store.ensures)
    (memory-kept scene s c.in_ok-place.place c.in_ok-count.count c.extension.result c.requires.sound c.in_ok-place.ensures.within)
