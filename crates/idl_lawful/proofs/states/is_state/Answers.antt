use Rattle.std.proofs.Common.{◌≡◌, ◌<◌, ◌≤◌, ◌^◌, ◌∙◌, All, length, ap, sym, subst, arith}
use Rattle.std.specs.Bool.{Decides}
use Rattle.idl_spec.specs.Programs.{IsState}
use Rattle.idl_forms.specs.States.{state_of}
use Rattle.idl_lawful.proofs.StateTests.{state-decides}
use Rattle.idl_lawful.proofs.states.is_state.Goals as goal

pub returns : goal.returns
returns c =
    let count : length c.args.state.now.x ≡ 32 = ap length (sym c.as_slice.ensures.value) ∙ c.as_slice.ensures.count in
    let room : length c.args.state.now.ram ≤ 65536 = subst (λ ram. length ram ≤ 65536) c.as_slice-2.ensures.value c.as_slice-2.ensures.room in
    let word : c.args.state.now.word < 2 ^ 32 = subst (λ n. n < 2 ^ 32) c.of_32_bits.ensures.same c.of_32_bits.ensures.limit in
    let ram : All (λ b. b < 256) c.args.state.now.ram = subst (All (λ b. b < 256)) c.as_slice-2.ensures.value c.of_8_bits.ensures in
    subst (λ b. Decides b (IsState c.args.space.now c.args.full.now c.args.program.now (state_of c.args.state.now))) (sym c.fits.ensures)
    (state-decides c.args.space.now c.args.full.now c.args.program.now (state_of c.args.state.now) count word room ram)
