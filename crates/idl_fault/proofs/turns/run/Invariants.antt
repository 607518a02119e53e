use Rattle.std.proofs.Common.{false, [], ◌∷◌}
use Rattle.idl_token.specs.Seen.{symbols}
use Rattle.idl_fault.specs.Machine as m
use Rattle.idl_fault.proofs.Steps.{Leads}
use Rattle.idl_fault.specs.Views.{item, state_of}
use Rattle.idl_fault.proofs.turns.run.Given as goal

abbrev pub invariant-turns : goal.invariant-turns
invariant-turns l = (v : m.Verdict) → Leads (state_of l.state) v → m.Runs (m.frames (item l.fn.start ∷ [])) false (symbols l.fn.tokens) v
