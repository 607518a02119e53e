use Rattle.std.proofs.Common.{◌∙◌, ap, sym}
use Rattle.idl_token.specs.Seen.{symbols}
use Rattle.idl_fault.specs.Machine as m
use Rattle.idl_fault.specs.Views.{item, stack_of, state_of, turn_of}
use Rattle.idl_fault.proofs.Stacks.{stack_empty}
use Rattle.idl_fault.proofs.Leading.{turn_leads, halts_leads, starts}
use Rattle.idl_fault.proofs.turns.run.Goals as goal

pub turns-init : goal.turns-init
turns-init c =
    λ v r. starts (stack_of c.in_ok-stack.stack.items) (m.reads (item c.args.start)) (stack_of c.new.result.items) (symbols c.args.tokens.now) v c.in_ok-stack.ensures (ap stack_of c.new.ensures.items ∙ stack_empty) r

pub returns-in-Halts : goal.returns-in-Halts
returns-in-Halts c = c.turns.invariant _ (halts_leads c.turns.state c.in-Halts.end (ap turn_of (sym c.in-Halts.is) ∙ c.in_ok-next.ensures))

pub turns-preserved : goal.turns-preserved
turns-preserved c = λ v l. c.turns.invariant v (turn_leads c.turns.state (state_of c.in-Goes.next) v (ap turn_of (sym c.in-Goes.is) ∙ c.in_ok-next.ensures) l)
