use Rattle.std.proofs.Common.{sym, arith}
use Rattle.idl_fault.specs.Views.{reading_of}
use Rattle.idl_fault.proofs.Stacks.{first_came, second_after_end, second_after_fault, first_stopped}
use Rattle.idl_fault.proofs.stack.farther.Goals as goal

pub returns-then-rest-left_of : goal.returns-then-rest-left_of
returns-then-rest-left_of c = rw c.in-Came.is (sym (first_came c.in-Came.rest.now (reading_of c.args.second) (omega (arith, c.left_of.ensures))))

pub returns-else-rest-left_of : goal.returns-else-rest-left_of
returns-else-rest-left_of c = rw c.in-Came.is (sym (second_after_end c.in-Came.rest.now (reading_of c.args.second) (omega (arith, c.left_of.ensures))))

pub returns-then-left_of-rest : goal.returns-then-left_of-rest
returns-then-left_of-rest c = rw c.in-Stopped.is (sym (second_after_fault c.in-Stopped.rest.now (reading_of c.args.second) (omega (arith, c.left_of-in-Stopped.ensures))))

pub returns-else-left_of-rest : goal.returns-else-left_of-rest
returns-else-left_of-rest c = rw c.in-Stopped.is (sym (first_stopped c.in-Stopped.rest.now (reading_of c.args.second) (omega (arith, c.left_of-in-Stopped.ensures))))
