use Rattle.idl_fault.proofs.Verdicts.{runs_one}
use Rattle.idl_fault.proofs.FunctionRuns.{body_runs, functions_run}
use Rattle.idl_fault.proofs.laws.machine_reads.Goals as goal

pub returns-clause-body : goal.returns-clause-body
returns-clause-body c = body_runs

pub returns-clause-functions : goal.returns-clause-functions
returns-clause-functions c = functions_run

pub returns-clause-one : goal.returns-clause-one
returns-clause-one c = runs_one
