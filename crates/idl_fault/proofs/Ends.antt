-- The machine's verdict is the readers' one.
use Rattle.std.proofs.Common.{◌≡◌, ◌+◌, false, List, [], ◌∷◌, length, ℕ, Ok, Err, Result, refl, ap, ◌∙◌}
use Rattle.idl_token.specs.Symbol.{Symbol}
use Rattle.idl_grammar.specs.StmtReader.{whole_body, whole_functions}
use Rattle.idl_token.specs.declared.views.Seen.{Seen}
use Rattle.idl_token.specs.Seen.{symbols}
use Rattle.idl_fault.specs.Machine as m
use Rattle.idl_fault.specs.Verdict.{verdict, left_at}
use Rattle.idl_fault.proofs.Verdicts.{runs_one}
use Rattle.idl_fault.proofs.FunctionRuns.{body_runs, functions_run}
use Rattle.idl_fault.proofs.Stacks.{seen_length}

left_at_verdict : {A : Type 0} (r : Result A (List Symbol)) → left_at (verdict r) ≡ left_at r
left_at_verdict (Ok x) = refl
left_at_verdict (Err rest) = refl

pub body_left : (ts : List Seen) (v : m.Verdict) → m.Runs (m.frames (m.stmts ∷ [])) false (symbols ts) v → left_at v ≡ left_at (whole_body (length ts + 2) (symbols ts))
body_left ts v runs = ap left_at (runs_one _ false (symbols ts) v _ runs (body_runs false (symbols ts))) ∙ left_at_verdict (whole_body (length (symbols ts) + 2) (symbols ts)) ∙ ap (λ (n : ℕ). left_at (whole_body (n + 2) (symbols ts))) (seen_length ts)

pub functions_left : (ts : List Seen) (v : m.Verdict) → m.Runs (m.frames (m.functions ∷ [])) false (symbols ts) v → left_at v ≡ left_at (whole_functions (length ts + 2) (symbols ts))
functions_left ts v runs = ap left_at (runs_one _ false (symbols ts) v _ runs (functions_run false (symbols ts))) ∙ left_at_verdict (whole_functions (length (symbols ts) + 2) (symbols ts)) ∙ ap (λ (n : ℕ). left_at (whole_functions (n + 2) (symbols ts))) (seen_length ts)
