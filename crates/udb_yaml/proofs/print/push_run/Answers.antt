use Rattle.std.proofs.Common.{◌∙◌, ap, List, ℕ, get_or, sym}
use Rattle.udb_yaml.proofs.PrintLemmas.{ran_one, ran_many, run_cut}
use Rattle.udb_yaml.proofs.print.push_run.Goals as goal

pub returns-then-is_escaped : goal.returns-then-is_escaped
returns-then-is_escaped c = ran_one c.args.out.now c.push_escaped.new.out c.args.text.now (get_or c.as_bytes-bytes.result.now 0 0) c.requires c.utf8.text (ap (λ (z : List ℕ). get_or z 0 0) (sym c.as_bytes-bytes.ensures.value)) (sym c.is_escaped.ensures ∙ c.if-is_escaped.true) c.in_ok-push_escaped.ensures

pub returns : goal.returns
returns c = let many = ran_many c.args.out.now c.push_str.new.self c.args.text.now c.text_before.result.now c.as_bytes-bytes.result.now c.run-count.result c.is_escaped.result c.as_bytes-bytes.ensures.value c.requires c.run-count.ensures.place c.run-count.ensures.within c.run-count.ensures.next c.is_escaped.ensures c.if-is_escaped.false c.text_before.ensures c.in_ok-push_str.ensures in
    (many.0, many.1, many.2, run_cut c.args.text.now c.as_bytes-bytes.result.now c.run-count.result c.as_bytes-bytes.ensures.value c.run-count.ensures.within c.run-count.ensures.next)
