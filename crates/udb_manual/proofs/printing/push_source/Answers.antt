use Rattle.std.proofs.Common.{append_assoc}
use Rattle.udb_manual.proofs.printing.push_source.Goals as goal

pub returns : goal.returns
returns c =
    rw (c.in_ok-push-4.ensures.ok, c.in_ok-push_lines.ensures, c.in_ok-push-3.ensures.ok, c.in_ok-push-2.ensures.ok, c.in_ok-push.ensures.ok, c.in_ok-line_with_count.ensures, c.in_ok-of.ensures, c.in_ok-of-2.ensures, c.in_ok-of-3.ensures)
    (simp append_assoc)
