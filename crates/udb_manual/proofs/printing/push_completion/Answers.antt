use Rattle.std.proofs.Common.{append_assoc}
use Rattle.udb_manual.proofs.printing.push_completion.Goals as goal

pub returns : goal.returns
returns c =
    rw (c.in_ok-push_all.ensures, c.in_ok-push.ensures.ok, c.in_ok-line_with_count.ensures, c.as_slice.ensures, c.len.ensures, c.in_ok-lines.ensures.text)
    (simp append_assoc)
