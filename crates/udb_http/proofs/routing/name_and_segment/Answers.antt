use Rattle.std.proofs.Common.{◌∙◌, sym}
use Rattle.udb_http.proofs.RouteLemmas.{same_rest, other_segment}
use Rattle.udb_http.proofs.routing.name_and_segment.Goals as goal

pub returns-in_default-2 : goal.returns-in_default-2
returns-in_default-2 c n w name segment e =
    (rw c.in_default-2.is at c.in_ok-name.ensures) n w name (same_rest _ _ _ (sym c.in-Some.ensures ∙ e))

pub returns-then-not-is_segment : goal.returns-then-not-is_segment
returns-then-not-is_segment c =
    let pair = rw c.in-Some-2.is at c.in_ok-name.ensures in
    other_segment _ _ _ _ _ c.in-Some.ensures pair.0 pair.1
    (λ h. absurd (let e = c.if-not-is_segment.ensures.1 h in cc))
