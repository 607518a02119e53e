use Rattle.std.proofs.Common.{◌∙◌, arith, subst}
use Rattle.udb_http.specs.Scans.{IsScanned}
use Rattle.udb_http.proofs.ScanLemmas.{none_ends, still_scanned, found_end, too_long}
use Rattle.udb_http.proofs.reader.read_head.Goals as goal

pub returns-in-Some-clause-found : goal.returns-in-Some-clause-found
returns-in-Some-clause-found g c =
    let front = rw (c.head_limit-limit.ensures, c.bytes.ensures) at c.front_of-front.ensures in
    found_end c.reads.buffer _ _ front c.in-Some.ensures.found.0 c.in-Some.ensures.found.1

pub returns-then-size-limit-clause-found : goal.returns-then-size-limit-clause-found
returns-then-size-limit-clause-found g c =
    let front = rw (c.head_limit-limit.ensures, c.bytes.ensures) at c.front_of-front.ensures in
    let full = rw c.head_limit-limit.ensures at c.if-size-limit.true in
    let all = c.in_default.ensures.found in
    too_long _ _ c.reads.buffer _ c.reads.invariant.stays front full (none_ends _ _ all.0 all.1)

pub reads-preserved : goal.reads-preserved
reads-preserved g c =
    let front = rw c.bytes.ensures at c.front_of-front.ensures in
    let all = c.in_default.ensures.found in
    let here = subst (λ l. IsScanned l c.find_end.new.scan) front all.1 in
    let kept = c.reads.invariant in
    let read = c.in_ok-fill.ensures in
    record {
      scanned = still_scanned _ c.reads.buffer _ _ read.front here;
      stays = λ bytes told. read.stays bytes (kept.stays bytes told);
      faults = omega (arith, kept.faults, read.cause.0);
      later = read.later ∙ kept.later;
      sent = read.sent ∙ kept.sent;
      nexts = read.nexts ∙ kept.nexts;
    }
