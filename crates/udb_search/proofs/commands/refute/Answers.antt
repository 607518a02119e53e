use Rattle.udb_search.specs.Replies.{RefuteReply}
use Rattle.udb_search.proofs.Replied.{unbundled, unbuilt, tabled, untabled, with_tables, refutes_bundle}
use Rattle.udb_search.proofs.commands.refute.Goals as goal

pub returns-in-Err-Line : goal.returns-in-Err-Line
returns-in-Err-Line c = unbundled (RefuteReply c.args.config.now c.args.kind c.args.name.now) c.args.bytes.now c.in-Err-Line.number (c.read_bundle.ensures.bad c.in-Err-Line.number cc) c.no_bundle.result (rw (← c.in-Err-Line.number-is) c.no_bundle.ensures)

pub returns-in-None : goal.returns-in-None
returns-in-None c = unbuilt (RefuteReply c.args.config.now c.args.kind c.args.name.now) c.args.bytes.now c.in-Ok.bundle c.in-Ok.ensures.found (untabled c.in-Ok.bundle c.in_ok-tables_of-in-Ok.field-0 c.in_ok-tables_of-in-Ok.ensures c.in-None.is) c.not_built.result c.not_built.ensures

pub returns : goal.returns
returns c =
    let t = with_tables c.in-Ok.bundle c.in_ok-tables_of-in-Ok.field-0 c.in-Some.tables c.in_ok-tables_of-in-Ok.ensures c.in-Some.is in
    tabled (RefuteReply c.args.config.now c.args.kind c.args.name.now) c.args.bytes.now c.in-Ok.bundle c.in-Some.tables c.in-Ok.ensures.found t.0 t.1 c.refute_in.result (refutes_bundle c.args.config.now c.args.kind c.args.name.now c.in-Ok.bundle c.in-Some.tables c.refute_in.result c.refute_in.ensures)
