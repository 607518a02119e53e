use Rattle.std.proofs.Common.{take}
use Rattle.udb_decode.specs.Kept.{AreKept}
use Rattle.udb_decode.proofs.decoder.keep_present.Given as goal

abbrev pub invariant-loop-coding : goal.invariant-loop-coding
invariant-loop-coding l = AreKept l.space l.part (take l.coding-index l.codings) l.all.items
