use Rattle.std.proofs.Common.{◌≡◌, ◌+◌}
use Rattle.udb_http.specs.Scans.{IsScanned}
use Rattle.udb_http.proofs.scans.find_end.Given as goal

abbrev pub invariant-loop-byte : goal.invariant-loop-byte
invariant-loop-byte l = record { at : l.scan.at ≡ l.start + l.byte-index; scanned : IsScanned l.bytes l.scan }
