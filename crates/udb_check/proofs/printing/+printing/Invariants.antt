use Rattle.std.proofs.Common.{◌≡◌, ◌++◌, take, IsTrue}
use Rattle.std.specs.List.{flat_map, list_all}
use Rattle.udb_spec.specs.ProofText.{proof_lines, is_sized}
use Rattle.udb_check.proofs.printing.+printing.Given as goal

abbrev pub invariant-push_proofs-loop-part : goal.invariant-push_proofs-loop-part
invariant-push_proofs-loop-part l = record {
  text : l.lines ≡ l.fn.lines ++ flat_map (proof_lines l.space) (take l.part-index l.parts);
  sized : IsTrue (list_all is_sized (take l.part-index l.parts));
}
