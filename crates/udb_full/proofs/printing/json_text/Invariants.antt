use Rattle.std.proofs.Common.{◌≡◌, ◌∷◌}
use Rattle.std.specs.Prelude.{encode_utf8_all}
use Rattle.std.specs.List.{flat_map}
use Rattle.udb_spec.specs.ProofText.{json_byte}
use Rattle.udb_full.proofs.printing.json_text.Given as goal

abbrev pub invariant-loop-letter : goal.invariant-loop-letter
invariant-loop-letter l = l.text ≡ 34 ∷ flat_map json_byte (encode_utf8_all l.yielded)
