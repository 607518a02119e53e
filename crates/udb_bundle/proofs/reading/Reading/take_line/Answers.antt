use Rattle.std.proofs.Common.{◌∙◌, sym, ap}
use Rattle.udb_bundle.specs.Reading.{has_row}
use Rattle.udb_bundle.proofs.KeepLemmas.{advanced_rows}
use Rattle.udb_bundle.proofs.reading.Reading.take_line.Goals as goal

pub close-requires : goal.close-requires
close-requires c =
    let same = advanced_rows c.args.self.now.part c.args.self.now c.in-Ok.text.now c.take_part_line.new.self c.in_ok-take_part_line.ensures in
    λ t. c.requires t ∙ ap (has_row t) (sym same)
