use Rattle.std.proofs.Common.{ℕ, ltb, length, sym, ap, ◌∙◌}
use Rattle.udb_yaml.proofs.PlaceLemmas.{has_pair_place}
use Rattle.udb_yaml.proofs.bytes.has_pair.Goals as goal

pub returns : goal.returns
returns c = ap (λ (z : ℕ). ltb z (length c.args.text.now)) c.pair.ensures.place ∙ sym (has_pair_place c.args.first c.args.second c.args.text.now)
