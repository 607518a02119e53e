use Rattle.std.proofs.Common.{◌∙◌, string_bytes}
use Rattle.udb_yaml.proofs.IndexLemmas.{one_more_key}
use Rattle.udb_yaml.proofs.indexed.IndexedPairs.with.Goals as goal

pub invariant_of-result : goal.invariant_of-result
invariant_of-result c =
    one_more_key c.self.inside.pairs c.push.new.self c.args.part (string_bytes c.in_ok-from_str.field-0) c.self.inside.keys c.insert.new.self c.self.invariant (c.in_ok-from_str.ensures.ok ∙ c.as_str.ensures) c.in_ok-insert.ensures.updates c.in_ok-push.ensures.ok
