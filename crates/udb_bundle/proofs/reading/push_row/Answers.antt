use Rattle.std.proofs.Common.{◌∙◌, ap, string_bytes}
use Rattle.udb_bundle.specs.Reading.{title_of}
use Rattle.udb_bundle.proofs.TitleLemmas.{one_more_title_if_ok}
use Rattle.udb_bundle.proofs.reading.push_row.Goals as goal

pub returns-clause-titles : goal.returns-clause-titles
returns-clause-titles c =
    one_more_title_if_ok c.push.result c.args.rows.now c.push.new.self (record { kind = c.args.kind; name = c.args.name; text = c.in_ok-text.text }) (string_bytes c.in_ok-title_of.field-0) c.args.titles.now c.insert.new.self c.requires (c.in_ok-title_of.ensures ∙ ap (title_of c.args.kind) c.as_str.ensures) c.in_ok-insert.ensures.updates c.push.ensures.ok
