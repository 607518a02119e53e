use Rattle.udb_schema.proofs.SpelledLaws.{spelled_is_ok, no_value_is_syntax, no_schema_is_bad}
use Rattle.udb_schema.proofs.words.Schema.from_json.Goals as goal

pub returns-clause-spelled : goal.returns-clause-spelled
returns-clause-spelled c s is kept = spelled_is_ok c.args.text.now c.from_text.result c.from_text.ensures.ok c.from_text.ensures.syntax c.from_text.ensures.bad s is kept

pub returns-clause-no_value : goal.returns-clause-no_value
returns-clause-no_value c is kept = no_value_is_syntax c.args.text.now c.from_text.result c.from_text.ensures.ok c.from_text.ensures.bad is kept

pub returns-clause-no_schema : goal.returns-clause-no_schema
returns-clause-no_schema c none kept = no_schema_is_bad c.args.text.now c.from_text.result c.from_text.ensures.ok c.from_text.ensures.syntax none.0 none.1 none.2 kept
