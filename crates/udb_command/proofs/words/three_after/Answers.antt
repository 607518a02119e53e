use Rattle.std.proofs.Common.{sym, ap, ◌∙◌}
use Rattle.std.specs.Prelude.{string_bytes}
use Rattle.std.specs.Cmp.Lexicographic.{same_text, other_text}
use Rattle.udb_command.specs.Words.{words_of}
use Rattle.udb_command.proofs.Asked.{four_items, other_row, row_of}
use Rattle.udb_command.proofs.words.three_after.Goals as goal

pub returns-then-eq : goal.returns-then-eq
returns-then-eq c =
    ap words_of (four_items c.args.words.now c.command-item.result c.second-item.result c.third-item.result c.fourth-item.result c.in-len4.len_at_least c.in-len4.len_below c.command-item.is c.second-item.is c.third-item.is c.fourth-item.is)
    ∙ row_of _ _ _ _ _ _ _ _ (sym c.as_str.ensures.value ∙ same_text c.as_str.result.now c.args.first.now c.if-eq.ensures)
    (sym c.as_str-then-eq.ensures.value) (sym c.as_str-then-eq-2.ensures.value) (sym c.as_str-then-eq-3.ensures.value)

pub returns-else-eq : goal.returns-else-eq
returns-else-eq c =
    other_row (words_of c.args.words.now) c.args.first.now (string_bytes c.command-item.result) (string_bytes c.second-item.result) (string_bytes c.third-item.result) (string_bytes c.fourth-item.result)
    (ap words_of (four_items c.args.words.now c.command-item.result c.second-item.result c.third-item.result c.fourth-item.result c.in-len4.len_at_least c.in-len4.len_below c.command-item.is c.second-item.is c.third-item.is c.fourth-item.is))
    (λ e. other_text c.as_str.result.now c.args.first.now c.if-eq.ensures (c.as_str.ensures.value ∙ e))
