use Rattle.std.proofs.Common.{◌≡◌, ℕ, List, [], ◌∷◌, sym, ap, ◌∙◌}
use Rattle.std.specs.Prelude.{string_bytes}
use Rattle.std.specs.Cmp.Lexicographic.{same_text, other_text}
use Rattle.udb_command.specs.Words.{words_of}
use Rattle.udb_command.proofs.Asked.{two_items, other_first}
use Rattle.udb_command.proofs.words.word_after.Goals as goal

pub returns-then-eq : goal.returns-then-eq
returns-then-eq c =
    let items : c.args.words.now ≡ c.command-item.result ∷ c.argument-item.result ∷ [] =
    two_items c.args.words.now c.command-item.result c.argument-item.result c.in-len2.len_at_least c.in-len2.len_below c.command-item.is c.argument-item.is in
    let command : c.as_str.result.now ≡ c.args.first.now = same_text c.as_str.result.now c.args.first.now c.if-eq.ensures in
    rw items
    (ap (λ (word : List ℕ). word ∷ string_bytes c.argument-item.result ∷ []) (sym c.as_str.ensures.value ∙ command)
    ∙ ap (λ (word : List ℕ). c.args.first.now ∷ word ∷ []) (sym c.as_str-then-eq.ensures.value))

pub returns-else-eq : goal.returns-else-eq
returns-else-eq c =
    let items : c.args.words.now ≡ c.command-item.result ∷ c.argument-item.result ∷ [] =
    two_items c.args.words.now c.command-item.result c.argument-item.result c.in-len2.len_at_least c.in-len2.len_below c.command-item.is c.argument-item.is in
    other_first (words_of c.args.words.now) c.args.first.now (string_bytes c.command-item.result) (string_bytes c.argument-item.result)
    (ap words_of items)
    (λ e. other_text c.as_str.result.now c.args.first.now c.if-eq.ensures (c.as_str.ensures.value ∙ e))
