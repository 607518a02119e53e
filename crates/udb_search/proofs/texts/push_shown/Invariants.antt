use Rattle.std.proofs.Common.{◌≡◌, ◌++◌, take}
use Rattle.udb_search.specs.Texts.{shown_text}
use Rattle.udb_search.proofs.texts.push_shown.Given as goal

abbrev pub invariant-loop-line : goal.invariant-loop-line
invariant-loop-line l = l.text ≡ l.initial.text ++ shown_text (take l.line-index l.shows)
