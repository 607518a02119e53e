use Rattle.std.proofs.Common.{◌≡◌, drop}
use Rattle.std.specs.List.{find}
use Rattle.std.specs.Str.{bytes_eq}
use Rattle.idl_token.specs.Spelling.{reserved_text}
use Rattle.idl_token.proofs.words.first_reserved.Given as goal

abbrev pub invariant-words : goal.invariant-words
invariant-words l = find (λ w. bytes_eq l.word (reserved_text w)) (drop l.kind-index l.words) ≡ find (λ w. bytes_eq l.word (reserved_text w)) l.words
