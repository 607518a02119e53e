use Rattle.std.proofs.Common.{◌≡◌, drop, nat_eq}
use Rattle.std.specs.List.{find, starts_with}
use Rattle.idl_token.specs.Spelling.{special_text}
use Rattle.idl_token.proofs.words.first_special.Given as goal

abbrev pub invariant-words : goal.invariant-words
invariant-words l = find (λ w. starts_with nat_eq l.text (special_text w)) (drop l.kind-index l.words) ≡ find (λ w. starts_with nat_eq l.text (special_text w)) l.words
