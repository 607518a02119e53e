use Rattle.std.proofs.Common.{◌≡◌, drop, nat_eq}
use Rattle.std.specs.List.{find, starts_with}
use Rattle.idl_token.specs.Spelling.{sign_text}
use Rattle.idl_token.proofs.words.first_sign.Given as goal

abbrev pub invariant-signs : goal.invariant-signs
invariant-signs l = find (λ w. starts_with nat_eq l.text (sign_text w)) (drop l.kind-index l.signs) ≡ find (λ w. starts_with nat_eq l.text (sign_text w)) l.signs
