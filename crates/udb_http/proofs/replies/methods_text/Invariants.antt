use Rattle.std.proofs.Common.{◌≡◌, ◌++◌, take, codes, string_bytes}
use Rattle.std.specs.List.{flat_map}
use Rattle.udb_http.proofs.replies.methods_text.Given as goal

abbrev pub invariant-loop-method : goal.invariant-loop-method
invariant-loop-method l =
    string_bytes l.text
    ≡ string_bytes l.initial.text ++ flat_map (λ more. codes ", " ++ more) (take l.method-index l.rest)
