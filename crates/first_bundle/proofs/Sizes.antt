-- How many bytes the lines from a place on have.
use Rattle.std.proofs.Common.{◌≡◌, ℕ, suc, ◌<◌, ◌+◌, List, [], ◌∷◌, ◌++◌, length, drop, get_or, arith, add-one, length-append, drop-cons, ap, ◌∙◌}
use Rattle.udb_base.specs.Lines.{text_of_lines}

first_long : (l : List ℕ) (ls : List (List ℕ)) → length (text_of_lines (l ∷ ls)) ≡ length l + 1 + length (text_of_lines ls)
first_long l ls = omega (arith, length-append (l ++ 10 ∷ []) (text_of_lines ls), length-append l (10 ∷ []))

pub text_long : (i : ℕ) (ls : List (List ℕ)) → i < length ls → length (text_of_lines (drop i ls)) ≡ length (get_or ls i []) + 1 + length (text_of_lines (drop (i + 1) ls))
text_long i ls h = rw (add-one i) (ap (λ (x : List (List ℕ)). length (text_of_lines x)) (drop-cons ls i [] h) ∙ first_long (get_or ls i []) (drop (suc i) ls))
