-- What the code knows of a source, by the tokens, slices of them and of what they say, and where both readings stop.
use Rattle.std.proofs.Common.{◌≡◌, ℕ, ◌+◌, ◌≤◌, List, length, Option, Result, Ok, Err, sym, ap, subst, ◌∙◌, arith}
use Rattle.std.specs.Prelude.{IfSome}
use Rattle.std.proofs.lemmas.List.{length-map}
use Rattle.idl_token.specs.declared.tokens.Token.{Token}
use Rattle.idl_token.specs.Lexeme.{lexeme_of, lexemes}
use Rattle.idl_token.specs.Rows.{IsRow}
use Rattle.idl_token.specs.Symbol.{Symbol, symbol_of}
use Rattle.idl_token.specs.Symbol as grammar
use Rattle.idl_grammar.specs.Faults.{Grammar}
use Rattle.idl_grammar.proofs.Whole.{Exact}
use Rattle.idl_token.specs.declared.views.Seen.{Seen}
use Rattle.idl_token.specs.Seen.{symbol, symbols}
use Rattle.idl_fault.specs.Verdict.{left_at}
use Rattle.idl_parse.specs.declared.faults.ParseFault.{ParseFault}
use Rattle.idl_parse.specs.declared.faults.Halt.{Halt}
use Rattle.idl_parse.specs.declared.faults.Halt.TheVariants as halt
use Rattle.idl_parse.specs.Parse.{Tells, Comes, fault_by}
use Rattle.idl_parse.proofs.Causes.{left_small, free_small, told, stopped}

module _ {A : Type 0} (R : Grammar A) (whole : ℕ → List Symbol → Result (A × ℕ) (List Symbol)) (exact : Exact R whole) (n : ℕ) (source : List ℕ)
    (ts tokens : List Token) (seen slice : List Seen) (row : IsRow source (lexemes ts)) (tokens_is : tokens ≡ ts) (says : symbols seen ≡ grammar.symbols (lexemes tokens)) (slice_is : slice ≡ seen) where
  said : symbols slice ≡ grammar.symbols (lexemes ts)
  said = ap symbols slice_is ∙ says ∙ ap (λ (v : List Token). grammar.symbols (lexemes v)) tokens_is

  long : (others : List Token) → others ≡ ts → length (symbols slice) ≡ length others
  long others is = ap length said ∙ length-map (lexemes ts) symbol_of ∙ length-map ts lexeme_of ∙ ap length (sym is)

  pub told_by : (x : A) → Comes (whole n (symbols slice)) (Ok x) → Tells (λ (y : A). y) R n source (Ok x)
  told_by x came = told R whole exact (λ (y : A). y) n source (lexemes ts) (symbols slice) x came.0 row said came.1

  -- what a fault within the limit tells
  halted : (r : Result A Halt) (left : ℕ) → r ≡ Err (halt.Left left) → Comes (whole n (symbols slice)) r → Comes (whole n (symbols slice)) (Err (halt.Left left))
  halted r left r-is came = subst (Comes (whole n (symbols slice))) r-is came

  pub left_by : (r : Result A Halt) (left : ℕ) → r ≡ Err (halt.Left left) → Comes (whole n (symbols slice)) r → (others : List Token) → others ≡ ts → left ≤ length others
  left_by r left r-is tells others is = let came = halted r left r-is tells in let small = left_small R whole exact n (symbols slice) came.0 came.1 in let all = long others is in omega (arith, came.2)

  module _ (again : List Seen) (again_is : again ≡ seen) (free : Option ℕ) (free_is : free ≡ left_at (whole (length again + 2) (symbols again))) where
    counted : length again ≡ length (symbols slice)
    counted = ap length (again_is ∙ sym slice_is) ∙ sym (length-map slice symbol)

    stops : free ≡ left_at (whole (length again + 2) (symbols slice))
    stops = free_is ∙ ap (λ (v : List Seen). left_at (whole (length again + 2) (symbols v))) (again_is ∙ sym slice_is)

    pub free_by : (others : List Token) → others ≡ ts → IfSome free (λ k. k ≤ length others)
    free_by others is = subst (λ (l : ℕ). IfSome free (λ k. k ≤ l)) (long others is) (free_small R whole exact (symbols slice) (length again) free counted stops)

    pub stopped_by : {T : Type 0} (view : T → A) (r : Result A Halt) (left : ℕ) → r ≡ Err (halt.Left left) → Comes (whole n (symbols slice)) r → (others : List Token) → others ≡ ts → (f : ParseFault) → f ≡ fault_by source (lexemes others) free left → Tells view R n source (Err f)
    stopped_by view r left r-is tells others is f f-is =
        let came = halted r left r-is tells in
        subst (λ (g : ParseFault). Tells view R n source (Err g)) (sym (f-is ∙ ap (λ (v : List Token). fault_by source (lexemes v) free left) is))
        (stopped R whole exact view n source (lexemes ts) (symbols slice) came.0 (length again) left free row said counted came.1 came.2 stops)
