-- The places of tokens by how many are left, and the tokens of a source with the faults of this crate.
use Rattle.std.proofs.Common.{◌≡◌, ℕ, zero, suc, ◌-◌, ◌<◌, ◌≤◌, List, [], ◌∷◌, length, drop, slice_index_or, Result, Err, refl, sym, ap, subst, ◌∙◌, arith}
use Rattle.std.proofs.lemmas.List.{length-map, length-drop, get_or-drop}
use Rattle.idl_token.specs.declared.tokens.Token.{Token}
use Rattle.idl_token.specs.declared.tokens.LexFault.{LexFault}
use Rattle.idl_token.specs.declared.tokens.LexFault.TheVariants as lexing
use Rattle.idl_token.specs.Lexeme.{Lexeme, lexeme_of, lexemes}
use Rattle.idl_token.specs.Rows as rows
use Rattle.idl_parse.specs.declared.faults.ParseFault.{ParseFault}
use Rattle.idl_parse.specs.declared.faults.ParseFault.TheVariants as fault
use Rattle.idl_parse.specs.Parse.{place_of, place_before, Answers, Faults, of_lexer}

place_end : (source : List ℕ) (ts : List Lexeme) (k : ℕ) → length ts ≤ k → place_of source ts k ≡ length source
place_end source [] k le = refl
place_end source (t ∷ ts) zero le = absurd (omega arith)
place_end source (t ∷ ts) (suc k) le = place_end source ts k (omega arith)

place_at : (source : List ℕ) (ts : List Token) (k : ℕ) (d : Token) → k < length ts → place_of source (lexemes ts) k ≡ (slice_index_or ts k d).at
place_at source [] k d lt = absurd (omega arith)
place_at source (t ∷ ts) zero d lt = refl
place_at source (t ∷ ts) (suc k) d lt = place_at source ts k d (omega arith)

pub place_none : (source : List ℕ) (ts rest : List Token) (left : ℕ) → left ≤ length ts → rest ≡ drop (length ts - left) ts → length rest < 1 → length source ≡ place_before source (lexemes ts) left
place_none source ts rest left le is none =
    let long = length-map ts lexeme_of in let short : length rest ≡ length ts - (length ts - left) = ap length is ∙ length-drop (length ts - left) ts in
    sym (place_end source (lexemes ts) (length (lexemes ts) - left) (omega arith))

pub place_some : (source : List ℕ) (ts rest : List Token) (left : ℕ) (d : Token) → left ≤ length ts → rest ≡ drop (length ts - left) ts → 1 ≤ length rest → (slice_index_or rest 0 d).at ≡ place_before source (lexemes ts) left
place_some source ts rest left d le is some =
    let long = length-map ts lexeme_of in let short : length rest ≡ length ts - (length ts - left) = ap length is ∙ length-drop (length ts - left) ts in
    let first : slice_index_or rest 0 d ≡ slice_index_or ts (length ts - left) d = ap (λ (v : List Token). slice_index_or v 0 d) is ∙ get_or-drop (length ts - left) ts 0 d ∙ ap (λ (k : ℕ). slice_index_or ts k d) (omega arith) in
    ap (λ (t : Token). t.at) first ∙ sym (ap (λ (l : ℕ). place_of source (lexemes ts) (l - left)) long ∙ place_at source ts (length ts - left) d (omega arith))

-- ---- faults of the lexer

module _ {T : Type 0} (r : Result T LexFault) (e : LexFault) (f : ParseFault) (fails : r ≡ Err e) (is : f ≡ of_lexer e) where
  only_on : (view : T → List Lexeme) (e : LexFault) (ts : List Lexeme) → f ≡ of_lexer e → rows.Answers view (Err e) ts → Answers view (Err f) ts
  only_on view lexing.Memory ts is a = subst (λ (g : ParseFault). Answers view (Err g) ts) (sym is) tt
  only_on view (lexing.BadToken at) ts is a = absurd a

  pub lex_only : (view : T → List Lexeme) (ts : List Lexeme) → rows.Answers view r ts → Answers view (Err f) ts
  lex_only view ts a = only_on view e ts is (subst (λ (q : Result T LexFault). rows.Answers view q ts) fails a)

  bad_on : (e : LexFault) (at : ℕ) → f ≡ of_lexer e → rows.Faults {T = T} (Err e) at → Faults {T = T} (Err f) (fault.BadToken at)
  bad_on lexing.Memory at is a = subst (λ (g : ParseFault). Faults {T = T} (Err g) (fault.BadToken at)) (sym is) tt
  bad_on (lexing.BadToken k) at is a = subst (λ (g : ParseFault). Faults {T = T} (Err g) (fault.BadToken at)) (sym is) (ap (λ (n : ℕ). fault.BadToken n) a)

  pub lex_bad_only : (at : ℕ) → rows.Faults r at → Faults {T = T} (Err f) (fault.BadToken at)
  lex_bad_only at a = bad_on e at is (subst (λ (q : Result T LexFault). rows.Faults q at) fails a)
