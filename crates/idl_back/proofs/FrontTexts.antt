-- Texts in front, and what they stand for.
use Rattle.std.proofs.Common.{◌≡◌, ℕ, suc, ◌+◌, ◌-◌, Bool, true, List, [], ◌∷◌, ◌++◌, length, take, refl, ap, ◌∙◌, cond, arith, append_assoc, length-append}
use Rattle.std.specs.List.{prefix_len, list_all}
use Rattle.std.proofs.lemmas.Bool.{lt-ltb}
use Rattle.std.proofs.Math.Seq.{take-append_seam}
use Rattle.idl_token.specs.declared.kinds.TokenKind.TheVariants as k
use Rattle.idl_token.specs.declared.front.Front.TheVariants.{Token, Nothing}
use Rattle.idl_token.specs.Numbers.{text_value}
use Rattle.idl_token.specs.Front as f
use Rattle.idl_token.specs.Symbol.{quoted, symbol_by}
use Rattle.idl_back.specs.Piece.{token, flagged, Sits, between_quotes}
use Rattle.idl_back.proofs.FrontBytes.{prefix_ends, no_special, other_first, plain_front, plain_other, keeps, sits_token}

quoted_front : (x s : List ℕ) → list_all f.is_no_quote x ≡ true → f.quoted (prefix_len f.is_no_quote (x ++ (34 ∷ s))) (x ++ (34 ∷ s)) ≡ Token k.Text (length x + 2)
quoted_front x s h =
    ap (λ (n : ℕ). f.quoted n (x ++ (34 ∷ s))) (prefix_ends f.is_no_quote x (34 ∷ s) h refl)
    ∙ ap (λ (b : Bool). cond b (Token k.Text (length x + 2)) Nothing) (lt-ltb (length x) (length (x ++ (34 ∷ s))) (omega (arith, length-append x (34 ∷ s))))

whole_length : (x : List ℕ) → length x + 2 ≡ suc (length (x ++ (34 ∷ [])))
whole_length x = omega (arith, length-append x (34 ∷ []))

text_front : (w : Bool) (x s : List ℕ) → list_all f.is_no_quote x ≡ true → f.front_at (flagged w) (34 ∷ ((x ++ (34 ∷ [])) ++ s)) ≡ Token k.Text (suc (length (x ++ (34 ∷ []))))
text_front w x s h =
    plain_front w (34 ∷ ((x ++ (34 ∷ [])) ++ s))
    ∙ plain_other w (34 ∷ ((x ++ (34 ∷ [])) ++ s)) refl (no_special (34 ∷ ((x ++ (34 ∷ [])) ++ s)) (other_first 34 ((x ++ (34 ∷ [])) ++ s) refl refl))
    ∙ ap (λ (r : List ℕ). f.quoted (prefix_len f.is_no_quote r) r) (append_assoc x (34 ∷ []) s)
    ∙ quoted_front x s h
    ∙ ap (λ (n : ℕ). Token k.Text n) (whole_length x)

pub text_sits : (w : Bool) (x s : List ℕ) → list_all f.is_no_quote x ≡ true → Sits w (token k.Text (between_quotes x) ∷ []) s w
text_sits w x s h = sits_token w w k.Text (between_quotes x) s (text_front w x s h) (keeps w k.Text refl)

pub value_of_text : (x : List ℕ) → text_value (between_quotes x) ≡ x
value_of_text x =
    let size = length-append x (34 ∷ []) in
    let less : suc (length (x ++ (34 ∷ []))) - 2 ≡ length x = omega arith in
    ap (λ (m : ℕ). take m (x ++ (34 ∷ []))) less ∙ take-append_seam x (34 ∷ [])

pub text_symbol : (x : List ℕ) → symbol_by k.Text (between_quotes x) ≡ quoted x
text_symbol x = ap (λ (y : List ℕ). quoted y) (value_of_text x)
