-- Texts that are put before a text: their tokens stand there, and it is known what they read as.
use Rattle.std.proofs.Common.{◌≡◌, ℕ, ◌<◌, ◌^◌, Bool, true, false, List, [], ◌∷◌, ◌++◌, codes, refl, sym, ap, ◌∙◌, subst, append_assoc, append-nil, decimal}
use Rattle.idl_token.specs.declared.kinds.Reserved.{Reserved}
use Rattle.idl_token.specs.declared.kinds.Special.{Special}
use Rattle.idl_token.specs.declared.kinds.Sign.{Sign}
use Rattle.idl_token.specs.declared.kinds.Sign.TheVariants as s
use Rattle.idl_token.specs.declared.kinds.TokenKind.{TokenKind}
use Rattle.idl_token.specs.declared.kinds.TokenKind.TheVariants as k
use Rattle.idl_token.specs.declared.before.Before.{Before}
use Rattle.idl_token.specs.Spelling.{reserved_text, special_text, sign_text}
use Rattle.idl_token.specs.Symbol.{Symbol, symbol_by}
use Rattle.idl_token.specs.Symbol as t
use Rattle.idl_back.specs.Piece.{Piece, token, gap, text_of, symbols_of, Stands, flagged, Sits, ends_before, begins_part}
use Rattle.idl_back.specs.Spelled.{IsSpelledSymbol}
use Rattle.idl_back.proofs.Pieces.{text_append, symbols_append, stands_append}
use Rattle.idl_back.proofs.FrontWords.{word_sits}
use Rattle.idl_back.proofs.FrontSigns.{part_ends}
use Rattle.idl_back.proofs.FrontNumbers.{number_sits, number_symbol}
use Rattle.idl_back.proofs.FrontParts.{part_append}
use Rattle.idl_back.proofs.FrontRows.{row_stands, row_sits, sign_outside}

-- the text is pieces with these symbols, which stand where the flag holds
pub record Lexed (v : Bool) (x : List ℕ) (ts : List Symbol) : Type 0 where
  pub pieces : List Piece
  pub text : text_of pieces ≡ x
  pub says : symbols_of pieces ≡ ts
  pub stands : Stands (flagged v) pieces []

pub lexed_none : (v : Bool) → Lexed v [] []
lexed_none v = record { pieces = []; text = refl; says = refl; stands = tt }

pub put : {v w : Bool} {x : List ℕ} {us : List Symbol} (qs : List Piece) → Lexed w x us → Sits v qs x w → Lexed v (text_of qs ++ x) (symbols_of qs ++ us)
put {v} {w} {x} {us} qs l q = record {
  pieces = qs ++ l.pieces;
  text = text_append qs l.pieces ∙ ap (λ (y : List ℕ). text_of qs ++ y) l.text;
  says = symbols_append qs l.pieces ∙ ap (λ (ts : List Symbol). symbols_of qs ++ ts) l.says;
  stands = stands_append (flagged v) qs l.pieces []
      (subst (λ (y : List ℕ). Stands (flagged v) qs y) (sym (append-nil (text_of l.pieces) ∙ l.text)) q.stands)
      (subst (λ (b : Before). Stands b l.pieces []) (sym q.leaves) l.stands);
}

pub fit : {v : Bool} {x y : List ℕ} {ts : List Symbol} → Lexed v x ts → x ≡ y → Lexed v y ts
fit {v} {x} {y} {ts} l e = subst (λ (z : List ℕ). Lexed v z ts) e l

-- ---- one token

pub put_said : {v w : Bool} {x : List ℕ} {us : List Symbol} (kind : TokenKind) (y : List ℕ) (c : Symbol) → Lexed w x us → symbol_by kind y ≡ c → Sits v (token kind y ∷ []) x w → Lexed v (y ++ x) (c ∷ us)
put_said {v} {w} {x} {us} kind y c l e q =
    fit (subst (λ (d : Symbol). Lexed v ((y ++ []) ++ x) (d ∷ us)) e (put (token kind y ∷ []) l q)) (append_assoc y [] x)

pub put_word : {v : Bool} {x : List ℕ} {us : List Symbol} (y : List ℕ) → Lexed v x us → IsSpelledSymbol (t.word y) → ends_before x ≡ true → Lexed v (y ++ x) (t.word y ∷ us)
put_word {v} {x} {us} y l q e = put_said k.Word y (t.word y) l refl (word_sits v y x q.0 q.1 e)

pub put_number : {v : Bool} {x : List ℕ} {us : List Symbol} (n : ℕ) → Lexed v x us → n < 2 ^ 128 → ends_before x ≡ true → Lexed v (decimal n ++ x) (t.number n ∷ us)
put_number {v} {x} {us} n l q e = put_said k.Number (decimal n) (t.number n) l (number_symbol n q) (number_sits v n x q e)

-- ---- rows

abbrev pub signed : Sign → Piece
signed c = token (k.Sign c) (sign_text c)

abbrev pub worded : Reserved → Piece
worded c = token (k.Reserved c) (reserved_text c)

abbrev pub special : Special → Piece
special c = token (k.Special c) (special_text c)

abbrev pub named : List ℕ → Piece
named x = token k.Word x

abbrev pub numbered : ℕ → Piece
numbered n = token k.Number (decimal n)

pub put_row : {v : Bool} {x : List ℕ} {us : List Symbol} (qs : List Piece) → Lexed v x us → row_stands v qs x ≡ true → Lexed v (text_of qs ++ x) (symbols_of qs ++ us)
put_row {v} {x} qs l e = put qs l (row_sits v qs x e)

-- ---- texts that read in some way

abbrev pub Reading : Type 1
Reading = List Symbol → List Symbol → Type 0

-- the text has symbols of which the rest reads
abbrev pub Put : Bool → Reading → List ℕ → List Symbol → Type 0
Put v P x us = (ts : List Symbol) × Lexed v x ts × P ts us

-- Before each text that ends words and numbers, and that has symbols, it has symbols that read so.
pub record Shows (v : Bool) (P : Reading) (x : List ℕ) : Type 0 where
  pub begins : begins_part x ≡ true
  pub goes : (y : List ℕ) (us : List Symbol) → Lexed v y us → ends_before y ≡ true → Put v P (x ++ y) us

pub shows_as : {v : Bool} {P Q : Reading} {x : List ℕ} → ((ts us : List Symbol) → P ts us → Q ts us) → Shows v P x → Shows v Q x
shows_as {v} {P} {Q} {x} rule p = record {
  begins = p.begins;
  goes = λ y us l e. (let a = p.goes y us l e in (a.0, a.1, rule a.0 us a.2));
}

pub shows_fit : {v : Bool} {P : Reading} {x y : List ℕ} → x ≡ y → Shows v P x → Shows v P y
shows_fit {v} {P} e p = subst (λ (z : List ℕ). Shows v P z) e p

pub part_begins : {v : Bool} {P : Reading} {x : List ℕ} (y : List ℕ) → Shows v P x → begins_part (x ++ y) ≡ true
part_begins {v} {P} {x} y p = part_append x y p.begins

-- a row of pieces
pub shows_row : {v : Bool} {Q : Reading} (qs : List Piece)
    → begins_part (text_of qs) ≡ true
    → ((y : List ℕ) → ends_before y ≡ true → Sits v qs y v)
    → ((us : List Symbol) → Q (symbols_of qs ++ us) us)
    → Shows v Q (text_of qs)
shows_row {v} {Q} qs begins sits rule = record {
  begins = begins;
  goes = λ y us l e. (symbols_of qs ++ us, put qs l (sits y e), rule us);
}

-- one text between two rows, that in front leading to where it stands
pub shows_one : {v w : Bool} {P Q : Reading} {x : List ℕ} (qs rs : List Piece)
    → Shows w P x
    → begins_part (text_of qs ++ x ++ text_of rs) ≡ true
    → ((y : List ℕ) → begins_part y ≡ true → Sits v qs y w)
    → ((y : List ℕ) → ends_before (text_of rs ++ y) ≡ true)
    → ((y : List ℕ) → ends_before y ≡ true → Sits w rs y v)
    → ((ts us : List Symbol) → P ts (symbols_of rs ++ us) → Q (symbols_of qs ++ ts) us)
    → Shows v Q (text_of qs ++ x ++ text_of rs)
shows_one {v} {w} {P} {Q} {x} qs rs p begins front ends back rule = record {
  begins = begins;
  goes = λ y us l e. (
      let behind = put rs l (back y e) in
      let a = p.goes (text_of rs ++ y) (symbols_of rs ++ us) behind (ends y) in
      let all = put qs a.1 (front (x ++ (text_of rs ++ y)) (part_begins (text_of rs ++ y) p)) in
      (symbols_of qs ++ a.0, fit all (sym (append_assoc (text_of qs ++ x) (text_of rs) y ∙ append_assoc (text_of qs) x (text_of rs ++ y))), rule a.0 us a.2));
}

-- a text behind a row
pub shows_after : {v : Bool} {P Q : Reading} {x : List ℕ} (qs : List Piece)
    → Shows v P x
    → begins_part (text_of qs ++ x) ≡ true
    → ((y : List ℕ) → begins_part y ≡ true → Sits v qs y v)
    → ((ts us : List Symbol) → P ts us → Q (symbols_of qs ++ ts) us)
    → Shows v Q (text_of qs ++ x)
shows_after {v} {P} {Q} {x} qs p begins front rule = record {
  begins = begins;
  goes = λ y us l e. (
      let a = p.goes y us l e in
      (symbols_of qs ++ a.0, fit (put qs a.1 (front (x ++ y) (part_begins y p))) (sym (append_assoc (text_of qs) x y)), rule a.0 us a.2));
}

-- a text before a row
pub shows_then : {v : Bool} {P Q : Reading} {x : List ℕ} (rs : List Piece)
    → Shows v P x
    → ((y : List ℕ) → ends_before (text_of rs ++ y) ≡ true)
    → ((y : List ℕ) → ends_before y ≡ true → Sits v rs y v)
    → ((ts us : List Symbol) → P ts (symbols_of rs ++ us) → Q ts us)
    → Shows v Q (x ++ text_of rs)
shows_then {v} {P} {Q} {x} rs p ends back rule = record {
  begins = part_append x (text_of rs) p.begins;
  goes = λ y us l e. (
      let a = p.goes (text_of rs ++ y) (symbols_of rs ++ us) (put rs l (back y e)) (ends y) in
      (a.0, fit a.1 (sym (append_assoc x (text_of rs) y)), rule a.0 us a.2));
}

-- two texts with a row between them
pub shows_two : {v : Bool} {P R Q : Reading} {x z : List ℕ} (qs : List Piece)
    → Shows v P x → Shows v R z
    → ((y : List ℕ) → begins_part y ≡ true → Sits v qs y v)
    → ((y : List ℕ) → ends_before (text_of qs ++ y) ≡ true)
    → ((ts us ws : List Symbol) → P ts (symbols_of qs ++ us) → R us ws → Q ts ws)
    → Shows v Q (x ++ text_of qs ++ z)
shows_two {v} {P} {R} {Q} {x} {z} qs p r between ends rule = record {
  begins = part_append (x ++ text_of qs) z (part_append x (text_of qs) p.begins);
  goes = λ y us l e. (
      let b = r.goes y us l e in
      let middle = put qs b.1 (between (z ++ y) (part_begins y r)) in
      let a = p.goes (text_of qs ++ (z ++ y)) (symbols_of qs ++ b.0) middle (ends (z ++ y)) in
      (a.0, fit a.1 (sym (append_assoc (x ++ text_of qs) z y ∙ append_assoc x (text_of qs) (z ++ y))), rule a.0 b.0 us a.2 b.2));
}

-- two texts among three rows
pub shows_both : {u v w : Bool} {P R Q : Reading} {x z : List ℕ} (qs ms rs : List Piece)
    → Shows v P x → Shows w R z
    → begins_part (text_of qs ++ x ++ text_of ms ++ z ++ text_of rs) ≡ true
    → ((y : List ℕ) → begins_part y ≡ true → Sits u qs y v)
    → ((y : List ℕ) → ends_before (text_of ms ++ y) ≡ true)
    → ((y : List ℕ) → begins_part y ≡ true → Sits v ms y w)
    → ((y : List ℕ) → ends_before (text_of rs ++ y) ≡ true)
    → ((y : List ℕ) → ends_before y ≡ true → Sits w rs y u)
    → ((ts us ws : List Symbol) → P ts (symbols_of ms ++ us) → R us (symbols_of rs ++ ws) → Q (symbols_of qs ++ ts) ws)
    → Shows u Q (text_of qs ++ x ++ text_of ms ++ z ++ text_of rs)
shows_both {u} {v} {w} {P} {R} {Q} {x} {z} qs ms rs p r begins front ends between ends_too back rule = record {
  begins = begins;
  goes = λ y us l e. (
      let behind = put rs l (back y e) in
      let b = r.goes (text_of rs ++ y) (symbols_of rs ++ us) behind (ends_too y) in
      let middle = put ms b.1 (between (z ++ (text_of rs ++ y)) (part_begins (text_of rs ++ y) r)) in
      let a = p.goes (text_of ms ++ (z ++ (text_of rs ++ y))) (symbols_of ms ++ b.0) middle (ends (z ++ (text_of rs ++ y))) in
      let all = put qs a.1 (front (x ++ (text_of ms ++ (z ++ (text_of rs ++ y)))) (part_begins (text_of ms ++ (z ++ (text_of rs ++ y))) p)) in
      (symbols_of qs ++ a.0, fit all (sym (five (text_of qs) x (text_of ms) z (text_of rs) y)), rule a.0 b.0 us a.2 b.2));
} where
  five : (a b c d e f : List ℕ) → (a ++ b ++ c ++ d ++ e) ++ f ≡ a ++ (b ++ (c ++ (d ++ (e ++ f))))
  five a b c d e f = append_assoc (a ++ b ++ c ++ d) e f ∙ append_assoc (a ++ b ++ c) d (e ++ f) ∙ append_assoc (a ++ b) c (d ++ (e ++ f)) ∙ append_assoc a b (c ++ (d ++ (e ++ f)))

-- in parentheses
pub shows_parens : {v : Bool} {P Q : Reading} {x : List ℕ} → ((ts us : List Symbol) → P ts (t.sign s.CloseParen ∷ us) → Q (t.sign s.OpenParen ∷ ts) us) → Shows v P x → Shows v Q (codes "(" ++ x ++ codes ")")
shows_parens {v} rule p = shows_one (signed s.OpenParen ∷ []) (signed s.CloseParen ∷ []) p refl
    (λ y b. row_sits v (signed s.OpenParen ∷ []) y refl) (λ y. refl) (λ y e. row_sits v (signed s.CloseParen ∷ []) y refl) rule

-- a token whose text is no row
pub shows_token : {v : Bool} {Q : Reading} (kind : TokenKind) (x : List ℕ) (c : Symbol)
    → symbol_by kind x ≡ c
    → begins_part x ≡ true
    → ((y : List ℕ) → ends_before y ≡ true → Sits v (token kind x ∷ []) y v)
    → ((us : List Symbol) → Q (c ∷ us) us)
    → Shows v Q x
shows_token {v} {Q} kind x c is begins sits rule = record {
  begins = begins;
  goes = λ y us l e. (c ∷ us, put_said kind x c l is (sits y e), rule us);
}

-- ---- signs before parts and between spaces

pub before_part : (c : Sign) (y : List ℕ) → begins_part y ≡ true → Sits false (signed c ∷ []) y false
before_part c y b = sign_outside c y (part_ends y b)

abbrev pub spaced : Sign → List Piece
spaced c = gap 32 ∷ signed c ∷ gap 32 ∷ []
