-- Rows of pieces: their texts, their tokens, and rows behind one another.
use Rattle.std.proofs.Common.{◌≡◌, ℕ, ◌+◌, Bool, List, [], ◌∷◌, ◌++◌, length, refl, sym, ap, ◌∙◌, subst, append_assoc, append-nil}
use Rattle.std.proofs.Math.Seq.{take-append_seam, drop-append_seam}
use Rattle.idl_token.specs.declared.kinds.TokenKind.{TokenKind}
use Rattle.idl_token.specs.declared.before.Before.{Before}
use Rattle.idl_token.specs.declared.front.Front.TheVariants.{Token}
use Rattle.idl_token.specs.Lexeme.{Lexeme, lexeme}
use Rattle.idl_token.specs.Front.{start, after, front_at}
use Rattle.idl_token.specs.Rows as row
use Rattle.idl_token.specs.Rows.{Reads, IsRow}
use Rattle.idl_token.specs.Symbol.{Symbol, symbols, symbol_by}
use Rattle.idl_back.specs.Piece.{Piece, token, gap, piece_text, text_of, lexemes_from, symbols_of, Stands, state_after, flagged, Sits}

-- ---- one row behind another

pub text_append : (ps qs : List Piece) → text_of (ps ++ qs) ≡ text_of ps ++ text_of qs
text_append [] qs = refl
text_append (p ∷ ps) qs = ap (λ (t : List ℕ). piece_text p ++ t) (text_append ps qs) ∙ sym (append_assoc (piece_text p) (text_of ps) (text_of qs))

pub text_before : (ps qs : List Piece) (s : List ℕ) → text_of (ps ++ qs) ++ s ≡ text_of ps ++ (text_of qs ++ s)
text_before ps qs s = ap (λ (t : List ℕ). t ++ s) (text_append ps qs) ∙ append_assoc (text_of ps) (text_of qs) s

pub symbols_append : (ps qs : List Piece) → symbols_of (ps ++ qs) ≡ symbols_of ps ++ symbols_of qs
symbols_append [] qs = refl
symbols_append (token k x ∷ ps) qs = ap (λ (t : List Symbol). symbol_by k x ∷ t) (symbols_append ps qs)
symbols_append (gap c ∷ ps) qs = symbols_append ps qs

pub state_append : (b : Before) (ps qs : List Piece) → state_after b (ps ++ qs) ≡ state_after (state_after b ps) qs
state_append b [] qs = refl
state_append b (token k x ∷ ps) qs = state_append (after b k) ps qs
state_append b (gap c ∷ ps) qs = state_append b ps qs

pub stands_append : (b : Before) (ps qs : List Piece) (s : List ℕ) → Stands b ps (text_of qs ++ s) → Stands (state_after b ps) qs s → Stands b (ps ++ qs) s
stands_append b [] qs s h g = g
stands_append b (token k x ∷ ps) qs s h g =
    (ap (λ (t : List ℕ). front_at b (x ++ t)) (text_before ps qs s) ∙ h.0, stands_append (after b k) ps qs s h.1 g)
stands_append b (gap c ∷ ps) qs s h g =
    (ap (λ (t : List ℕ). front_at b (c ∷ t)) (text_before ps qs s) ∙ h.0, stands_append b ps qs s h.1 g)

-- ---- the same with flags

pub sits_none : (v : Bool) (s : List ℕ) → Sits v [] s v
sits_none v s = record { stands = tt; leaves = refl }

pub sits_append : (u v w : Bool) (ps qs : List Piece) (s : List ℕ) → Sits u ps (text_of qs ++ s) v → Sits v qs s w → Sits u (ps ++ qs) s w
sits_append u v w ps qs s p q = record {
  stands = stands_append (flagged u) ps qs s p.stands (subst (λ (b : Before). Stands b qs s) (sym p.leaves) q.stands);
  leaves = state_append (flagged u) ps qs ∙ ap (λ (b : Before). state_after b qs) p.leaves ∙ q.leaves;
}

-- ---- what the pieces are a row of

pub symbols_from : (n : ℕ) (ps : List Piece) → symbols (lexemes_from n ps) ≡ symbols_of ps
symbols_from n [] = refl
symbols_from n (token k x ∷ ps) = ap (λ (t : List Symbol). symbol_by k x ∷ t) (symbols_from (n + length x) ps)
symbols_from n (gap c ∷ ps) = symbols_from (n + 1) ps

-- a token in front, and then what is read behind it
token_reads : (b c : Before) (n m : ℕ) (k : TokenKind) (x r t : List ℕ) (ts : List Lexeme) → front_at b (x ++ r) ≡ Token k (length x) → Reads (after b k) (n + length x) r ts c m t → Reads b n (x ++ r) (lexeme k x n ∷ ts) c m t
token_reads b c n m k x r t ts e p =
    subst (λ (y : List ℕ). Reads b n (x ++ r) (lexeme k y n ∷ ts) c m t) (take-append_seam x r)
    (row.token e (subst (λ (y : List ℕ). Reads (after b k) (n + length x) y ts c m t) (sym (drop-append_seam x r)) p))

pub stands_reads : (b : Before) (n : ℕ) (ps : List Piece) (s : List ℕ) → Stands b ps s → (m : ℕ) × Reads b n (text_of ps ++ s) (lexemes_from n ps) (state_after b ps) m s
stands_reads b n [] s h = (n, row.done)
stands_reads b n (token k x ∷ ps) s h =
    let q = stands_reads (after b k) (n + length x) ps s h.1 in (
      q.0,
      subst (λ (y : List ℕ). Reads b n y (lexeme k x n ∷ lexemes_from (n + length x) ps) (state_after (after b k) ps) q.0 s) (sym (append_assoc x (text_of ps) s))
          (token_reads b (state_after (after b k) ps) n q.0 k x (text_of ps ++ s) s (lexemes_from (n + length x) ps) h.0 q.1),
    )
stands_reads b n (gap c ∷ ps) s h =
    let q = stands_reads b (n + 1) ps s h.1 in
    (q.0, row.gap h.0 q.1)

pub stands_row : (ps : List Piece) → Stands start ps [] → IsRow (text_of ps) (lexemes_from 0 ps)
stands_row ps h =
    let q = stands_reads start 0 ps [] h in
    (state_after start ps, q.0, subst (λ (y : List ℕ). Reads start 0 y (lexemes_from 0 ps) (state_after start ps) q.0 []) (append-nil (text_of ps)) q.1)
