-- Lines after a margin, each ended by a line feed, and blocks of lines.
use Rattle.std.proofs.Common.{◌≡◌, ℕ, ◌==◌, true, false, List, [], ◌∷◌, ◌++◌, map, codes, refl, sym, ap, ◌∙◌, subst, append_assoc, append-nil}
use Rattle.std.specs.List.{flat_map, list_all}
use Rattle.std.proofs.lemmas.Bool.{and_parts, and_from, or_left}
use Rattle.idl_tree.specs.declared.statements.Stmt.{Stmt}
use Rattle.udb_base.specs.Lines.{Lines, text_of_lines}
use Rattle.idl_tree.specs.Print.{margined, indented, enclosed, stmt_lines}
use Rattle.idl_tree.proofs.Margins.{margined-append, margined-nil, margined-one, margined-twice, lines_of}
use Rattle.idl_token.specs.Symbol.{Symbol}
use Rattle.idl_back.specs.Piece.{Piece, gap, text_of, symbols_of, Sits, ends_before}
use Rattle.idl_back.proofs.FrontBytes.{sits_gap}
use Rattle.idl_back.proofs.PrintedTexts.{Lexed, Reading, Put, Shows, put, fit}

-- ---- margins

abbrev pub IsMargin : List ℕ → Type 0
IsMargin m = list_all (λ c. c == 32) m ≡ true

put_margin : {x : List ℕ} {us : List Symbol} (m : List ℕ) → IsMargin m → Lexed false x us → Lexed false (m ++ x) us
put_margin [] h l = l
put_margin {x} {us} (c ∷ m) h l =
    let q = and_parts (c == 32) (list_all (λ b. b == 32) m) h in
    put (gap c ∷ []) (put_margin m q.1 l) (sits_gap false c (m ++ x) (or_left (c == 32) (c == 10) q.0))

wider : (m : List ℕ) → IsMargin m → IsMargin (m ++ codes "  ")
wider [] h = refl
wider (c ∷ m) h =
    let q = and_parts (c == 32) (list_all (λ b. b == 32) m) h in
    and_from (c == 32) (list_all (λ b. b == 32) (m ++ codes "  ")) q.0 (wider m q.1)

-- ---- a line

-- a text as in `Shows`, whatever it begins with
pub record Ends (P : Reading) (x : List ℕ) : Type 0 where
  pub goes : (y : List ℕ) (us : List Symbol) → Lexed false y us → ends_before y ≡ true → Put false P (x ++ y) us

pub shown_ends : {P : Reading} {x : List ℕ} → Shows false P x → Ends P x
shown_ends p = record { goes = p.goes }

pub row_ends : (qs : List Piece) → ((y : List ℕ) → ends_before y ≡ true → Sits false qs y false) → Ends (λ ts us. ts ≡ symbols_of qs ++ us) (text_of qs)
row_ends qs sits = record { goes = λ y us l e. (symbols_of qs ++ us, put qs l (sits y e), refl) }

-- Lines that read so, after any margin and before any text that has symbols.
pub record Goes (P : Reading) (ls : Lines) : Type 0 where
  pub goes : (m : List ℕ) → IsMargin m → (y : List ℕ) (us : List Symbol) → Lexed false y us → Put false P (text_of_lines (margined m ls) ++ y) us

one_margined : (m x y : List ℕ) → text_of_lines (margined m (x ∷ [])) ++ y ≡ m ++ (x ++ (10 ∷ y))
one_margined m x y =
    ap (λ (ls : Lines). text_of_lines ls ++ y) (margined-one m x)
    ∙ ap (λ (z : List ℕ). z ++ y) (append-nil ((m ++ x) ++ 10 ∷ []))
    ∙ append_assoc (m ++ x) (10 ∷ []) y
    ∙ append_assoc m x (10 ∷ y)

pub one_line : {P : Reading} {x : List ℕ} → Ends P x → Goes P (x ∷ [])
one_line {P} {x} p = record {
  goes = λ m h y us l. (
      let a = p.goes (10 ∷ y) us (put (gap 10 ∷ []) l (sits_gap false 10 y refl)) refl in
      (a.0, fit (put_margin m h a.1) (sym (one_margined m x y)), a.2));
}

-- ---- several lines

pub goes_is : {P : Reading} {ls ks : Lines} → ks ≡ ls → Goes P ls → Goes P ks
goes_is {P} e p = subst (λ (z : Lines). Goes P z) (sym e) p

pub goes_as : {P Q : Reading} {ls : Lines} → ((ts us : List Symbol) → P ts us → Q ts us) → Goes P ls → Goes Q ls
goes_as {P} {Q} rule p = record { goes = λ m h y us l. (let a = p.goes m h y us l in (a.0, a.1, rule a.0 us a.2)) }

pub no_lines : {P : Reading} → ((us : List Symbol) → P us us) → Goes P []
no_lines {P} rule = record { goes = λ m h y us l. (us, fit l (sym (ap (λ (ls : Lines). text_of_lines ls ++ y) (margined-nil m))), rule us) }

lines_append : (ls ks : Lines) → text_of_lines (ls ++ ks) ≡ text_of_lines ls ++ text_of_lines ks
lines_append [] ks = refl
lines_append (l ∷ ls) ks = ap (λ (z : List ℕ). (l ++ 10 ∷ []) ++ z) (lines_append ls ks) ∙ sym (append_assoc (l ++ 10 ∷ []) (text_of_lines ls) (text_of_lines ks))

margined_before : (m : List ℕ) (ls ks : Lines) (y : List ℕ) → text_of_lines (margined m (ls ++ ks)) ++ y ≡ text_of_lines (margined m ls) ++ (text_of_lines (margined m ks) ++ y)
margined_before m ls ks y =
    ap (λ (z : Lines). text_of_lines z ++ y) (margined-append m ls ks)
    ∙ ap (λ (z : List ℕ). z ++ y) (lines_append (margined m ls) (margined m ks))
    ∙ append_assoc (text_of_lines (margined m ls)) (text_of_lines (margined m ks)) y

pub goes_on : {P R Q : Reading} {ls ks : Lines} → Goes P ls → Goes R ks → ((ts us ws : List Symbol) → P ts us → R us ws → Q ts ws) → Goes Q (ls ++ ks)
goes_on {P} {R} {Q} {ls} {ks} p r rule = record {
  goes = λ m h y us l. (
      let b = r.goes m h y us l in
      let a = p.goes m h (text_of_lines (margined m ks) ++ y) b.0 b.1 in
      (a.0, fit a.1 (sym (margined_before m ls ks y)), rule a.0 b.0 us a.2 b.2));
}

pub further : {P : Reading} {ls : Lines} → Goes P ls → Goes P (indented ls)
further {P} {ls} p = record {
  goes = λ m h y us l. (
      let a = p.goes (m ++ codes "  ") (wider m h) y us l in
      (a.0, fit a.1 (ap (λ (z : Lines). text_of_lines z ++ y) (margined-twice m (codes "  ") ls)), a.2));
}

abbrev pub Behind : Reading → Reading → Reading
Behind P R = λ ts ws. (us : List Symbol) × P ts us × R us ws

-- statements between a first line and last ones
pub block_goes : {P B R Q : Reading} {first : List ℕ} {last : Lines} (ss : List Stmt) → Ends P first → Goes B (flat_map stmt_lines ss) → Goes R last
    → ((ts us vs ws : List Symbol) → P ts us → B us vs → R vs ws → Q ts ws) → Goes Q (enclosed first (map stmt_lines ss) last)
block_goes {P} {B} {R} {Q} {first} {last} ss p b r rule =
    goes_is (ap (λ (z : Lines). first ∷ (indented z ++ last)) (lines_of ss))
    (goes_on (one_line p) (behind (further b) r) (λ ts us ws c d. rule ts us d.0 ws c d.1 d.2))
  where
    behind : Goes B (indented (flat_map stmt_lines ss)) → Goes R last → Goes (Behind B R) (indented (flat_map stmt_lines ss) ++ last)
    behind q m = goes_on q m (λ ts us ws c d. (us, c, d))
