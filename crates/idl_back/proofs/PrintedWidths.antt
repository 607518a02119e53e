-- Widths that were read are printed as texts that read as them.
use Rattle.std.proofs.Common.{◌≡◌, ℕ, suc, max, ◌<◌, ◌≤◌, ◌^◌, Bool, true, false, List, [], ◌∷◌, ◌++◌, Option, None, Some, codes, refl, sym, ap, ◌∙◌, subst, append_assoc, append-nil, decimal, arith}
use Rattle.idl_token.specs.declared.kinds.Reserved.TheVariants as r
use Rattle.idl_token.specs.declared.kinds.Special.TheVariants as p
use Rattle.idl_token.specs.declared.kinds.Sign.{Sign}
use Rattle.idl_token.specs.declared.kinds.Sign.TheVariants as s
use Rattle.idl_token.specs.declared.kinds.TokenKind.TheVariants as k
use Rattle.idl_tree.specs.declared.widths.Width.{Width}
use Rattle.idl_tree.specs.declared.widths.Width.TheVariants as w
use Rattle.idl_tree.specs.Print.{Form, within, width_form, field_text}
use Rattle.idl_tree.proofs.Printed.{width_form-Number, width_form-Word, width_form-Times, width_form-Max, width_form-Bits}
use Rattle.idl_token.specs.Symbol.{Symbol}
use Rattle.idl_token.specs.Symbol as t
use Rattle.idl_grammar.specs.Tables.{summing, is_short}
use Rattle.idl_grammar.specs.WidthGrammar as g
use Rattle.idl_grammar.specs.WidthGrammar.{ReadsWatom, ReadsTerm, ReadsSum, ReadsWidth}
use Rattle.idl_back.specs.Piece.{Piece, gap, text_of, Sits, ends_before}
use Rattle.idl_back.specs.Spelled.{IsSpelledSymbol, AreSpelled}
use Rattle.idl_back.proofs.FrontWords.{word_sits}
use Rattle.idl_back.proofs.FrontNumbers.{number_sits, number_symbol}
use Rattle.idl_back.proofs.FrontParts.{word_part, number_part}
use Rattle.idl_back.proofs.FrontRows.{row_sits, mixed_sits}
use Rattle.idl_back.proofs.PrintedTexts.{Reading, Shows, shows_as, shows_fit, shows_row, shows_two, shows_both, shows_parens, shows_token, signed, worded, special, named}
use Rattle.idl_back.proofs.PrintedTables.{SumFact, sum_fact}

-- with a nesting of at most the number
abbrev pub WatomOf : ℕ → Bool → Width → Reading
WatomOf h f a = λ ts us. (n : ℕ) × (n ≤ h) × ReadsWatom f n ts us a

abbrev pub TermOf : ℕ → Bool → Width → Reading
TermOf h f a = λ ts us. (n : ℕ) × (n ≤ h) × ReadsTerm f n ts us a

abbrev pub SumOf : ℕ → Width → Reading
SumOf h a = λ ts us. (n : ℕ) × (n ≤ h) × ReadsSum n ts us a

abbrev pub WidthOf : ℕ → Width → Reading
WidthOf h a = λ ts us. (n : ℕ) × (n ≤ h) × ReadsWidth n ts us a

-- What is printed of a width reads as it, bare and in each place where widths stand. The first
-- number bounds the nesting where it may be multiplied, the second elsewhere.
pub record ShowsWidth (v f : Bool) (i j : ℕ) (a : Width) (y : Form) : Type 0 where
  pub tight : Shows v (WatomOf i f a) (within 0 y)
  pub factor : Shows v (TermOf j f a) (within 1 y)
  pub loose : Shows v (WidthOf j a) (within 2 y)
  pub bare : Shows v (WidthOf j a) y.1

as_term : {v f : Bool} (h : ℕ) (a : Width) {x : List ℕ} → Shows v (WatomOf h f a) x → Shows v (TermOf h f a) x
as_term {v} {f} h a q = shows_as (λ ts us c. (c.0, c.1, g.atom c.2)) q

as_width : {v f : Bool} (h : ℕ) (a : Width) {x : List ℕ} → Shows v (TermOf h f a) x → Shows v (WidthOf h a) x
as_width {v} {f} h a q = shows_as (λ ts us c. (c.0, c.1, g.term c.2)) q

as_sum : {v : Bool} (h : ℕ) (a : Width) {x : List ℕ} → Shows v (SumOf h a) x → Shows v (WidthOf h a) x
as_sum {v} h a q = shows_as (λ ts us c. (c.0, c.1, g.sum_of c.2)) q

term_within : {v f : Bool} (h : ℕ) (a : Width) {x : List ℕ} → Shows v (TermOf h f a) x → Shows v (WatomOf (suc h) f a) (codes "(" ++ x ++ codes ")")
term_within {v} {f} h a q = shows_parens (λ ts us c. (suc c.0, omega (arith, c.1), g.parens c.2)) q

sum_within : {v : Bool} (h : ℕ) (a : Width) {x : List ℕ} → Shows v (SumOf h a) x → Shows v (WatomOf h false a) (codes "(" ++ x ++ codes ")")
sum_within {v} h a q = shows_parens (λ ts us c. (c.0, c.1, g.parens_sum c.2)) q

of_atom : {v f : Bool} (h : ℕ) (a : Width) {x : List ℕ} → Shows v (WatomOf h f a) x → ShowsWidth v f h h a (0, x)
of_atom h a q = record { tight = q; factor = as_term h a q; loose = as_width h a (as_term h a q); bare = as_width h a (as_term h a q) }

of_term : {v f : Bool} (h : ℕ) (a : Width) {x : List ℕ} → Shows v (TermOf h f a) x → ShowsWidth v f (suc h) h a (1, x)
of_term h a q = record { tight = term_within h a q; factor = q; loose = as_width h a q; bare = as_width h a q }

of_sum : {v : Bool} (h : ℕ) (a : Width) {x : List ℕ} → Shows v (SumOf h a) x → ShowsWidth v false h h a (2, x)
of_sum h a q = record { tight = sum_within h a q; factor = as_term h a (sum_within h a q); loose = as_sum h a q; bare = as_sum h a q }

form_is : {v f : Bool} {i j : ℕ} (a : Width) {y z : Form} → z ≡ y → ShowsWidth v f i j a y → ShowsWidth v f i j a z
form_is {v} {f} {i} {j} a e q = subst (λ (u : Form). ShowsWidth v f i j a u) (sym e) q

-- the same with higher bounds
higher : {v f : Bool} {i j : ℕ} (k l : ℕ) (a : Width) {y : Form} → i ≤ k → j ≤ l → ShowsWidth v f i j a y → ShowsWidth v f k l a y
higher {v} {f} {i} {j} k l a {y} up too q = record {
  tight = shows_as (λ ts us c. (c.0, omega (arith, c.1, up), c.2)) q.tight;
  factor = shows_as (λ ts us c. (c.0, omega (arith, c.1, too), c.2)) q.factor;
  loose = shows_as (λ ts us c. (c.0, omega (arith, c.1, too), c.2)) q.loose;
  bare = shows_as (λ ts us c. (c.0, omega (arith, c.1, too), c.2)) q.bare;
}

-- ---- numbers, words and fields

abbrev pub Just : Symbol → Reading
Just c = λ ts us. ts ≡ c ∷ us

pub just_number : (v : Bool) (n : ℕ) → n < 2 ^ 128 → Shows v (Just (t.number n)) (decimal n)
just_number v n h = shows_token k.Number (decimal n) (t.number n) (number_symbol n h) (number_part n h) (λ y e. number_sits v n y h e) (λ us. refl)

pub just_word : (v : Bool) (x : List ℕ) → IsSpelledSymbol (t.word x) → Shows v (Just (t.word x)) x
just_word v x h = shows_token k.Word x (t.word x) refl (word_part x h.0 h.1) (λ y e. word_sits v x y h.0 h.1 e) (λ us. refl)

pub number_shown : (v : Bool) (n : ℕ) → is_short n ≡ true → n < 2 ^ 128 → ShowsWidth v true 0 0 (w.Number n) (width_form (w.Number n))
number_shown v n short h = form_is (w.Number n) (width_form-Number n)
    (of_atom 0 (w.Number n) (shows_as (λ ts us e. (0, omega arith, subst (λ (z : List Symbol). ReadsWatom true 0 z us (w.Number n)) (sym e) (g.number short))) (just_number v n h)))

pub word_shown : (v : Bool) (x : List ℕ) → IsSpelledSymbol (t.word x) → ShowsWidth v true 0 0 (w.Word x) (width_form (w.Word x))
word_shown v x h = form_is (w.Word x) (width_form-Word x)
    (of_atom 0 (w.Word x) (shows_as (λ ts us e. (0, omega arith, subst (λ (z : List Symbol). ReadsWatom true 0 z us (w.Word x)) (sym e) g.word)) (just_word v x h)))

abbrev pub field_row : List ℕ → List ℕ → List Piece
field_row x y = worded r.Csr ∷ signed s.OpenBracket ∷ named x ∷ signed s.CloseBracket ∷ signed s.Dot ∷ named y ∷ []

pub field_row_text : (x y : List ℕ) → text_of (field_row x y) ≡ field_text x y
field_row_text x y = ap (λ (z : List ℕ). codes "CSR[" ++ z) (ap (λ (z : List ℕ). x ++ (codes "]." ++ z)) (append-nil y) ∙ sym (append_assoc x (codes "].") y))

pub field_sits : (v : Bool) (x y z : List ℕ) → IsSpelledSymbol (t.word x) → IsSpelledSymbol (t.word y) → ends_before z ≡ true → Sits v (field_row x y) z v
field_sits v x y z h i e = mixed_sits v (field_row x y) z (refl, (refl, ((h.0, h.1, refl), (refl, (refl, ((i.0, i.1, e), tt))))))

-- ---- what is in the other forms

abbrev bits_row : List ℕ → List Piece
bits_row x = special p.WidthOf ∷ signed s.OpenParen ∷ named x ∷ signed s.CloseParen ∷ []

bits_shown : (v : Bool) (x : List ℕ) → IsSpelledSymbol (t.word x) → ShowsWidth v true 0 0 (w.Bits None x) (width_form (w.Bits None x))
bits_shown v x h = form_is (w.Bits None x) (width_form-Bits None x)
    (of_atom 0 (w.Bits None x) (shows_row (bits_row x) refl (λ y e. mixed_sits v (bits_row x) y (refl, (refl, ((h.0, h.1, refl), (refl, tt))))) (λ us. (0, omega arith, g.bits))))

abbrev field_bits_row : List ℕ → List ℕ → List Piece
field_bits_row x y = special p.WidthOf ∷ signed s.OpenParen ∷ worded r.Csr ∷ signed s.OpenBracket ∷ named x ∷ signed s.CloseBracket ∷ signed s.Dot ∷ named y ∷ signed s.CloseParen ∷ []

field_bits_text : (x y : List ℕ) → text_of (field_bits_row x y) ≡ codes "$bits(" ++ field_text x y ++ codes ")"
field_bits_text x y = ap (λ (z : List ℕ). codes "$bits(CSR[" ++ z) (sym (append_assoc (x ++ codes "].") y (codes ")") ∙ append_assoc x (codes "].") (y ++ codes ")")))

field_bits_shown : (v : Bool) (x y : List ℕ) → IsSpelledSymbol (t.word x) → IsSpelledSymbol (t.word y) → ShowsWidth v true 0 0 (w.Bits (Some x) y) (width_form (w.Bits (Some x) y))
field_bits_shown v x y h i = form_is (w.Bits (Some x) y) (width_form-Bits (Some x) y)
    (of_atom 0 (w.Bits (Some x) y) (shows_fit (field_bits_text x y)
    (shows_row (field_bits_row x y) refl (λ z e. mixed_sits v (field_bits_row x y) z (refl, (refl, (refl, (refl, ((h.0, h.1, refl), (refl, (refl, ((i.0, i.1, refl), (refl, tt)))))))))) (λ us. (0, omega arith, g.field_bits)))))

greatest_shown : {v : Bool} (h i : ℕ) (a b : Width) → Shows v (WidthOf h a) (width_form a).1 → Shows v (WidthOf i b) (width_form b).1 → ShowsWidth v false (suc (max h i)) (suc (max h i)) (w.Max a b) (width_form (w.Max a b))
greatest_shown {v} m n a b p q = form_is (w.Max a b) (width_form-Max a b)
    (of_atom (suc (max m n)) (w.Max a b) (shows_both (worded r.Max ∷ signed s.OpenParen ∷ []) (signed s.Comma ∷ gap 32 ∷ []) (signed s.CloseParen ∷ []) p q refl
    (λ y h. row_sits v (worded r.Max ∷ signed s.OpenParen ∷ []) y refl)
    (λ y. refl)
    (λ y h. row_sits v (signed s.Comma ∷ gap 32 ∷ []) y refl)
    (λ y. refl)
    (λ y h. row_sits v (signed s.CloseParen ∷ []) y refl)
    (λ ts us ws c d. (suc (max c.0 d.0), omega (arith, c.1, d.1), g.greatest c.2 d.2))))

times_shown : {v : Bool} (i n : ℕ) (a : Width) → is_short n ≡ true → n < 2 ^ 128 → Shows v (WatomOf i true a) (within 0 (width_form a)) → ShowsWidth v true (suc (suc i)) (suc i) (w.Times (w.Number n) a) (width_form (w.Times (w.Number n) a))
times_shown {v} i n a short h q = form_is (w.Times (w.Number n) a)
    (width_form-Times (w.Number n) a ∙ ap (λ (y : Form). (1, within 0 y ++ codes "*" ++ within 0 (width_form a))) (width_form-Number n))
    (of_term (suc i) (w.Times (w.Number n) a) (shows_two (signed s.Times ∷ []) (just_number v n h) q
    (λ y b. row_sits v (signed s.Times ∷ []) y refl)
    (λ y. refl)
    (λ ts us ws e c. (suc c.0, omega (arith, c.1), subst (λ (z : List Symbol). ReadsTerm true (suc c.0) z ws (w.Times (w.Number n) a)) (sym e) (g.times short c.2)))))

times_number_shown : {v : Bool} (i : ℕ) (a : Width) (n : ℕ) → Shows v (WatomOf i true a) (within 0 (width_form a)) → is_short n ≡ true → n < 2 ^ 128 → ShowsWidth v true (suc (suc i)) (suc i) (w.Times a (w.Number n)) (width_form (w.Times a (w.Number n)))
times_number_shown {v} i a n q short h = form_is (w.Times a (w.Number n))
    (width_form-Times a (w.Number n) ∙ ap (λ (y : Form). (1, within 0 (width_form a) ++ codes "*" ++ within 0 y)) (width_form-Number n))
    (of_term (suc i) (w.Times a (w.Number n)) (shows_two (signed s.Times ∷ []) q (just_number v n h)
    (λ y b. row_sits v (signed s.Times ∷ []) y refl)
    (λ y. refl)
    (λ ts us ws c e. (suc c.0, omega (arith, c.1), g.times_number (subst (λ (z : List Symbol). ReadsWatom true c.0 ts (t.sign s.Times ∷ z) a) e c.2) short))))

sum_shown : {v f : Bool} (h i : ℕ) (c : Sign) (op : Width → Width → Width) (a b : Width) → summing c ≡ Some op → Shows v (WidthOf h a) (within 2 (width_form a)) → Shows v (TermOf i f b) (within 1 (width_form b)) → ShowsWidth v false (suc (max h i)) (suc (max h i)) (op a b) (width_form (op a b))
sum_shown {v} {f} h i c op a b is p q =
    let fact : SumFact c (Some op) = subst (λ (o : Option (Width → Width → Width)). SumFact c o) is (sum_fact c) in
    form_is (op a b) (fact.2 a b)
    (of_sum (suc (max h i)) (op a b) (shows_two (signed c ∷ []) p q (fact.0 v) fact.1 (λ ts us ws d e. (suc (max d.0 e.0), omega (arith, d.1, e.1), g.sum d.2 is e.2))))

-- ---- by the way in which it was read

mutual
  pub told_watom : (v : Bool) {f : Bool} {h : ℕ} {ts us : List Symbol} {a : Width} → ReadsWatom f h ts us a → AreSpelled ts → AreSpelled us × ShowsWidth v f h h a (width_form a)
  told_watom v (g.number {k = n} e) q = (q.1, number_shown v n e q.0)
  told_watom v (g.word {x = x}) q = (q.1, word_shown v x q.0)
  told_watom v (g.bits {x = x}) q = (q.1.1.1.1, bits_shown v x q.1.1.0)
  told_watom v (g.field_bits {x = x} {y = y}) q = (q.1.1.1.1.1.1.1.1.1, field_bits_shown v x y q.1.1.1.1.0 q.1.1.1.1.1.1.1.0)
  told_watom v (g.greatest {h = h} {i = n} {a = a} {b = b} m l) q = let i = told_width v m q.1.1 in let j = told_width v l i.0.1 in (j.0.1, greatest_shown h n a b i.1.1.bare j.1.1.bare)
  told_watom v (g.parens {h = h} {a = a} m) q = let i = told_term v m q.1 in (i.0.1, higher (suc h) (suc h) a (omega arith) (omega arith) i.1)
  told_watom v (g.parens_sum m) q = let i = told_sum v m q.1 in (i.0.1, i.1)

  pub told_term : (v : Bool) {f : Bool} {h : ℕ} {ts us : List Symbol} {a : Width} → ReadsTerm f h ts us a → AreSpelled ts → AreSpelled us × ShowsWidth v f (suc h) h a (width_form a)
  told_term v (g.atom {h = h} {a = a} m) q = let i = told_watom v m q in (i.0, higher (suc h) h a (omega arith) (omega arith) i.1)
  told_term v (g.times {k = n} {h = h} {a = a} e m) q = let i = told_watom v m q.1.1 in (i.0, times_shown h n a e q.0 i.1.tight)
  told_term v (g.times_number {k = n} {h = h} {a = a} m e) q = let i = told_watom v m q in (i.0.1.1, times_number_shown h a n i.1.tight e i.0.1.0)

  pub told_sum : (v : Bool) {h : ℕ} {ts us : List Symbol} {a : Width} → ReadsSum h ts us a → AreSpelled ts → AreSpelled us × ShowsWidth v false h h a (width_form a)
  told_sum v (g.sum {h = h} {i = n} {a = a} {b = b} {c = c} {op = op} m is l) q = let i = told_width v m q in let j = told_term v l i.0.1 in (j.0, sum_shown h n c op a b is i.1.1.loose j.1.factor)

  pub told_width : (v : Bool) {h : ℕ} {ts us : List Symbol} {a : Width} → ReadsWidth h ts us a → AreSpelled ts → AreSpelled us × ((f : Bool) × ShowsWidth v f (suc h) h a (width_form a))
  told_width v (g.term {f = f} m) q = let i = told_term v m q in (i.0, (f, i.1))
  told_width v (g.sum_of {h = h} {a = a} m) q = let i = told_sum v m q in (i.0, (false, higher (suc h) h a (omega arith) (omega arith) i.1))
