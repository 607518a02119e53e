-- Names, texts and digits of a bundle are clean; names of Boolean parameters in lines.
use Rattle.std.proofs.Common.{◌≡◌, ℕ, zero, suc, ◌≤◌, ◌==◌, Bool, true, false, cond, not, ◌&&◌, ◌||◌, List, [], ◌∷◌, ◌++◌, length, drop, refl, ap, sym, ◌∙◌, subst, arith, nat_le, codes, All, Option, None, Some, IsTrue}
use Rattle.std.specs.List.{list_all, list_any}
use Rattle.std.specs.Option.{option_map}
use Rattle.std.specs.Cmp.Lexicographic.{bytes_decides}
use Rattle.std.proofs.lemmas.Bool.Decides.{nat_tests}
use Rattle.udb_spec.specs.Conditions.{same_bytes}
use Rattle.idl_tree.specs.declared.expressions.Unary.TheVariants.{Not}
use Rattle.idl_tree.specs.declared.expressions.Expr.{Expr}
use Rattle.idl_tree.specs.declared.expressions.Expr.TheVariants as e
use Rattle.idl_tree.specs.Each.{Each}
use Rattle.idl_tree.specs.Print.{expr_text, Form, within}
use Rattle.idl_tree.proofs.Printed.{expr_form-Word, expr_form-Unary}
use Rattle.entry_tree.specs.declared.ParamEntry.{ParamEntry}
use Rattle.first_spec.specs.Alphabets.{begins, is_upper, is_lower, is_letter, is_letter_or_digit, is_word_byte, is_dotted_byte, is_fixed_digit, is_match_digit, is_idl_type, is_idl_member, is_plain_word, is_parameter_name, is_instruction_name, is_config_name, is_spaced, is_text, is_match}
use Rattle.first_spec.specs.Bundle.{IsParam, is_flags, is_switch_name, IsTest, switch, not_switch}
use Rattle.first_bundle.specs.Lines.{plain, until}
use Rattle.first_bundle.specs.Statements.{begins_with}
use Rattle.first_bundle.specs.Blocks.{switch_or_none, read_switch, read_test}
use Rattle.first_bundle.proofs.Clean.{is_clean, clean, left_so, right_so, both_so, all_so, all_joined, plain_same}

pub each_of : {X : Type 0} (P : X → Type 0) (xs : List X) → All P xs → Each P xs
each_of P [] h = tt
each_of P (x ∷ xs) h = (h 0 x (omega arith), each_of P xs (λ k d l. h (suc k) d (omega arith)))

pub all_of : {X : Type 0} (P : X → Type 0) (xs : List X) → Each P xs → All P xs
all_of P [] h k d l = absurd (omega arith)
all_of P (x ∷ xs) h zero d l = h.0
all_of P (x ∷ xs) h (suc k) d l = all_of P xs h.1 k d (omega arith)

-- ---- alphabets

word_byte : (b : ℕ) → is_word_byte b ≡ true → is_clean b ≡ true
word_byte b h = grind (arith, nat_tests)

dotted_byte : (b : ℕ) → is_dotted_byte b ≡ true → is_clean b ≡ true
dotted_byte b h = grind (arith, nat_tests)

match_byte : (b : ℕ) → is_match_digit b ≡ true → is_clean b ≡ true
match_byte b h = grind (arith, nat_tests)

spaced_byte : (b : ℕ) (c q : Bool) → (b == 32) ≡ c → cond c q (is_letter_or_digit b) ≡ true → is_clean b ≡ true
spaced_byte b true q e h = grind (arith, nat_tests)
spaced_byte b false q e h = grind (arith, nat_tests)

pub clean_parameter : (n : List ℕ) → is_parameter_name n ≡ true → clean n ≡ true
clean_parameter n h =
    let rest = right_so (begins is_upper n) (list_all is_word_byte n && (nat_le (length n) 64 && not (is_idl_type n || is_idl_member n))) h in
    all_so is_word_byte is_clean word_byte n (left_so (list_all is_word_byte n) (nat_le (length n) 64 && not (is_idl_type n || is_idl_member n)) rest)

pub clean_instruction_name : (n : List ℕ) → is_instruction_name n ≡ true → clean n ≡ true
clean_instruction_name n h =
    let rest = right_so (begins is_lower n) (list_all is_dotted_byte n && (nat_le (length n) 64 && not (is_plain_word n))) h in
    all_so is_dotted_byte is_clean dotted_byte n (left_so (list_all is_dotted_byte n) (nat_le (length n) 64 && not (is_plain_word n)) rest)

pub clean_config_name : (n : List ℕ) → is_config_name n ≡ true → clean n ≡ true
clean_config_name n h =
    let rest = right_so (begins is_letter n) (list_all is_word_byte n && (nat_le (length n) 64 && not (is_plain_word n))) h in
    all_so is_word_byte is_clean word_byte n (left_so (list_all is_word_byte n) (nat_le (length n) 64 && not (is_plain_word n)) rest)

pub clean_match : (m : List ℕ) → is_match m ≡ true → clean m ≡ true
clean_match m h =
    let rest = right_so (length m == 32) (list_all is_match_digit m && (list_all is_fixed_digit (drop 25 m) && list_any (λ b. b == 45) m)) h in
    all_so is_match_digit is_clean match_byte m (left_so (list_all is_match_digit m) (list_all is_fixed_digit (drop 25 m) && list_any (λ b. b == 45) m) rest)

clean_spaced : (t : List ℕ) → is_spaced t ≡ true → clean t ≡ true
clean_spaced [] h = refl
clean_spaced (b ∷ bs) h =
    let first = left_so (cond (b == 32) (begins is_letter_or_digit bs) (is_letter_or_digit b)) (is_spaced bs) h in
    let rest = right_so (cond (b == 32) (begins is_letter_or_digit bs) (is_letter_or_digit b)) (is_spaced bs) h in
    both_so (is_clean b) (clean bs) (spaced_byte b (b == 32) (begins is_letter_or_digit bs) refl first) (clean_spaced bs rest)

pub clean_text : (t : List ℕ) → is_text t ≡ true → clean t ≡ true
clean_text t h = clean_spaced t (right_so (begins is_upper t) (is_spaced t) h)

-- ---- names of Boolean parameters

switch_at : (t : Bool) (p : ParamEntry) (ps : List ParamEntry) (n : List ℕ) → same_bytes p.name n ≡ t → is_parameter_name p.name ≡ true → cond t (is_flags p.domain) (is_switch_name ps n) ≡ true → (is_switch_name ps n ≡ true → is_parameter_name n ≡ true) → is_parameter_name n ≡ true
switch_at true p ps n e h k more = subst (λ (x : List ℕ). is_parameter_name x ≡ true) ((bytes_decides p.name n).0 e) h
switch_at false p ps n e h k more = more k

pub switch_parameter : (ps : List ParamEntry) → Each IsParam ps → (n : List ℕ) → is_switch_name ps n ≡ true → is_parameter_name n ≡ true
switch_parameter [] h n k = absurd (cc)
switch_parameter (p ∷ ps) h n k = switch_at (same_bytes p.name n) p ps n refl h.0.name k (switch_parameter ps h.1 n)

pub word_bytes : (n : List ℕ) → is_parameter_name n ≡ true → list_all is_word_byte n ≡ true
word_bytes n h = left_so (list_all is_word_byte n) (nat_le (length n) 64 && not (is_idl_type n || is_idl_member n)) (right_so (begins is_upper n) (list_all is_word_byte n && (nat_le (length n) 64 && not (is_idl_type n || is_idl_member n))) h)

pub upper_first : (n : List ℕ) → is_parameter_name n ≡ true → begins is_upper n ≡ true
upper_first n h = left_so (begins is_upper n) (list_all is_word_byte n && (nat_le (length n) 64 && not (is_idl_type n || is_idl_member n))) h

-- a byte that ends a name
abbrev Stops : ℕ → Type 0
Stops byte = (b : ℕ) → is_word_byte b ≡ true → (b == byte) ≡ false

pub parenthesis_stops : (b : ℕ) → is_word_byte b ≡ true → (b == 41) ≡ false
parenthesis_stops b h = grind (arith, nat_tests)

pub colon_stops : (b : ℕ) → is_word_byte b ≡ true → (b == 58) ≡ false
colon_stops b h = grind (arith, nat_tests)

pub until_name : (byte : ℕ) (n rest : List ℕ) → Stops byte → (byte == byte) ≡ true → list_all is_word_byte n ≡ true → until byte (n ++ byte ∷ rest) ≡ n
until_name byte [] rest s r h = ap (λ (t : Bool). cond t [] (byte ∷ until byte rest)) r
until_name byte (b ∷ n) rest s r h =
    ap (λ (t : Bool). cond t [] (b ∷ until byte (n ++ byte ∷ rest))) (s b (left_so (is_word_byte b) (list_all is_word_byte n) h))
    ∙ ap (λ (x : List ℕ). b ∷ x) (until_name byte n rest s r (right_so (is_word_byte b) (list_all is_word_byte n) h))

-- ---- tests

switch_read : (ps : List ParamEntry) → Each IsParam ps → (n rest : List ℕ) → is_switch_name ps n ≡ true → read_switch ps (n ++ 41 ∷ rest) ≡ Some n
switch_read ps h n rest k =
    ap (λ (x : List ℕ). switch_or_none ps (plain x)) (until_name 41 n rest parenthesis_stops refl (word_bytes n (switch_parameter ps h n k)))
    ∙ (ap (switch_or_none ps) (plain_same n (clean_parameter n (switch_parameter ps h n k)))
    ∙ ap (λ (t : Bool). cond t (Some n) None) k)

upper_no_bang : (b : ℕ) → is_upper b ≡ true → (33 == b) ≡ false
upper_no_bang b h = grind (arith, nat_tests)

no_bang : (n rest : List ℕ) → begins is_upper n ≡ true → begins_with (codes "!") (n ++ rest) ≡ false
no_bang [] rest h = absurd (cc)
no_bang (b ∷ n) rest h = ap (λ (t : Bool). t && true) (upper_no_bang b h)

pub word_text : (n : List ℕ) → expr_text (e.Word n) ≡ n
word_text n = ap (λ (f : Form). f.1) (expr_form-Word n)

pub not_text : (n : List ℕ) → expr_text (e.Unary Not (e.Word n)) ≡ 33 ∷ n
not_text n = ap (λ (f : Form). f.1) (expr_form-Unary Not (e.Word n)) ∙ ap (λ (f : Form). codes "!" ++ within 1 f) (expr_form-Word n)

word_read : (ps : List ParamEntry) (n rest : List ℕ) → begins_with (codes "!") (n ++ 41 ∷ rest) ≡ false → read_switch ps (n ++ 41 ∷ rest) ≡ Some n → read_test ps (n ++ 41 ∷ rest) ≡ Some (e.Word n)
word_read ps n rest b r =
    ap (λ (t : Bool). cond t (option_map (λ name. e.Unary Not (e.Word name)) (read_switch ps (drop 1 (n ++ 41 ∷ rest)))) (option_map (λ name. e.Word name) (read_switch ps (n ++ 41 ∷ rest)))) b
    ∙ ap (option_map (λ (name : List ℕ). e.Word name)) r

pub test_read : (ps : List ParamEntry) → Each IsParam ps → (test : Expr) (rest : List ℕ) → IsTest ps test → read_test ps (expr_text test ++ 41 ∷ rest) ≡ Some test
test_read ps h _ rest (switch n k) =
    ap (λ (x : List ℕ). read_test ps (x ++ 41 ∷ rest)) (word_text n)
    ∙ word_read ps n rest (no_bang n (41 ∷ rest) (upper_first n (switch_parameter ps h n k))) (switch_read ps h n rest k)
test_read ps h _ rest (not_switch n k) =
    ap (λ (x : List ℕ). read_test ps (x ++ 41 ∷ rest)) (not_text n)
    ∙ ap (option_map (λ (name : List ℕ). e.Unary Not (e.Word name))) (switch_read ps h n rest k)

pub clean_test : (ps : List ParamEntry) → Each IsParam ps → (test : Expr) → IsTest ps test → clean (expr_text test) ≡ true
clean_test ps h _ (switch n k) = ap clean (word_text n) ∙ clean_parameter n (switch_parameter ps h n k)
clean_test ps h _ (not_switch n k) = ap clean (not_text n) ∙ clean_parameter n (switch_parameter ps h n k)
