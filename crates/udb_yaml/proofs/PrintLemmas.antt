-- The text that is written of a tree.
use Rattle.std.proofs.Common.{◌≡◌, ℕ, suc, ◌+◌, ◌<◌, ◌≤◌, Bool, true, false, cond, not, ◌||◌, IsTrue, ℤ, eqb, ltb, List, [], ◌∷◌, ◌++◌, length, take, drop, get_or, map, inl, inr, refl, sym, ap, subst, ◌∙◌, append_assoc, append-nil, arith, ne_eqb, lt-ltb, IsUtf8}
use Rattle.std.proofs.lemmas.Bool.{eqb-true, ltb-true, cases_lt}
use Rattle.std.proofs.lemmas.Str.{IsCharBoundary-end, IsCharBoundary-after_ascii, IsCharBoundary-before_ascii}
use Rattle.std.specs.Str.{IsCharBoundary}
use Rattle.std.specs.Fmt.{signed_decimal}
use Rattle.yaml_spec.specs.declared.tree.Tree.{Tree}
use Rattle.yaml_spec.specs.declared.tree.Tree.TheVariants as tree
use Rattle.yaml_spec.specs.declared.tree.Pair.{Pair}
use Rattle.yaml_spec.specs.Line.{spaces}
use Rattle.yaml_spec.specs.Spells.{Line, at}
use Rattle.yaml_spec.specs.Texts.{Spelled}
use Rattle.yaml_spec.specs.Print as p
use Rattle.yaml_spec.specs.Print.{Shown, shown, quote, escape, escape_byte, moved, text_of_lines}
use Rattle.yaml_spec.proofs.Printed.{shown-Null, shown-Flag, shown-Int, shown-Text, shown-List, shown-Map, entry-pair, moved_moved, written_spells}
use Rattle.udb_yaml.specs.Printing.{is_escaped, run_place, value_text, items_text, entries_text, group_text}

-- ---- quotes

pub run_first : (s : List ℕ) → escape s ≡ take (run_place s) s ++ escape (drop (run_place s) s)
run_first [] = refl
run_first (c ∷ s) = go (is_escaped c) refl (run_first s)
  where
    kept : eqb c 34 ≡ false → eqb c 92 ≡ false → ltb c 32 ≡ false → escape_byte c ≡ c ∷ []
    kept a b small =
        let feed : eqb c 10 ≡ false = ne_eqb c 10 (λ e. let lt = lt-ltb c 32 (omega arith) in absurd cc) in
        let tab : eqb c 9 ≡ false = ne_eqb c 9 (λ e. let lt = lt-ltb c 32 (omega arith) in absurd cc) in
        let turn : eqb c 13 ≡ false = ne_eqb c 13 (λ e. let lt = lt-ltb c 32 (omega arith) in absurd cc) in
        rw (a, b, feed, tab, turn, small) refl

    plain : (x y z : Bool) → eqb c 34 ≡ x → eqb c 92 ≡ y → ltb c 32 ≡ z → (x || (y || z)) ≡ false → escape_byte c ≡ c ∷ []
    plain true y z a b small e = absurd cc
    plain false true z a b small e = absurd cc
    plain false false true a b small e = absurd cc
    plain false false false a b small e = kept a b small

    go : (b : Bool) → is_escaped c ≡ b → escape s ≡ take (run_place s) s ++ escape (drop (run_place s) s) → escape_byte c ++ escape s ≡ take (cond b 0 (suc (run_place s))) (c ∷ s) ++ escape (drop (cond b 0 (suc (run_place s))) (c ∷ s))
    go true is again = refl
    go false is again = ap (λ (z : List ℕ). z ++ escape s) (plain (eqb c 34) (eqb c 92) (ltb c 32) refl refl refl is) ∙ ap (λ (z : List ℕ). c ∷ z) again

escaped_small : (c : ℕ) → is_escaped c ≡ true → c < 128
escaped_small c e = go (eqb c 34) (eqb c 92) (ltb c 32) refl refl refl e
  where
    go : (x y z : Bool) → eqb c 34 ≡ x → eqb c 92 ≡ y → ltb c 32 ≡ z → (x || (y || z)) ≡ true → c < 128
    go true y z a b small e = let same = eqb-true c 34 a in omega arith
    go false true z a b small e = let same = eqb-true c 92 b in omega arith
    go false false true a b small e = let lt = ltb-true c 32 small in omega arith
    go false false false a b small e = absurd cc

-- one byte behind a backslash
pub ran_one : (old new text : List ℕ) (c : ℕ) → 0 < length text → IsUtf8 text → get_or text 0 0 ≡ c → is_escaped c ≡ true → new ≡ old ++ escape_byte c → (new ++ escape (drop 1 text) ≡ old ++ escape text) × (0 < 1) × (1 ≤ length text) × IsCharBoundary text 1
ran_one old new [] c some utf8 is small pushed = absurd (omega arith)
ran_one old new (d ∷ s) c some utf8 is small pushed = (
  ap (λ (z : List ℕ). z ++ escape s) (pushed ∙ ap (λ (z : ℕ). old ++ escape_byte z) (sym is)) ∙ append_assoc old (escape_byte d) (escape s),
  omega arith,
  omega arith,
  let low = escaped_small c small in IsCharBoundary-after_ascii (d ∷ s) 0 utf8 some (let same : d ≡ c = is in omega arith),
)

-- all bytes up to one that is written behind a backslash
pub ran_many : (old new text before bytes : List ℕ) (n : ℕ) (b : Bool) → bytes ≡ text → 0 < length text → n ≡ run_place bytes → n ≤ length bytes → (n < length bytes → is_escaped (get_or bytes n 0) ≡ true) → b ≡ is_escaped (get_or bytes 0 0) → b ≡ false → before ≡ take n text → new ≡ old ++ before → (new ++ escape (drop n text) ≡ old ++ escape text) × (0 < n) × (n ≤ length text)
ran_many old new text before bytes n b same some is within next first off before_is pushed = (
  ap (λ (z : List ℕ). z ++ escape (drop n text)) (pushed ∙ ap (λ (z : List ℕ). old ++ z) before_is) ∙ (append_assoc old (take n text) (escape (drop n text)) ∙ ap (λ (z : List ℕ). old ++ z) whole),
  positive,
  subst (λ (z : List ℕ). n ≤ length z) same within,
)
  where
    place : n ≡ run_place text
    place = is ∙ ap run_place same

    whole : take n text ++ escape (drop n text) ≡ escape text
    whole = sym (run_first text ∙ ap (λ (z : ℕ). take z text ++ escape (drop z text)) (sym place))

    off_text : is_escaped (get_or text 0 0) ≡ false
    off_text = ap (λ (z : List ℕ). is_escaped (get_or z 0 0)) (sym same) ∙ (sym first ∙ off)

    positive : 0 < n
    positive = go text some place off_text
      where
        go : (text : List ℕ) → 0 < length text → n ≡ run_place text → is_escaped (get_or text 0 0) ≡ false → 0 < n
        go [] some place off = absurd (omega arith)
        go (c ∷ s) some place off = let one : run_place (c ∷ s) ≡ suc (run_place s) = rw off refl in omega arith

pub run_cut : (text bytes : List ℕ) (n : ℕ) → bytes ≡ text → n ≤ length bytes → (n < length bytes → is_escaped (get_or bytes n 0) ≡ true) → IsCharBoundary text n
run_cut text bytes n same within next = subst (λ (z : List ℕ). IsCharBoundary z n) same (elim (cases_lt n (length bytes)) [ inl lt ↦ IsCharBoundary-before_ascii bytes n lt (escaped_small (get_or bytes n 0) (next lt)) | inr more ↦ let all : length bytes ≡ n = omega arith in subst (IsCharBoundary bytes) all (IsCharBoundary-end bytes) ])

pub code_escape : (c : ℕ) → is_escaped c ≡ true → (c ≡ 34 → ⊥) → (c ≡ 92 → ⊥) → c < 32
code_escape c e a b = go (ltb c 32) refl
  where
    go : (z : Bool) → ltb c 32 ≡ z → c < 32
    go true is = ltb-true c 32 is
    go false is = let none : is_escaped c ≡ false = rw (ne_eqb c 34 a, ne_eqb c 92 b, is) refl in let other = e in absurd cc

-- ---- lines

text_append : (a b : List Line) → text_of_lines (a ++ b) ≡ text_of_lines a ++ text_of_lines b
text_append [] b = refl
text_append (at c s ∷ a) b = ap (λ (z : List ℕ). spaces c ++ (s ++ 10 ∷ z)) (text_append a b) ∙ simp append_assoc

moved_append : (n : ℕ) (a b : List Line) → moved n (a ++ b) ≡ moved n a ++ moved n b
moved_append n [] b = refl
moved_append n (at c s ∷ a) b = ap (λ (z : List Line). at (c + n) s ∷ z) (moved_append n a b)

part_text : (c : ℕ) (m : List ℕ) (x : Shown) → text_of_lines (moved c (p.part m x)) ≡ spaces c ++ (m ++ value_text c x)
part_text c m x = go x.0
  where
    here : 0 + c ≡ c
    here = omega arith

    go : (b : Bool) → text_of_lines (moved c (cond b (at 0 m ∷ moved 2 x.2) (at 0 (m ++ 32 ∷ x.1) ∷ []))) ≡ spaces c ++ (m ++ cond b (10 ∷ text_of_lines (moved (c + 2) x.2)) (32 ∷ x.1 ++ 10 ∷ []))
    go true = ap (λ (z : List Line). spaces (0 + c) ++ (m ++ 10 ∷ text_of_lines z)) (moved_moved c x.2) ∙ ap (λ (z : ℕ). spaces z ++ (m ++ 10 ∷ text_of_lines (moved (c + 2) x.2))) here
    go false = ap (λ (z : ℕ). spaces z ++ ((m ++ 32 ∷ x.1) ++ 10 ∷ [])) here ∙ ap (λ (z : List ℕ). spaces c ++ z) (append_assoc m (32 ∷ x.1) (10 ∷ []))

items_lines : (c : ℕ) (xs : List Tree) → text_of_lines (moved c (p.parts (map p.item (map shown xs)))) ≡ items_text c xs
items_lines c [] = refl
items_lines c (x ∷ xs) =
    ap text_of_lines (moved_append c (p.part (45 ∷ []) (shown x)) (p.parts (map p.item (map shown xs)))) ∙ (text_append (moved c (p.part (45 ∷ []) (shown x))) (moved c (p.parts (map p.item (map shown xs))))
    ∙ (ap (λ (z : List ℕ). z ++ text_of_lines (moved c (p.parts (map p.item (map shown xs))))) (part_text c (45 ∷ []) (shown x)) ∙ ap (λ (z : List ℕ). (spaces c ++ (45 ∷ value_text c (shown x))) ++ z) (items_lines c xs)))

entries_lines : (c : ℕ) (ps : List Pair) → text_of_lines (moved c (p.parts (map p.entry ps))) ≡ entries_text c ps
entries_lines c [] = refl
entries_lines c (q ∷ ps) =
    ap text_of_lines (moved_append c (p.part (p.entry q).0 (p.entry q).1) (p.parts (map p.entry ps))) ∙ (text_append (moved c (p.part (p.entry q).0 (p.entry q).1)) (moved c (p.parts (map p.entry ps)))
    ∙ (ap (λ (z : List ℕ). z ++ text_of_lines (moved c (p.parts (map p.entry ps)))) (part_text c (p.entry q).0 (p.entry q).1 ∙ (ap (λ (z : List ℕ × Shown). spaces c ++ (z.0 ++ value_text c z.1)) (entry-pair q.key q.value) ∙ ap (λ (z : List ℕ). spaces c ++ z) (append_assoc (quote q.key) (58 ∷ []) (value_text c (shown q.value)))))
    ∙ ap (λ (z : List ℕ). (spaces c ++ (quote q.key ++ (58 ∷ value_text c (shown q.value)))) ++ z) (entries_lines c ps)))

pub list_text : (c : ℕ) (xs : List Tree) (x : Tree) → x ≡ tree.List xs → items_text c xs ≡ group_text c x
list_text c xs x e = sym (ap (group_text c) e ∙ (ap (λ (z : Shown). text_of_lines (moved c z.2)) (shown-List xs) ∙ go xs))
  where
    go : (xs : List Tree) → text_of_lines (moved c (p.empty_or (91 ∷ 93 ∷ []) (map p.item (map shown xs))).2) ≡ items_text c xs
    go [] = refl
    go (y ∷ ys) = items_lines c (y ∷ ys)

pub map_text : (c : ℕ) (ps : List Pair) (x : Tree) → x ≡ tree.Map ps → entries_text c ps ≡ group_text c x
map_text c ps x e = sym (ap (group_text c) e ∙ (ap (λ (z : Shown). text_of_lines (moved c z.2)) (shown-Map ps) ∙ go ps))
  where
    go : (ps : List Pair) → text_of_lines (moved c (p.empty_or (123 ∷ 125 ∷ []) (map p.entry ps)).2) ≡ entries_text c ps
    go [] = refl
    go (q ∷ qs) = entries_lines c (q ∷ qs)

moved_zero : (ls : List Line) → moved 0 ls ≡ ls
moved_zero [] = refl
moved_zero (at c s ∷ ls) = let same : c + 0 ≡ c = omega arith in ap (λ (z : ℕ). at z s ∷ moved 0 ls) same ∙ ap (λ (z : List Line). at c s ∷ z) (moved_zero ls)

pub whole_group : (x : Tree) (b : Bool) → b ≡ (shown x).0 → b ≡ true → group_text 0 x ≡ p.tree_text x
whole_group x b is on = let group : (shown x).0 ≡ true = sym is ∙ on in ap text_of_lines (moved_zero (shown x).2) ∙ sym (rw group refl)

pub whole_line : (x : Tree) (b : Bool) → b ≡ (shown x).0 → b ≡ false → (shown x).1 ++ 10 ∷ [] ≡ p.tree_text x
whole_line x b is off = let line : (shown x).0 ≡ false = sym is ∙ off in sym (rw line refl)

pub value_group : (c d : ℕ) (x : Tree) (b : Bool) → b ≡ (shown x).0 → b ≡ true → d ≡ suc (suc c) → 10 ∷ group_text d x ≡ value_text c (shown x)
value_group c d x b is on e = let group : (shown x).0 ≡ true = sym is ∙ on in let two : d ≡ c + 2 = omega arith in ap (λ (z : ℕ). 10 ∷ group_text z x) two ∙ sym (rw group refl)

pub value_line : (c : ℕ) (x : Tree) (b : Bool) → b ≡ (shown x).0 → b ≡ false → 32 ∷ (shown x).1 ++ 10 ∷ [] ≡ value_text c (shown x)
value_line c x b is off = let line : (shown x).0 ≡ false = sym is ∙ off in sym (rw line refl)

-- ---- what stands on one line

shown_null : (x : Tree) → x ≡ tree.Null → shown x ≡ (false, 110 ∷ 117 ∷ 108 ∷ 108 ∷ [], [])
shown_null x e = ap shown e ∙ shown-Null

shown_flag : (x : Tree) (b : Bool) → x ≡ tree.Flag b → shown x ≡ (false, p.flag_text b, [])
shown_flag x b e = ap shown e ∙ shown-Flag b

shown_int : (x : Tree) (n : ℤ) → x ≡ tree.Int n → shown x ≡ (false, signed_decimal n, [])
shown_int x n e = ap shown e ∙ shown-Int n

shown_text : (x : Tree) (s : List ℕ) → x ≡ tree.Text s → shown x ≡ (false, quote s, [])
shown_text x s e = ap shown e ∙ shown-Text s

shown_list : (x : Tree) (xs : List Tree) → x ≡ tree.List xs → shown x ≡ p.empty_or (91 ∷ 93 ∷ []) (map p.item (map shown xs))
shown_list x xs e = ap shown e ∙ shown-List xs

shown_map : (x : Tree) (ps : List Pair) → x ≡ tree.Map ps → shown x ≡ p.empty_or (123 ∷ 125 ∷ []) (map p.entry ps)
shown_map x ps e = ap shown e ∙ shown-Map ps

pub null_flat : (x : Tree) → x ≡ tree.Null → false ≡ (shown x).0
null_flat x e = sym (ap (λ (z : Shown). z.0) (shown_null x e))

pub flag_flat : (x : Tree) (b : Bool) → x ≡ tree.Flag b → false ≡ (shown x).0
flag_flat x b e = sym (ap (λ (z : Shown). z.0) (shown_flag x b e))

pub int_flat : (x : Tree) (n : ℤ) → x ≡ tree.Int n → false ≡ (shown x).0
int_flat x n e = sym (ap (λ (z : Shown). z.0) (shown_int x n e))

pub text_flat : (x : Tree) (s : List ℕ) → x ≡ tree.Text s → false ≡ (shown x).0
text_flat x s e = sym (ap (λ (z : Shown). z.0) (shown_text x s e))

pub list_group : (x : Tree) (xs : List Tree) (b : Bool) → x ≡ tree.List xs → (IsTrue b → xs ≡ []) × (xs ≡ [] → IsTrue b) → not b ≡ (shown x).0
list_group x xs b e empty = go xs b empty ∙ sym (ap (λ (z : Shown). z.0) (shown_list x xs e))
  where
    go : (xs : List Tree) (b : Bool) → (IsTrue b → xs ≡ []) × (xs ≡ [] → IsTrue b) → not b ≡ (p.empty_or (91 ∷ 93 ∷ []) (map p.item (map shown xs))).0
    go [] b empty = let on : b ≡ true = empty.1 refl in ap not on
    go (y ∷ ys) true empty = let none = empty.0 refl in absurd cc
    go (y ∷ ys) false empty = refl

pub map_group : (x : Tree) (ps : List Pair) (b : Bool) → x ≡ tree.Map ps → (IsTrue b → ps ≡ []) × (ps ≡ [] → IsTrue b) → not b ≡ (shown x).0
map_group x ps b e empty = go ps b empty ∙ sym (ap (λ (z : Shown). z.0) (shown_map x ps e))
  where
    go : (ps : List Pair) (b : Bool) → (IsTrue b → ps ≡ []) × (ps ≡ [] → IsTrue b) → not b ≡ (p.empty_or (123 ∷ 125 ∷ []) (map p.entry ps)).0
    go [] b empty = let on : b ≡ true = empty.1 refl in ap not on
    go (q ∷ qs) true empty = let none = empty.0 refl in absurd cc
    go (q ∷ qs) false empty = refl

pub null_line : (x : Tree) → x ≡ tree.Null → 110 ∷ 117 ∷ 108 ∷ 108 ∷ [] ≡ (shown x).1
null_line x e = sym (ap (λ (z : Shown). z.1) (shown_null x e))

pub true_line : (x : Tree) (b : Bool) → x ≡ tree.Flag b → b ≡ true → 116 ∷ 114 ∷ 117 ∷ 101 ∷ [] ≡ (shown x).1
true_line x b e on = sym (ap (λ (z : Shown). z.1) (shown_flag x b e) ∙ ap p.flag_text on)

pub false_line : (x : Tree) (b : Bool) → x ≡ tree.Flag b → b ≡ false → 102 ∷ 97 ∷ 108 ∷ 115 ∷ 101 ∷ [] ≡ (shown x).1
false_line x b e off = sym (ap (λ (z : Shown). z.1) (shown_flag x b e) ∙ ap p.flag_text off)

pub int_line : (x : Tree) (n : ℤ) → x ≡ tree.Int n → signed_decimal n ≡ (shown x).1
int_line x n e = sym (ap (λ (z : Shown). z.1) (shown_int x n e))

pub text_line : (x : Tree) (s w : List ℕ) → x ≡ tree.Text s → w ≡ s → quote w ≡ (shown x).1
text_line x s w e same = ap quote same ∙ sym (ap (λ (z : Shown). z.1) (shown_text x s e))

empty_line : (s : List ℕ) (ps : List (List ℕ × Shown)) → (p.empty_or s ps).1 ≡ s
empty_line s [] = refl
empty_line s (q ∷ qs) = refl

pub list_line : (x : Tree) (xs : List Tree) → x ≡ tree.List xs → 91 ∷ 93 ∷ [] ≡ (shown x).1
list_line x xs e = sym (ap (λ (z : Shown). z.1) (shown_list x xs e) ∙ empty_line (91 ∷ 93 ∷ []) (map p.item (map shown xs)))

pub map_line : (x : Tree) (ps : List Pair) → x ≡ tree.Map ps → 123 ∷ 125 ∷ [] ≡ (shown x).1
map_line x ps e = sym (ap (λ (z : Shown). z.1) (shown_map x ps e) ∙ empty_line (123 ∷ 125 ∷ []) (map p.entry ps))

-- no lines of a list or map
none_below : (out : List ℕ) (c : ℕ) (x : Tree) (ls : List Line) → (shown x).2 ≡ ls → ls ≡ [] → out ≡ out ++ group_text c x
none_below out c x ls e none = sym (append-nil out) ∙ ap (λ (z : List Line). out ++ text_of_lines (moved c z)) (sym (e ∙ none))

pub null_none : (out : List ℕ) (c : ℕ) (x : Tree) → x ≡ tree.Null → out ≡ out ++ group_text c x
null_none out c x e = none_below out c x [] (ap (λ (z : Shown). z.2) (shown_null x e)) refl

pub flag_none : (out : List ℕ) (c : ℕ) (x : Tree) (b : Bool) → x ≡ tree.Flag b → out ≡ out ++ group_text c x
flag_none out c x b e = none_below out c x [] (ap (λ (z : Shown). z.2) (shown_flag x b e)) refl

pub int_none : (out : List ℕ) (c : ℕ) (x : Tree) (n : ℤ) → x ≡ tree.Int n → out ≡ out ++ group_text c x
int_none out c x n e = none_below out c x [] (ap (λ (z : Shown). z.2) (shown_int x n e)) refl

pub text_none : (out : List ℕ) (c : ℕ) (x : Tree) (s : List ℕ) → x ≡ tree.Text s → out ≡ out ++ group_text c x
text_none out c x s e = none_below out c x [] (ap (λ (z : Shown). z.2) (shown_text x s e)) refl

-- the whole text
pub back_spelled : (x : Tree) (w : List ℕ) → p.IsWritable 32 x → w ≡ p.tree_text x → Spelled w x
back_spelled x w ok e = subst (λ (z : List ℕ). Spelled z x) (sym e) (written_spells x ok)
