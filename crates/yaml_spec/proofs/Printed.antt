-- What is written of a tree is spelled as the tree.
use Rattle.std.proofs.Common.{◌≡◌, ℕ, zero, suc, ◌+◌, ◌-◌, ◌*◌, ◌/◌, ◌%◌, ◌<◌, ◌≤◌, Bool, true, false, cond, IsTrue, eqb, leb, ltb, List, [], ◌∷◌, ◌++◌, map, Some, ℤ, pos, inl, inr, refl, sym, ap, subst, ◌∙◌, append_assoc, append-nil, arith, le-leb}
use Rattle.std.proofs.lemmas.Bool.{eqb-true, and_left, and_right, or_from, or_parts, ltb-true, ltb-false, lt-leb, ne_eqb, false≢true}
use Rattle.std.proofs.lemmas.Str.{encode_ascii}
use Rattle.std.specs.Prelude.{negsuc}
use Rattle.yaml_spec.specs.declared.state.Group.{Group}
use Rattle.yaml_spec.specs.declared.state.Group.TheVariants.{Listed, Mapped}
use Rattle.yaml_spec.specs.declared.tree.Tree.{Tree}
use Rattle.yaml_spec.specs.declared.tree.Tree.TheVariants as tree
use Rattle.yaml_spec.specs.declared.tree.Tree.TheOpen.{Tree-F}
use Rattle.yaml_spec.specs.declared.tree.Tree.TheFolds.{fold-Tree, fold-roll-Tree, fold-roll-Pair}
use Rattle.yaml_spec.specs.declared.tree.Pair.{Pair}
use Rattle.yaml_spec.specs.Line.{spaces, begins, has, is_plain, meaning, hex_digit, digits, is_surrogate, IsTail, InDouble, Quoted, Head, Value, is_new, pair, whole, value_of}
use Rattle.yaml_spec.specs.Line as l
use Rattle.yaml_spec.specs.Spells.{Line, at, Node, Parts, Part, Root, Spells, IsDocument, BeginsDocument}
use Rattle.yaml_spec.specs.Spells as s
use Rattle.yaml_spec.specs.Texts.{cut, without_return, line_from, line_of, lines_of}
use Rattle.yaml_spec.specs.Print as p
use Rattle.yaml_spec.specs.Print.{Shown, shown, moved, glyph, escape_byte, escape, quote, tree_step, pair_step, text_of_lines, IsWritable, AreItems, AreEntries}
use Rattle.yaml_spec.proofs.Open.{Before, none, some}
use Rattle.yaml_spec.proofs.Numbers.{begins_twice, Written, natural_written, negative_written}

-- ---- the fold at each variant

pub shown-Null : shown tree.Null ≡ tree_step Tree-F.Null
unfolding shown
shown-Null = ap (fold-Tree Shown (List ℕ × Shown) tree_step pair_step) (sym tree.rolls-Null) ∙ fold-roll-Tree Shown (List ℕ × Shown) tree_step pair_step _

pub shown-Flag : (b : Bool) → shown (tree.Flag b) ≡ tree_step (Tree-F.Flag b)
unfolding shown
shown-Flag b = ap (fold-Tree Shown (List ℕ × Shown) tree_step pair_step) (sym (tree.rolls-Flag b)) ∙ fold-roll-Tree Shown (List ℕ × Shown) tree_step pair_step _

pub shown-Int : (z : ℤ) → shown (tree.Int z) ≡ tree_step (Tree-F.Int z)
unfolding shown
shown-Int z = ap (fold-Tree Shown (List ℕ × Shown) tree_step pair_step) (sym (tree.rolls-Int z)) ∙ fold-roll-Tree Shown (List ℕ × Shown) tree_step pair_step _

pub shown-Text : (w : List ℕ) → shown (tree.Text w) ≡ tree_step (Tree-F.Text w)
unfolding shown
shown-Text w = ap (fold-Tree Shown (List ℕ × Shown) tree_step pair_step) (sym (tree.rolls-Text w)) ∙ fold-roll-Tree Shown (List ℕ × Shown) tree_step pair_step _

pub shown-List : (xs : List Tree) → shown (tree.List xs) ≡ tree_step (Tree-F.List (map shown xs))
unfolding shown
shown-List xs = ap (fold-Tree Shown (List ℕ × Shown) tree_step pair_step) (sym (tree.rolls-List xs)) ∙ fold-roll-Tree Shown (List ℕ × Shown) tree_step pair_step _

pub shown-Map : (ps : List Pair) → shown (tree.Map ps) ≡ tree_step (Tree-F.Map (map p.entry ps))
unfolding shown p.entry
shown-Map ps = ap (fold-Tree Shown (List ℕ × Shown) tree_step pair_step) (sym (tree.rolls-Map ps)) ∙ fold-roll-Tree Shown (List ℕ × Shown) tree_step pair_step _

pub entry-pair : (k : List ℕ) (x : Tree) → p.entry (pair k x) ≡ (quote k ++ 58 ∷ [], shown x)
unfolding shown p.entry
entry-pair k x = fold-roll-Pair Shown (List ℕ × Shown) tree_step pair_step _

-- ---- quotes

glyph_digit : (n : ℕ) → n < 16 → hex_digit (glyph n) ≡ Some n
glyph_digit n lt = go (ltb n 10) refl
  where
    go : (b : Bool) → ltb n 10 ≡ b → hex_digit (cond b (48 + n) (87 + n)) ≡ Some n
    go true is = let small = ltb-true n 10 is in let value : 48 + n - 48 ≡ n = omega arith in rw (le-leb 48 (48 + n) (omega arith), le-leb (48 + n) 57 (omega arith), value) refl
    go false is =
        let large = ltb-false n 10 is in let value : 87 + n - 87 ≡ n = omega arith in
        rw (and_right (leb 48 (87 + n)) (leb (87 + n) 57) (lt-leb (87 + n) 57 (omega arith)), and_right (leb 65 (87 + n)) (leb (87 + n) 70) (lt-leb (87 + n) 70 (omega arith)), le-leb 97 (87 + n) (omega arith), le-leb (87 + n) 102 (omega arith), value) refl

-- a byte that is written by its value
hex_inside : (c : ℕ) (e s x : List ℕ) → c < 32 → e ≡ 92 ∷ 120 ∷ glyph (c / 16) ∷ glyph (c % 16) ∷ [] → InDouble s x → InDouble (e ++ s) (c ∷ x)
hex_inside c e s x lt is q =
    let whole : 0 * 16 + c / 16 ≡ c / 16 = omega arith in
    let value : c / 16 * 16 + c % 16 ≡ c = omega arith in
    let writes : digits hex_digit 16 0 (glyph (c / 16) ∷ glyph (c % 16) ∷ []) ≡ Some c = rw (glyph_digit (c / 16) (omega arith), whole, glyph_digit (c % 16) (omega arith), value) refl in
    subst (λ (z : List ℕ). InDouble (z ++ s) (c ∷ x)) (sym is) (subst (λ (z : List ℕ). InDouble (92 ∷ 120 ∷ glyph (c / 16) ∷ glyph (c % 16) ∷ s) (z ++ x)) (encode_ascii c (omega arith))
    (l.escape (l.hex {c = 120} {s = glyph (c / 16) ∷ glyph (c % 16) ∷ []} refl refl writes (and_left (leb 55296 c) (leb c 57343) (lt-leb 55296 c (omega arith)))) q))

sign_inside : (c d : ℕ) (e s x : List ℕ) → c < 128 → l.escape_code d ≡ Some c → e ≡ 92 ∷ d ∷ [] → InDouble s x → InDouble (e ++ s) (c ∷ x)
sign_inside c d e s x lt code is q =
    subst (λ (z : List ℕ). InDouble (z ++ s) (c ∷ x)) (sym is) (subst (λ (z : List ℕ). InDouble (92 ∷ d ∷ s) (z ++ x)) (encode_ascii c lt) (l.escape (l.sign code) q))

at_byte : (c a : ℕ) → eqb c a ≡ true → (P : ℕ → Type 0) → P a → P c
at_byte c a is P q = subst P (sym (eqb-true c a is)) q

byte_inside : (c : ℕ) (s x : List ℕ) → InDouble s x → InDouble (escape_byte c ++ s) (c ∷ x)
byte_inside c s x q = go (eqb c 34) (eqb c 92) (eqb c 10) (eqb c 9) (eqb c 13) (ltb c 32) refl refl refl refl refl refl
  where
    go : (a b d e f g : Bool) → eqb c 34 ≡ a → eqb c 92 ≡ b → eqb c 10 ≡ d → eqb c 9 ≡ e → eqb c 13 ≡ f → ltb c 32 ≡ g
        → InDouble (cond a (92 ∷ 34 ∷ []) (cond b (92 ∷ 92 ∷ []) (cond d (92 ∷ 110 ∷ []) (cond e (92 ∷ 116 ∷ []) (cond f (92 ∷ 114 ∷ []) (cond g (92 ∷ 120 ∷ glyph (c / 16) ∷ glyph (c % 16) ∷ []) (c ∷ [])))))) ++ s) (c ∷ x)
    go true b d e f g is1 is2 is3 is4 is5 is6 = at_byte c 34 is1 (λ z. InDouble (92 ∷ 34 ∷ s) (z ∷ x)) (sign_inside 34 34 (92 ∷ 34 ∷ []) s x (omega arith) refl refl q)
    go false true d e f g is1 is2 is3 is4 is5 is6 = at_byte c 92 is2 (λ z. InDouble (92 ∷ 92 ∷ s) (z ∷ x)) (sign_inside 92 92 (92 ∷ 92 ∷ []) s x (omega arith) refl refl q)
    go false false true e f g is1 is2 is3 is4 is5 is6 = at_byte c 10 is3 (λ z. InDouble (92 ∷ 110 ∷ s) (z ∷ x)) (sign_inside 10 110 (92 ∷ 110 ∷ []) s x (omega arith) refl refl q)
    go false false false true f g is1 is2 is3 is4 is5 is6 = at_byte c 9 is4 (λ z. InDouble (92 ∷ 116 ∷ s) (z ∷ x)) (sign_inside 9 116 (92 ∷ 116 ∷ []) s x (omega arith) refl refl q)
    go false false false false true g is1 is2 is3 is4 is5 is6 = at_byte c 13 is5 (λ z. InDouble (92 ∷ 114 ∷ s) (z ∷ x)) (sign_inside 13 114 (92 ∷ 114 ∷ []) s x (omega arith) refl refl q)
    go false false false false false true is1 is2 is3 is4 is5 is6 = hex_inside c (92 ∷ 120 ∷ glyph (c / 16) ∷ glyph (c % 16) ∷ []) s x (ltb-true c 32 is6) refl q
    go false false false false false false is1 is2 is3 is4 is5 is6 = l.itself is1 is2 q

escape_inside : (w : List ℕ) → InDouble (escape w) w
escape_inside [] = l.none
escape_inside (c ∷ w) = byte_inside c (escape w) w (escape_inside w)

quoted_text : (w : List ℕ) → Quoted (quote w) w
quoted_text w = l.double (escape_inside w)

key_head : (w : List ℕ) → Head Mapped (quote w ++ 58 ∷ []) w
key_head w = l.quoted (quoted_text w)

-- ---- no line feed and no return stand on a line

pub record Clean (s : List ℕ) : Type 0 where
  pub no_feed : has 10 s ≡ false
  pub no_return : has 13 s ≡ false

has_append : (a : ℕ) (s t : List ℕ) → has a s ≡ false → has a t ≡ false → has a (s ++ t) ≡ false
has_append a [] t p q = q
has_append a (c ∷ s) t p q = let parts = or_parts (eqb c a) (has a s) p in or_from (eqb c a) (has a (s ++ t)) parts.0 (has_append a s t parts.1 q)

clean_append : {s t : List ℕ} → Clean s → Clean t → Clean (s ++ t)
clean_append {s} {t} p q = record { no_feed = has_append 10 s t p.no_feed q.no_feed; no_return = has_append 13 s t p.no_return q.no_return }

clean_one : (c : ℕ) → eqb c 10 ≡ false → eqb c 13 ≡ false → Clean (c ∷ [])
clean_one c feed return = record { no_feed = or_from (eqb c 10) false feed refl; no_return = or_from (eqb c 13) false return refl }

glyph_large : (n : ℕ) → 48 ≤ glyph n
glyph_large n = go (ltb n 10)
  where
    go : (b : Bool) → 48 ≤ cond b (48 + n) (87 + n)
    go true = omega arith
    go false = omega arith

clean_glyph : (n : ℕ) → Clean (glyph n ∷ [])
clean_glyph n = let large = glyph_large n in clean_one (glyph n) (ne_eqb (glyph n) 10 (λ is. omega arith)) (ne_eqb (glyph n) 13 (λ is. omega arith))

escape_clean : (c : ℕ) → Clean (escape_byte c)
escape_clean c = go (eqb c 34) (eqb c 92) (eqb c 10) (eqb c 9) (eqb c 13) (ltb c 32) refl refl
  where
    go : (a b d e f g : Bool) → eqb c 10 ≡ d → eqb c 13 ≡ f
        → Clean (cond a (92 ∷ 34 ∷ []) (cond b (92 ∷ 92 ∷ []) (cond d (92 ∷ 110 ∷ []) (cond e (92 ∷ 116 ∷ []) (cond f (92 ∷ 114 ∷ []) (cond g (92 ∷ 120 ∷ glyph (c / 16) ∷ glyph (c % 16) ∷ []) (c ∷ [])))))))
    go true b d e f g feed return = record { no_feed = refl; no_return = refl }
    go false true d e f g feed return = record { no_feed = refl; no_return = refl }
    go false false true e f g feed return = record { no_feed = refl; no_return = refl }
    go false false false true f g feed return = record { no_feed = refl; no_return = refl }
    go false false false false true g feed return = record { no_feed = refl; no_return = refl }
    go false false false false false true feed return = clean_append {s = 92 ∷ 120 ∷ []} (record { no_feed = refl; no_return = refl }) (clean_append {s = glyph (c / 16) ∷ []} (clean_glyph (c / 16)) (clean_glyph (c % 16)))
    go false false false false false false feed return = clean_one c feed return

clean_escape : (w : List ℕ) → Clean (escape w)
clean_escape [] = record { no_feed = refl; no_return = refl }
clean_escape (c ∷ w) = clean_append (escape_clean c) (clean_escape w)

clean_quote : (w : List ℕ) → Clean (quote w)
clean_quote w = clean_append {s = 34 ∷ []} (record { no_feed = refl; no_return = refl }) (clean_append (clean_escape w) (record { no_feed = refl; no_return = refl }))

pub data Cleans : List Line → Type 0 where
  no_lines : Cleans []
  one_line : {c : ℕ} {w : List ℕ} {ls : List Line} → Clean w → begins 32 w ≡ false → Cleans ls → Cleans (at c w ∷ ls)

cleans_append : {a b : List Line} → Cleans a → Cleans b → Cleans (a ++ b)
cleans_append no_lines q = q
cleans_append (one_line clean solid p) q = one_line clean solid (cleans_append p q)

cleans_moved : (n : ℕ) {a : List Line} → Cleans a → Cleans (moved n a)
cleans_moved n no_lines = no_lines
cleans_moved n (one_line clean solid p) = one_line clean solid (cleans_moved n p)

-- ---- lines to the right

moved_append : (n : ℕ) (a b : List Line) → moved n (a ++ b) ≡ moved n a ++ moved n b
moved_append n [] b = refl
moved_append n (at c w ∷ a) b = ap (λ (z : List Line). at (c + n) w ∷ z) (moved_append n a b)

pub moved_moved : (n : ℕ) (a : List Line) → moved n (moved 2 a) ≡ moved (n + 2) a
moved_moved n [] = refl
moved_moved n (at c w ∷ a) = let same : c + 2 + n ≡ c + (n + 2) = omega arith in rw (same, moved_moved n a) refl

-- the first of these lines begins with `--` or `..`
abbrev pub first_twice : List Line → Bool
first_twice [] = false
first_twice (at c w ∷ ls) = begins_twice w

twice_document : (ls : List Line) → first_twice ls ≡ false → BeginsDocument ls → ⊥
twice_document [] e q = q
twice_document _ e (inl (s.document q)) = false≢true (sym e)
twice_document _ e (inr (s.document q)) = false≢true (sym e)

-- what is shown of a tree is spelled as it, wherever it stands
pub data Good : ℕ → Shown → Tree → Type 0 where
  flat : {n : ℕ} {t : List ℕ} {x : Tree} → Value n t [] x → Clean t → begins 32 t ≡ false → begins_twice t ≡ false → Good n (false, t, []) x
  full : {n : ℕ} (k : Group) (t : List ℕ) (ls : List Line) (ps : List Pair) → ((c : ℕ) → Parts n k c (moved c ls) ps) → Cleans ls → first_twice ls ≡ false → Good (suc n) (true, t, ls) (whole k ps)

flat_inline : {n : ℕ} {t : List ℕ} {x : Tree} (m : ℕ) → Value n t [] x → s.Inline n m t [] x
flat_inline {n} {t} {x} m q = subst (λ (z : List ℕ). s.Inline n m z [] x) (append-nil t) (s.value q l.nothing s.none)

part_good : {n : ℕ} {sh : Shown} {x : Tree} → Good n sh x → (k : Group) (m key : List ℕ) → Head k m key → (c : ℕ) → Part n k c (moved c (p.part m sh)) (pair key x)
part_good (flat {n} {t} {x} q clean solid fresh) k m key head c =
    subst (λ (z : ℕ). Part n k c (at z (m ++ 32 ∷ t) ∷ []) (pair key x)) (omega arith) (s.here 0 head (flat_inline (suc c) q))
part_good (full {n} j t ls ps q clean fresh) k m key head c =
    let below : Part (suc n) k c (at c (m ++ []) ∷ moved (c + 2) ls) (pair key (whole j ps)) = s.below head l.nothing s.none (omega arith) (s.group (q (c + 2))) in
    subst (λ (z : ℕ). Part (suc n) k c (at z m ∷ moved c (moved 2 ls)) (pair key (whole j ps))) (omega arith)
    (subst (λ (z : List Line). Part (suc n) k c (at c m ∷ z) (pair key (whole j ps))) (sym (moved_moved c ls)) (subst (λ (z : List ℕ). Part (suc n) k c (at c z ∷ moved (c + 2) ls) (pair key (whole j ps))) (append-nil m) below))

part_clean : {n : ℕ} {sh : Shown} {x : Tree} → Good n sh x → (m : List ℕ) → Clean m → begins 32 m ≡ false → (m ≡ [] → ⊥) → Cleans (p.part m sh)
part_clean (flat q clean solid fresh) m head first there = one_line (clean_append head (clean_append {s = 32 ∷ []} (record { no_feed = refl; no_return = refl }) clean)) (begins_append m _ first there) no_lines
  where
    begins_append : (m t : List ℕ) → begins 32 m ≡ false → (m ≡ [] → ⊥) → begins 32 (m ++ t) ≡ false
    begins_append [] t first there = absurd (there refl)
    begins_append (c ∷ m) t first there = first
part_clean (full j t ls ps q clean fresh) m head first there = one_line head first (cleans_moved 2 clean)

abbrev pub plain_pair : Tree → Pair
plain_pair x = pair [] x

values_back : (xs : List Tree) → map value_of (map plain_pair xs) ≡ xs
values_back [] = refl
values_back (x ∷ xs) = ap (λ (z : List Tree). x ∷ z) (values_back xs)

parts_append : (a b : List (List ℕ × Shown)) → p.parts (a ++ b) ≡ p.parts a ++ p.parts b
parts_append [] b = refl
parts_append (x ∷ a) b = ap (λ (z : List Line). p.part x.0 x.1 ++ z) (parts_append a b) ∙ sym (append_assoc (p.part x.0 x.1) (p.parts a) (p.parts b))

map_one : {A B : Type 0} (f : A → B) (a : List A) (x : A) → map f (a ++ x ∷ []) ≡ map f a ++ f x ∷ []
map_one f [] x = refl
map_one f (y ∷ a) x = ap (λ z. f y ∷ z) (map_one f a x)

last_part : (n : ℕ) (q : List ℕ × Shown) (c : ℕ) (k : Group) (r : Pair) → Part n k c (moved c (p.part q.0 q.1)) r → Part n k c (moved c (p.parts (q ∷ []))) r
last_part n q c k r part = subst (λ (z : List Line). Part n k c (moved c z) r) (sym (append-nil (p.part q.0 q.1))) part

parts_more : {n c : ℕ} {k : Group} {a b : List Line} {ps : List Pair} {r : Pair} → Before n k c a ps → Part n k c b r → IsTrue (is_new k r.key ps) → Parts n k c (a ++ b) (ps ++ r ∷ [])
parts_more none q fresh = s.one q
parts_more (some before) q fresh = s.more before q fresh

more_parts : (n : ℕ) (k : Group) (c : ℕ) (a : List (List ℕ × Shown)) (q : List ℕ × Shown) (ps : List Pair) (r : Pair) → Before n k c (moved c (p.parts a)) ps → Part n k c (moved c (p.part q.0 q.1)) r → IsTrue (is_new k r.key ps) → Before n k c (moved c (p.parts (a ++ q ∷ []))) (ps ++ r ∷ [])
more_parts n k c a q ps r before part fresh =
    let text : moved c (p.parts (a ++ q ∷ [])) ≡ moved c (p.parts a) ++ moved c (p.parts (q ∷ [])) = ap (moved c) (parts_append a (q ∷ [])) ∙ moved_append c (p.parts a) (p.parts (q ∷ [])) in
    subst (λ (z : List Line). Before n k c z (ps ++ r ∷ [])) (sym text) (some (parts_more before (last_part n q c k r part) fresh))

cleans_more : (a : List (List ℕ × Shown)) (q : List ℕ × Shown) → Cleans (p.parts a) → Cleans (p.part q.0 q.1) → Cleans (p.parts (a ++ q ∷ []))
cleans_more a q before part = subst Cleans (sym (parts_append a (q ∷ []) ∙ ap (λ (z : List Line). p.parts a ++ z) (append-nil (p.part q.0 q.1)))) (cleans_append before part)

-- the parts of a list or map, as they are written
record GoodParts (n : ℕ) (k : Group) (a : List (List ℕ × Shown)) (ps : List Pair) : Type 0 where
  spelled : (c : ℕ) → Before n k c (moved c (p.parts a)) ps
  clean : Cleans (p.parts a)
  fresh : first_twice (p.parts a) ≡ false

-- the first line of a part
part_line : (x : List ℕ × Shown) (rest : List Line) → (l : Line) × (ls : List Line) × (p.part x.0 x.1 ++ rest ≡ l ∷ ls)
part_line x rest = go x.1.0
  where
    go : (b : Bool) → (l : Line) × (ls : List Line) × (cond b (at 0 x.0 ∷ moved 2 x.1.2) (at 0 (x.0 ++ 32 ∷ x.1.1) ∷ []) ++ rest ≡ l ∷ ls)
    go true = (at 0 x.0, moved 2 x.1.2 ++ rest, refl)
    go false = (at 0 (x.0 ++ 32 ∷ x.1.1), rest, refl)

first_of : (x : List ℕ × Shown) (rest rest' : List Line) → first_twice (p.part x.0 x.1 ++ rest) ≡ first_twice (p.part x.0 x.1 ++ rest')
first_of x rest rest' = go x.1.0
  where
    go : (b : Bool) → first_twice (cond b (at 0 x.0 ∷ moved 2 x.1.2) (at 0 (x.0 ++ 32 ∷ x.1.1) ∷ []) ++ rest) ≡ first_twice (cond b (at 0 x.0 ∷ moved 2 x.1.2) (at 0 (x.0 ++ 32 ∷ x.1.1) ∷ []) ++ rest')
    go true = refl
    go false = refl

append_some : (a : List (List ℕ × Shown)) (q : List ℕ × Shown) → first_twice (p.parts a) ≡ false → first_twice (p.parts (q ∷ [])) ≡ false → first_twice (p.parts (a ++ q ∷ [])) ≡ false
append_some [] q one two = two
append_some (x ∷ a) q one two = first_of x (p.parts (a ++ q ∷ [])) (p.parts a) ∙ one

empty_flow : (n : ℕ) (k : Group) → Value (suc n) (l.opening k ∷ l.closing k ∷ []) [] (whole k [])
empty_flow n Listed = l.flow refl (l.empty Listed 0)
empty_flow n Mapped = l.flow refl (l.empty Mapped 0)

empty_clean : (k : Group) → Clean (l.opening k ∷ l.closing k ∷ []) × (begins 32 (l.opening k ∷ l.closing k ∷ []) ≡ false) × (begins_twice (l.opening k ∷ l.closing k ∷ []) ≡ false)
empty_clean Listed = (record { no_feed = refl; no_return = refl }, refl, refl)
empty_clean Mapped = (record { no_feed = refl; no_return = refl }, refl, refl)

some_parts : (n : ℕ) (k : Group) (a : List (List ℕ × Shown)) (ps : List Pair) → GoodParts n k a ps → Good (suc n) (p.empty_or (l.opening k ∷ l.closing k ∷ []) a) (whole k ps)
some_parts n k [] ps q = go ps (q.spelled 0)
  where
    part_none : {n c : ℕ} {k : Group} {ls : List Line} {r : Pair} → Part n k c ls r → ls ≡ [] → ⊥
    part_none (s.here i head q) e = absurd cc
    part_none (s.within i q) e = absurd cc
    part_none (s.below head t a lt q) e = absurd cc
    part_none (s.level head t a q) e = absurd cc
    part_none (s.null head t a) e = absurd cc

    none_left : (a b : List Line) → a ++ b ≡ [] → a ≡ []
    none_left [] b e = refl
    none_left (x ∷ a) b e = absurd cc

    parts_none : {n c : ℕ} {k : Group} {ls : List Line} {ps : List Pair} → Parts n k c ls ps → ls ≡ [] → ⊥
    parts_none (s.one q) e = part_none q e
    parts_none (s.more {a = a} {b = b} q r fresh) e = parts_none q (none_left a b e)

    go : (ps : List Pair) → Before n k 0 [] ps → Good (suc n) (false, l.opening k ∷ l.closing k ∷ [], []) (whole k ps)
    go _ none = let clean = empty_clean k in flat (empty_flow n k) clean.0 clean.1 clean.2
    go ps (some q) = absurd (parts_none q refl)
some_parts n k (x ∷ a) ps q = full k (l.opening k ∷ l.closing k ∷ []) (p.parts (x ∷ a)) ps (λ c. there (p.parts (x ∷ a)) (part_line x (p.parts a)) c (q.spelled c)) q.clean q.fresh
  where
    before_some : (c : ℕ) (z : List Line) (ps : List Pair) → Before n k c z ps → (l : Line) (ls : List Line) → z ≡ l ∷ ls → Parts n k c z ps
    before_some c _ _ none l ls e = absurd cc
    before_some c z ps (some q) l ls e = q

    there : (z : List Line) → (l : Line) × (ls : List Line) × (z ≡ l ∷ ls) → (c : ℕ) → Before n k c (moved c z) ps → Parts n k c (moved c z) ps
    there [] first c q = absurd (let e = first.2 in cc)
    there (at d w ∷ z) first c q = before_some c (moved c (at d w ∷ z)) ps q (at (d + c) w) (moved c z) refl

-- ---- every tree

flag_good : (n : ℕ) (b : Bool) → Good n (false, p.flag_text b, []) (tree.Flag b)
flag_good n true = flat (l.plain refl) (record { no_feed = refl; no_return = refl }) refl refl
flag_good n false = flat (l.plain refl) (record { no_feed = refl; no_return = refl }) refl refl

null_good : (n : ℕ) → Good n (false, 110 ∷ 117 ∷ 108 ∷ 108 ∷ [], []) tree.Null
null_good n = flat (l.plain refl) (record { no_feed = refl; no_return = refl }) refl refl

text_good : (n : ℕ) (w : List ℕ) → Good n (false, quote w, []) (tree.Text w)
text_good n w = flat (l.quoted (quoted_text w)) (clean_quote w) refl refl

number_good : (n : ℕ) (w : List ℕ) (z : ℤ) → Written w z → Good n (false, w, []) (tree.Int z)
number_good n w z q = subst (λ (x : Tree). Good n (false, w, []) x) q.means (flat (l.plain q.plain) (record { no_feed = q.no_feed; no_return = q.no_return }) q.first q.once)

item_first : (sh : Shown) → first_twice (p.parts (p.item sh ∷ [])) ≡ false
item_first sh = go sh.0
  where
    go : (b : Bool) → first_twice (cond b (at 0 (45 ∷ []) ∷ moved 2 sh.2) (at 0 (45 ∷ 32 ∷ sh.1) ∷ []) ++ []) ≡ false
    go true = refl
    go false = refl

entry_first : (key : List ℕ) (sh : Shown) → first_twice (p.parts ((quote key ++ 58 ∷ [], sh) ∷ [])) ≡ false
entry_first key sh = go sh.0
  where
    go : (b : Bool) → first_twice (cond b (at 0 (quote key ++ 58 ∷ []) ∷ moved 2 sh.2) (at 0 (quote key ++ 58 ∷ [] ++ 32 ∷ sh.1) ∷ []) ++ []) ≡ false
    go true = refl
    go false = refl

item_more : {n : ℕ} {sh : Shown} {x : Tree} {a : List (List ℕ × Shown)} {ps : List Pair} → GoodParts n Listed a ps → Good n sh x → GoodParts n Listed (a ++ p.item sh ∷ []) (ps ++ plain_pair x ∷ [])
item_more {n} {sh} {x} {a} {ps} q good = record {
  spelled = λ c. more_parts n Listed c a (p.item sh) ps (plain_pair x) (q.spelled c) (part_good good Listed (45 ∷ []) [] l.dash c) refl;
  clean = cleans_more a (p.item sh) q.clean (part_clean good (45 ∷ []) (record { no_feed = refl; no_return = refl }) refl (λ e. absurd cc));
  fresh = append_some a (p.item sh) q.fresh (item_first sh);
}

entry_more : {n : ℕ} {sh : Shown} {x : Tree} {a : List (List ℕ × Shown)} {ps : List Pair} (key : List ℕ) → GoodParts n Mapped a ps → Good n sh x → IsTrue (is_new Mapped key ps) → GoodParts n Mapped (a ++ (quote key ++ 58 ∷ [], sh) ∷ []) (ps ++ pair key x ∷ [])
entry_more {n} {sh} {x} {a} {ps} key q good fresh = record {
  spelled = λ c. more_parts n Mapped c a (quote key ++ 58 ∷ [], sh) ps (pair key x) (q.spelled c) (part_good good Mapped (quote key ++ 58 ∷ []) key (key_head key) c) fresh;
  clean = cleans_more a (quote key ++ 58 ∷ [], sh) q.clean (part_clean good (quote key ++ 58 ∷ []) (clean_append (clean_quote key) (record { no_feed = refl; no_return = refl })) refl (λ e. absurd cc));
  fresh = append_some a (quote key ++ 58 ∷ [], sh) q.fresh (entry_first key sh);
}

none_good : (n : ℕ) (k : Group) → GoodParts n k [] []
none_good n k = record { spelled = λ c. none; clean = no_lines; fresh = refl }

mutual
  pub shown_good : {n : ℕ} {x : Tree} → IsWritable n x → Good n (shown x) x
  shown_good {n} p.null = subst (λ (z : Shown). Good n z tree.Null) (sym shown-Null) (null_good n)
  shown_good {n} (p.flag b) = subst (λ (z : Shown). Good n z (tree.Flag b)) (sym (shown-Flag b)) (flag_good n b)
  shown_good {n} (p.natural k lt) = subst (λ (z : Shown). Good n z (tree.Int (pos k))) (sym (shown-Int (pos k))) (number_good n _ (pos k) (natural_written k lt))
  shown_good {n} (p.negative k lt) = subst (λ (z : Shown). Good n z (tree.Int (negsuc k))) (sym (shown-Int (negsuc k))) (number_good n _ (negsuc k) (negative_written k lt))
  shown_good {n} (p.text w) = subst (λ (z : Shown). Good n z (tree.Text w)) (sym (shown-Text w)) (text_good n w)
  shown_good (p.list {n} {xs} q) =
      subst (λ (z : Shown). Good (suc n) z (tree.List xs)) (sym (shown-List xs)) (subst (λ (z : List Tree). Good (suc n) (tree_step (Tree-F.List (map shown xs))) (tree.List z)) (values_back xs)
      (some_parts n Listed (map p.item (map shown xs)) (map plain_pair xs) (items_good q)))
  shown_good (p.mapping {n} {ps} q) =
      subst (λ (z : Shown). Good (suc n) z (tree.Map ps)) (sym (shown-Map ps)) (some_parts n Mapped (map p.entry ps) ps (entries_good q))

  items_good : {n : ℕ} {xs : List Tree} → AreItems n xs → GoodParts n Listed (map p.item (map shown xs)) (map plain_pair xs)
  items_good {n} p.no_items = none_good n Listed
  items_good {n} (p.one_item {x = x} {xs = xs} q r) =
      rw (map_one shown xs x, map_one p.item (map shown xs) (shown x), map_one plain_pair xs x) (item_more (items_good q) (shown_good r))

  entries_good : {n : ℕ} {ps : List Pair} → AreEntries n ps → GoodParts n Mapped (map p.entry ps) ps
  entries_good {n} p.no_entries = none_good n Mapped
  entries_good {n} (p.one_entry key {x} {ps} q r fresh) =
      rw (map_one p.entry ps (pair key x), entry-pair key x) (entry_more key (entries_good q) (shown_good r) fresh)

moved_none : (a : List Line) → moved 0 a ≡ a
moved_none [] = refl
moved_none (at c w ∷ a) = let same : c + 0 ≡ c = omega arith in rw (same, moved_none a) refl

printed_spells : {sh : Shown} {x : Tree} → Good 32 sh x → Spells (p.lines_of_shown sh) x
printed_spells (flat {t = t} q clean first once) = s.no_start (s.node {a = []} s.none (s.inline (flat_inline 0 q)) (twice_document (at 0 t ∷ []) once))
printed_spells (full k t ls ps q clean once) = s.no_start (s.node {a = []} s.none (s.group (subst (λ (z : List Line). Parts 31 k 0 z ps) (moved_none ls) (q 0))) (twice_document ls once))

printed_clean : {sh : Shown} {x : Tree} → Good 32 sh x → Cleans (p.lines_of_shown sh)
printed_clean (flat q clean first once) = one_line clean first no_lines
printed_clean (full k t ls ps q clean once) = clean

-- ---- lines of the text

cut_line : (w rest : List ℕ) → has 10 w ≡ false → cut (w ++ 10 ∷ rest) ≡ w ∷ cut rest
cut_line [] rest e = refl
cut_line (c ∷ w) rest e = let parts = or_parts (eqb c 10) (has 10 w) e in rw (parts.0, cut_line w rest parts.1) refl

no_return : (w : List ℕ) → has 13 w ≡ false → without_return w ≡ w
no_return [] e = refl
no_return (c ∷ []) e = rw (or_parts (eqb c 13) false e).0 refl
no_return (c ∷ d ∷ w) e = ap (λ (z : List ℕ). c ∷ z) (no_return (d ∷ w) (or_parts (eqb c 13) (has 13 (d ∷ w)) e).1)

line_spaces : (k n : ℕ) (w : List ℕ) → begins 32 w ≡ false → line_from n (spaces k ++ w) ≡ at (k + n) w
line_spaces zero n [] e = let same : 0 + n ≡ n = omega arith in ap (λ (z : ℕ). at z []) (sym same)
line_spaces zero n (c ∷ w) e = let same : 0 + n ≡ n = omega arith in rw e (ap (λ (z : ℕ). at z (c ∷ w)) (sym same))
line_spaces (suc k) n w e = let same : k + suc n ≡ suc k + n = omega arith in line_spaces k (suc n) w e ∙ ap (λ (z : ℕ). at z w) same

has_spaces : (a k : ℕ) → eqb 32 a ≡ false → has a (spaces k) ≡ false
has_spaces a zero e = refl
has_spaces a (suc k) e = or_from (eqb 32 a) (has a (spaces k)) e (has_spaces a k e)

pub lines_back : {ls : List Line} → Cleans ls → lines_of (text_of_lines ls) ≡ ls
lines_back no_lines = refl
lines_back (one_line {c} {w} {ls} clean first q) =
    let text : spaces c ++ (w ++ 10 ∷ text_of_lines ls) ≡ (spaces c ++ w) ++ 10 ∷ text_of_lines ls = sym (append_assoc (spaces c) w (10 ∷ text_of_lines ls)) in
    let cuts = ap cut text ∙ cut_line (spaces c ++ w) (text_of_lines ls) (has_append 10 (spaces c) w (has_spaces 10 c refl) clean.no_feed) in
    let same : c + 0 ≡ c = omega arith in
    let one : line_of (spaces c ++ w) ≡ at c w = ap (line_from 0) (no_return (spaces c ++ w) (has_append 13 (spaces c) w (has_spaces 13 c refl) clean.no_return)) ∙ (line_spaces c 0 w first ∙ ap (λ (z : ℕ). at z w) same) in
    ap (map line_of) cuts ∙ (ap (λ (z : Line). z ∷ lines_of (text_of_lines ls)) one ∙ ap (λ (z : List Line). at c w ∷ z) (lines_back q))

-- What is written of a tree is spelled as that tree.
pub written_spells : (x : Tree) → IsWritable 32 x → Spells (lines_of (p.tree_text x)) x
written_spells x q = let good = shown_good q in subst (λ (z : List Line). Spells z x) (sym (lines_back (printed_clean good))) (printed_spells good)
