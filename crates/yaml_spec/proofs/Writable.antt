-- What a text spells may be written: its maps have distinct keys, its numbers are in range, and at most 32 lists and maps stand in one another.
use Rattle.std.proofs.Common.{◌≡◌, ℕ, zero, suc, ◌+◌, ◌-◌, ◌^◌, ◌<◌, ◌≤◌, Bool, true, false, not, ◌&&◌, eqb, leb, if◌then◌else◌, IsTrue, List, [], ◌∷◌, ◌++◌, map, Option, Some, None, option_map, ℤ, pos, negsuc, neg_ℤ, refl, sym, ap, subst, ◌∙◌, arith}
use Rattle.std.proofs.lemmas.Bool.{leb-true}
use Rattle.yaml_spec.specs.declared.state.Group.{Group}
use Rattle.yaml_spec.specs.declared.state.Group.TheVariants.{Listed, Mapped}
use Rattle.yaml_spec.specs.declared.tree.Tree.{Tree}
use Rattle.yaml_spec.specs.declared.tree.Tree.TheVariants as tree
use Rattle.yaml_spec.specs.declared.tree.Pair.{Pair}
use Rattle.yaml_spec.specs.Line as l
use Rattle.yaml_spec.specs.Line.{pair, whole, value_of, is_new, meaning, number, number_or_text, digit, digits, hex_digit, at_most, decimal_to, hexadecimal, is_null, is_true, is_false, Value, Flow, FlowParts}
use Rattle.yaml_spec.specs.Spells as s
use Rattle.yaml_spec.specs.Spells.{Line, Inline, Node, Parts, Part, Root, Spells}
use Rattle.yaml_spec.specs.Texts.{lines_of, Spelled}
use Rattle.yaml_spec.specs.Print as p
use Rattle.yaml_spec.specs.Print.{IsWritable, AreItems, AreEntries}

-- ---- numbers

abbrev InRange : ℤ → Type 0
InRange (pos n) = n < 2 ^ 64
InRange (negsuc n) = n < 2 ^ 63

int_writable : (n : ℕ) (z : ℤ) → InRange z → IsWritable n (tree.Int z)
int_writable n (pos k) h = p.natural k h
int_writable n (negsuc k) h = p.negative k h

abbrev AtMost : ℕ → Option ℕ → Type 0
AtMost limit o = (n : ℕ) → o ≡ Some n → n ≤ limit

limited : (limit : ℕ) (o : Option ℕ) → AtMost limit (at_most limit o)
limited limit None n e = absurd (cc)
limited limit (Some k) n e = go (leb k limit) refl e
  where
    go : (b : Bool) → leb k limit ≡ b → (if b then Some k else None) ≡ Some n → n ≤ limit
    go true is f = let le = leb-true k limit is in let same : k ≡ n = cc in subst (λ x. x ≤ limit) same le
    go false is f = absurd (cc)

decimal_limited : (limit : ℕ) (s : List ℕ) → AtMost limit (decimal_to limit s)
decimal_limited limit [] n e = absurd (cc)
decimal_limited limit (c ∷ s) n e = go (eqb c 48) e
  where
    go : (b : Bool) → (if b then None else at_most limit (digits digit 10 0 (c ∷ s))) ≡ Some n → n ≤ limit
    go true f = absurd (cc)
    go false f = limited limit (digits digit 10 0 (c ∷ s)) n f

hexadecimal_limited : (s : List ℕ) → AtMost (2 ^ 64 - 1) (hexadecimal s)
hexadecimal_limited [] n e = absurd (cc)
hexadecimal_limited (c ∷ s) n e = limited (2 ^ 64 - 1) (digits hex_digit 16 0 (c ∷ s)) n e

digit_limited : (c : ℕ) → AtMost (2 ^ 64 - 1) (digit c)
digit_limited c n e = go (leb 48 c && leb c 57) refl e
  where
    and_second : (a b : Bool) → (a && b) ≡ true → b ≡ true
    and_second true b h = h
    and_second false b h = absurd (cc)

    go : (b : Bool) → (leb 48 c && leb c 57) ≡ b → (if b then Some (c - 48) else None) ≡ Some n → n ≤ 2 ^ 64 - 1
    go true is f = let le = leb-true c 57 (and_second (leb 48 c) (leb c 57) is) in let same : c - 48 ≡ n = cc in omega (arith, le, same)
    go false is f = absurd (cc)

abbrev Ranged : Option ℤ → Type 0
Ranged o = (z : ℤ) → o ≡ Some z → InRange z

natural_ranged : (o : Option ℕ) → AtMost (2 ^ 64 - 1) o → Ranged (option_map pos o)
natural_ranged None h z e = absurd (cc)
natural_ranged (Some n) h z e = let le = h n refl in let lt : n < 2 ^ 64 = omega (arith, le) in let same : pos n ≡ z = cc in subst InRange same lt

negated : (n : ℕ) → n ≤ 2 ^ 63 → InRange (neg_ℤ (pos n))
negated zero h = omega arith
negated (suc n) h = omega (arith, h)

negative_ranged : (o : Option ℕ) → AtMost (2 ^ 63) o → Ranged (option_map (λ n. neg_ℤ (pos n)) o)
negative_ranged None h z e = absurd (cc)
negative_ranged (Some n) h z e = let r = negated n (h n refl) in let same : neg_ℤ (pos n) ≡ z = cc in subst InRange same r

either : (b : Bool) (o q : Option ℤ) → Ranged o → Ranged q → Ranged (if b then o else q)
either true o q h g = h
either false o q h g = g

number_ranged : (s : List ℕ) → Ranged (number s)
number_ranged [] = λ z e. absurd (cc)
number_ranged (c ∷ []) = natural_ranged (digit c) (digit_limited c)
number_ranged (c ∷ d ∷ s) = either (eqb c 45) (option_map (λ n. neg_ℤ (pos n)) (decimal_to (2 ^ 63) (d ∷ s))) (if eqb c 48 && eqb d 120 then option_map pos (hexadecimal s) else option_map pos (decimal_to (2 ^ 64 - 1) (c ∷ d ∷ s)))
    (negative_ranged (decimal_to (2 ^ 63) (d ∷ s)) (decimal_limited (2 ^ 63) (d ∷ s)))
    (either (eqb c 48 && eqb d 120) (option_map pos (hexadecimal s)) (option_map pos (decimal_to (2 ^ 64 - 1) (c ∷ d ∷ s))) (natural_ranged (hexadecimal s) (hexadecimal_limited s)) (natural_ranged (decimal_to (2 ^ 64 - 1) (c ∷ d ∷ s)) (decimal_limited (2 ^ 64 - 1) (c ∷ d ∷ s))))

-- ---- plain scalars

number_or_text_writable : (n : ℕ) (s : List ℕ) (o : Option ℤ) → Ranged o → IsWritable n (number_or_text s o)
number_or_text_writable n s None h = p.text s
number_or_text_writable n s (Some z) h = int_writable n z (h z refl)

chosen : (n : ℕ) (b : Bool) (x y : Tree) → IsWritable n x → IsWritable n y → IsWritable n (if b then x else y)
chosen n true x y h g = h
chosen n false x y h g = g

meaning_writable : (n : ℕ) (s : List ℕ) → IsWritable n (meaning s)
meaning_writable n s = chosen n (is_null s) _ _ p.null (chosen n (is_true s) _ _ (p.flag true) (chosen n (is_false s) _ _ (p.flag false) (number_or_text_writable n s (number s) (number_ranged s))))

-- ---- lists and maps

abbrev AreWritable : Group → ℕ → List Pair → Type 0
AreWritable Listed n ps = AreItems n (map value_of ps)
AreWritable Mapped n ps = AreEntries n ps

no_parts : (k : Group) (n : ℕ) → AreWritable k n []
no_parts Listed n = p.no_items
no_parts Mapped n = p.no_entries

map-push : (ps : List Pair) (q : Pair) → map value_of (ps ++ q ∷ []) ≡ map value_of ps ++ q.value ∷ []
map-push [] q = refl
map-push (x ∷ ps) q = ap (λ ys. x.value ∷ ys) (map-push ps q)

one_part : (k : Group) (n : ℕ) (ps : List Pair) (q : Pair) → AreWritable k n ps → IsWritable n q.value → IsTrue (is_new k q.key ps) → AreWritable k n (ps ++ q ∷ [])
one_part Listed n ps q h x new = subst (AreItems n) (sym (map-push ps q)) (p.one_item h x)
one_part Mapped n ps q h x new = p.one_entry q.key h x new

first_part : (k : Group) (n : ℕ) (q : Pair) → IsWritable n q.value → AreWritable k n (q ∷ [])
first_part Listed n q x = p.one_item p.no_items x
first_part Mapped n q x = p.one_entry q.key p.no_entries x refl

whole_writable : (k : Group) (n : ℕ) (ps : List Pair) → AreWritable k n ps → IsWritable (suc n) (whole k ps)
whole_writable Listed n ps h = p.list h
whole_writable Mapped n ps h = p.mapping h

mutual
  flow_writable : {r : ℕ} {v after : List ℕ} {x : Tree} → Flow r v after x → IsWritable r x
  flow_writable {r} (l.plain {s = v} h) = meaning_writable r v
  flow_writable (l.quoted {x = x} q) = p.text x
  flow_writable (l.empty {r = r} k i) = whole_writable k r [] (no_parts k r)
  flow_writable (l.group {r = r} k i {ps = ps} h) = whole_writable k r ps (flow_parts_writable h (no_parts k r))

  flow_parts_writable : {r : ℕ} {k : Group} {before : List Pair} {v after : List ℕ} {ps : List Pair} → FlowParts r k before v after ps → AreWritable k r before → AreWritable k r ps
  flow_parts_writable (l.last {r = r} {k = k} i {before = before} {key = key} {x = x} head new value) h = one_part k r before (pair key x) h (flow_writable value) new
  flow_parts_writable (l.more {r = r} {k = k} i j {before = before} {key = key} {x = x} head new value rest) h = flow_parts_writable rest (one_part k r before (pair key x) h (flow_writable value) new)

value_writable : {r : ℕ} {v t : List ℕ} {x : Tree} → Value r v t x → IsWritable r x
value_writable {r} (l.plain {s = v} h) = meaning_writable r v
value_writable (l.quoted {x = x} q) = p.text x
value_writable (l.flow h f) = flow_writable f

-- ---- lines

inline_writable : {r m : ℕ} {v : List ℕ} {ls : List Line} {x : Tree} → Inline r m v ls x → IsWritable r x
inline_writable (s.value h t k) = value_writable h
inline_writable (s.block head tail rows skips ends) = p.text _

mutual
  node_writable : {r m c : ℕ} {ls : List Line} {x : Tree} → Node r m c ls x → IsWritable r x
  node_writable (s.inline i) = inline_writable i
  node_writable (s.group {r = r} {k = k} {ps = ps} h) = whole_writable k r ps (parts_writable h)

  parts_writable : {r c : ℕ} {k : Group} {ls : List Line} {ps : List Pair} → Parts r k c ls ps → AreWritable k r ps
  parts_writable (s.one {r = r} {k = k} {p = q} h) = first_part k r q (part_writable h)
  parts_writable (s.more {r = r} {k = k} {ps = ps} {p = q} h g new) = one_part k r ps q (parts_writable h) (part_writable g) new

  part_writable : {r c : ℕ} {k : Group} {ls : List Line} {q : Pair} → Part r k c ls q → IsWritable r q.value
  part_writable (s.here i head v) = inline_writable v
  part_writable (s.within {r = r} i {j = j} {ps = ps} h) = whole_writable j r ps (parts_writable h)
  part_writable (s.below head tail skips deeper node) = node_writable node
  part_writable (s.level {r = r} {ps = ps} head tail skips h) = whole_writable Listed r ps (parts_writable h)
  part_writable (s.null head tail skips) = p.null

root_writable : {ls : List Line} {x : Tree} → Root ls x → IsWritable 32 x
root_writable (s.node skips n unmarked) = node_writable n
root_writable (s.nothing skips) = p.null

-- what lines spell may be written
pub spells_writable : {ls : List Line} {x : Tree} → Spells ls x → IsWritable 32 x
spells_writable (s.start skips is root) = root_writable root
spells_writable (s.no_start root) = root_writable root

-- what a text spells may be written
pub spelled_writable : (text : List ℕ) (x : Tree) → Spelled text x → IsWritable 32 x
spelled_writable text x h = spells_writable h
