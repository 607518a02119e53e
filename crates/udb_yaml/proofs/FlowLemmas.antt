-- Values in flow, by their places.
use Rattle.std.proofs.Common.{◌≡◌, ℕ, zero, suc, ◌+◌, ◌-◌, ◌<◌, ◌≤◌, Bool, true, false, cond, not, ◌&&◌, eqb, List, [], ◌∷◌, ◌++◌, length, take, drop, get_or, Option, Some, None, refl, sym, ap, subst, ◌∙◌, arith, ne_eqb, eq-eqb, IsUtf8}
use Rattle.std.proofs.lemmas.List.{at_drop_more, at_drop_all, length-drop, drop-drop, length-take}
use Rattle.std.proofs.lemmas.Bool.{eqb-true}
use Rattle.std.proofs.lemmas.Str.{IsCharBoundary-start, IsCharBoundary-after_ascii, IsCharBoundary-from_rest}
use Rattle.std.specs.Str.{IsCharBoundary}
use Rattle.yaml_spec.specs.declared.state.Group.{Group}
use Rattle.yaml_spec.specs.declared.state.Group.TheVariants.{Listed, Mapped}
use Rattle.yaml_spec.specs.declared.sights.Inner.{Inner}
use Rattle.yaml_spec.specs.declared.sights.Inner.TheVariants as inner
use Rattle.yaml_spec.specs.declared.tree.Tree.{Tree}
use Rattle.yaml_spec.specs.declared.tree.Pair.{Pair}
use Rattle.udb_yaml.specs.declared.flow.Sign.TheVariants as sign
use Rattle.yaml_spec.specs.Line.{begins, is_plain, has_flow, meaning, is_new, pair, whole, opening, closing}
use Rattle.yaml_spec.specs.Reading as r
use Rattle.yaml_spec.specs.Reading.{Taken, Read, FlowReader, PartsReader}
use Rattle.udb_yaml.specs.Places.{key_in, Takes, Reads, ReadsParts, ReadsPart, SignAt, ends_by}
use Rattle.udb_yaml.proofs.PlaceLemmas.{past_by_front}
use Rattle.udb_yaml.proofs.KeyLemmas.{rest_cut}

past_drop : (s : List ℕ) (n f : ℕ) → f ≡ r.front (drop n s) → r.past (drop n s) ≡ drop (n + f) s
past_drop s n f is = past_by_front (drop n s) ∙ (ap (λ (z : ℕ). drop z (drop n s)) (sym is) ∙ drop-drop f n s)

-- ---- signs

pub sign_more : (k : Group) (s b : List ℕ) (n f z : ℕ) → n < length s → (get_or s n 0 ≡ z → ⊥) → z ≡ closing k → get_or s n 0 ≡ 44 → b ≡ drop (n + 1) s → f ≡ r.front b → SignAt k s n (sign.More (n + 1 + f))
sign_more k s b n f z lt other is comma rest count =
    let f_is : f ≡ r.front (drop (n + 1) s) = count ∙ ap r.front rest in
    let not_closing : eqb (get_or s n 0) (closing k) ≡ false = ne_eqb (get_or s n 0) (closing k) (λ e. other (e ∙ sym is)) in
    (λ again ps. at_drop_more (r.part_end k again ps) s n 0 lt ∙ (rw (not_closing, comma) (ap (again ps) (past_drop s (n + 1) f f_is))), ap (λ (z : ℕ). n + 1 + z) f_is, lt, omega arith)

-- ---- what stands before a part

pub head_item : (k : Group) (s key : List ℕ) → IsUtf8 s → k ≡ Listed → key ≡ [] → Takes s (r.flow_head k s) (Some (key, 0))
head_item k s key utf8 is none = (ap (λ (z : Group). r.flow_head z s) is ∙ ap (λ (z : List ℕ). Some (z, s)) (sym none), omega arith, IsCharBoundary-start s utf8)

pub head_entry : (k : Group) (s b key : List ℕ) (n f : ℕ) → IsUtf8 s → k ≡ Mapped → Takes s (key_in true s) (Some (key, n)) → b ≡ drop n s → begins 32 b ≡ true → f ≡ r.front b → Takes s (r.flow_head k s) (Some (key, n + f))
head_entry k s b key n f utf8 is found rest space count =
    let f_is : f ≡ r.front (drop n s) = count ∙ ap r.front rest in
    let here : begins 32 (drop n s) ≡ true = ap (begins 32) (sym rest) ∙ space in
    let cut = rest_cut s n utf8 found.1 found.2 in
    let reads : r.flow_head Mapped s ≡ Some (key, drop (n + f) s) = ap r.flow_colon found.0 ∙ (rw here (ap (λ (z : List ℕ). Some (key, z)) (past_drop s n f f_is))) in
    (ap (λ (z : Group). r.flow_head z s) is ∙ reads, subst (λ (z : ℕ). n + z ≤ length s) (sym f_is) cut.0, subst (λ (z : ℕ). IsCharBoundary s (n + z)) (sym f_is) cut.1)

-- ---- plain values

pub cut_here : (s : List ℕ) (n : ℕ) → n ≤ length s → (n < length s → get_or s n 0 < 128) → IsCharBoundary s n
cut_here s n le low = (le, λ lt high. absurd (let small = low lt in omega arith))

pub plain_reads : (s b : List ℕ) (x : Tree) (n : ℕ) → b ≡ s → r.trim (r.signless b) ≡ take n b → n ≤ length b → (n < length b → get_or b n 0 < 128) → is_plain (take n s) (drop n b) ≡ true → has_flow (take n s) ≡ false → x ≡ meaning (take n s) → Reads s (r.plain_in_flow s) (Some (x, n))
plain_reads s b x n bytes content within low plain flow is =
    let content' : r.trim (r.signless s) ≡ take n s = subst (λ (z : List ℕ). r.trim (r.signless z) ≡ take n z) bytes content in
    let within' : n ≤ length s = subst (λ (z : List ℕ). n ≤ length z) bytes within in
    let long : length (r.trim (r.signless s)) ≡ n = ap length content' ∙ (length-take n s ∙ omega arith) in
    let plain' : is_plain (take n s) (drop n s) ≡ true = subst (λ (z : List ℕ). is_plain (take n s) (drop n z) ≡ true) bytes plain in
    let low' : n < length s → get_or s n 0 < 128 = subst (λ (z : List ℕ). n < length z → get_or z n 0 < 128) bytes low in
    (ap (λ (z : ℕ). r.plain_flow (r.trim (r.signless s)) (drop z s)) long ∙ (ap (λ (z : List ℕ). r.plain_flow z (drop n s)) content' ∙ (rw (plain', flow) (ap (λ (z : Tree). Some (z, drop n s)) (sym is)))), within', cut_here s n within' low')

pub plain_none : (s b : List ℕ) (n : ℕ) → b ≡ s → r.trim (r.signless b) ≡ take n b → n ≤ length b → (is_plain (take n s) (drop n b) && not (has_flow (take n s))) ≡ false → r.plain_in_flow s ≡ None
plain_none s b n bytes content within refused =
    let content' : r.trim (r.signless s) ≡ take n s = subst (λ (z : List ℕ). r.trim (r.signless z) ≡ take n z) bytes content in
    let within' : n ≤ length s = subst (λ (z : List ℕ). n ≤ length z) bytes within in
    let long : length (r.trim (r.signless s)) ≡ n = ap length content' ∙ (length-take n s ∙ omega arith) in
    let refused' : (is_plain (take n s) (drop n s) && not (has_flow (take n s))) ≡ false = subst (λ (z : List ℕ). (is_plain (take n s) (drop n z) && not (has_flow (take n s))) ≡ false) bytes refused in
    ap (λ (z : ℕ). r.plain_flow (r.trim (r.signless s)) (drop z s)) long ∙ (ap (λ (z : List ℕ). r.plain_flow z (drop n s)) content' ∙ rw refused' refl)

-- ---- parts

part_of : (k : Group) (one : FlowReader) (left : ℕ) (before : List Pair) (s : List ℕ) → 0 < left → r.flow_parts k one left before s ≡ r.part_head k one (r.flow_parts k one (left - 1)) before (r.flow_head k s)
part_of k one zero before s some = absurd (omega arith)
part_of k one (suc left) before s some = let same : suc left - 1 ≡ left = omega arith in ap (λ (n : ℕ). r.part_head k one (r.flow_parts k one n) before (r.flow_head k s)) (sym same)

part_then : (k : Group) (one : FlowReader) (left : ℕ) (before : List Pair) (s t : List ℕ) (at count : ℕ) (p : Pair) → 0 < left → t ≡ drop at s → ReadsPart k one before t (Some (p, count)) → r.flow_parts k one left before (drop at s) ≡ r.part_end k (r.flow_parts k one (left - 1)) (before ++ p ∷ []) (drop (at + count) s)
part_then k one left before s t at count p some rest reads =
    let here : ReadsPart k one before (drop at s) (Some (p, count)) = subst (λ (z : List ℕ). ReadsPart k one before z (Some (p, count))) rest reads in
    part_of k one left before (drop at s) some ∙ (here.0 (r.flow_parts k one (left - 1)) ∙ ap (r.part_end k (r.flow_parts k one (left - 1)) (before ++ p ∷ [])) (drop-drop count at s))

pub parts_none : (k : Group) (one : FlowReader) (left : ℕ) (before : List Pair) (s t : List ℕ) (at : ℕ) → 0 < left → t ≡ drop at s → ReadsPart k one before t None → r.flow_parts k one left before (drop at s) ≡ None
parts_none k one left before s t at some rest reads =
    let here : ReadsPart k one before (drop at s) None = subst (λ (z : List ℕ). ReadsPart k one before z None) rest reads in
    part_of k one left before (drop at s) some ∙ here (r.flow_parts k one (left - 1))

pub parts_fault : (k : Group) (one : FlowReader) (left : ℕ) (before : List Pair) (s t b : List ℕ) (at count : ℕ) (p : Pair) → 0 < left → t ≡ drop at s → ReadsPart k one before t (Some (p, count)) → b ≡ s → SignAt k b (at + count) sign.Fault → r.flow_parts k one left before (drop at s) ≡ None
parts_fault k one left before s t b at count p some rest reads bytes found =
    part_then k one left before s t at count p some rest reads ∙ subst (λ (z : List ℕ). SignAt k z (at + count) sign.Fault) bytes found (r.flow_parts k one (left - 1)) (before ++ p ∷ [])

pub parts_last : (k : Group) (one : FlowReader) (left : ℕ) (before all : List Pair) (s t b : List ℕ) (at count end : ℕ) (p : Pair) → IsUtf8 s → 0 < left → t ≡ drop at s → ReadsPart k one before t (Some (p, count)) → b ≡ s → SignAt k b (at + count) (sign.Last end) → all ≡ before ++ p ∷ [] → ReadsParts s (r.flow_parts k one left before (drop at s)) (Some (all, end))
parts_last k one left before all s t b at count end p utf8 some rest reads bytes found is =
    let here : SignAt k s (at + count) (sign.Last end) = subst (λ (z : List ℕ). SignAt k z (at + count) (sign.Last end)) bytes found in
    let cut = IsCharBoundary-after_ascii s (at + count) utf8 here.2 here.3 in
    let same = here.1 in
    (part_then k one left before s t at count p some rest reads ∙ (here.0 (r.flow_parts k one (left - 1)) (before ++ p ∷ []) ∙ ap (λ (z : List Pair). Some (z, drop end s)) (sym is)), omega arith, subst (IsCharBoundary s) (sym same) cut)

pub record MoreParts (k : Group) (one : FlowReader) (left : ℕ) (before all : List Pair) (s : List ℕ) (at next : ℕ) : Type 0 where
  pub reads : r.flow_parts k one (left - 1) all (drop next s) ≡ r.flow_parts k one left before (drop at s)
  pub within : next ≤ length s
  pub cut : IsCharBoundary s next

pub parts_more : (k : Group) (one : FlowReader) (left : ℕ) (before all : List Pair) (s t b : List ℕ) (at count next : ℕ) (p : Pair) → IsUtf8 s → 0 < left → t ≡ drop at s → ReadsPart k one before t (Some (p, count)) → b ≡ s → SignAt k b (at + count) (sign.More next) → all ≡ before ++ p ∷ [] → MoreParts k one left before all s at next
parts_more k one left before all s t b at count next p utf8 some rest reads bytes found is =
    let here : SignAt k s (at + count) (sign.More next) = subst (λ (z : List ℕ). SignAt k z (at + count) (sign.More next)) bytes found in
    let comma = IsCharBoundary-after_ascii s (at + count) utf8 here.2 here.3 in
    let cut = rest_cut s (at + count + 1) utf8 comma.0 comma in
    let same = here.1 in
    record {
      reads = sym (part_then k one left before s t at count p some rest reads ∙ (here.0 (r.flow_parts k one (left - 1)) (before ++ p ∷ []) ∙ ap (λ (z : List Pair). r.flow_parts k one (left - 1) z (drop next s)) (sym is)));
      within = subst (λ (z : ℕ). z ≤ length s) (sym same) cut.0;
      cut = subst (IsCharBoundary s) (sym same) cut.1;
    }

-- ---- one part

pub part_no_head : (k : Group) (one : FlowReader) (before : List Pair) (s : List ℕ) → r.flow_head k s ≡ None → ReadsPart k one before s None
part_no_head k one before s e = λ again. ap (r.part_head k one again before) e

pub part_old : (k : Group) (one : FlowReader) (before : List Pair) (s key u : List ℕ) → r.flow_head k s ≡ Some (key, u) → is_new k key before ≡ false → ReadsPart k one before s None
part_old k one before s key u e old = λ again. ap (r.part_head k one again before) e ∙ rw old refl

pub part_no_value : (k : Group) (one : FlowReader) (before : List Pair) (s key u t : List ℕ) → r.flow_head k s ≡ Some (key, u) → is_new k key before ≡ true → t ≡ u → one t ≡ None → ReadsPart k one before s None
part_no_value k one before s key u t e fresh same none = λ again. ap (r.part_head k one again before) e ∙ rw fresh (ap (r.part_value k again before key) (ap one (sym same) ∙ none))

pub part_read : (k : Group) (one : FlowReader) (before : List Pair) (s key t b : List ℕ) (x : Tree) (n m f : ℕ) → IsUtf8 s → Takes s (r.flow_head k s) (Some (key, n)) → is_new k key before ≡ true → t ≡ drop n s → Reads t (one t) (Some (x, m)) → b ≡ drop (n + m) s → f ≡ r.front b → ReadsPart k one before s (Some (pair key x, n + m + f))
part_read k one before s key t b x n m f utf8 head fresh same value rest count =
    let here : Reads (drop n s) (one (drop n s)) (Some (x, m)) = subst (λ (z : List ℕ). Reads z (one z) (Some (x, m))) same value in
    let f_is : f ≡ r.front (drop (n + m) s) = count ∙ ap r.front rest in
    let le : n + m ≤ length s = omega (arith, here.1, length-drop n s, head.1) in
    let middle : IsCharBoundary s (n + m) = IsCharBoundary-from_rest s n m head.1 here.2 in
    let cut = rest_cut s (n + m) utf8 le middle in (
      λ again. ap (r.part_head k one again before) head.0 ∙ (rw fresh (ap (r.part_value k again before key) (here.0 ∙ ap (λ (z : List ℕ). Some (x, z)) (drop-drop m n s)) ∙ ap (r.part_end k again (before ++ pair key x ∷ [])) (past_drop s (n + m) f f_is))),
      subst (λ (z : ℕ). n + m + z ≤ length s) (sym f_is) cut.0,
      subst (λ (z : ℕ). IsCharBoundary s (n + m + z)) (sym f_is) cut.1,
    )

-- ---- behind the opening sign

pub rest_none : (one : FlowReader) (k : Group) (s : List ℕ) (n : ℕ) → length s ≤ n → r.flow_rest one k (drop n s) ≡ None
rest_none one k s n le = at_drop_all (r.flow_rest one k) s n le

pub rest_empty : (one : FlowReader) (k : Group) (s b : List ℕ) (x : Tree) (n z : ℕ) → IsUtf8 s → b ≡ s → n < length s → get_or b n 0 ≡ z → z ≡ closing k → x ≡ whole k [] → Reads s (r.flow_rest one k (drop n s)) (Some (x, n + 1))
rest_empty one k s b x n z utf8 bytes lt at_z is whole_is =
    let here : get_or s n 0 ≡ closing k = ap (λ (y : List ℕ). get_or y n 0) (sym bytes) ∙ (at_z ∙ is) in
    let low : get_or s n 0 < 128 = closing_low k (get_or s n 0) here in
    (at_drop_more (r.flow_rest one k) s n 0 lt ∙ (rw (eq-eqb (get_or s n 0) (closing k) here) (ap (λ (y : Tree). Some (y, drop (n + 1) s)) (sym whole_is))), omega arith, IsCharBoundary-after_ascii s n utf8 lt low)
  where
    closing_low : (k : Group) (c : ℕ) → c ≡ closing k → c < 128
    closing_low Listed c e = omega arith
    closing_low Mapped c e = omega arith

rest_parts_is : (one : FlowReader) (k : Group) (s b : List ℕ) (n z : ℕ) → b ≡ s → n < length s → (get_or b n 0 ≡ z → ⊥) → z ≡ closing k → r.flow_rest one k (drop n s) ≡ r.as_whole k (r.flow_parts k one (suc (length (drop n s))) [] (drop n s))
rest_parts_is one k s b n z bytes lt other is =
    let other' : eqb (get_or s n 0) (closing k) ≡ false = ne_eqb (get_or s n 0) (closing k) (λ e. other (ap (λ (y : List ℕ). get_or y n 0) bytes ∙ (e ∙ sym is))) in
    at_drop_more (r.flow_rest one k) s n 0 lt ∙ (rw other' (sym (at_drop_more (λ (y : List ℕ). r.as_whole k (r.flow_parts k one (suc (length y)) [] y)) s n 0 lt)))

pub rest_fault : (one : FlowReader) (k : Group) (s b t : List ℕ) (n z : ℕ) → b ≡ s → n < length s → (get_or b n 0 ≡ z → ⊥) → z ≡ closing k → t ≡ drop n s → r.flow_parts k one (suc (length t)) [] t ≡ None → r.flow_rest one k (drop n s) ≡ None
rest_fault one k s b t n z bytes lt other is same none = rest_parts_is one k s b n z bytes lt other is ∙ ap (r.as_whole k) (ap (λ (y : List ℕ). r.flow_parts k one (suc (length y)) [] y) (sym same) ∙ none)

pub rest_whole : (one : FlowReader) (k : Group) (s b t : List ℕ) (n z m : ℕ) (all : List Pair) (x : Tree) → b ≡ s → n < length s → IsCharBoundary s n → (get_or b n 0 ≡ z → ⊥) → z ≡ closing k → t ≡ drop n s → ReadsParts t (r.flow_parts k one (suc (length t)) [] t) (Some (all, m)) → x ≡ whole k all → Reads s (r.flow_rest one k (drop n s)) (Some (x, n + m))
rest_whole one k s b t n z m all x bytes lt cut other is same reads whole_is =
    let here : ReadsParts (drop n s) (r.flow_parts k one (suc (length (drop n s))) [] (drop n s)) (Some (all, m)) = subst (λ (y : List ℕ). ReadsParts y (r.flow_parts k one (suc (length y)) [] y) (Some (all, m))) same reads in (
      rest_parts_is one k s b n z bytes lt other is ∙ (ap (r.as_whole k) here.0 ∙ (ap (λ (y : List ℕ). Some (whole k all, y)) (drop-drop m n s) ∙ ap (λ (y : Tree). Some (y, drop (n + m) s)) (sym whole_is))),
      omega (arith, here.1, length-drop n s),
      IsCharBoundary-from_rest s n m (omega arith) here.2,
    )

-- ---- values

opened : (n : ℕ) (k : Group) (s : List ℕ) → r.flow (suc n) (opening k ∷ s) ≡ r.flow_rest (r.flow n) k (r.past s)
unfolding r.flow
opened n Listed s = refl
opened n Mapped s = refl

closed : (k : Group) (s : List ℕ) → r.flow 0 (opening k ∷ s) ≡ None
unfolding r.flow
closed Listed s = refl
closed Mapped s = refl

pub group_none : (n : ℕ) (k : Group) (s : List ℕ) → n ≡ 0 → 0 < length s → get_or s 0 0 ≡ opening k → r.flow n s ≡ None
group_none n k [] zero_is some first = absurd (omega arith)
group_none n k (c ∷ s) zero_is some first = ap (λ (z : ℕ). r.flow z (c ∷ s)) zero_is ∙ (ap (λ (z : ℕ). r.flow 0 (z ∷ s)) first ∙ closed k s)

pub group_rest : (n : ℕ) (k : Group) (s : List ℕ) (place : ℕ) → 0 < n → 0 < length s → get_or s 0 0 ≡ opening k → place ≡ 1 + r.front (drop 1 s) → r.flow_rest (r.flow (n - 1)) k (drop place s) ≡ r.flow n s
group_rest n k [] place more some first is = absurd (omega arith)
group_rest zero k (c ∷ s) place more some first is = absurd (omega arith)
group_rest (suc n) k (c ∷ s) place more some first is =
    let same : suc n - 1 ≡ n = omega arith in
    let behind : r.past s ≡ drop place (c ∷ s) = past_by_front s ∙ (drop-drop (r.front s) 1 (c ∷ s) ∙ ap (λ (z : ℕ). drop z (c ∷ s)) (sym is)) in
    ap (λ (z : ℕ). r.flow_rest (r.flow z) k (drop place (c ∷ s))) same ∙ (ap (r.flow_rest (r.flow n) k) (sym behind) ∙ (sym (opened n k s) ∙ ap (λ (z : ℕ). r.flow (suc n) (z ∷ s)) (sym first)))

flow_is : (n : ℕ) (s : List ℕ) → (group : Group → FlowReader) × (r.flow n s ≡ r.flow_by group s)
unfolding r.flow
flow_is zero s = (λ k s. None, refl)
flow_is (suc n) s = (r.flow_rest (r.flow n), refl)

pub flow_plain : (n : ℕ) (s : List ℕ) → r.quote_of s ≡ None → begins 91 s ≡ false → begins 123 s ≡ false → r.flow n s ≡ r.plain_in_flow s
flow_plain n s no_quote no_list no_map = let is = flow_is n s in is.1 ∙ (ap (λ o. r.quoted_by o r.as_text (r.unquoted is.0) s) no_quote ∙ go s no_list no_map is.0)
  where
    go : (s : List ℕ) → begins 91 s ≡ false → begins 123 s ≡ false → (group : Group → FlowReader) → r.unquoted group s ≡ r.plain_in_flow s
    go [] no_list no_map group = refl
    go (c ∷ s) no_list no_map group = rw (no_list, no_map) refl

pub flow_quoted : (n : ℕ) (s : List ℕ) (place : Inner) → r.quote_of s ≡ Some place → r.flow n s ≡ r.as_text (r.quoted place (drop 1 s))
flow_quoted n s place quote = let is = flow_is n s in is.1 ∙ ap (λ o. r.quoted_by o r.as_text (r.unquoted is.0) s) quote

pub quote_first : (s : List ℕ) (place : Inner) → r.quote_of s ≡ Some place → (0 < length s) × (get_or s 0 0 < 128)
quote_first [] place e = absurd cc
quote_first (c ∷ s) place e = go (eqb c 34) (eqb c 39) refl refl e
  where
    go : (a b : Bool) → eqb c 34 ≡ a → eqb c 39 ≡ b → cond a (Some inner.Double) (cond b (Some inner.Single) None) ≡ Some place → (0 < suc (length s)) × (c < 128)
    go true b is next e = let same = eqb-true c 34 is in (omega arith, omega arith)
    go false true is next e = let same = eqb-true c 39 next in (omega arith, omega arith)
    go false false is next e = absurd cc

pub begins_first : (a : ℕ) (s : List ℕ) → begins a s ≡ true → (0 < length s) × (get_or s 0 0 ≡ a)
begins_first a [] e = absurd cc
begins_first a (c ∷ s) e = (omega arith, eqb-true c a e)

-- ---- inline values

pub inline_other : (n : ℕ) (s : List ℕ) → r.quote_of s ≡ None → r.inline n s ≡ r.other_value n s
unfolding r.inline
inline_other n s quote = ap (λ o. r.quoted_by o r.quoted_value (r.other_value n) s) quote

inline_quote : (n : ℕ) (s : List ℕ) (place : Inner) → r.quote_of s ≡ Some place → r.inline n s ≡ r.quoted_value (r.quoted place (drop 1 s))
unfolding r.inline
inline_quote n s place quote = ap (λ o. r.quoted_by o r.quoted_value (r.other_value n) s) quote

pub ends_read : (s : List ℕ) (o : Read) (read : Option (Tree × ℕ)) → Reads s o read → ends_by s read ≡ r.ends_line o
ends_read s o None e = ap r.ends_line (sym e)
ends_read s o (Some p) e = ap r.ends_line (sym e.0)

pub inline_quoted : (n : ℕ) (s b : List ℕ) (place : Inner) (read : Option (Tree × ℕ)) → r.quote_of s ≡ Some place → b ≡ s → Reads s (r.as_text (r.quoted place (drop 1 s))) read → ends_by b read ≡ r.inline n s
inline_quoted n s b place read quote bytes reads = ap (λ (z : List ℕ). ends_by z read) bytes ∙ (ends_read s _ read reads ∙ sym (inline_quote n s place quote))
