-- Lines in a text, and what is answered for it.
use Rattle.std.proofs.Common.{◌≡◌, ℕ, zero, suc, ◌+◌, ◌-◌, ◌<◌, ◌≤◌, Bool, true, false, cond, ◌&&◌, ◌||◌, eqb, List, [], ◌∷◌, ◌++◌, length, take, drop, get_or, map, Option, Some, None, Result, Ok, Err, inl, inr, ◌⊎◌, refl, sym, ap, subst, ◌∙◌, append_assoc, append-nil, arith, ne_eqb, eq-eqb, length-append, IsUtf8}
use Rattle.std.proofs.lemmas.Bool.{eqb-true, cases_lt}
use Rattle.std.proofs.lemmas.List.{take-take, length-take-le}
use Rattle.std.proofs.lemmas.Str.{IsCharBoundary-end, IsCharBoundary-after_ascii, IsCharBoundary-before_ascii, IsUtf8-take}
use Rattle.std.specs.Str.{IsCharBoundary}
use Rattle.yaml_spec.specs.declared.tree.Tree.{Tree}
use Rattle.yaml_spec.specs.declared.tree.Mark.{Mark}
use Rattle.yaml_spec.specs.declared.tree.YamlFault.{YamlFault}
use Rattle.yaml_spec.specs.declared.tree.YamlFault.TheVariants as fault
use Rattle.yaml_spec.specs.Line.{begins}
use Rattle.yaml_spec.specs.Spells.{Line, at, Spells}
use Rattle.yaml_spec.specs.Reading as r
use Rattle.yaml_spec.specs.Reading.{Taken}
use Rattle.yaml_spec.specs.Texts.{cut, with_first, line_of, line_from, lines_of, without_return}
use Rattle.yaml_spec.specs.Marks as m
use Rattle.yaml_spec.specs.Machine as k
use Rattle.yaml_spec.specs.Machine.{Reader, close}
use Rattle.yaml_spec.specs.Faults.{IsLeast, line_at}
use Rattle.yaml_spec.proofs.Whole.{reads_append, fault_least, least_none, spells_one}
use Rattle.yaml_spec.proofs.Open.{reads_sound}
use Rattle.yaml_spec.proofs.Outside.{mark_sound, mark_again}
use Rattle.udb_yaml.specs.Places.{key_in}
use Rattle.udb_yaml.specs.Answers.{is_dashed, feed_place, IsFault, IsWhole, IsAnswer}
use Rattle.udb_yaml.proofs.PlaceLemmas.{past_by_front}
use Rattle.udb_yaml.proofs.KeyLemmas.{front_cut}

-- ---- marks

dash_small : (spaced : Bool) (c : ℕ) (s : List ℕ) → is_dashed spaced (c ∷ s) ≡ true → c < 128
dash_small spaced c s e = small (eqb c 32) (eqb c 45) refl refl
  where
    small : (a b : Bool) → eqb c 32 ≡ a → eqb c 45 ≡ b → c < 128
    small true b is other = let same = eqb-true c 32 is in omega arith
    small false true is other = let same = eqb-true c 45 other in omega arith
    small false false is other = absurd (neither spaced is other e)
      where
        neither : (spaced : Bool) → eqb c 32 ≡ false → eqb c 45 ≡ false → is_dashed spaced (c ∷ s) ≡ true → ⊥
        neither true is other e = let h = rw (is, other) at e in absurd cc
        neither false is other e = let h = rw other at e in absurd cc

dash_step : (spaced : Bool) (c : ℕ) (s : List ℕ) → is_dashed spaced (c ∷ s) ≡ true → m.undashed spaced (c ∷ s) ≡ m.undashed true s
dash_step spaced c s e = go (spaced && eqb c 32) (eqb c 45 && begins 32 s) e
  where
    go : (a b : Bool) → (a || b) ≡ true → cond a (m.undashed true s) (cond b (m.undashed true s) (c ∷ s)) ≡ m.undashed true s
    go true b e = refl
    go false true e = refl
    go false false e = absurd cc

pub dash_none : (spaced b : Bool) (s : List ℕ) → b ≡ is_dashed spaced s → b ≡ false → m.undashed spaced s ≡ s
dash_none spaced b [] is off = refl
dash_none spaced b (c ∷ s) is off = go (spaced && eqb c 32) (eqb c 45 && begins 32 s) (sym is ∙ off)
  where
    go : (a b : Bool) → (a || b) ≡ false → cond a (m.undashed true s) (cond b (m.undashed true s) (c ∷ s)) ≡ c ∷ s
    go true b e = absurd cc
    go false true e = absurd cc
    go false false e = refl

first_more : (n : ℕ) (s : List ℕ) (c : ℕ) (t : List ℕ) → c ∷ t ≡ drop n s → (n < length s) × (get_or s n 0 ≡ c) × (t ≡ drop (n + 1) s)
first_more n [] c t e = absurd (nothing n e)
  where
    nothing : (n : ℕ) → c ∷ t ≡ drop n [] → ⊥
    nothing zero e = absurd cc
    nothing (suc n) e = absurd cc
first_more zero (d ∷ s) c t e = let head : c ≡ d = cc in let rest : t ≡ s = cc in (omega arith, sym head, rest)
first_more (suc n) (d ∷ s) c t e = let again = first_more n s c t e in let one : suc (n + 1) ≡ suc n + 1 = omega arith in (let lt = again.0 in omega arith, again.1, again.2 ∙ ap (λ (z : ℕ). drop z (d ∷ s)) one)

pub dash_more : (spaced b : Bool) (rest text next : List ℕ) (n : ℕ) → b ≡ is_dashed spaced rest → b ≡ true → rest ≡ drop n text → n ≤ length text → IsUtf8 text → next ≡ drop 1 rest
    → (m.undashed spaced rest ≡ m.undashed true next) × (next ≡ drop (n + 1) text) × (n + 1 ≤ length text) × IsCharBoundary text (n + 1) × (length next < length rest)
dash_more spaced b [] text next n is on from le utf8 next_is = let none : true ≡ false = sym on ∙ is in absurd cc
dash_more spaced b (c ∷ rest) text next n is on from le utf8 next_is =
    let dashed : is_dashed spaced (c ∷ rest) ≡ true = sym is ∙ on in
    let first = first_more n text c rest from in
    let small = dash_small spaced c rest dashed in (
      dash_step spaced c rest dashed ∙ ap (m.undashed true) (sym next_is),
      next_is ∙ first.2,
      let lt = first.0 in omega arith,
      IsCharBoundary-after_ascii text n utf8 first.0 (let same = first.1 in omega arith),
      let same = ap length next_is in omega arith,
    )

pub lead_none : (s rest : List ℕ) (n : ℕ) → rest ≡ drop n s → m.undashed false s ≡ drop n s → key_in false rest ≡ None → m.first_mark rest ≡ m.lead s
unfolding m.lead r.key_of
lead_none s rest n is front none =
    let same : m.undashed false s ≡ rest = front ∙ sym is in
    sym (ap (λ (z : List ℕ). m.led_by z (r.key_of z)) same ∙ ap (m.led_by rest) none)

pub lead_some : (s rest behind : List ℕ) (n i f : ℕ) (key : List ℕ) → rest ≡ drop n s → m.undashed false s ≡ drop n s → key_in false rest ≡ Some (key, drop i rest) → behind ≡ drop i rest → f ≡ r.front behind → m.first_mark (drop f behind) ≡ m.lead s
unfolding m.lead r.key_of
lead_some s rest behind n i f key is front some behind_is f_is =
    let same : m.undashed false s ≡ rest = front ∙ sym is in
    sym (ap (λ (z : List ℕ). m.led_by z (r.key_of z)) same ∙ (ap (m.led_by rest) some ∙ ap m.first_mark (ap r.past (sym behind_is) ∙ (past_by_front behind ∙ ap (λ (z : ℕ). drop z behind) (sym f_is)))))

pub marked_first : (c : ℕ) (s : List ℕ) (w : Mark) → Some w ≡ m.lead s → Some w ≡ m.line_mark (at c s)
unfolding m.line_mark
marked_first c s w e = ap (λ (z : Option Mark). m.mark_or z (m.own_mark (at c s))) e

pub marked_own : (c : ℕ) (s : List ℕ) (o : Option Mark) → None ≡ m.lead s → o ≡ m.own_mark (at c s) → o ≡ m.line_mark (at c s)
unfolding m.line_mark
marked_own c s o e is = is ∙ ap (λ (z : Option Mark). m.mark_or z (m.own_mark (at c s))) e

-- ---- lines of a text

cut_first : (s : List ℕ) (c : ℕ) → cut (c ∷ s) ≡ take (feed_place (c ∷ s)) (c ∷ s) ∷ cut (drop (suc (feed_place (c ∷ s))) (c ∷ s))
cut_first [] c = go (eqb c 10)
  where
    go : (b : Bool) → cond b ([] ∷ []) ((c ∷ []) ∷ []) ≡ take (cond b 0 1) (c ∷ []) ∷ cut (drop (suc (cond b 0 1)) (c ∷ []))
    go true = refl
    go false = refl
cut_first (d ∷ t) c = go (eqb c 10) (cut_first t d)
  where
    go : (b : Bool) → cut (d ∷ t) ≡ take (feed_place (d ∷ t)) (d ∷ t) ∷ cut (drop (suc (feed_place (d ∷ t))) (d ∷ t)) → cond b ([] ∷ cut (d ∷ t)) (with_first c (cut (d ∷ t))) ≡ take (cond b 0 (suc (feed_place (d ∷ t)))) (c ∷ d ∷ t) ∷ cut (drop (suc (cond b 0 (suc (feed_place (d ∷ t))))) (c ∷ d ∷ t))
    go true again = refl
    go false again = ap (with_first c) again

row_from : (n : ℕ) (s : List ℕ) → line_from n s ≡ at (n + r.front s) (drop (r.front s) s)
row_from n [] = ap (λ (z : ℕ). at z []) (let e : n ≡ n + 0 = omega arith in e)
row_from n (c ∷ s) = go (eqb c 32) (row_from (suc n) s)
  where
    go : (b : Bool) → line_from (suc n) s ≡ at (suc n + r.front s) (drop (r.front s) s) → cond b (line_from (suc n) s) (at n (c ∷ s)) ≡ at (n + cond b (suc (r.front s)) 0) (drop (cond b (suc (r.front s)) 0) (c ∷ s))
    go true again = again ∙ ap (λ (z : ℕ). at z (drop (r.front s) s)) (let e : suc n + r.front s ≡ n + suc (r.front s) = omega arith in e)
    go false again = ap (λ (z : ℕ). at z (c ∷ s)) (let e : n ≡ n + 0 = omega arith in e)

row_here : (s : List ℕ) → line_from 0 s ≡ at (r.front s) (drop (r.front s) s)
row_here s = row_from 0 s ∙ ap (λ (z : ℕ). at z (drop (r.front s) s)) (let e : 0 + r.front s ≡ r.front s = omega arith in e)

lines_first : (text : List ℕ) (end count column : ℕ) → 0 < length text → end ≡ feed_place text → end ≤ length text → without_return (take end text) ≡ take count (take end text) → count ≤ end → column ≡ r.front (take count text)
    → lines_of text ≡ at column (drop column (take count text)) ∷ lines_of (drop (suc end) text)
lines_first [] end count column some end_is le is within column_is = absurd (omega arith)
lines_first (c ∷ s) end count column some end_is le is within column_is =
    let cuts = cut_first s c ∙ ap (λ (z : ℕ). take z (c ∷ s) ∷ cut (drop (suc z) (c ∷ s))) (sym end_is) in
    let row = ap (line_from 0) (is ∙ take-take count end (c ∷ s) within) ∙ (row_here (take count (c ∷ s)) ∙ ap (λ (z : ℕ). at z (drop z (take count (c ∷ s)))) (sym column_is)) in
    ap (map line_of) cuts ∙ ap (λ (z : Line). z ∷ lines_of (drop (suc end) (c ∷ s))) row

pub lines_row : (text bytes : List ℕ) (end count column : ℕ) → bytes ≡ text → 0 < length text → end ≡ feed_place bytes → end ≤ length bytes → without_return (take end bytes) ≡ take count (take end bytes) → count ≤ length (take end bytes) → column ≡ r.front (take count bytes) → end < length bytes
    → lines_of text ≡ at column (drop column (take count text)) ∷ lines_of (drop (end + 1) text)
lines_row text bytes end count column e some end_is le is within column_is lt = go bytes e end_is le is within column_is
  where
    go : (bytes : List ℕ) → bytes ≡ text → end ≡ feed_place bytes → end ≤ length bytes → without_return (take end bytes) ≡ take count (take end bytes) → count ≤ length (take end bytes) → column ≡ r.front (take count bytes) → lines_of text ≡ at column (drop column (take count text)) ∷ lines_of (drop (end + 1) text)
    go bytes e end_is le is within column_is =
        let one : suc end ≡ end + 1 = omega arith in
        let le' : end ≤ length text = subst (λ (z : List ℕ). end ≤ length z) e le in
        let short : length (take end text) ≡ end = length-take-le end text le' in
        let within' : count ≤ length (take end text) = subst (λ (z : List ℕ). count ≤ length (take end z)) e within in
        lines_first text end count column some (end_is ∙ ap feed_place e) le' (subst (λ (z : List ℕ). without_return (take end z) ≡ take count (take end z)) e is) (omega arith) (column_is ∙ ap (λ (z : List ℕ). r.front (take count z)) e)
        ∙ ap (λ (z : ℕ). at column (drop column (take count text)) ∷ lines_of (drop z text)) one

pub lines_last : (text bytes : List ℕ) (end count column : ℕ) → bytes ≡ text → 0 < length text → end ≡ feed_place bytes → end ≤ length bytes → without_return (take end bytes) ≡ take count (take end bytes) → count ≤ length (take end bytes) → column ≡ r.front (take count bytes) → length bytes ≤ end
    → lines_of text ≡ at column (drop column (take count text)) ∷ lines_of (drop end text)
lines_last text bytes end count column e some end_is le is within column_is long =
    let le' : end ≤ length text = subst (λ (z : List ℕ). end ≤ length z) e le in
    let long' : length text ≤ end = subst (λ (z : List ℕ). length z ≤ end) e long in
    let short : length (take end text) ≡ end = length-take-le end text le' in
    let within' : count ≤ length (take end text) = subst (λ (z : List ℕ). count ≤ length (take end z)) e within in
    lines_first text end count column some (end_is ∙ ap feed_place e) le' (subst (λ (z : List ℕ). without_return (take end z) ≡ take count (take end z)) e is) (omega arith) (column_is ∙ ap (λ (z : List ℕ). r.front (take count z)) e)
    ∙ ap (λ (z : List ℕ). at column (drop column (take count text)) ∷ lines_of z) (drop_long (suc end) text (omega arith) ∙ sym (drop_long end text long'))
  where
    drop_long : (n : ℕ) (s : List ℕ) → length s ≤ n → drop n s ≡ []
    drop_long n [] le = none n
      where
        none : (n : ℕ) → drop {A = ℕ} n [] ≡ []
        none zero = refl
        none (suc n) = refl
    drop_long zero (c ∷ s) le = absurd (omega arith)
    drop_long (suc n) (c ∷ s) le = drop_long n s (omega arith)

-- ---- carriage returns

last_return : (c : ℕ) (s : List ℕ) → without_return (c ∷ s) ≡ cond (eqb (get_or (c ∷ s) (length s) 0) 13) (take (length s) (c ∷ s)) (c ∷ s)
last_return c [] = refl
last_return c (d ∷ s) = ap (λ (z : List ℕ). c ∷ z) (last_return d s) ∙ out (eqb (get_or (d ∷ s) (length s) 0) 13)
  where
    out : (b : Bool) → c ∷ cond b (take (length s) (d ∷ s)) (d ∷ s) ≡ cond b (c ∷ take (length s) (d ∷ s)) (c ∷ d ∷ s)
    out true = refl
    out false = refl

less_one : (s : List ℕ) (c : ℕ) → length (c ∷ s) - 1 ≡ length s
less_one s c = omega arith

pub return_here : (s : List ℕ) → 0 < length s → get_or s (length s - 1) 0 ≡ 13 → without_return s ≡ take (length s - 1) s
return_here [] some e = absurd (omega arith)
return_here (c ∷ s) some e =
    let last : get_or (c ∷ s) (length s) 0 ≡ 13 = subst (λ (z : ℕ). get_or (c ∷ s) z 0 ≡ 13) (less_one s c) e in
    last_return c s ∙ (rw (eq-eqb (get_or (c ∷ s) (length s) 0) 13 last) refl ∙ ap (λ (z : ℕ). take z (c ∷ s)) (sym (less_one s c)))

take_all : (s : List ℕ) → take (length s) s ≡ s
take_all [] = refl
take_all (c ∷ s) = ap (λ (z : List ℕ). c ∷ z) (take_all s)

pub no_return : (s : List ℕ) → (get_or s (length s - 1) 0 ≡ 13 → ⊥) → without_return s ≡ take (length s) s
no_return [] other = refl
no_return (c ∷ s) other =
    let last : get_or (c ∷ s) (length s) 0 ≡ 13 → ⊥ = subst (λ (z : ℕ). get_or (c ∷ s) z 0 ≡ 13 → ⊥) (less_one s c) other in
    last_return c s ∙ (rw (ne_eqb (get_or (c ∷ s) (length s) 0) 13 last) refl ∙ sym (take_all (c ∷ s)))

pub no_line : (s : List ℕ) → length s ≤ 0 → without_return s ≡ take (length s) s
no_line [] none = refl
no_line (c ∷ s) none = absurd (omega arith)

-- ---- where a text is cut

taken_at : (n i : ℕ) (s : List ℕ) → i < n → get_or (take n s) i 0 ≡ get_or s i 0
taken_at zero i s lt = absurd (omega arith)
taken_at (suc n) i [] lt = refl
taken_at (suc n) zero (c ∷ s) lt = refl
taken_at (suc n) (suc i) (c ∷ s) lt = taken_at n i s (omega arith)

taken_length : (n : ℕ) (s : List ℕ) → n ≤ length s → length (take n s) ≡ n
taken_length zero s le = refl
taken_length (suc n) [] le = absurd (omega arith)
taken_length (suc n) (c ∷ s) le = ap suc (taken_length n s (omega arith))

pub count_cut : (text bytes : List ℕ) (end count : ℕ) → bytes ≡ text → end ≤ length bytes → (end < length bytes → get_or bytes end 0 ≡ 10) → count ≤ length (take end bytes) → (count < length (take end bytes) → get_or (take end bytes) count 0 ≡ 13) → IsCharBoundary text count
count_cut text bytes end count e le feed within turn =
    subst (λ (z : List ℕ). IsCharBoundary z count) e (elim (cases_lt count (length bytes)) [ inl lt ↦ IsCharBoundary-before_ascii bytes count lt (small lt) | inr more ↦ subst (IsCharBoundary bytes) (last more) (IsCharBoundary-end bytes) ])
  where
    long : length (take end bytes) ≡ end
    long = taken_length end bytes le

    last : length bytes ≤ count → length bytes ≡ count
    last more = let l = long in omega arith

    small : count < length bytes → get_or bytes count 0 < 128
    small lt = elim (cases_lt count end) [ inl inside ↦ return_small inside | inr outside ↦ feed_small outside ]
      where
        return_small : count < end → get_or bytes count 0 < 128
        return_small inside = let l = long in let is = sym (taken_at end count bytes inside) ∙ turn (omega arith) in omega arith

        feed_small : end ≤ count → get_or bytes count 0 < 128
        feed_small outside = let l = long in let same : end ≡ count = omega arith in let is = subst (λ (z : ℕ). get_or bytes z 0 ≡ 10) same (feed (omega arith)) in omega arith

pub column_cut : (text bytes : List ℕ) (count column : ℕ) → bytes ≡ text → IsUtf8 text → IsCharBoundary text count → column ≡ r.front (take count bytes) → IsCharBoundary (take count text) column
column_cut text bytes count column e utf8 cut is = subst (IsCharBoundary (take count text)) (sym (is ∙ ap (λ (z : List ℕ). r.front (take count z)) e)) (front_cut (take count text) (IsUtf8-take text count utf8 cut))

pub feed_cut : (text bytes : List ℕ) (end : ℕ) → bytes ≡ text → IsUtf8 text → end < length bytes → (end < length bytes → get_or bytes end 0 ≡ 10) → IsCharBoundary text (end + 1)
feed_cut text bytes end e utf8 lt feed =
    let is : get_or text end 0 ≡ 10 = subst (λ (z : List ℕ). get_or z end 0 ≡ 10) e (feed lt) in
    IsCharBoundary-after_ascii text end utf8 (subst (λ (z : List ℕ). end < length z) e lt) (omega arith)

-- ---- what is answered

line_here : (front rest : List Line) (l : Line) → line_at (suc (length front)) (front ++ l ∷ rest) ≡ l ∷ []
line_here front rest l = let one : suc (length front) - 1 ≡ length front = omega arith in ap (λ (z : ℕ). take 1 (drop z (front ++ l ∷ rest))) one ∙ ap (take 1) (behind front)
  where
    behind : (front : List Line) → drop (length front) (front ++ l ∷ rest) ≡ l ∷ rest
    behind [] = refl
    behind (u ∷ us) = behind us

one_line : (l u : Line) → u ∷ [] ≡ l ∷ [] → u ≡ l
one_line l u e = cc

pub answers_fault : (ls front rest : List Line) (l : Line) (st : Reader) (n : ℕ) (e : YamlFault) → ls ≡ front ++ l ∷ rest → k.reads k.start front ≡ Some st → k.step st.0 st.1.0 st.1.1 l ≡ None → n ≡ suc (length front) → IsFault n (m.line_mark l) e → IsAnswer ls (Err e)
answers_fault ls front rest l st n fault.Memory is reads none count e = e
answers_fault ls front rest l st n (fault.Bad i) is reads none count e =
    let line : i ≡ suc (length front) = e.0 ∙ count in (
      subst (IsLeast ls) (sym line) (fault_least ls front rest l st is reads none),
      λ u w shown outside.
          let here : line_at i ls ≡ l ∷ [] = ap (λ (z : List Line). line_at i z) is ∙ (ap (λ (z : ℕ). line_at z (front ++ l ∷ rest)) line ∙ line_here front rest l) in
          let same = one_line l u (sym shown ∙ here) in
          let mark : m.line_mark l ≡ Some w = ap m.line_mark (sym same) ∙ mark_again u w outside in
          let other = e.1 in absurd cc,
    )
answers_fault ls front rest l st n (fault.Outside i w) is reads none count e =
    let line : i ≡ suc (length front) = e.0 ∙ count in (
      subst (IsLeast ls) (sym line) (fault_least ls front rest l st is reads none),
      (l, ap (λ (z : List Line). line_at i z) is ∙ (ap (λ (z : ℕ). line_at z (front ++ l ∷ rest)) line ∙ line_here front rest l), mark_sound l w e.1),
    )

pub answers_whole : (text rest : List ℕ) (front : List Line) (st : Reader) (a : Result Tree YamlFault) → lines_of text ≡ front ++ lines_of rest → rest ≡ [] → k.reads k.start front ≡ Some st → IsWhole (close st.1.0 st.1.1) a → IsAnswer (lines_of text) a
answers_whole text rest front st (Ok x) is none reads e =
    let all : lines_of text ≡ front = is ∙ (ap (λ (z : List ℕ). front ++ lines_of z) none ∙ append-nil front) in
    subst (λ (z : Tree). Spells (lines_of text) z) (sym e) (subst (λ (z : List Line). Spells z (close st.1.0 st.1.1)) (sym all) (reads_sound front st reads))
answers_whole text rest front st (Err f) is none reads e = subst (λ (z : YamlFault). IsAnswer (lines_of text) (Err z)) (sym e) tt

pub reads_more : (front : List Line) (l : Line) (st next : Reader) → k.reads k.start front ≡ Some st → k.step st.0 st.1.0 st.1.1 l ≡ Some next → k.reads k.start (front ++ l ∷ []) ≡ Some next
reads_more front l st next reads e = reads_append k.start front (l ∷ []) ∙ (ap (λ (z : Option Reader). k.then_reads z (λ (at : Reader). k.reads at (l ∷ []))) reads ∙ ap (λ (z : Option Reader). k.then_reads z (λ (at : Reader). k.reads at [])) e)

pub answers_spelled : (ls : List Line) (a : Result Tree YamlFault) (x : Tree) → IsAnswer ls a → Spells ls x → (a ≡ Ok x) ⊎ (a ≡ Err fault.Memory)
answers_spelled ls (Ok y) x e q = inl (ap Ok (spells_one ls y x e q))
answers_spelled ls (Err fault.Memory) x e q = inr refl
answers_spelled ls (Err (fault.Bad n)) x e q = absurd (least_none ls n x e.0 q)
answers_spelled ls (Err (fault.Outside n w)) x e q = absurd (least_none ls n x e.0 q)

pub answers_read : (ls : List Line) (a : Result Tree YamlFault) (x : Tree) → IsAnswer ls a → a ≡ Ok x → Spells ls x
answers_read ls a x e is = subst (IsAnswer ls) is e

-- a row of a text behind lines that are read
pub row_lines : (text rest before content : List ℕ) (front : List Line) (column count long : ℕ) → lines_of text ≡ front ++ lines_of rest → lines_of rest ≡ at column (drop column (take count rest)) ∷ lines_of (drop long rest) → before ≡ take count rest → content ≡ drop column before → lines_of text ≡ front ++ at column content ∷ lines_of (drop long rest)
row_lines text rest before content front column count long is lines before_is content_is =
    let same : content ≡ drop column (take count rest) = content_is ∙ ap (drop column) before_is in
    is ∙ ap (λ (z : List Line). front ++ z) (lines ∙ ap (λ (z : List ℕ). at column z ∷ lines_of (drop long rest)) (sym same))

pub row_behind_front : (text rest next : List ℕ) (front : List Line) (l : Line) (long : ℕ) → lines_of text ≡ front ++ l ∷ lines_of (drop long rest) → next ≡ drop long rest → lines_of text ≡ (front ++ l ∷ []) ++ lines_of next
row_behind_front text rest next front l long is next_is = is ∙ (sym (append_assoc front (l ∷ []) (lines_of (drop long rest))) ∙ ap (λ (z : List ℕ). (front ++ l ∷ []) ++ lines_of z) (sym next_is))

pub one_longer : (front : List Line) (l : Line) (n : ℕ) → length front ≡ n → length (front ++ l ∷ []) ≡ n + 1
one_longer front l n e = length-append front (l ∷ []) ∙ ap (λ (z : ℕ). z + 1) e

pub next_line : (front : List Line) (n : ℕ) → length front ≡ n → n + 1 ≡ suc (length front)
next_line front n e = omega arith

pub empty_rest : (s : List ℕ) (b : Bool) → b ≡ eqb (length s) 0 → b ≡ true → s ≡ []
empty_rest [] b is on = refl
empty_rest (c ∷ s) b is on = let none : true ≡ false = sym on ∙ (is ∙ ne_eqb (suc (length s)) 0 (λ e. absurd (omega arith))) in absurd cc
