-- Values in flow are read exactly.
use Rattle.std.proofs.Common.{◌≡◌, ℕ, zero, suc, ◌-◌, ◌<◌, Bool, true, false, cond, not, ◌&&◌, ◌||◌, eqb, IsTrue, List, [], ◌∷◌, ◌++◌, length, drop, Option, Some, None, ◌⊎◌, inl, inr, refl, sym, ap, subst, ◌∙◌, append_assoc, length-append, arith, drop_at}
use Rattle.std.proofs.lemmas.Bool.{cond-false, eq-eqb, eqb-true, and_parts, or_parts, not-true, and_left, and_right, false≢true, or_cases}
use Rattle.yaml_spec.specs.declared.state.Group.{Group}
use Rattle.yaml_spec.specs.declared.state.Group.TheVariants.{Listed, Mapped}
use Rattle.yaml_spec.specs.declared.sights.Inner.{Inner}
use Rattle.yaml_spec.specs.declared.tree.Tree.{Tree}
use Rattle.yaml_spec.specs.declared.tree.Pair.{Pair}
use Rattle.yaml_spec.specs.declared.tree.Tree.TheVariants as tree
use Rattle.yaml_spec.specs.Line.{spaces, begins, parts_here, is_flow, has_flow, ends_in, is_plain, meaning, means_text, Quoted, FlowHead, Flow, FlowParts, is_new, pair, whole, opening, closing}
use Rattle.yaml_spec.specs.Line as l
use Rattle.yaml_spec.specs.Reading as r
use Rattle.yaml_spec.specs.Reading.{Taken, Read, FlowReader, PartsReader}
use Rattle.yaml_spec.proofs.Cases.{if_some, chosen, some_pair}
use Rattle.yaml_spec.proofs.Quotes.{begins_is, Front, text, front_of, quoted_or_again, quoted_or_other}
use Rattle.yaml_spec.proofs.Heads.{Plain, plain_parts, first_parts, not_sign, is_one_not, spaces_sound, colon_sound, colon_again, past_sound}

-- ---- what is read is spelled so

abbrev Sounds : ℕ → FlowReader → Type 0
Sounds n read = (s : List ℕ) (x : Tree) (u : List ℕ) → read s ≡ Some (x, u) → (p : List ℕ) × (s ≡ p ++ u) × Flow n p u x

signless_front : (s : List ℕ) → (w : List ℕ) × (s ≡ r.signless s ++ w)
signless_front [] = ([], refl)
signless_front (c ∷ s) = go (is_flow c) (signless_front s)
  where
    go : (b : Bool) → (w : List ℕ) × (s ≡ r.signless s ++ w) → (w : List ℕ) × (c ∷ s ≡ cond b [] (c ∷ r.signless s) ++ w)
    go true inner = (c ∷ s, refl)
    go false inner = (inner.0, ap (λ (z : List ℕ). c ∷ z) inner.1)

trim_front : (s : List ℕ) → (w : List ℕ) × (s ≡ r.trim s ++ w)
trim_front [] = ([], refl)
trim_front (c ∷ s) = go (r.all_spaces (c ∷ s)) (trim_front s)
  where
    go : (b : Bool) → (w : List ℕ) × (s ≡ r.trim s ++ w) → (w : List ℕ) × (c ∷ s ≡ cond b [] (c ∷ r.trim s) ++ w)
    go true inner = (c ∷ s, refl)
    go false inner = (inner.0, ap (λ (z : List ℕ). c ∷ z) inner.1)

pub plain_front : (s : List ℕ) → s ≡ r.trim (r.signless s) ++ drop (length (r.trim (r.signless s))) s
plain_front s =
    let one = signless_front s in let two = trim_front (r.signless s) in
    let p = r.trim (r.signless s) in
    let all : s ≡ p ++ (two.0 ++ one.0) = one.1 ∙ ap (λ (z : List ℕ). z ++ one.0) two.1 ∙ append_assoc p two.0 one.0 in
    let rest : drop (length p) s ≡ two.0 ++ one.0 = ap (drop (length p)) all ∙ drop_at p (two.0 ++ one.0) (length p) refl in
    all ∙ ap (λ (z : List ℕ). p ++ z) (sym rest)

text_some : (o : Taken) (x : Tree) (u : List ℕ) → r.as_text o ≡ Some (x, u) → (y : List ℕ) × (o ≡ Some (y, u)) × (tree.Text y ≡ x)
text_some None x u e = absurd cc
text_some (Some p) x u e = let both : (tree.Text p.0 ≡ x) × (p.1 ≡ u) = some_pair e in (p.0, ap (λ (z : List ℕ). Some (p.0, z)) both.1, both.0)

whole_some : (k : Group) (o : Option (List Pair × List ℕ)) (x : Tree) (u : List ℕ) → r.as_whole k o ≡ Some (x, u) → (ps : List Pair) × (o ≡ Some (ps, u)) × (whole k ps ≡ x)
whole_some k None x u e = absurd cc
whole_some k (Some p) x u e = let both : (whole k p.0 ≡ x) × (p.1 ≡ u) = some_pair e in (p.0, ap (λ (z : List ℕ). Some (p.0, z)) both.1, both.0)

-- what stands before a part
flow_plain_sound : (o : Taken) (k u : List ℕ) → r.plain_flow_key o ≡ Some (k, u) → (o ≡ Some (k, u)) × IsTrue (is_plain k (58 ∷ []) && (not (has_flow k) && means_text k))
flow_plain_sound None k u e = absurd cc
flow_plain_sound (Some (x, s)) k u e =
    let there = if_some (is_plain x (58 ∷ []) && (not (has_flow x) && means_text x)) (Some (x, s)) e in
    let equal : (x ≡ k) × (s ≡ u) = some_pair there.1 in
    (there.1, subst (λ (z : List ℕ). IsTrue (is_plain z (58 ∷ []) && (not (has_flow z) && means_text z))) equal.0 there.0)

abbrev HeadIs : Group → List ℕ → List ℕ → List ℕ → Type 0
HeadIs k s key u = (m : List ℕ) × (s ≡ m ++ u) × FlowHead k m key

colon_some : (o : Taken) (key u : List ℕ) → r.flow_colon o ≡ Some (key, u) → (w : List ℕ) × (o ≡ Some (key, w)) × (w ≡ spaces (suc (r.front w - 1)) ++ u)
colon_some None key u e = absurd cc
colon_some (Some p) key u e =
    let there = if_some (begins 32 p.1) (Some (p.0, r.past p.1)) e in
    let equal : (p.0 ≡ key) × (r.past p.1 ≡ u) = some_pair there.1 in
    (p.1, ap (λ (z : List ℕ). Some (z, p.1)) equal.0, spaces_sound p.1 ∙ ap (λ (n : ℕ). spaces n ++ r.past p.1) (some p.1 there.0) ∙ ap (λ (z : List ℕ). spaces (suc (r.front p.1 - 1)) ++ z) equal.1)
  where
    some : (w : List ℕ) → begins 32 w ≡ true → r.front w ≡ suc (r.front w - 1)
    some [] e = absurd cc
    some (c ∷ w) e = rw e (omega arith)

head_regroup : (s u : List ℕ) (i : ℕ) → s ++ 58 ∷ (spaces i ++ u) ≡ (s ++ 58 ∷ spaces i) ++ u
head_regroup s u i = simp append_assoc

mapped_sound : (s key u : List ℕ) → r.flow_head Mapped s ≡ Some (key, u) → HeadIs Mapped s key u
mapped_sound s key u e =
    let colon = colon_some (r.quoted_or r.past_colon r.colon_flow_key s) key u e in
    go (r.quote_of s) (front_of s) colon.0 colon.1 (r.front colon.0 - 1) colon.2
  where
    go : (o : Option Inner) → Front s o → (w : List ℕ) → r.quoted_by o r.past_colon r.colon_flow_key s ≡ Some (key, w) → (i : ℕ) → w ≡ spaces (suc i) ++ u → HeadIs Mapped s key u
    go None front w e i is =
        let plain = flow_plain_sound (r.to_colon s) key w e in let inner = colon_sound s key w plain.0 in
        (key ++ 58 ∷ spaces (suc i), inner.0 ∙ ap (λ (z : List ℕ). key ++ 58 ∷ z) is ∙ head_regroup key u (suc i), l.plain i plain.1)
    go (Some place) (text reads) w e i is =
        let past = past_sound (r.quoted place (drop 1 s)) key w e in let inner = reads key (58 ∷ w) past.0 in
        (inner.0 ++ 58 ∷ spaces (suc i), inner.1 ∙ ap (λ (z : List ℕ). inner.0 ++ 58 ∷ z) is ∙ head_regroup inner.0 u (suc i), l.quoted i inner.2)

head_sound : (k : Group) (s key u : List ℕ) → r.flow_head k s ≡ Some (key, u) → HeadIs k s key u
head_sound Listed s key u e =
    let equal : ([] ≡ key) × (s ≡ u) = some_pair e in
    ([], equal.1, subst (λ (z : List ℕ). FlowHead Listed [] z) equal.0 l.item)
head_sound Mapped s key u e = mapped_sound s key u e

abbrev PartsSound : ℕ → Group → PartsReader → Type 0
PartsSound n k read = (before : List Pair) (s : List ℕ) (ps : List Pair) (u : List ℕ) → read before s ≡ Some (ps, u) → (p : List ℕ) × (s ≡ p ++ u) × FlowParts n k before p u ps

last_regroup : (m p u : List ℕ) (i c : ℕ) → m ++ (p ++ (spaces i ++ c ∷ u)) ≡ (m ++ (p ++ (spaces i ++ c ∷ []))) ++ u
last_regroup m p u i c = simp append_assoc

more_regroup : (m p q u : List ℕ) (i j : ℕ) → m ++ (p ++ (spaces i ++ 44 ∷ (spaces j ++ (q ++ u)))) ≡ (m ++ (p ++ (spaces i ++ 44 ∷ (spaces j ++ q)))) ++ u
more_regroup m p q u i j = simp append_assoc

end_sound : (n : ℕ) (k : Group) (again : PartsReader) → PartsSound n k again → (before : List Pair) (m key : List ℕ) → FlowHead k m key → IsTrue (is_new k key before) → (x : Tree) (p v w u : List ℕ) (ps : List Pair) → (i : ℕ) → v ≡ spaces i ++ w → Flow n p v x → r.part_end k again (before ++ pair key x ∷ []) w ≡ Some (ps, u)
    → (q : List ℕ) × (m ++ (p ++ v) ≡ q ++ u) × FlowParts n k before q u ps
end_sound n k again sounds before m key head fresh x p v [] u ps i is q e = absurd cc
end_sound n k again sounds before m key head fresh x p v (c ∷ w) u ps i is q e = elim (chosen (eqb c (closing k)) _ _ e) [
  | inl a ↦ (let both : (before ++ pair key x ∷ [] ≡ ps) × (w ≡ u) = some_pair a.1 in
      let text : v ≡ spaces i ++ closing k ∷ u = is ∙ ap (λ (z : ℕ). spaces i ++ z ∷ w) (eqb-true c (closing k) a.0) ∙ ap (λ (z : List ℕ). spaces i ++ closing k ∷ z) both.1 in (
        m ++ (p ++ (spaces i ++ closing k ∷ [])),
        ap (λ (z : List ℕ). m ++ (p ++ z)) text ∙ last_regroup m p u i (closing k),
        subst (λ (z : List Pair). FlowParts n k before (m ++ (p ++ (spaces i ++ closing k ∷ []))) u z) both.0 (l.last i head fresh (subst (λ (z : List ℕ). Flow n p z x) text q)),
      ))
  | inr a ↦ (let there = if_some (eqb c 44) (again (before ++ pair key x ∷ []) (r.past w)) a.1 in
      let inner = sounds (before ++ pair key x ∷ []) (r.past w) ps u there.1 in
      let j = r.front w in
      let text : v ≡ spaces i ++ 44 ∷ (spaces j ++ (inner.0 ++ u)) = is ∙ ap (λ (z : ℕ). spaces i ++ z ∷ w) (eqb-true c 44 there.0) ∙ ap (λ (z : List ℕ). spaces i ++ 44 ∷ z) (spaces_sound w ∙ ap (λ (z : List ℕ). spaces j ++ z) inner.1) in (
        m ++ (p ++ (spaces i ++ 44 ∷ (spaces j ++ inner.0))),
        ap (λ (z : List ℕ). m ++ (p ++ z)) text ∙ more_regroup m p inner.0 u i j,
        l.more i j head fresh (subst (λ (z : List ℕ). Flow n p z x) text q) inner.2,
      ))
]

value_sound : (n : ℕ) (k : Group) (one : FlowReader) → Sounds n one → (again : PartsReader) → PartsSound n k again → (before : List Pair) (m key s : List ℕ) → FlowHead k m key → IsTrue (is_new k key before) → (o : Read) → one s ≡ o → (ps : List Pair) (u : List ℕ) → r.part_value k again before key o ≡ Some (ps, u)
    → (p : List ℕ) × (m ++ s ≡ p ++ u) × FlowParts n k before p u ps
value_sound n k one sounds again more before m key s head fresh None is ps u e = absurd cc
value_sound n k one sounds again more before m key s head fresh (Some p) is ps u e =
    let first = sounds s p.0 p.1 is in
    let all = end_sound n k again more before m key head fresh p.0 first.0 p.1 (r.past p.1) u ps (r.front p.1) (spaces_sound p.1) first.2 e in
    (all.0, ap (λ (z : List ℕ). m ++ z) first.1 ∙ all.1, all.2)

begun_sound : (n : ℕ) (k : Group) (one : FlowReader) → Sounds n one → (again : PartsReader) → PartsSound n k again → (before : List Pair) (s : List ℕ) → (o : Taken) → r.flow_head k s ≡ o → (ps : List Pair) (u : List ℕ) → r.part_head k one again before o ≡ Some (ps, u)
    → (p : List ℕ) × (s ≡ p ++ u) × FlowParts n k before p u ps
begun_sound n k one sounds again more before s None is ps u e = absurd cc
begun_sound n k one sounds again more before s (Some p) is ps u e =
    let head = head_sound k s p.0 p.1 is in
    let fresh = if_some (is_new k p.0 before) _ e in
    let all = value_sound n k one sounds again more before head.0 p.0 p.1 head.2 fresh.0 (one p.1) refl ps u fresh.1 in
    (all.0, head.1 ∙ all.1, all.2)

parts_sound : (n : ℕ) (k : Group) (one : FlowReader) → Sounds n one → (f : ℕ) → PartsSound n k (r.flow_parts k one f)
parts_sound n k one sounds zero before s ps u e = absurd cc
parts_sound n k one sounds (suc f) before s ps u e = begun_sound n k one sounds (r.flow_parts k one f) (parts_sound n k one sounds f) before s (r.flow_head k s) refl ps u e

group_regroup : (p u : List ℕ) (i c : ℕ) → c ∷ (spaces i ++ (p ++ u)) ≡ (c ∷ spaces i ++ p) ++ u
group_regroup p u i c = simp append_assoc

rest_sound : (n : ℕ) (one : FlowReader) → Sounds n one → (k : Group) (i : ℕ) (w : List ℕ) (x : Tree) (u : List ℕ) → r.flow_rest one k w ≡ Some (x, u) → (p : List ℕ) × (opening k ∷ (spaces i ++ w) ≡ p ++ u) × Flow (suc n) p u x
rest_sound n one sounds k i [] x u e = absurd cc
rest_sound n one sounds k i (c ∷ w) x u e = elim (chosen (eqb c (closing k)) _ _ e) [
  | inl a ↦ (let both : (whole k [] ≡ x) × (w ≡ u) = some_pair a.1 in (
    opening k ∷ spaces i ++ closing k ∷ [],
    ap (λ (z : ℕ). opening k ∷ (spaces i ++ z ∷ w)) (eqb-true c (closing k) a.0) ∙ ap (λ (z : List ℕ). opening k ∷ (spaces i ++ closing k ∷ z)) both.1 ∙ group_regroup (closing k ∷ []) u i (opening k),
    subst (λ (z : Tree). Flow (suc n) (opening k ∷ spaces i ++ closing k ∷ []) u z) both.0 (l.empty k i),
  ))
  | inr a ↦ (let some = whole_some k (r.flow_parts k one (suc (length (c ∷ w))) [] (c ∷ w)) x u a.1 in
      let inner = parts_sound n k one sounds (suc (length (c ∷ w))) [] (c ∷ w) some.0 u some.1 in (
        opening k ∷ spaces i ++ inner.0,
        ap (λ (z : List ℕ). opening k ∷ (spaces i ++ z)) inner.1 ∙ group_regroup inner.0 u i (opening k),
        subst (λ (z : Tree). Flow (suc n) (opening k ∷ spaces i ++ inner.0) u z) some.2 (l.group k i inner.2),
      ))
]

plain_sound : (n : ℕ) → Sounds n r.plain_in_flow
plain_sound n s x u e =
    let p = r.trim (r.signless s) in let v = drop (length p) s in
    let there = if_some (is_plain p v && not (has_flow p)) (Some (meaning p, v)) e in
    let both : (meaning p ≡ x) × (v ≡ u) = some_pair there.1 in
    (p, plain_front s ∙ ap (λ (z : List ℕ). p ++ z) both.1, subst (λ (z : List ℕ). Flow n p z x) both.1 (subst (λ (z : Tree). Flow n p v z) both.0 (l.plain there.0)))

abbrev RestSound : ℕ → (Group → FlowReader) → Type 0
RestSound n group = (k : Group) (i : ℕ) (w : List ℕ) (x : Tree) (u : List ℕ) → group k w ≡ Some (x, u) → (p : List ℕ) × (opening k ∷ (spaces i ++ w) ≡ p ++ u) × Flow n p u x

opened_sound : (n : ℕ) (group : Group → FlowReader) → RestSound n group → (k : Group) (c : ℕ) (s : List ℕ) (x : Tree) (u : List ℕ) → c ≡ opening k → group k (r.past s) ≡ Some (x, u) → (p : List ℕ) × (c ∷ s ≡ p ++ u) × Flow n p u x
opened_sound n group sounds k c s x u is e =
    let inner = sounds k (r.front s) (r.past s) x u e in
    (inner.0, ap (λ (z : ℕ). z ∷ s) is ∙ ap (λ (z : List ℕ). opening k ∷ z) (spaces_sound s) ∙ inner.1, inner.2)

unquoted_sound : (n : ℕ) (group : Group → FlowReader) → RestSound n group → Sounds n (r.unquoted group)
unquoted_sound n group sounds [] x u e = absurd cc
unquoted_sound n group sounds (c ∷ s) x u e = elim (chosen (eqb c 91) _ _ e) [
  | inl a ↦ opened_sound n group sounds Listed c s x u (eqb-true c 91 a.0) a.1
  | inr a ↦ elim (chosen (eqb c 123) _ _ a.1) [
    | inl b ↦ opened_sound n group sounds Mapped c s x u (eqb-true c 123 b.0) b.1
    | inr b ↦ plain_sound n (c ∷ s) x u b.1
  ]
]

by_sound : (n : ℕ) (group : Group → FlowReader) → RestSound n group → Sounds n (r.flow_by group)
by_sound n group sounds s x u e = go (r.quote_of s) (front_of s) e
  where
    go : (o : Option Inner) → Front s o → r.quoted_by o r.as_text (r.unquoted group) s ≡ Some (x, u) → (p : List ℕ) × (s ≡ p ++ u) × Flow n p u x
    go None front e = unquoted_sound n group sounds s x u e
    go (Some place) (text reads) e =
        let some = text_some (r.quoted place (drop 1 s)) x u e in let inner = reads some.0 u some.1 in
        (inner.0, inner.1, subst (λ (z : Tree). Flow n inner.0 u z) some.2 (l.quoted inner.2))

pub flow_sound : (n : ℕ) → Sounds n (r.flow n)
unfolding r.flow
flow_sound zero s x u e = by_sound 0 (λ k s. None) (λ k i w x u is. absurd cc) s x u e
flow_sound (suc n) s x u e = by_sound (suc n) (r.flow_rest (r.flow n)) (rest_sound n (r.flow n) (flow_sound n)) s x u e

-- ---- what is spelled is read so

-- what follows a value in flow
abbrev pub Closes : List ℕ → Type 0
Closes after = (i : ℕ) × (c : ℕ) × (w : List ℕ) × (after ≡ spaces i ++ c ∷ w) × (is_flow c ≡ true)

signless_again : (p : List ℕ) (i c : ℕ) (w : List ℕ) → has_flow p ≡ false → is_flow c ≡ true → r.signless (p ++ (spaces i ++ c ∷ w)) ≡ p ++ spaces i
signless_again [] zero c w none is = rw is refl
signless_again [] (suc i) c w none is = ap (λ (z : List ℕ). 32 ∷ z) (signless_again [] i c w none is)
signless_again (d ∷ p) i c w none is = let parts = or_parts (is_flow d) (has_flow p) none in rw parts.0 (ap (λ (z : List ℕ). d ∷ z) (signless_again p i c w parts.1 is))

not_spaces : (c : ℕ) (p t : List ℕ) → ends_in 32 (c ∷ p) ≡ false → r.all_spaces (c ∷ p ++ t) ≡ false
not_spaces c [] t ends = and_left _ _ ends
not_spaces c (d ∷ p) t ends = and_right (eqb c 32) _ (not_spaces d p t ends)

trim_none : (i : ℕ) → (r.all_spaces (spaces i) ≡ true) × (r.trim (spaces i) ≡ [])
trim_none zero = (refl, refl)
trim_none (suc i) = let inner = trim_none i in (inner.0, rw inner.0 refl)

trim_again : (p : List ℕ) (i : ℕ) → ends_in 32 p ≡ false → r.trim (p ++ spaces i) ≡ p
trim_again [] i ends = (trim_none i).1
trim_again (c ∷ []) i ends = rw (not_spaces c [] (spaces i) ends) (ap (λ (z : List ℕ). c ∷ z) (trim_none i).1)
trim_again (c ∷ d ∷ p) i ends = rw (not_spaces c (d ∷ p) (spaces i) ends) (ap (λ (z : List ℕ). c ∷ z) (trim_again (d ∷ p) i ends))

past_spaces : (i c : ℕ) (w : List ℕ) → eqb c 32 ≡ false → r.past (spaces i ++ c ∷ w) ≡ c ∷ w
past_spaces zero c w is = rw is refl
past_spaces (suc i) c w is = past_spaces i c w is

flow_shape : (n : ℕ) → (group : Group → FlowReader) × (r.flow n ≡ r.flow_by group)
unfolding r.flow
flow_shape zero = (λ k s. None, refl)
flow_shape (suc n) = (r.flow_rest (r.flow n), refl)

-- a byte that is in no list of signs
flow_not : (c a : ℕ) → is_flow c ≡ true → is_flow a ≡ false → eqb a c ≡ false
flow_not c a is clear = is_one_not (44 ∷ 91 ∷ 93 ∷ 123 ∷ 125 ∷ []) a c clear is

closes_unquoted : (after : List ℕ) → Closes after → begins 39 after ≡ false
closes_unquoted after closes = ap (begins 39) closes.3 ∙ go closes.0 closes.1 closes.4
  where
    go : (i c : ℕ) → is_flow c ≡ true → begins 39 (spaces i ++ c ∷ closes.2) ≡ false
    go (suc i) c is = refl
    go zero c is = is_eq c is
      where
        is_eq : (c : ℕ) → is_flow c ≡ true → eqb c 39 ≡ false
        is_eq c is = go' (eqb c 39) refl
          where
            go' : (b : Bool) → eqb c 39 ≡ b → b ≡ false
            go' false e = refl
            go' true e = absurd (false≢true (ap is_flow (sym (eqb-true c 39 e)) ∙ is))

plain_by : (group : Group → FlowReader) (p after : List ℕ) → Plain p after → IsTrue (is_plain p after && not (has_flow p)) → Closes after → r.flow_by group (p ++ after) ≡ Some (meaning p, after)
plain_by group [] after q is closes = absurd (false≢true q.begins_well)
plain_by group (c ∷ p) after q is closes =
    let first = first_parts c p after q.begins_well in
    let both = and_parts (is_plain (c ∷ p) after) _ is in
    let cut : r.trim (r.signless (c ∷ p ++ after)) ≡ c ∷ p = ap (λ (z : List ℕ). r.trim (r.signless (c ∷ p ++ z))) closes.3 ∙ ap r.trim (signless_again (c ∷ p) closes.0 closes.1 closes.2 (not-true _ both.1) closes.4) ∙ trim_again (c ∷ p) closes.0 q.ends in
    quoted_or_other r.as_text (r.unquoted group) c (p ++ after) (not_sign first 34 refl) (not_sign first 39 refl)
    ∙ (cond-false (eqb c 91) (group Listed (r.past (p ++ after))) _ (not_sign first 91 refl) ∙ (cond-false (eqb c 123) (group Mapped (r.past (p ++ after))) _ (not_sign first 123 refl)
    ∙ (ap (λ (z : List ℕ). r.plain_flow z (drop (length z) (c ∷ p ++ after))) cut ∙ ap (r.plain_flow (c ∷ p)) (drop_at (c ∷ p) after (length (c ∷ p)) refl) ∙ rw is refl)))

-- how a value or part in flow begins
abbrev pub Starts : List ℕ → Type 0
Starts p = (c : ℕ) × (w : List ℕ) × (p ≡ c ∷ w) × (eqb c 32 ≡ false) × (eqb c 93 ≡ false) × (eqb c 125 ≡ false)

plain_starts : (p after : List ℕ) → Plain p after → Starts p
plain_starts [] after q = absurd (false≢true q.begins_well)
plain_starts (c ∷ p) after q = let first = first_parts c p after q.begins_well in (c, p, refl, first.no_space, not_sign first 93 refl, not_sign first 125 refl)

quoted_starts : {p x : List ℕ} → Quoted p x → Starts p
quoted_starts (l.double {s} q) = (34, s ++ 34 ∷ [], refl, refl, refl, refl)
quoted_starts (l.single {s} q) = (39, s ++ 39 ∷ [], refl, refl, refl, refl)

pub flow_starts : {n : ℕ} {p after : List ℕ} {x : Tree} → Flow n p after x → Starts p
flow_starts (l.plain {s = p} {after} is) = plain_starts p after (plain_parts p after (and_parts (is_plain p after) _ is).0)
flow_starts (l.quoted q) = quoted_starts q
flow_starts (l.empty Listed i) = (91, spaces i ++ 93 ∷ [], refl, refl, refl, refl)
flow_starts (l.empty Mapped i) = (123, spaces i ++ 125 ∷ [], refl, refl, refl, refl)
flow_starts (l.group Listed i {s} q) = (91, spaces i ++ s, refl, refl, refl, refl)
flow_starts (l.group Mapped i {s} q) = (123, spaces i ++ s, refl, refl, refl, refl)

starts_append : (p u : List ℕ) → Starts p → Starts (p ++ u)
starts_append p u q = (q.0, q.1 ++ u, ap (λ (z : List ℕ). z ++ u) q.2, q.3, q.4, q.5)

head_starts : {k : Group} {m key : List ℕ} → FlowHead k m key → (s : List ℕ) → Starts s → Starts (m ++ s)
head_starts l.item s q = q
head_starts (l.plain i {s = p} is) s q = starts_append (p ++ 58 ∷ spaces (suc i)) s (starts_append p (58 ∷ spaces (suc i)) (plain_starts p (58 ∷ []) (plain_parts p (58 ∷ []) (and_parts (is_plain p (58 ∷ [])) _ is).0)))
head_starts (l.quoted i {s = p} is) s q = starts_append (p ++ 58 ∷ spaces (suc i)) s (starts_append p (58 ∷ spaces (suc i)) (quoted_starts is))

parts_start : {n : ℕ} {k : Group} {before ps : List Pair} {p after : List ℕ} → FlowParts n k before p after ps → Starts p
parts_start (l.last {k = k} i {s = s} head fresh q) = head_starts head (s ++ (spaces i ++ closing k ∷ [])) (starts_append s (spaces i ++ closing k ∷ []) (flow_starts q))
parts_start (l.more i j {s = s} {t = t} head fresh q others) = head_starts head (s ++ (spaces i ++ 44 ∷ (spaces j ++ t))) (starts_append s (spaces i ++ 44 ∷ (spaces j ++ t)) (flow_starts q))

past_starts : (i : ℕ) (p : List ℕ) → Starts p → r.past (spaces i ++ p) ≡ p
past_starts i p q = ap (λ (z : List ℕ). r.past (spaces i ++ z)) q.2 ∙ past_spaces i q.0 q.1 q.3 ∙ sym q.2

rest_starts : (one : FlowReader) (k : Group) (p : List ℕ) → Starts p → r.flow_rest one k p ≡ r.as_whole k (r.flow_parts k one (suc (length p)) [] p)
rest_starts one k p q = go k p q.0 q.1 q.2 q.4 q.5
  where
    go : (k : Group) (p : List ℕ) (c : ℕ) (w : List ℕ) → p ≡ c ∷ w → eqb c 93 ≡ false → eqb c 125 ≡ false → r.flow_rest one k p ≡ r.as_whole k (r.flow_parts k one (suc (length p)) [] p)
    go k [] c w e list map = absurd cc
    go Listed (d ∷ p) c w e list map = let same : c ≡ d = cc in rw (subst (λ (z : ℕ). eqb z 93 ≡ false) same list) refl
    go Mapped (d ∷ p) c w e list map = let same : c ≡ d = cc in rw (subst (λ (z : ℕ). eqb z 125 ≡ false) same map) refl

colon_here : (o : Taken) (key w : List ℕ) (i : ℕ) → o ≡ Some (key, spaces (suc i) ++ w) → Starts w → r.flow_colon o ≡ Some (key, w)
colon_here o key w i is starts = ap r.flow_colon is ∙ ap (λ (z : List ℕ). Some (key, z)) (past_starts i w starts)

flow_key_plain : (p u : List ℕ) → IsTrue (is_plain p (58 ∷ []) && (not (has_flow p) && means_text p)) → Plain p (58 ∷ []) → parts_here u ≡ true → r.quoted_or r.past_colon r.colon_flow_key (p ++ 58 ∷ u) ≡ Some (p, u)
flow_key_plain [] u is q here = absurd (false≢true q.begins_well)
flow_key_plain (c ∷ p) u is q here =
    let first = first_parts c p (58 ∷ []) q.begins_well in
    quoted_or_other r.past_colon r.colon_flow_key c (p ++ 58 ∷ u) (not_sign first 34 refl) (not_sign first 39 refl) ∙ (ap r.plain_flow_key (colon_again (c ∷ p) u q.colons here) ∙ rw is refl)

head_again : {k : Group} {m key : List ℕ} → FlowHead k m key → (s : List ℕ) → Starts s → r.flow_head k (m ++ s) ≡ Some (key, s)
head_again l.item s starts = refl
head_again (l.plain i {s = p} is) s starts =
    let q = plain_parts p (58 ∷ []) (and_parts (is_plain p (58 ∷ [])) _ is).0 in
    ap (r.flow_head Mapped) (sym (head_regroup p s (suc i))) ∙ colon_here _ p s i (flow_key_plain p (spaces (suc i) ++ s) is q refl) starts
head_again (l.quoted i {s = p} {k = key} q) s starts =
    ap (r.flow_head Mapped) (sym (head_regroup p s (suc i))) ∙ colon_here _ key s i (quoted_or_again r.past_colon r.colon_flow_key q (58 ∷ (spaces (suc i) ++ s)) refl) starts

no_open : (p after w : List ℕ) (a : ℕ) → l.is_sign a ≡ true → p ≡ a ∷ w → Plain p after → ⊥
no_open [] after w a is e q = absurd cc
no_open (c ∷ p) after w a is e q = let first = first_parts c p after q.begins_well in let same : c ≡ a = cc in false≢true (sym (not_sign first c (subst (λ (z : ℕ). l.is_sign z ≡ true) (sym same) is)) ∙ eq_self c)
  where
    eq_self : (c : ℕ) → eqb c c ≡ true
    eq_self c = eq-eqb c c refl

opened : (n : ℕ) (k : Group) (s : List ℕ) → r.flow (suc n) (opening k ∷ s) ≡ r.flow_rest (r.flow n) k (r.past s)
unfolding r.flow
opened n Listed s = refl
opened n Mapped s = refl

closing_flow : (k : Group) → is_flow (closing k) ≡ true
closing_flow Listed = refl
closing_flow Mapped = refl

closing_end : (k : Group) (again : PartsReader) (ps : List Pair) (i : ℕ) (u : List ℕ) → r.part_end k again ps (r.past (spaces i ++ closing k ∷ u)) ≡ Some (ps, u)
closing_end Listed again ps i u = ap (r.part_end Listed again ps) (past_spaces i 93 u refl)
closing_end Mapped again ps i u = ap (r.part_end Mapped again ps) (past_spaces i 125 u refl)

comma_end : (k : Group) (again : PartsReader) (ps : List Pair) (i : ℕ) (u : List ℕ) → r.part_end k again ps (r.past (spaces i ++ 44 ∷ u)) ≡ again ps (r.past u)
comma_end Listed again ps i u = ap (r.part_end Listed again ps) (past_spaces i 44 u refl)
comma_end Mapped again ps i u = ap (r.part_end Mapped again ps) (past_spaces i 44 u refl)

empty_rest : (one : FlowReader) (k : Group) (i : ℕ) (u : List ℕ) → r.flow_rest one k (r.past (spaces i ++ closing k ∷ u)) ≡ Some (whole k [], u)
empty_rest one Listed i u = ap (r.flow_rest one Listed) (past_spaces i 93 u refl)
empty_rest one Mapped i u = ap (r.flow_rest one Mapped) (past_spaces i 125 u refl)

-- a part is read up to what follows its value
part_again : (k : Group) (one : FlowReader) (again : PartsReader) (before : List Pair) (m key s v : List ℕ) (x : Tree) → FlowHead k m key → is_new k key before ≡ true → Starts s → one s ≡ Some (x, v) → r.part_head k one again before (r.flow_head k (m ++ s)) ≡ r.part_end k again (before ++ pair key x ∷ []) (r.past v)
part_again k one again before m key s v x head fresh starts is = ap (r.part_head k one again before) (head_again head s starts) ∙ (rw fresh (ap (r.part_value k again before key) is))

mutual
  pub flow_again : {n : ℕ} {p after : List ℕ} {x : Tree} → Flow n p after x → (IsTrue (begins 91 p || begins 123 p) × (begins 39 after ≡ false)) ⊎ Closes after → r.flow n (p ++ after) ≡ Some (x, after)
  flow_again {n} (l.plain {s = p} {after} is) (inl bracket) =
      let q = plain_parts p after (and_parts (is_plain p after) _ is).0 in
      elim (or_cases (begins 91 p) (begins 123 p) bracket.0) [
        | inl list ↦ (let w = begins_is 91 p list in absurd (no_open p after w.0 91 refl w.1 q))
        | inr map ↦ (let w = begins_is 123 p map in absurd (no_open p after w.0 123 refl w.1 q))
      ]
  flow_again {n} (l.plain {s = p} {after} is) (inr closes) = let shape = flow_shape n in ap (λ (g : FlowReader). g (p ++ after)) shape.1 ∙ plain_by shape.0 p after (plain_parts p after (and_parts (is_plain p after) _ is).0) is closes
  flow_again {n} (l.quoted {s = p} {after = after} q) (inl bracket) = let shape = flow_shape n in ap (λ (g : FlowReader). g (p ++ after)) shape.1 ∙ quoted_or_again r.as_text (r.unquoted shape.0) q after bracket.1
  flow_again {n} (l.quoted {s = p} {after = after} q) (inr closes) = let shape = flow_shape n in ap (λ (g : FlowReader). g (p ++ after)) shape.1 ∙ quoted_or_again r.as_text (r.unquoted shape.0) q after (closes_unquoted after closes)
  flow_again (l.empty {r = n} k i {after}) ends =
      ap (r.flow (suc n)) (sym (group_regroup (closing k ∷ []) after i (opening k))) ∙ (opened n k (spaces i ++ closing k ∷ after) ∙ empty_rest (r.flow n) k i after)
  flow_again (l.group {r = n} k i {s} {after} {ps} q) ends =
      let starts = starts_append s after (parts_start q) in
      ap (r.flow (suc n)) (sym (group_regroup s after i (opening k))) ∙ (opened n k (spaces i ++ (s ++ after)) ∙ (ap (r.flow_rest (r.flow n) k) (past_starts i (s ++ after) starts) ∙ (rest_starts (r.flow n) k (s ++ after) starts ∙ ap (r.as_whole k) (parts_again q (suc (length (s ++ after))) (omega arith)))))

  parts_again : {n : ℕ} {k : Group} {before ps : List Pair} {p after : List ℕ} → FlowParts n k before p after ps → (f : ℕ) → length (p ++ after) < f → r.flow_parts k (r.flow n) f before (p ++ after) ≡ Some (ps, after)
  parts_again q zero lt = absurd (omega arith)
  parts_again {n} (l.last {k = k} i {before} {m} {key} {s} {after} {x} head fresh q) (suc f) lt =
      let starts = starts_append s (spaces i ++ closing k ∷ after) (flow_starts q) in
      ap (r.flow_parts k (r.flow n) (suc f) before) (sym (last_regroup m s after i (closing k)))
      ∙ (part_again k (r.flow n) (r.flow_parts k (r.flow n) f) before m key (s ++ (spaces i ++ closing k ∷ after)) (spaces i ++ closing k ∷ after) x head fresh starts (flow_again q (inr (i, closing k, after, refl, closing_flow k)))
      ∙ closing_end k (r.flow_parts k (r.flow n) f) (before ++ pair key x ∷ []) i after)
  parts_again {n} (l.more {k = k} i j {before} {ps} {m} {key} {s} {t} {after} {x} head fresh q others) (suc f) lt =
      let all = more_regroup m s t after i j in
      let v : List ℕ = spaces i ++ 44 ∷ (spaces j ++ (t ++ after)) in
      let starts = starts_append s v (flow_starts q) in
      let next = starts_append t after (parts_start others) in
      let small : length (t ++ after) < f = omega (arith, lt, ap length all, length-append m (s ++ v), length-append s v, length-append (spaces i) (44 ∷ (spaces j ++ (t ++ after))), length-append (spaces j) (t ++ after)) in
      ap (r.flow_parts k (r.flow n) (suc f) before) (sym all)
      ∙ (part_again k (r.flow n) (r.flow_parts k (r.flow n) f) before m key (s ++ v) v x head fresh starts (flow_again q (inr (i, 44, spaces j ++ (t ++ after), refl, refl)))
      ∙ (comma_end k (r.flow_parts k (r.flow n) f) (before ++ pair key x ∷ []) i (spaces j ++ (t ++ after)) ∙ (ap (r.flow_parts k (r.flow n) f (before ++ pair key x ∷ [])) (past_starts j (t ++ after) next) ∙ parts_again others f small)))
