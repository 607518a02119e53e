-- The mark of a line is read exactly.
use Rattle.std.proofs.Common.{◌≡◌, ℕ, zero, suc, Bool, true, false, cond, not, ◌&&◌, ◌||◌, eqb, IsTrue, List, [], ◌∷◌, ◌++◌, Option, Some, None, inl, inr, refl, sym, ap, subst, ◌∙◌}
use Rattle.std.proofs.lemmas.Bool.{eqb-true, and_parts, or_cases, not-true, false≢true}
use Rattle.yaml_spec.specs.declared.state.Group.TheVariants.{Mapped}
use Rattle.yaml_spec.specs.declared.tree.Mark.{Mark}
use Rattle.yaml_spec.specs.declared.tree.Mark.TheVariants.{Anchor, Alias, Tag, Document, Directive}
use Rattle.yaml_spec.specs.Line.{spaces, begins, parts_here, Head, IsTail}
use Rattle.yaml_spec.specs.Spells.{Line, at, IsDocument}
use Rattle.yaml_spec.specs.Spells as s
use Rattle.yaml_spec.specs.Reading as r
use Rattle.yaml_spec.specs.Reading.{Taken}
use Rattle.yaml_spec.specs.Machine as k
use Rattle.yaml_spec.specs.Faults.{IsSign, Leads, IsOutside}
use Rattle.yaml_spec.specs.Faults as f
use Rattle.yaml_spec.specs.Marks as m
use Rattle.yaml_spec.proofs.Cases.{if_some, chosen}
use Rattle.yaml_spec.proofs.Quotes.{begins_is}
use Rattle.yaml_spec.proofs.Heads.{is_solid, plain_parts, spaces_sound, key_sound, key_again, head_solid, no_item_key, solid_spaces}
use Rattle.yaml_spec.proofs.Values.{sign_no_key, plain_no_key}
use Rattle.yaml_spec.proofs.Open.{document_sound, document_true}

sign_sound : (c : ℕ) (w : Mark) → m.sign_mark c ≡ Some w → IsSign c w
sign_sound c w e = elim (chosen (eqb c 38) _ _ e) [
  | inl p ↦ (let same : Anchor ≡ w = (let e' = p.1 in cc) in subst (IsSign c) same (subst (λ (z : ℕ). IsSign z Anchor) (sym (eqb-true c 38 p.0)) f.ampersand))
  | inr p ↦ elim (chosen (eqb c 42) _ _ p.1) [
    | inl q ↦ (let same : Alias ≡ w = (let e' = q.1 in cc) in subst (IsSign c) same (subst (λ (z : ℕ). IsSign z Alias) (sym (eqb-true c 42 q.0)) f.star))
    | inr q ↦ (let there = if_some (eqb c 33) (Some Tag) q.1 in let same : Tag ≡ w = (let e' = there.1 in cc) in subst (IsSign c) same (subst (λ (z : ℕ). IsSign z Tag) (sym (eqb-true c 33 there.0)) f.bang))
  ]
]

first_sound : (v : List ℕ) (w : Mark) → m.first_mark v ≡ Some w → (c : ℕ) × (u : List ℕ) × (v ≡ c ∷ u) × IsSign c w
first_sound [] w e = absurd cc
first_sound (c ∷ v) w e = (c, v, refl, sign_sound c w e)

abbrev LedBy : List ℕ → Mark → Type 0
LedBy v w = (c : ℕ) × Leads v c × IsSign c w

sign_key : {c : ℕ} {w : Mark} → IsSign c w → (s : List ℕ) → (r.key_of (c ∷ s) ≡ None) × (m.sign_mark c ≡ Some w) × IsTrue (is_solid (c ∷ s))
sign_key f.ampersand s = (sign_no_key 38 s refl refl refl refl, refl, refl)
sign_key f.star s = (sign_no_key 42 s refl refl refl refl, refl, refl)
sign_key f.bang s = (sign_no_key 33 s refl refl refl refl, refl, refl)

led_solid : {s : List ℕ} {c : ℕ} {w : Mark} → Leads s c → IsSign c w → IsTrue (is_solid s)
led_solid (f.here {s = s}) is = (sign_key is s).2
led_solid (f.item i {s = s} q) is = refl
led_solid (f.entry {c = c} i s head) is = head_solid head (spaces (suc i) ++ c ∷ s)

solid_clear : (z : List ℕ) → IsTrue (is_solid z) → begins 32 z ≡ true → ⊥
solid_clear [] solid e = false≢true e
solid_clear (d ∷ z) solid e = let both = and_parts (not (eqb d 32)) _ solid in false≢true (sym (not-true _ both.0) ∙ e)

sign_here : {c : ℕ} {w : Mark} → IsSign c w → (u : List ℕ) → parts_here (c ∷ u) ≡ true → ⊥
sign_here f.ampersand u e = false≢true e
sign_here f.star u e = false≢true e
sign_here f.bang u e = false≢true e

-- what follows the dashes leads the whole
dashes_lead : (spaced : Bool) (v : List ℕ) (w : Mark) → LedBy (m.undashed spaced v) w → (i : ℕ) × (u : List ℕ) × (v ≡ spaces i ++ u) × LedBy u w × (spaced ≡ false → i ≡ 0)
dashes_lead spaced [] w q = (0, [], refl, q, λ _. refl)
dashes_lead spaced (c ∷ v) w q = go (spaced && eqb c 32) (eqb c 45 && begins 32 v) refl refl (λ q. dashes_lead true v w q) q
  where
    go : (a b : Bool) → (spaced && eqb c 32) ≡ a → (eqb c 45 && begins 32 v) ≡ b → (LedBy (m.undashed true v) w → (i : ℕ) × (u : List ℕ) × (v ≡ spaces i ++ u) × LedBy u w × (true ≡ false → i ≡ 0)) → LedBy (cond a (m.undashed true v) (cond b (m.undashed true v) (c ∷ v))) w
        → (i : ℕ) × (u : List ℕ) × (c ∷ v ≡ spaces i ++ u) × LedBy u w × (spaced ≡ false → i ≡ 0)
    go true b is dash again q =
        let both = and_parts spaced (eqb c 32) is in
        let inner = again q in
        (suc inner.0, inner.1, ap (λ (z : ℕ). z ∷ v) (eqb-true c 32 both.1) ∙ ap (λ (z : List ℕ). 32 ∷ z) inner.2, inner.3, λ e. absurd (false≢true (sym e ∙ both.0)))
    go false true is dash again q =
        let both = and_parts (eqb c 45) (begins 32 v) dash in
        let inner = again q in
        let text = dash_text inner.0 inner.1 v both.1 inner.2 inner.3 in
        (0, c ∷ v, refl, (text.0.0, subst (λ (z : ℕ). Leads (z ∷ v) text.0.0) (sym (eqb-true c 45 both.0)) text.1, text.0.1), λ _. refl)
      where
        dash_text : (i : ℕ) (u v : List ℕ) → begins 32 v ≡ true → v ≡ spaces i ++ u → LedBy u w → (p : (c : ℕ) × IsSign c w) × Leads (45 ∷ v) p.0
        dash_text zero u v here is q = absurd (solid_clear u (led_solid q.1 q.2) (subst (λ (z : List ℕ). begins 32 z ≡ true) is here))
        dash_text (suc i) u v here is q = ((q.0, q.2), subst (λ (z : List ℕ). Leads (45 ∷ z) q.0) (sym is) (f.item i q.1))
    go false false is dash again q = (0, c ∷ v, refl, q, λ _. refl)

key_led : (v : List ℕ) (o : Taken) (w : Mark) → r.key_of v ≡ o → m.led_by v o ≡ Some w → LedBy v w
key_led v None w is e =
    let first = first_sound v w e in
    (first.0, subst (λ (z : List ℕ). Leads z first.0) (sym first.2) f.here, first.3)
key_led v (Some p) w is e =
    let head = key_sound v p.0 p.1 is in
    let first = first_sound (r.past p.1) w e in
    let text : p.1 ≡ spaces (r.front p.1) ++ first.0 ∷ first.1 = spaces_sound p.1 ∙ ap (λ (z : List ℕ). spaces (r.front p.1) ++ z) first.2 in
    go (r.front p.1) first.0 first.1 head.0 head.2 p.1 head.3 text first.3 head.1
  where
    go : (i c : ℕ) (u h : List ℕ) → Head Mapped h p.0 → (q : List ℕ) → parts_here q ≡ true → q ≡ spaces i ++ c ∷ u → IsSign c w → v ≡ h ++ q → LedBy v w
    go zero c u h head q here is sign text = absurd (sign_here sign u (subst (λ (z : List ℕ). parts_here z ≡ true) is here))
    go (suc i) c u h head q here is sign text = (c, subst (λ (z : List ℕ). Leads z c) (sym (text ∙ ap (λ (z : List ℕ). h ++ z) is)) (f.entry i u head), sign)

lead_sound : (v : List ℕ) (w : Mark) → m.lead v ≡ Some w → LedBy v w
unfolding m.lead
lead_sound v w e =
    let inner = dashes_lead false v w (key_led (m.undashed false v) (r.key_of (m.undashed false v)) w refl e) in
    subst (λ (z : List ℕ). LedBy z w) (sym (inner.2 ∙ ap (λ (i : ℕ). spaces i ++ inner.1) (inner.4 refl))) inner.3

-- ---- and back

-- spaces behind a dash
past_dash : (i : ℕ) (s : List ℕ) → IsTrue (is_solid s) → m.undashed true (spaces i ++ s) ≡ m.undashed false s
past_dash (suc i) s solid = past_dash i s solid
past_dash zero [] solid = refl
past_dash zero (c ∷ s) solid = let both = and_parts (not (eqb c 32)) _ solid in rw (not-true _ both.0) refl

no_dash : (c : ℕ) (s : List ℕ) → (eqb c 45 && begins 32 s) ≡ false → m.undashed false (c ∷ s) ≡ c ∷ s
no_dash c s e = rw e refl

sign_dash : {c : ℕ} {w : Mark} → IsSign c w → (s : List ℕ) → m.undashed false (c ∷ s) ≡ c ∷ s
sign_dash f.ampersand s = refl
sign_dash f.star s = refl
sign_dash f.bang s = refl

head_dash : (p : List ℕ) {key : List ℕ} → Head Mapped p key → (i : ℕ) (u : List ℕ) → m.undashed false (p ++ (spaces (suc i) ++ u)) ≡ p ++ (spaces (suc i) ++ u)
head_dash p head i u = go (p ++ (spaces (suc i) ++ u)) (λ c w e. no_item_key head (spaces (suc i) ++ u) c w e)
  where
    item_dash : (c : ℕ) (w : List ℕ) → (eqb c 45 && parts_here w) ≡ false → (eqb c 45 && begins 32 w) ≡ false
    item_dash c [] e = and_right' (eqb c 45)
      where
        and_right' : (b : Bool) → (b && false) ≡ false
        and_right' true = refl
        and_right' false = refl
    item_dash c (d ∷ w) e = e

    go : (z : List ℕ) → ((c : ℕ) (w : List ℕ) → z ≡ c ∷ w → (eqb c 45 && parts_here w) ≡ false) → m.undashed false z ≡ z
    go [] no_item = refl
    go (c ∷ w) no_item = no_dash c w (item_dash c w (no_item c w refl))

lead_again : {s : List ℕ} {c : ℕ} {w : Mark} → Leads s c → IsSign c w → m.lead s ≡ Some w
unfolding m.lead
lead_again (f.here {c = c} {s = s}) is =
    let first = sign_key is s in
    ap (λ (z : List ℕ). m.led_by z (r.key_of z)) (sign_dash is s) ∙ (ap (m.led_by (c ∷ s)) first.0 ∙ first.1)
lead_again (f.item i {s = s} q) is = ap (λ (z : List ℕ). m.led_by z (r.key_of z)) (past_dash i s (led_solid q is)) ∙ lead_again q is
lead_again (f.entry {c = c} i {m = p} {key} s head) is =
    let first = sign_key is s in
    let behind = solid_spaces (suc i) (c ∷ s) first.2 in
    ap (λ (z : List ℕ). m.led_by z (r.key_of z)) (head_dash p head i (c ∷ s)) ∙ (ap (m.led_by (p ++ (spaces (suc i) ++ c ∷ s))) (key_again head (spaces (suc i) ++ c ∷ s) refl) ∙ (ap m.first_mark behind.2 ∙ first.1))

own_sound : (u : Line) (w : Mark) → m.own_mark u ≡ Some w → IsOutside u w
own_sound (at c v) w e = elim (chosen (eqb c 0 && begins 37 v) _ _ e) [
  | inl p ↦ (let both = and_parts (eqb c 0) (begins 37 v) p.0 in let text = begins_is 37 v both.1 in let same : Directive ≡ w = (let e' = p.1 in cc) in
      subst (IsOutside (at c v)) same (subst (λ (z : ℕ). IsOutside (at z v) Directive) (sym (eqb-true c 0 both.0)) (subst (λ (z : List ℕ). IsOutside (at 0 z) Directive) (sym text.1) f.percent)))
  | inr p ↦ (let there = if_some (k.is_document 45 (at c v) || k.is_document 46 (at c v)) (Some Document) p.1 in let same : Document ≡ w = (let e' = there.1 in cc) in
      subst (IsOutside (at c v)) same (elim (or_cases (k.is_document 45 (at c v)) (k.is_document 46 (at c v)) there.0) [
        | inl q ↦ f.start (document_sound 45 (at c v) q)
        | inr q ↦ f.end (document_sound 46 (at c v) q)
      ]))
]

pub mark_sound : (u : Line) (w : Mark) → m.line_mark u ≡ Some w → IsOutside u w
unfolding m.line_mark
mark_sound (at c v) w e = go (m.lead v) refl e
  where
    go : (o : Option Mark) → m.lead v ≡ o → m.mark_or o (m.own_mark (at c v)) ≡ Some w → IsOutside (at c v) w
    go None is e = own_sound (at c v) w e
    go (Some x) is e = let same : x ≡ w = cc in let inner = lead_sound v w (is ∙ ap (λ (z : Mark). Some z) same) in f.led inner.1 inner.2

percent_lead : (v : List ℕ) → m.lead (37 ∷ v) ≡ None
unfolding m.lead
percent_lead v = ap (m.led_by (37 ∷ v)) (sign_no_key 37 v refl refl refl refl)

start_lead : (t : List ℕ) → IsTail t → m.lead (45 ∷ 45 ∷ 45 ∷ t) ≡ None
unfolding m.lead
start_lead t tail = ap (m.led_by (45 ∷ 45 ∷ 45 ∷ t)) (plain_no_key 45 (45 ∷ 45 ∷ []) t (plain_parts (45 ∷ 45 ∷ 45 ∷ []) t refl) tail)

end_lead : (t : List ℕ) → IsTail t → m.lead (46 ∷ 46 ∷ 46 ∷ t) ≡ None
unfolding m.lead
end_lead t tail = ap (m.led_by (46 ∷ 46 ∷ 46 ∷ t)) (plain_no_key 46 (46 ∷ 46 ∷ []) t (plain_parts (46 ∷ 46 ∷ 46 ∷ []) t refl) tail)

pub mark_again : (u : Line) (w : Mark) → IsOutside u w → m.line_mark u ≡ Some w
unfolding m.line_mark
mark_again (at c v) w (f.led q is) = ap (λ (o : Option Mark). m.mark_or o (m.own_mark (at c v))) (lead_again q is)
mark_again (at c v) w (f.percent {s = s}) = ap (λ (o : Option Mark). m.mark_or o (m.own_mark (at 0 (37 ∷ s)))) (percent_lead s)
mark_again (at c v) w (f.start (s.document {t = t} tail)) = ap (λ (o : Option Mark). m.mark_or o (m.own_mark (at 0 (45 ∷ 45 ∷ 45 ∷ t)))) (start_lead t tail) ∙ rw (document_true (s.document {a = 45} {t = t} tail)) refl
mark_again (at c v) w (f.end (s.document {t = t} tail)) = ap (λ (o : Option Mark). m.mark_or o (m.own_mark (at 0 (46 ∷ 46 ∷ 46 ∷ t)))) (end_lead t tail) ∙ rw (document_true (s.document {a = 46} {t = t} tail)) refl
