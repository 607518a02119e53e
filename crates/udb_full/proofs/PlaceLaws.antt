-- Lines place by place, and the first bad line.
use Rattle.std.proofs.Common.{◌≡◌, ◌<◌, ◌≤◌, ◌+◌, ◌-◌, ℕ, zero, suc, List, [], ◌∷◌, ◌++◌, length, take, drop, get_or, slice_get, Option, None, Some, refl, sym, ap, subst, ◌∙◌, arith, append_assoc, append-nil, ⊎_elim, false}
use Rattle.std.specs.List.{AllZip}
use Rattle.std.proofs.Math.Seq.{take-add, take-length, take-append_seam, drop-append_seam}
use Rattle.std.proofs.lemmas.List.{take-append-drop, length-take, length-take-le, length-drop, length-append}
use Rattle.std.proofs.lemmas.Option.{none-some, same_Some, get_or_from_slice_get}
use Rattle.std.proofs.lemmas.Bool.{cases_lt}
use Rattle.udb_base.specs.declared.versions.Version.{Version}
use Rattle.udb_base.specs.declared.conditions.Value.{Value}
use Rattle.udb_base.specs.declared.conditions.Value.TheVariants.{Flag, Number, Word}
use Rattle.udb_base.specs.declared.spaces.Domain.{Domain}
use Rattle.udb_base.specs.declared.spaces.Domain.TheVariants.{Flags, Numbers, Range, Words}
use Rattle.udb_base.specs.declared.spaces.ExtSpace.{ExtSpace}
use Rattle.udb_base.specs.declared.spaces.ParamSpace.{ParamSpace}
use Rattle.udb_base.specs.declared.spaces.Space.{Space}
use Rattle.udb_base.specs.declared.spaces.Full.{Full}
use Rattle.udb_spec.specs.Spaces.{InDomain}
use Rattle.udb_spec.specs.Lawful.{Lawful, IsLawfulDomain, IsLawfulParam}
use Rattle.udb_spec.specs.Constraints.{IsInDomains}
use Rattle.udb_spec.specs.ProofText.{choice_lines, value_lines, full_lines, SpellsFull, SpellFull, GoesOn, IsFirstBadLine}
use Rattle.udb_full.specs.Found.{IsFound, IsChoiceOf, choice_line, IsValueOf, value_line, IsChoiceFound, IsValueFound}
use Rattle.udb_full.specs.Reading.{AreFound, Stops}

take-none : {X : Type 0} (xs : List X) → take 0 xs ≡ []
take-none [] = refl
take-none (x ∷ xs) = refl

-- lists after fronts of one length are the same
pub after-same : {X : Type 0} (xs ys a b : List X) → length xs ≡ length ys → xs ++ a ≡ ys ++ b → a ≡ b
after-same [] [] a b n e = e
after-same [] (y ∷ ys) a b n e = absurd (omega (arith, n))
after-same (x ∷ xs) [] a b n e = absurd (omega (arith, n))
after-same (x ∷ xs) (y ∷ ys) a b n e = after-same xs ys a b (omega (arith, n)) (ap (drop 1) e)

pub slice-inside : {X : Type 0} (xs : List X) (i : ℕ) (x : X) → slice_get xs i ≡ Some x → i < length xs
slice-inside [] i x e = absurd (none-some x e)
slice-inside (y ∷ xs) zero x e = omega arith
slice-inside (y ∷ xs) (suc i) x e = omega (arith, slice-inside xs i x e)

module _ {P X : Type 0} (Of : P → X → Type 0) (spelling : P → X → List ℕ) where
  abbrev pub Found : P → List ℕ → Option X → Type 0
  Found p line o = IsFound (Of p) (spelling p) line o

  abbrev pub rows : List P → List X → List (List ℕ)
  rows [] xs = []
  rows (p ∷ ps) [] = []
  rows (p ∷ ps) (x ∷ xs) = spelling p x ∷ rows ps xs

  pub length-rows : (ps : List P) (xs : List X) → AllZip Of ps xs → length (rows ps xs) ≡ length ps
  length-rows [] [] h = refl
  length-rows [] (x ∷ xs) h = absurd h
  length-rows (p ∷ ps) [] h = absurd h
  length-rows (p ∷ ps) (x ∷ xs) h = ap suc (length-rows ps xs h.1)

  pub found-next : (ps : List P) (ls : List (List ℕ)) (i : ℕ) (xs : List X) (p : P) (l : List ℕ) (x : X) → i < length ps → i < length ls → p ≡ get_or ps i p → l ≡ get_or ls i l → Found p l (Some x) → AreFound Found (take i ps) (take i ls) xs → AreFound Found (take (suc i) ps) (take (suc i) ls) (xs ++ x ∷ [])
  found-next [] ls i xs p l x np nl atp atl f h = absurd (omega arith)
  found-next (q ∷ ps) [] i xs p l x np nl atp atl f h = absurd (omega arith)
  found-next (q ∷ ps) (k ∷ ls) zero [] p l x np nl atp atl f h =
      (subst (λ z. Found z k (Some x)) atp (subst (λ z. Found p z (Some x)) atl f), none ps ls) where
        none : (ps : List P) (ls : List (List ℕ)) → AreFound Found (take 0 ps) (take 0 ls) []
        none [] [] = tt
        none [] (l ∷ ls) = tt
        none (p ∷ ps) [] = tt
        none (p ∷ ps) (l ∷ ls) = tt
  found-next (q ∷ ps) (k ∷ ls) zero (y ∷ xs) p l x np nl atp atl f h = absurd h
  found-next (q ∷ ps) (k ∷ ls) (suc i) [] p l x np nl atp atl f h = absurd h
  found-next (q ∷ ps) (k ∷ ls) (suc i) (y ∷ xs) p l x np nl atp atl f h = (h.0, found-next ps ls i xs p l x (omega arith) (omega arith) atp atl f h.1)

  pub found-length : (ps : List P) (ls : List (List ℕ)) (xs : List X) → AreFound Found ps ls xs → length ls ≡ length ps
  found-length [] [] [] h = refl
  found-length [] [] (x ∷ xs) h = absurd h
  found-length [] (l ∷ ls) xs h = absurd h
  found-length (p ∷ ps) [] xs h = absurd h
  found-length (p ∷ ps) (l ∷ ls) [] h = absurd h
  found-length (p ∷ ps) (l ∷ ls) (x ∷ xs) h = ap suc (found-length ps ls xs h.1)

  pub found-all : (ps : List P) (ls : List (List ℕ)) (xs : List X) → AreFound Found ps ls xs → AllZip Of ps xs
  found-all [] [] [] h = tt
  found-all [] [] (x ∷ xs) h = absurd h
  found-all [] (l ∷ ls) xs h = absurd h
  found-all (p ∷ ps) [] xs h = absurd h
  found-all (p ∷ ps) (l ∷ ls) [] h = absurd h
  found-all (p ∷ ps) (l ∷ ls) (x ∷ xs) h = (h.0.right.0, found-all ps ls xs h.1)

  pub found-rows : (ps : List P) (ls : List (List ℕ)) (xs : List X) → AreFound Found ps ls xs → rows ps xs ≡ ls
  found-rows [] [] [] h = refl
  found-rows [] [] (x ∷ xs) h = absurd h
  found-rows [] (l ∷ ls) xs h = absurd h
  found-rows (p ∷ ps) [] xs h = absurd h
  found-rows (p ∷ ps) (l ∷ ls) [] h = absurd h
  found-rows (p ∷ ps) (l ∷ ls) (x ∷ xs) h = ap (λ k. k ∷ rows ps xs) h.0.right.1 ∙ ap (λ ks. l ∷ ks) (found-rows ps ls xs h.1)

  pub found-only : (ps : List P) (ls : List (List ℕ)) (xs ys : List X) → AreFound Found ps ls xs → AllZip Of ps ys → rows ps ys ≡ ls → xs ≡ ys
  found-only [] [] [] [] h of e = refl
  found-only [] [] [] (y ∷ ys) h of e = absurd of
  found-only [] [] (x ∷ xs) ys h of e = absurd h
  found-only [] (l ∷ ls) xs ys h of e = absurd h
  found-only (p ∷ ps) [] xs ys h of e = absurd h
  found-only (p ∷ ps) (l ∷ ls) [] ys h of e = absurd h
  found-only (p ∷ ps) (l ∷ ls) (x ∷ xs) [] h of e = absurd of
  found-only (p ∷ ps) (l ∷ ls) (x ∷ xs) (y ∷ ys) h of e =
      let first : x ≡ y = same_Some x y (h.0.only y of.0 (ap (λ ks. get_or ks 0 []) e)) in
      ap (λ z. z ∷ xs) first ∙ ap (λ zs. y ∷ zs) (found-only ps ls xs ys h.1 of.1 (ap (drop 1) e))

  -- where each place has an item, the lines that are found go on
  pub goes-on : (ps : List P) (ls : List (List ℕ)) (i : ℕ) (xs : List X) → ((k : ℕ) (p : P) → slice_get ps k ≡ Some p → (x : X) × Of p x) → AreFound Found (take i ps) (take i ls) xs → i ≤ length ps → (zs : List X) × (more : List (List ℕ)) × AllZip Of ps zs × (rows ps zs ≡ take i ls ++ more)
  goes-on [] ls zero xs some h le = ([], [], tt, sym (ap (λ ks. ks ++ []) (take-none ls)))
  goes-on [] ls (suc i) xs some h le = absurd (omega arith)
  goes-on (p ∷ ps) ls zero xs some h le =
      let first = some 0 p refl in
      let rest = goes-on ps [] zero [] (λ k q e. some (suc k) q e) (empty ps) (omega arith) in
      (first.0 ∷ rest.0, spelling p first.0 ∷ rows ps rest.0, (first.1, rest.2), sym (ap (λ ks. ks ++ (spelling p first.0 ∷ rows ps rest.0)) (take-none ls))) where
        empty : (ps : List P) → AreFound Found (take 0 ps) (take 0 []) []
        empty [] = tt
        empty (p ∷ ps) = tt
  goes-on (p ∷ ps) [] (suc i) xs some h le = absurd h
  goes-on (p ∷ ps) (l ∷ ls) (suc i) [] some h le = absurd h
  goes-on (p ∷ ps) (l ∷ ls) (suc i) (x ∷ xs) some h le =
      let rest = goes-on ps ls i xs (λ k q e. some (suc k) q e) h.1 (omega arith) in
      (x ∷ rest.0, rest.1, (h.0.right.0, rest.2), ap (λ k. k ∷ rows ps rest.0) h.0.right.1 ∙ ap (λ ks. l ∷ ks) rest.3)

  -- no items have these lines where one of them is none of its place's
  pub bad-row : (i : ℕ) (ps : List P) (ls : List (List ℕ)) (ys : List X) (tail more : List (List ℕ)) → AllZip Of ps ys → i < length ps → i < length ls → rows ps ys ++ tail ≡ take (suc i) ls ++ more → ((p : P) (l : List ℕ) → slice_get ps i ≡ Some p → slice_get ls i ≡ Some l → Found p l None) → ⊥
  bad-row i [] ls ys tail more of np nl e bad = absurd (omega arith)
  bad-row i (p ∷ ps) [] ys tail more of np nl e bad = absurd (omega arith)
  bad-row i (p ∷ ps) (l ∷ ls) [] tail more of np nl e bad = absurd of
  bad-row zero (p ∷ ps) (l ∷ ls) (y ∷ ys) tail more of np nl e bad = none-some y ((bad p l refl refl).only y of.0 (ap (λ ks. get_or ks 0 []) e))
  bad-row (suc i) (p ∷ ps) (l ∷ ls) (y ∷ ys) tail more of np nl e bad = bad-row i ps ls ys tail more of.1 (omega arith) (omega arith) (ap (drop 1) e) (λ q k a b. bad q k a b)

-- ---- the two kinds of places

choice-rows : (es : List ExtSpace) (cs : List (Option Version)) → choice_lines es cs ≡ rows IsChoiceOf choice_line es cs
choice-rows [] cs = refl
choice-rows (e ∷ es) [] = refl
choice-rows (e ∷ es) (c ∷ cs) = ap (λ ls. choice_line e c ∷ ls) (choice-rows es cs)

value-rows : (ps : List ParamSpace) (xs : List Value) → value_lines ps xs ≡ rows IsValueOf value_line ps xs
value-rows [] xs = refl
value-rows (p ∷ ps) [] = refl
value-rows (p ∷ ps) (x ∷ xs) = ap (λ ls. value_line p x ∷ ls) (value-rows ps xs)

pub full-rows : (space : Space) (full : Full) → full_lines space full ≡ rows IsChoiceOf choice_line space.extensions full.extensions ++ rows IsValueOf value_line space.params full.params
full-rows space full = ap (λ ls. ls ++ value_lines space.params full.params) (choice-rows space.extensions full.extensions) ∙ ap (λ ls. rows IsChoiceOf choice_line space.extensions full.extensions ++ ls) (value-rows space.params full.params)

domain-has : (d : Domain) → IsLawfulDomain d → (x : Value) × InDomain d x
domain-has Flags h = (Flag false, tt)
domain-has (Numbers []) h = absurd (omega (arith, h.0))
domain-has (Numbers (n ∷ ns)) h = (Number n, (0, omega arith, refl))
domain-has (Range low high) h = (Number low, (omega arith, h))
domain-has (Words []) h = absurd (omega (arith, h.0))
domain-has (Words (w ∷ ws)) h = (Word w, (0, omega arith, refl))

param-has : (space : Space) → Lawful space → (k : ℕ) (p : ParamSpace) → slice_get space.params k ≡ Some p → (x : Value) × IsValueOf p x
param-has space lawful k p e = domain-has p.domain (subst (IsLawfulParam space) (get_or_from_slice_get space.params k p p e) (lawful.params k p (slice-inside space.params k p e))).domain

ext-has : (space : Space) (k : ℕ) (e : ExtSpace) → slice_get space.extensions k ≡ Some e → (c : Option Version) × IsChoiceOf e c
ext-has space k e h = (None, tt)

module _ (space : Space) (lawful : Lawful space) (lines : List (List ℕ)) where
  abbrev E : ℕ
  E = length space.extensions

  abbrev P : ℕ
  P = length space.params

  abbrev choice_part : Full → List (List ℕ)
  choice_part full = rows IsChoiceOf choice_line space.extensions full.extensions

  abbrev value_part : Full → List (List ℕ)
  value_part full = rows IsValueOf value_line space.params full.params

  long : (full : Full) → IsInDomains space full → (length (choice_part full) ≡ E) × (length (value_part full) ≡ P) × (length (full_lines space full) ≡ E + P)
  long full h =
      let a = length-rows IsChoiceOf choice_line space.extensions full.extensions h.choices in
      let b = length-rows IsValueOf value_line space.params full.params h.values in
      (a, b, omega (arith, ap length (full-rows space full), length-append (choice_part full) (value_part full), a, b))

  -- a choice is missing or bad
  pub choices-stop : (i : ℕ) → Stops IsChoiceFound space.extensions lines i → IsFirstBadLine (SpellFull space) lines (i + 1)
  choices-stop i stop = record {
    first = omega arith;
    last = omega (arith, stop.line);
    before = subst (λ n. GoesOn (SpellFull space) (take n lines)) same front;
    at = λ le on. bad-row IsChoiceOf choice_line i space.extensions lines (on.1.0).extensions (value_part on.1.0) on.0 (on.1.1).within.choices stop.place (omega arith)
        (sym (full-rows space on.1.0) ∙ (on.1.1).text ∙ ap (λ n. take n lines ++ on.0) next) stop.bad;
    past = λ all spelled. let n = long spelled.0 (spelled.1).within in omega (arith, n.2, ap length (spelled.1).text, all, stop.place);
  } where
    same : i ≡ i + 1 - 1
    same = omega arith

    next : i + 1 ≡ suc i
    next = omega arith

    front : GoesOn (SpellFull space) (take i lines)
    front =
        let zs = goes-on IsChoiceOf choice_line space.extensions lines i stop.items (ext-has space) stop.before (omega (arith, stop.place)) in
        let ws = goes-on IsValueOf value_line space.params [] 0 [] (param-has space lawful) (empty space.params) (omega arith) in
        let full : Full = record { extensions = zs.0; params = ws.0 } in (
          zs.1 ++ value_part full,
          (
            full,
            record {
              within = record { choices = zs.2; values = ws.2 };
              text = full-rows space full ∙ ap (λ ls. ls ++ value_part full) zs.3 ∙ append_assoc (take i lines) zs.1 (value_part full);
            },
          ),
        ) where
          empty : (ps : List ParamSpace) → AreFound (Found IsValueOf value_line) (take 0 ps) (take 0 []) []
          empty [] = tt
          empty (p ∷ ps) = tt

  module _ (cs : List (Option Version)) (chosen : AreFound IsChoiceFound space.extensions (take E lines) cs) where
    pub enough : E ≤ length lines
    enough = omega (arith, found-length IsChoiceOf choice_line space.extensions (take E lines) cs chosen, length-take E lines)

    -- lines of a full configuration behind as many choices
    value-lines : (full : Full) → IsInDomains space full → (ks : List (List ℕ)) → full_lines space full ≡ take E lines ++ ks → value_part full ≡ ks
    value-lines full h ks e =
        after-same (choice_part full) (take E lines) (value_part full) ks
        (omega (arith, (long full h).0, length-take-le E lines enough)) (sym (full-rows space full) ∙ e)

    with-values : (xs : List Value) → AllZip IsValueOf space.params xs → (ls more : List (List ℕ)) → rows IsValueOf value_line space.params xs ≡ ls ++ more → (front : List (List ℕ)) → front ≡ take E lines ++ ls → GoesOn (SpellFull space) front
    with-values xs of ls more e front is =
        let full : Full = record { extensions = cs; params = xs } in (
          more,
          (
            full,
            record {
              within = record { choices = found-all IsChoiceOf choice_line space.extensions (take E lines) cs chosen; values = of };
              text = full-rows space full ∙ ap (λ ks. ks ++ value_part full) (found-rows IsChoiceOf choice_line space.extensions (take E lines) cs chosen) ∙ ap (λ ks. take E lines ++ ks) e ∙ sym (append_assoc (take E lines) ls more) ∙ ap (λ ks. ks ++ more) (sym is);
            },
          ),
        )

    -- a value is missing or bad
    pub values-stop : (i : ℕ) → Stops IsValueFound space.params (drop E lines) i → IsFirstBadLine (SpellFull space) lines (E + i + 1)
    values-stop i stop = record {
      first = omega arith;
      last = omega (arith, stop.line, length-drop E lines, enough);
      before = with-values zs.0 zs.2 (take i (drop E lines)) zs.1 zs.3 (take (E + i + 1 - 1) lines) (ap (λ n. take n lines) same ∙ take-add E i lines);
      at = λ le on. bad-row IsValueOf value_line i space.params (drop E lines) (on.1.0).params [] on.0 (on.1.1).within.values stop.place (omega (arith, length-drop E lines))
          (append-nil (value_part on.1.0) ∙ value-lines on.1.0 (on.1.1).within (take (suc i) (drop E lines) ++ on.0)
          ((on.1.1).text ∙ ap (λ n. take n lines ++ on.0) next ∙ ap (λ ks. ks ++ on.0) (take-add E (suc i) lines) ∙ append_assoc (take E lines) (take (suc i) (drop E lines)) on.0)) stop.bad;
      past = λ all spelled. let n = long spelled.0 (spelled.1).within in omega (arith, n.2, ap length (spelled.1).text, all, stop.place);
    } where
      zs : (zs : List Value) × (more : List (List ℕ)) × AllZip IsValueOf space.params zs × (rows IsValueOf value_line space.params zs ≡ take i (drop E lines) ++ more)
      zs = goes-on IsValueOf value_line space.params (drop E lines) i stop.items (param-has space lawful) stop.before (omega (arith, stop.place))

      same : E + i + 1 - 1 ≡ E + i
      same = omega arith

      next : E + i + 1 ≡ E + suc i
      next = omega arith

    module _ (xs : List Value) (valued : AreFound IsValueFound space.params (take P (drop E lines)) xs) where
      -- a line too many
      pub lines-over : P < length (drop E lines) → IsFirstBadLine (SpellFull space) lines (E + P + 1)
      lines-over over = record {
        first = omega arith;
        last = omega (arith, length-drop E lines, over);
        before = with-values xs (found-all IsValueOf value_line space.params (take P (drop E lines)) xs valued) (take P (drop E lines)) []
            (found-rows IsValueOf value_line space.params (take P (drop E lines)) xs valued ∙ sym (append-nil (take P (drop E lines)))) (take (E + P + 1 - 1) lines) (ap (λ n. take n lines) same ∙ take-add E P lines);
        at = λ le on. let n = long on.1.0 (on.1.1).within in
            omega (arith, n.2, ap length (on.1.1).text, length-append (take (E + P + 1) lines) on.0, length-take-le (E + P + 1) lines le);
        past = λ all spelled. omega (arith, all, length-drop E lines, over);
      } where
        same : E + P + 1 - 1 ≡ E + P
        same = omega arith

      pub read-all : length (drop E lines) ≤ P → AreFound IsValueFound space.params (drop E lines) xs
      read-all within =
          let n = found-length IsValueOf value_line space.params (take P (drop E lines)) xs valued in
          let whole : take P (drop E lines) ≡ drop E lines = ap (λ k. take k (drop E lines)) (omega (arith, within, n, length-take P (drop E lines))) ∙ take-length (drop E lines) in
          subst (λ ls. AreFound IsValueFound space.params ls xs) whole valued

-- ---- what is read

pub read-spells : (space : Space) (lines : List (List ℕ)) (full : Full) → AreFound IsChoiceFound space.extensions (take (length space.extensions) lines) full.extensions → AreFound IsValueFound space.params (drop (length space.extensions) lines) full.params → SpellsFull space lines full
read-spells space lines full chosen valued =
    let e = length space.extensions in
    record {
      within = record {
        choices = found-all IsChoiceOf choice_line space.extensions (take e lines) full.extensions chosen;
        values = found-all IsValueOf value_line space.params (drop e lines) full.params valued;
      };
      text = full-rows space full
          ∙ ap (λ ks. ks ++ rows IsValueOf value_line space.params full.params) (found-rows IsChoiceOf choice_line space.extensions (take e lines) full.extensions chosen)
          ∙ ap (λ ks. take e lines ++ ks) (found-rows IsValueOf value_line space.params (drop e lines) full.params valued)
          ∙ take-append-drop e lines;
    }

same-full : (a b : Full) → a.extensions ≡ b.extensions → a.params ≡ b.params → a ≡ b
same-full a b e p = ap (λ x. record { extensions = x; params = a.params }) e ∙ ap (λ x. record { extensions = b.extensions; params = x }) p

pub read-only : (space : Space) (lines : List (List ℕ)) (full other : Full) → AreFound IsChoiceFound space.extensions (take (length space.extensions) lines) full.extensions → AreFound IsValueFound space.params (drop (length space.extensions) lines) full.params → SpellsFull space lines other → full ≡ other
read-only space lines full other chosen valued spelled =
    let e = length space.extensions in
    let n = length-rows IsChoiceOf choice_line space.extensions other.extensions spelled.within.choices in
    let text : rows IsChoiceOf choice_line space.extensions other.extensions ++ rows IsValueOf value_line space.params other.params ≡ lines = sym (full-rows space other) ∙ spelled.text in
    let fronts : rows IsChoiceOf choice_line space.extensions other.extensions ≡ take e lines =
    sym (take-append_seam (rows IsChoiceOf choice_line space.extensions other.extensions) (rows IsValueOf value_line space.params other.params)) ∙ ap (λ k. take k (rows IsChoiceOf choice_line space.extensions other.extensions ++ rows IsValueOf value_line space.params other.params)) n ∙ ap (take e) text in
    let rests : rows IsValueOf value_line space.params other.params ≡ drop e lines =
    sym (drop-append_seam (rows IsChoiceOf choice_line space.extensions other.extensions) (rows IsValueOf value_line space.params other.params)) ∙ ap (λ k. drop k (rows IsChoiceOf choice_line space.extensions other.extensions ++ rows IsValueOf value_line space.params other.params)) n ∙ ap (drop e) text in
    same-full full other
    (found-only IsChoiceOf choice_line space.extensions (take e lines) full.extensions other.extensions chosen spelled.within.choices fronts)
    (found-only IsValueOf value_line space.params (drop e lines) full.params other.params valued spelled.within.values rests)

pub no-fault : (space : Space) (lines : List (List ℕ)) (number : ℕ) (full : Full) → IsFirstBadLine (SpellFull space) lines number → SpellsFull space lines full → ⊥
no-fault space lines number full bad spelled =
    ⊎_elim
    (λ (lt : length lines < number). bad.past (omega (arith, bad.last)) (full, spelled))
    (λ (le : number ≤ length lines). bad.at le (drop number lines, subst (SpellFull space) (sym (take-append-drop number lines)) (full, spelled)))
    (cases_lt (length lines) number)
