-- Heads in the order of the lines, and the proofs that grow from them.
use Rattle.std.proofs.Common.{◌≡◌, ℕ, zero, suc, ◌+◌, ◌-◌, ◌<◌, ◌≤◌, ◌^◌, nat_lt, Bool, true, false, ◌&&◌, List, [], ◌∷◌, ◌++◌, map, length, take, drop, replicate, get_or, Option, None, Some, IsTrue, refl, sym, ap, ◌∙◌, subst, arith, append_assoc, append-nil, ◌⊎◌, inl, inr, ⊎_elim}
use Rattle.std.specs.List.{flat_map, list_all}
use Rattle.std.specs.Option.{option_and_then}
use Rattle.std.proofs.lemmas.Bool.{cases_lt, ltb-true, false≢true}
use Rattle.std.proofs.lemmas.Option.{none-some, same_Some}
use Rattle.std.proofs.lemmas.List.{length-map, length-take, length-drop, take-append-drop, take_more, drop_more}
use Rattle.std.proofs.lemmas.List.Concat.{flat_map-append}
use Rattle.udb_base.specs.declared.refutations.Proof.{Proof}
use Rattle.udb_base.specs.declared.refutations.Proof.TheVariants as p
use Rattle.udb_base.specs.declared.refutations.Proof.TheFolds.{fold-Proof, fold-roll-Proof}
use Rattle.udb_base.specs.declared.spaces.Space.{Space}
use Rattle.udb_spec.specs.Lawful.{Lawful}
use Rattle.udb_spec.specs.ProofText.{split_text, has_place, proof_lines, is_named, is_sized, SpellsProof, SpellProof, GoesOn, IsFirstBadLine}
use Rattle.udb_spec.specs.ProofTextLaws.{lines-Leaf, lines-Split, lines-Cut, named-Leaf, named-Split, named-Cut, sized-Leaf, sized-Split, sized-Cut}
use Rattle.udb_spec.specs.RefutesLaws.{EachProof, induct-Proof}
use Rattle.udb_check.specs.declared.heads.Head.{Head}
use Rattle.udb_check.specs.declared.heads.Head.TheVariants.{Leaf, Split, Cut}
use Rattle.udb_check.specs.Heads.{head_text, is_head, arity, awaited_after, heads_step, heads_of, plant, grow, IsHeadOf, AreHeads}
use Rattle.udb_check.proofs.HeadLaws.{head-unique}

both-left : (a b : Bool) → (a && b) ≡ true → a ≡ true
both-left true b e = refl
both-left false b e = absurd (false≢true e)

both-right : (a b : Bool) → (a && b) ≡ true → b ≡ true
both-right true b e = e
both-right false b e = absurd (false≢true e)

both-true : (a b : Bool) → a ≡ true → b ≡ true → (a && b) ≡ true
both-true true b e f = f
both-true false b e f = absurd (false≢true e)

and-true : (b : Bool) → (b && true) ≡ b
and-true true = refl
and-true false = refl

and-false : (b : Bool) → (b && false) ≡ false
and-false true = refl
and-false false = refl

and-assoc : (a b c : Bool) → ((a && b) && c) ≡ (a && (b && c))
and-assoc true b c = refl
and-assoc false b c = refl

and-pairs : (a s b t : Bool) → ((a && s) && (b && t)) ≡ ((a && b) && (s && t))
and-pairs true true b t = refl
and-pairs true false b t = sym (and-false b)
and-pairs false s b t = refl

and-split : (h n a s : Bool) → ((h && n) && (a && s)) ≡ ((h && (n && a)) && s)
and-split true true a s = refl
and-split true false a s = refl
and-split false n a s = refl

and-cut : (h n a s b t : Bool) → ((h && n) && ((a && s) && (b && t))) ≡ ((h && (a && b)) && (n && (s && t)))
and-cut true true a s b t = and-pairs a s b t
and-cut true false a s b t = sym (and-false (a && b))
and-cut false n a s b t = refl

head-of : {X : Type 0} (x y : X) (xs ys : List X) → x ∷ xs ≡ y ∷ ys → x ≡ y
head-of x y xs ys e = ap (λ zs. get_or zs 0 x) e

plain-count : (n : ℕ) (more : List Head) → awaited_after (n + 0) more ≡ awaited_after n more
plain-count n more = let e : n + 0 ≡ n = omega arith in ap (λ m. awaited_after m more) e

-- ---- the heads of a proof, form by form

heads-Leaf : (number : ℕ) → heads_of (p.Leaf number) ≡ Leaf number ∷ []
unfolding heads_of
heads-Leaf number = ap (fold-Proof (List Head) heads_step) (sym (p.rolls-Leaf number)) ∙ fold-roll-Proof (List Head) heads_step _

flat-mapped : {X Y : Type 0} (f : X → List Y) (xs : List X) → flat_map (λ ys. ys) (map f xs) ≡ flat_map f xs
flat-mapped f [] = refl
flat-mapped f (x ∷ xs) = ap (λ ys. f x ++ ys) (flat-mapped f xs)

heads-Split : (param : Bool) (place : ℕ) (parts : List Proof) → heads_of (p.Split param place parts) ≡ Split param place (length parts) ∷ flat_map heads_of parts
unfolding heads_of
heads-Split param place parts =
    ap (fold-Proof (List Head) heads_step) (sym (p.rolls-Split param place parts)) ∙ fold-roll-Proof (List Head) heads_step _
    ∙ ap (λ n. Split param place n ∷ flat_map (λ ys. ys) (map heads_of parts)) (length-map parts heads_of)
    ∙ ap (λ ys. Split param place (length parts) ∷ ys) (flat-mapped heads_of parts)

heads-Cut : (place at : ℕ) (below from : Proof) → heads_of (p.Cut place at below from) ≡ Cut place at ∷ heads_of below ++ heads_of from
unfolding heads_of
heads-Cut place at below from = ap (fold-Proof (List Head) heads_step) (sym (p.rolls-Cut place at below from)) ∙ fold-roll-Proof (List Head) heads_step _

-- ---- their texts are the lines

map-append : {X Y : Type 0} (f : X → Y) (xs ys : List X) → map f (xs ++ ys) ≡ map f xs ++ map f ys
map-append f [] ys = refl
map-append f (x ∷ xs) ys = ap (λ zs. f x ∷ zs) (map-append f xs ys)

all-append : {X : Type 0} (f : X → Bool) (xs ys : List X) → list_all f (xs ++ ys) ≡ (list_all f xs && list_all f ys)
all-append f [] ys = refl
all-append f (x ∷ xs) ys = ap (λ b. f x && b) (all-append f xs ys) ∙ sym (and-assoc (f x) (list_all f xs) (list_all f ys))

module _ (space : Space) where
  abbrev T : List Head → List (List ℕ)
  T = map (head_text space)

  abbrev Lines : Proof → Type 0
  Lines x = map (head_text space) (heads_of x) ≡ proof_lines space x

  parts-lines : (parts : List Proof) → EachProof Lines parts → T (flat_map heads_of parts) ≡ flat_map (proof_lines space) parts
  parts-lines [] each = refl
  parts-lines (x ∷ xs) each = map-append (head_text space) (heads_of x) (flat_map heads_of xs) ∙ ap (λ ys. ys ++ T (flat_map heads_of xs)) each.0 ∙ ap (λ ys. proof_lines space x ++ ys) (parts-lines xs each.1)

  pub heads-lines : (x : Proof) → Lines x
  heads-lines = induct-Proof Lines (record {
    leaf = λ number. ap T (heads-Leaf number) ∙ sym (lines-Leaf space number);
    split = λ param place parts each. ap T (heads-Split param place parts) ∙ ap (λ ys. split_text space param place (length parts) ∷ ys) (parts-lines parts each) ∙ sym (lines-Split space param place parts);
    cut = λ place at below from hb hf. ap T (heads-Cut place at below from) ∙ ap (λ ys. head_text space (Cut place at) ∷ ys) (map-append (head_text space) (heads_of below) (heads_of from) ∙ ap (λ ys. ys ++ T (heads_of from)) hb ∙ ap (λ ys. proof_lines space below ++ ys) hf) ∙ sym (lines-Cut space place at below from);
  })

  -- ---- a proof is named and sized exactly where its heads are

  abbrev Fit : Proof → Type 0
  Fit x = list_all (is_head space) (heads_of x) ≡ (is_named space x && is_sized x)

  parts-fit : (parts : List Proof) → EachProof Fit parts → list_all (is_head space) (flat_map heads_of parts) ≡ (list_all (is_named space) parts && list_all is_sized parts)
  parts-fit [] each = refl
  parts-fit (x ∷ xs) each =
      all-append (is_head space) (heads_of x) (flat_map heads_of xs) ∙ ap (λ b. b && list_all (is_head space) (flat_map heads_of xs)) each.0 ∙ ap (λ b. (is_named space x && is_sized x) && b) (parts-fit xs each.1)
      ∙ and-pairs (is_named space x) (is_sized x) (list_all (is_named space) xs) (list_all is_sized xs)

  pub heads-fit : (x : Proof) → Fit x
  heads-fit = induct-Proof Fit (record {
    leaf = λ number. ap (list_all (is_head space)) (heads-Leaf number) ∙ and-true (nat_lt number (2 ^ 32)) ∙ sym (ap (λ b. b && is_sized (p.Leaf number)) (named-Leaf space number) ∙ sized-Leaf number);
    split = λ param place parts each.
        ap (list_all (is_head space)) (heads-Split param place parts)
        ∙ ap (λ b. (has_place space param place && nat_lt (length parts) (2 ^ 32)) && b) (parts-fit parts each)
        ∙ and-split (has_place space param place) (nat_lt (length parts) (2 ^ 32)) (list_all (is_named space) parts) (list_all is_sized parts)
        ∙ sym (ap (λ b. b && is_sized (p.Split param place parts)) (named-Split space param place parts) ∙ ap (λ b. (has_place space param place && (nat_lt (length parts) (2 ^ 32) && list_all (is_named space) parts)) && b) (sized-Split param place parts));
    cut = λ place at below from hb hf.
        ap (list_all (is_head space)) (heads-Cut place at below from)
        ∙ ap (λ b. (has_place space true place && nat_lt at (2 ^ 64)) && b) (all-append (is_head space) (heads_of below) (heads_of from) ∙ ap (λ b. b && list_all (is_head space) (heads_of from)) hb ∙ ap (λ b. (is_named space below && is_sized below) && b) hf)
        ∙ and-cut (has_place space true place) (nat_lt at (2 ^ 64)) (is_named space below) (is_sized below) (is_named space from) (is_sized from)
        ∙ sym (ap (λ b. b && is_sized (p.Cut place at below from)) (named-Cut space place at below from) ∙ ap (λ b. (has_place space true place && (is_named space below && is_named space from)) && b) (sized-Cut place at below from));
  })

-- ---- a proof is one of those that are awaited

abbrev Counted : Proof → Type 0
Counted x = (n : ℕ) (more : List Head) → awaited_after (suc n) (heads_of x ++ more) ≡ awaited_after n more

parts-counted : (parts : List Proof) → EachProof Counted parts → (n : ℕ) (more : List Head) → awaited_after (n + length parts) (flat_map heads_of parts ++ more) ≡ awaited_after n more
parts-counted [] each n more = let e : n + 0 ≡ n = omega arith in ap (λ m. awaited_after m more) e
parts-counted (x ∷ xs) each n more =
    let e : n + suc (length xs) ≡ suc (n + length xs) = omega arith in
    ap (λ m. awaited_after m ((heads_of x ++ flat_map heads_of xs) ++ more)) e ∙ ap (awaited_after (suc (n + length xs))) (append_assoc (heads_of x) (flat_map heads_of xs) more)
    ∙ each.0 (n + length xs) (flat_map heads_of xs ++ more) ∙ parts-counted xs each.1 n more

counted : (x : Proof) → Counted x
counted = induct-Proof Counted (record {
  leaf = λ number n more. ap (λ hs. awaited_after (suc n) (hs ++ more)) (heads-Leaf number) ∙ plain-count n more;
  split = λ param place parts each n more. ap (λ hs. awaited_after (suc n) (hs ++ more)) (heads-Split param place parts) ∙ parts-counted parts each n more;
  cut = λ place at below from hb hf n more.
      let e : n + 2 ≡ suc (suc n) = omega arith in
      ap (λ hs. awaited_after (suc n) (hs ++ more)) (heads-Cut place at below from) ∙ ap (λ m. awaited_after m ((heads_of below ++ heads_of from) ++ more)) e
      ∙ ap (awaited_after (suc (suc n))) (append_assoc (heads_of below) (heads_of from) more) ∙ hb (suc n) (heads_of from ++ more) ∙ hf n more;
})

-- ---- heads grow into the proof that they are of

abbrev Grows : Proof → Type 0
Grows x = (more : List Head) → grow (heads_of x ++ more) ≡ x ∷ grow more

take-front : {X : Type 0} (xs ys : List X) → take (length xs) (xs ++ ys) ≡ xs
take-front [] ys = refl
take-front (x ∷ xs) ys = ap (λ zs. x ∷ zs) (take-front xs ys)

drop-front : {X : Type 0} (xs ys : List X) → drop (length xs) (xs ++ ys) ≡ ys
drop-front [] ys = refl
drop-front (x ∷ xs) ys = drop-front xs ys

parts-grow : (parts : List Proof) → EachProof Grows parts → (more : List Head) → grow (flat_map heads_of parts ++ more) ≡ parts ++ grow more
parts-grow [] each more = refl
parts-grow (x ∷ xs) each more = ap grow (append_assoc (heads_of x) (flat_map heads_of xs) more) ∙ each.0 (flat_map heads_of xs ++ more) ∙ ap (λ ys. x ∷ ys) (parts-grow xs each.1 more)

pub grows : (x : Proof) → Grows x
grows = induct-Proof Grows (record {
  leaf = λ number more. ap (λ hs. grow (hs ++ more)) (heads-Leaf number);
  split = λ param place parts each more.
      ap (λ hs. grow (hs ++ more)) (heads-Split param place parts) ∙ ap (plant (Split param place (length parts))) (parts-grow parts each more)
      ∙ ap (λ ys. p.Split param place ys ∷ drop (length parts) (parts ++ grow more)) (take-front parts (grow more)) ∙ ap (λ ys. p.Split param place parts ∷ ys) (drop-front parts (grow more));
  cut = λ place at below from hb hf more.
      ap (λ hs. grow (hs ++ more)) (heads-Cut place at below from) ∙ ap (λ hs. plant (Cut place at) (grow hs)) (append_assoc (heads_of below) (heads_of from) more)
      ∙ ap (plant (Cut place at)) (hb (heads_of from ++ more) ∙ ap (λ ys. below ∷ ys) (hf more));
})

-- ---- and those that are awaited grow from what is left

planted : (head : Head) (n : ℕ) (ps : List Proof) (heads : List Head) → length ps ≡ n + arity head → flat_map heads_of ps ≡ heads → (length (plant head ps) ≡ suc n) × (flat_map heads_of (plant head ps) ≡ head ∷ heads)
planted (Leaf number) n ps heads len is = (omega (arith, len), ap (λ hs. hs ++ flat_map heads_of ps) (heads-Leaf number) ∙ ap (λ hs. Leaf number ∷ hs) is)
planted (Split param place cells) n ps heads len is =
    let few : length (take cells ps) ≡ cells = omega (arith, length-take cells ps, len) in
    let rest : length (drop cells ps) ≡ n = omega (arith, length-drop cells ps, len) in (
      omega (arith, rest),
      ap (λ hs. hs ++ flat_map heads_of (drop cells ps)) (heads-Split param place (take cells ps))
          ∙ ap (λ m. Split param place m ∷ flat_map heads_of (take cells ps) ++ flat_map heads_of (drop cells ps)) few
          ∙ ap (λ hs. Split param place cells ∷ hs) (sym (flat_map-append heads_of (take cells ps) (drop cells ps)) ∙ ap (flat_map heads_of) (take-append-drop cells ps) ∙ is),
    )
planted (Cut place at) n [] heads len is = absurd (omega arith)
planted (Cut place at) n (x ∷ []) heads len is = absurd (omega arith)
planted (Cut place at) n (x ∷ y ∷ ps) heads len is =
    (omega arith, ap (λ hs. hs ++ flat_map heads_of ps) (heads-Cut place at x y) ∙ ap (λ hs. Cut place at ∷ hs) (append_assoc (heads_of x) (heads_of y) (flat_map heads_of ps) ∙ is))

pub grown : (n : ℕ) (heads : List Head) → awaited_after n heads ≡ Some 0 → (length (grow heads) ≡ n) × (flat_map heads_of (grow heads) ≡ heads)
grown n [] e = (sym (same_Some n 0 e), refl)
grown zero (head ∷ heads) e = absurd (none-some 0 e)
grown (suc n) (head ∷ heads) e = let rest = grown (n + arity head) heads e in planted head n (grow heads) heads rest.0 rest.1

-- the one proof of heads that are one
pub one-grown : (space : Space) (heads : List Head) → IsTrue (list_all (is_head space) heads) → awaited_after 1 heads ≡ Some 0 → (x : Proof) × (grow heads ≡ x ∷ []) × SpellsProof space (map (head_text space) heads) x
one-grown space heads fit whole = by_length (grow heads) refl (grown 1 heads whole) where
  by_length : (ps : List Proof) → grow heads ≡ ps → (length (grow heads) ≡ 1) × (flat_map heads_of (grow heads) ≡ heads) → (x : Proof) × (grow heads ≡ x ∷ []) × SpellsProof space (map (head_text space) heads) x
  by_length [] is both = absurd (omega (arith, ap length is, both.0))
  by_length (x ∷ y ∷ ps) is both = absurd (omega (arith, ap length is, both.0))
  by_length (x ∷ []) is both =
      let own : heads_of x ≡ heads = sym (append-nil (heads_of x)) ∙ sym (ap (flat_map heads_of) is) ∙ both.1 in
      let fits : IsTrue (is_named space x && is_sized x) = sym (heads-fit space x) ∙ ap (list_all (is_head space)) own ∙ fit in
      (x, is, record { named = both-left (is_named space x) (is_sized x) fits; sized = both-right (is_named space x) (is_sized x) fits; text = sym (heads-lines space x) ∙ ap (map (head_text space)) own })

-- a spelled proof is that of its heads
pub own-heads : (space : Space) (lines : List (List ℕ)) (x : Proof) → SpellsProof space lines x → AreHeads space lines (heads_of x)
own-heads space lines x spelled = record {
  text = heads-lines space x ∙ spelled.text;
  fit = heads-fit space x ∙ both-true (is_named space x) (is_sized x) spelled.named spelled.sized;
  whole = ap (awaited_after 1) (sym (append-nil (heads_of x))) ∙ counted x 0 [];
}

-- ---- lines that go on

awaited-append : (n : ℕ) (xs ys : List Head) → awaited_after n (xs ++ ys) ≡ option_and_then (λ m. awaited_after m ys) (awaited_after n xs)
awaited-append n [] ys = refl
awaited-append zero (x ∷ xs) ys = refl
awaited-append (suc n) (x ∷ xs) ys = awaited-append (n + arity x) xs ys

leaves-close : (n : ℕ) → awaited_after n (replicate n (Leaf 0)) ≡ Some 0
leaves-close zero = refl
leaves-close (suc n) = let e : n + 0 ≡ n = omega arith in ap (λ m. awaited_after m (replicate n (Leaf 0))) e ∙ leaves-close n

leaves-fit : (space : Space) (n : ℕ) → IsTrue (list_all (is_head space) (replicate n (Leaf 0)))
leaves-fit space zero = refl
leaves-fit space (suc n) = leaves-fit space n

-- heads after which proofs are awaited, or none, are the front of a proof
pub fronts-go-on : (space : Space) (heads : List Head) (n : ℕ) → IsTrue (list_all (is_head space) heads) → awaited_after 1 heads ≡ Some n → GoesOn (SpellProof space) (map (head_text space) heads)
fronts-go-on space heads n fit e =
    let more = replicate n (Leaf 0) in
    let fits : IsTrue (list_all (is_head space) (heads ++ more)) = all-append (is_head space) heads more ∙ both-true (list_all (is_head space) heads) (list_all (is_head space) more) fit (leaves-fit space n) in
    let whole : awaited_after 1 (heads ++ more) ≡ Some 0 = awaited-append 1 heads more ∙ ap (option_and_then (λ m. awaited_after m more)) e ∙ leaves-close n in
    let one = one-grown space (heads ++ more) fits whole in
    (map (head_text space) more, (one.0, subst (λ ls. SpellsProof space ls one.0) (map-append (head_text space) heads more) one.2))

-- ---- and those that don't

-- the parts of a mapped list
mapped-parts : (space : Space) (heads : List Head) (xs : List (List ℕ)) (line : List ℕ) (ys : List (List ℕ)) → map (head_text space) heads ≡ xs ++ line ∷ ys → IsTrue (list_all (is_head space) heads) → (before : List Head) × (head : Head) × (rest : List Head) × (heads ≡ before ++ head ∷ rest) × (map (head_text space) before ≡ xs) × (head_text space head ≡ line) × IsTrue (list_all (is_head space) before) × IsTrue (is_head space head)
mapped-parts space [] [] line ys e fit = absurd (omega (arith, ap length e))
mapped-parts space [] (x ∷ xs) line ys e fit = absurd (omega (arith, ap length e))
mapped-parts space (h ∷ hs) [] line ys e fit = ([], h, hs, refl, refl, head-of (head_text space h) line (map (head_text space) hs) ys e, refl, both-left (is_head space h) (list_all (is_head space) hs) fit)
mapped-parts space (h ∷ hs) (x ∷ xs) line ys e fit =
    let rest = mapped-parts space hs xs line ys (ap (drop 1) e) (both-right (is_head space h) (list_all (is_head space) hs) fit) in
    (h ∷ rest.0, rest.1, rest.2, ap (λ zs. h ∷ zs) rest.3, ap (λ z. z ∷ map (head_text space) rest.0) (head-of (head_text space h) x (map (head_text space) hs) (xs ++ line ∷ ys) e) ∙ ap (λ zs. x ∷ zs) rest.4, rest.5, both-true (is_head space h) (list_all (is_head space) rest.0) (both-left (is_head space h) (list_all (is_head space) hs) fit) rest.6, rest.7)

same-heads : (space : Space) → Lawful space → (xs ys : List Head) → IsTrue (list_all (is_head space) xs) → IsTrue (list_all (is_head space) ys) → map (head_text space) xs ≡ map (head_text space) ys → xs ≡ ys
same-heads space lawful [] [] fx fy e = refl
same-heads space lawful [] (y ∷ ys) fx fy e = absurd (omega (arith, ap length e))
same-heads space lawful (x ∷ xs) [] fx fy e = absurd (omega (arith, ap length e))
same-heads space lawful (x ∷ xs) (y ∷ ys) fx fy e =
    let first : x ≡ y = head-unique space lawful x y (both-left (is_head space x) (list_all (is_head space) xs) fx) (both-left (is_head space y) (list_all (is_head space) ys) fy) (head-of (head_text space x) (head_text space y) (map (head_text space) xs) (map (head_text space) ys) e) in
    ap (λ z. z ∷ xs) first ∙ ap (λ zs. y ∷ zs) (same-heads space lawful xs ys (both-right (is_head space x) (list_all (is_head space) xs) fx) (both-right (is_head space y) (list_all (is_head space) ys) fy) (ap (drop 1) e))

-- a line that is of no head ends it
pub bad-line : (space : Space) (xs : List (List ℕ)) (line : List ℕ) → IsHeadOf space line None → GoesOn (SpellProof space) (xs ++ line ∷ []) → ⊥
bad-line space xs line none goes =
    let own = own-heads space ((xs ++ line ∷ []) ++ goes.0) goes.1.0 goes.1.1 in
    let parts = mapped-parts space (heads_of goes.1.0) xs line goes.0 (own.text ∙ append_assoc xs (line ∷ []) goes.0) own.fit in
    none parts.1 parts.7 parts.5

-- and so does a line where no proof is awaited
pub extra-line : (space : Space) → Lawful space → (heads : List Head) (line : List ℕ) → IsTrue (list_all (is_head space) heads) → awaited_after 1 heads ≡ Some 0 → GoesOn (SpellProof space) (map (head_text space) heads ++ line ∷ []) → ⊥
extra-line space lawful heads line fit whole goes =
    let xs = map (head_text space) heads in
    let own = own-heads space ((xs ++ line ∷ []) ++ goes.0) goes.1.0 goes.1.1 in
    let parts = mapped-parts space (heads_of goes.1.0) xs line goes.0 (own.text ∙ append_assoc xs (line ∷ []) goes.0) own.fit in
    let same : parts.0 ≡ heads = same-heads space lawful parts.0 heads parts.6 fit parts.4 in
    let count : awaited_after 1 (heads_of goes.1.0) ≡ awaited_after 0 (parts.1 ∷ parts.2) =
    ap (awaited_after 1) (parts.3 ∙ ap (λ zs. zs ++ parts.1 ∷ parts.2) same) ∙ awaited-append 1 heads (parts.1 ∷ parts.2) ∙ ap (option_and_then (λ m. awaited_after m (parts.1 ∷ parts.2))) whole in
    none-some 0 (sym count ∙ own.whole)

-- heads after which a proof is awaited are no whole proof
pub missing-line : (space : Space) → Lawful space → (heads : List Head) (n : ℕ) → IsTrue (list_all (is_head space) heads) → awaited_after 1 heads ≡ Some (suc n) → SpellProof space (map (head_text space) heads) → ⊥
missing-line space lawful heads n fit e spelled =
    let own = own-heads space (map (head_text space) heads) spelled.0 spelled.1 in
    let same : heads_of spelled.0 ≡ heads = same-heads space lawful (heads_of spelled.0) heads own.fit fit own.text in
    let none : suc n ≡ 0 = same_Some (suc n) 0 (sym e ∙ ap (awaited_after 1) (sym same) ∙ own.whole) in
    absurd (omega arith)

take_length : {X : Type 0} (xs : List X) → take (length xs) xs ≡ xs
take_length [] = refl
take_length (x ∷ xs) = ap (λ ys. x ∷ ys) (take_length xs)

-- ---- the number of the first bad line, as a reader meets it

module _ (space : Space) (lines : List (List ℕ)) (heads : List Head) (at n : ℕ) (text : map (head_text space) heads ≡ take at lines) (fit : IsTrue (list_all (is_head space) heads)) (count : awaited_after 1 heads ≡ Some n) where
  front-goes-on : GoesOn (SpellProof space) (take at lines)
  front-goes-on = subst (GoesOn (SpellProof space)) text (fronts-go-on space heads n fit count)

  -- at a line with which no proof goes on
  bad-at : (line : List ℕ) → at < length lines → line ≡ get_or lines at line → (GoesOn (SpellProof space) (take at lines ++ line ∷ []) → ⊥) → IsFirstBadLine (SpellProof space) lines (at + 1)
  bad-at line lt is bad =
      let same : at ≡ at + 1 - 1 = omega arith in
      let more : take (at + 1) lines ≡ take at lines ++ line ∷ [] = take_more lines at line lt ∙ ap (λ l. take at lines ++ l ∷ []) (sym is) in
      record {
        first = omega arith;
        last = omega arith;
        before = subst (λ m. GoesOn (SpellProof space) (take m lines)) same front-goes-on;
        at = λ le goes. bad (subst (GoesOn (SpellProof space)) more goes);
        past = λ e spelled. absurd (omega (arith, e));
      }

  pub unread-at : (line shown : List ℕ) → at < length lines → shown ≡ get_or lines at shown → line ≡ shown → IsHeadOf space line None → IsFirstBadLine (SpellProof space) lines (at + 1)
  unread-at line shown lt is same none = bad-at shown lt is (bad-line space (take at lines) shown (subst (λ l. IsHeadOf space l None) same none))

  pub extra-at : Lawful space → (line : List ℕ) → at < length lines → line ≡ get_or lines at line → n ≡ 0 → IsFirstBadLine (SpellProof space) lines (at + 1)
  extra-at lawful line lt is zero_ = bad-at line lt is (λ goes. extra-line space lawful heads line fit (count ∙ ap Some zero_) (subst (λ xs. GoesOn (SpellProof space) (xs ++ line ∷ [])) (sym text) goes))

  -- past the last line, where a proof is still awaited
  pub missing-at : Lawful space → at ≡ length lines → 0 < n → IsFirstBadLine (SpellProof space) lines (length lines + 1)
  missing-at lawful end some =
      let same : at ≡ length lines + 1 - 1 = omega (arith, end) in
      let all_lines : take at lines ≡ lines = ap (λ m. take m lines) end ∙ take_length lines in
      let more : n ≡ suc (n - 1) = omega arith in
      record {
        first = omega arith;
        last = omega arith;
        before = subst (λ m. GoesOn (SpellProof space) (take m lines)) same front-goes-on;
        at = λ le goes. absurd (omega (arith, le));
        past = λ e spelled. missing-line space lawful heads (n - 1) fit (count ∙ ap Some more) (subst (SpellProof space) (sym (text ∙ all_lines)) spelled);
      }

  -- one more line
  pub next-text : (head : Head) (line shown : List ℕ) → at < length lines → shown ≡ get_or lines at shown → line ≡ shown → head_text space head ≡ line → map (head_text space) (heads ++ head ∷ []) ≡ take (at + 1) lines
  next-text head line shown lt is same h = map-append (head_text space) heads (head ∷ []) ∙ ap (λ ls. ls ++ head_text space head ∷ []) text ∙ ap (λ l. take at lines ++ l ∷ []) (h ∙ same ∙ is) ∙ sym (take_more lines at shown lt)

  pub next-fit : (head : Head) → IsTrue (is_head space head) → IsTrue (list_all (is_head space) (heads ++ head ∷ []))
  next-fit head h = all-append (is_head space) heads (head ∷ []) ∙ both-true (list_all (is_head space) heads) (is_head space head && true) fit (and-true (is_head space head) ∙ h)

  pub next-count : (head : Head) → 0 < n → awaited_after 1 (heads ++ head ∷ []) ≡ Some (n - 1 + arity head)
  next-count head some =
      let more : n ≡ suc (n - 1) = omega arith in
      awaited-append 1 heads (head ∷ []) ∙ ap (option_and_then (λ m. awaited_after m (head ∷ []))) (count ∙ ap Some more)

-- ---- a step of growth, from the last head to the first

-- what a head asks of the proofs after it
pub room-for : (heads : List Head) (at : ℕ) (head : Head) → awaited_after 1 heads ≡ Some 0 → at < length heads → head ≡ get_or heads at head → arity head ≤ length (grow (drop (at + 1) heads))
room-for heads at head whole lt is = by_front (awaited_after 1 (take at heads)) refl where
  parts : heads ≡ take at heads ++ head ∷ drop (at + 1) heads
  parts = sym (take-append-drop at heads) ∙ ap (λ xs. take at heads ++ xs) (drop_more heads at head lt ∙ ap (λ x. x ∷ drop (at + 1) heads) (sym is))

  by_front : (o : Option ℕ) → awaited_after 1 (take at heads) ≡ o → arity head ≤ length (grow (drop (at + 1) heads))
  by_front None e = absurd (none-some 0 (ap (option_and_then (λ m. awaited_after m (head ∷ drop (at + 1) heads))) (sym e) ∙ sym (awaited-append 1 (take at heads) (head ∷ drop (at + 1) heads)) ∙ ap (awaited_after 1) (sym parts) ∙ whole))
  by_front (Some zero) e = absurd (none-some 0 (ap (option_and_then (λ m. awaited_after m (head ∷ drop (at + 1) heads))) (sym e) ∙ sym (awaited-append 1 (take at heads) (head ∷ drop (at + 1) heads)) ∙ ap (awaited_after 1) (sym parts) ∙ whole))
  by_front (Some (suc m)) e =
      let rest = grown (m + arity head) (drop (at + 1) heads) (ap (option_and_then (λ m. awaited_after m (head ∷ drop (at + 1) heads))) (sym e) ∙ sym (awaited-append 1 (take at heads) (head ∷ drop (at + 1) heads)) ∙ ap (awaited_after 1) (sym parts) ∙ whole) in
      omega (arith, rest.0)

pub grow-step : (heads : List Head) (at : ℕ) (head : Head) → at < length heads → head ≡ get_or heads at head → plant head (grow (drop (at + 1) heads)) ≡ grow (drop at heads)
grow-step heads at head lt is = sym (ap grow (drop_more heads at head lt ∙ ap (λ x. x ∷ drop (at + 1) heads) (sym is)))

-- ---- the last step

pub grown-none : (heads : List Head) → awaited_after 1 heads ≡ Some 0 → [] ≡ grow heads → ⊥
grown-none heads whole e = let one = grown 1 heads whole in omega (arith, one.0, ap length e)

pub grown-one : (heads : List Head) (x : Proof) (rest : List Proof) → awaited_after 1 heads ≡ Some 0 → x ∷ rest ≡ grow heads → grow heads ≡ x ∷ []
grown-one heads x [] whole e = sym e
grown-one heads x (y ∷ rest) whole e = let one = grown 1 heads whole in absurd (omega (arith, one.0, ap length e))

-- ---- what a reader of proofs answers

pub whole-proof : (space : Space) (lines : List (List ℕ)) (heads : List Head) (x : Proof) → AreHeads space lines heads → grow heads ≡ x ∷ [] → SpellsProof space lines x
whole-proof space lines heads x are is =
    let one = one-grown space heads are.fit are.whole in
    let same : one.0 ≡ x = head-of one.0 x [] [] (sym one.1 ∙ is) in
    subst (SpellsProof space lines) same (subst (λ ls. SpellsProof space ls one.0) are.text one.2)

pub only-proof : (space : Space) (lines : List (List ℕ)) (heads : List Head) (x y : Proof) → Lawful space → AreHeads space lines heads → grow heads ≡ x ∷ [] → SpellsProof space lines y → y ≡ x
only-proof space lines heads x y lawful are is spelled =
    let own = own-heads space lines y spelled in
    let same : heads_of y ≡ heads = same-heads space lawful (heads_of y) heads own.fit are.fit (own.text ∙ sym are.text) in
    head-of y x [] [] (sym (grows y []) ∙ ap grow (append-nil (heads_of y) ∙ same) ∙ is)

pub no-fault : (space : Space) (lines : List (List ℕ)) (number : ℕ) (y : Proof) → IsFirstBadLine (SpellProof space) lines number → SpellsProof space lines y → ⊥
no-fault space lines number y bad spelled =
    ⊎_elim
    (λ (le : number ≤ length lines). bad.at le (drop number lines, subst (SpellProof space) (sym (take-append-drop number lines)) (y, spelled)))
    (λ (gt : length lines + 1 ≤ number). bad.past (omega (arith, bad.last)) (y, spelled))
    (within-or-past number (length lines)) where
      within-or-past : (m n : ℕ) → (m ≤ n) ⊎ (n + 1 ≤ m)
      within-or-past m n = ⊎_elim (λ (lt : n < m). inr (omega arith)) (λ (le : m ≤ n). inl le) (cases_lt n m)

pub arity-small : (space : Space) (head : Head) → IsTrue (is_head space head) → arity head < 2 ^ 32
arity-small space (Leaf number) h = omega arith
arity-small space (Split param place cells) h = ltb-true cells (2 ^ 32) (both-right (has_place space param place) (nat_lt cells (2 ^ 32)) h)
arity-small space (Cut place at) h = omega arith
