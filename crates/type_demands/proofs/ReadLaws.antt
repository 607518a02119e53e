-- A width has one number in full configurations that agree on the parameters that it depends on.
use Rattle.std.proofs.Common.{◌≡◌, ◌∙◌, ◌⊎◌, inl, inr, ℕ, ◌==◌, ◌||◌, ◌&&◌, Bool, true, false, List, [], ◌∷◌, map, Option, None, Some, arith, refl, sym, ap, subst}
use Rattle.std.specs.Prelude.{codes, pos, if◌then◌else◌, int_le}
use Rattle.std.specs.Cmp.Lexicographic.{bytes_decides}
use Rattle.std.proofs.lemmas.Bool.{false≢true, eqb-true, eq-eqb}
use Rattle.std.proofs.lemmas.Int.{ints, clamps}
use Rattle.udb_base.specs.declared.names.Name.{Name}
use Rattle.udb_base.specs.declared.conditions.Value.{Value}
use Rattle.udb_base.specs.declared.conditions.Value.TheVariants.{Flag, Number, Word}
use Rattle.udb_base.specs.declared.spaces.ParamSpace.{ParamSpace}
use Rattle.udb_base.specs.declared.spaces.Space.{Space}
use Rattle.udb_base.specs.declared.spaces.Full.{Full}
use Rattle.udb_spec.specs.Conditions.{same_bytes, value_among, value_of}
use Rattle.udb_spec.specs.Spaces.{number_or, mxlen}
use Rattle.idl_tree.specs.declared.widths.Width.{Width}
use Rattle.idl_tree.specs.declared.widths.Width.TheVariants as w
use Rattle.idl_tree.specs.WidthLaws.{fold-Width-Number, fold-Width-Word, fold-Width-Plus, fold-Width-Minus, fold-Width-Times, fold-Width-Max, fold-Width-Bits, induct-Width}
use Rattle.idl_width.specs.declared.scopes.BitsOf.{BitsOf}
use Rattle.idl_width.specs.Numbers.{clip, is_named, bits_for, bits_among, parameter_number, width_number}
use Rattle.idl_width.specs.NumberLaws.{number-Number, number-Word, number-Plus, number-Minus, number-Times, number-Max, number-Bits}
use Rattle.idl_spec.specs.Demands.{Demand, in_range, in_slice, defined, present}
use Rattle.type_demands.specs.Reads.{reads, reads_step, demand_reads, widths_meet, Alike, Agrees, full_with}

module _ (name : List ℕ) where
  pub reads-Number : (n : ℕ) → reads name (w.Number n) ≡ false
  unfolding reads
  reads-Number = fold-Width-Number Bool (reads_step name)

  pub reads-Word : (word : Name) → reads name (w.Word word) ≡ same_bytes word name
  unfolding reads
  reads-Word = fold-Width-Word Bool (reads_step name)

  pub reads-Plus : (a z : Width) → reads name (w.Plus a z) ≡ (reads name a || reads name z)
  unfolding reads
  reads-Plus = fold-Width-Plus Bool (reads_step name)

  pub reads-Minus : (a z : Width) → reads name (w.Minus a z) ≡ (reads name a || reads name z)
  unfolding reads
  reads-Minus = fold-Width-Minus Bool (reads_step name)

  pub reads-Times : (a z : Width) → reads name (w.Times a z) ≡ (reads name a || reads name z)
  unfolding reads
  reads-Times = fold-Width-Times Bool (reads_step name)

  pub reads-Max : (a z : Width) → reads name (w.Max a z) ≡ (reads name a || reads name z)
  unfolding reads
  reads-Max = fold-Width-Max Bool (reads_step name)

  pub reads-Bits : (csr : Option Name) (word : Name) → reads name (w.Bits csr word) ≡ same_bytes (codes "MXLEN") name
  unfolding reads
  reads-Bits = fold-Width-Bits Bool (reads_step name)

pub ruleset read_laws = (reads-Number, reads-Word, reads-Plus, reads-Minus, reads-Times, reads-Max, reads-Bits)

pub same-self : (a : List ℕ) → same_bytes a a ≡ true
same-self a = (bytes_decides a a).1 refl

or-first : (a b : Bool) → a ≡ true → (a || b) ≡ true
or-first true b h = refl
or-first false b h = absurd (false≢true h)

or-second : (a b : Bool) → b ≡ true → (a || b) ≡ true
or-second true b h = refl
or-second false b h = h

-- ---- `$bits` asks only whether MXLEN is 64

widths-alike : (n m : ℕ) → Alike n m → (n == 64) ≡ (m == 64)
widths-alike n m h = by (n == 64) (m == 64) refl refl where
  to-64 : (k : ℕ) → clip (pos 64) ≡ clip (pos k) → k ≡ 64
  to-64 k h = omega (arith, ints, clamps)

  by : (a b : Bool) → (n == 64) ≡ a → (m == 64) ≡ b → a ≡ b
  by true true e f = refl
  by false false e f = refl
  by true false e f = absurd (false≢true (sym f ∙ eq-eqb m 64 (to-64 m (subst (λ k. Alike k m) (eqb-true n 64 e) h))))
  by false true e f = absurd (false≢true (sym e ∙ eq-eqb n 64 (to-64 n (subst (λ k. Alike k n) (eqb-true m 64 f) (sym h)))))

without-default : (o : Option Value) → (number_or 32 o == 64) ≡ (number_or 0 o == 64)
without-default None = refl
without-default (Some (Flag b)) = refl
without-default (Some (Number n)) = refl
without-default (Some (Word t)) = refl

bits-alike : (r q : ℕ) (scope : List BitsOf) (csr : Option Name) (name : Name) → (r == 64) ≡ (q == 64) → bits_among r scope csr name ≡ bits_among q scope csr name
bits-alike r q [] csr name h = refl
bits-alike r q (one ∷ scope) csr name h = by (is_named one csr name) (bits-alike r q scope csr name h) where
  by : (b : Bool) → bits_among r scope csr name ≡ bits_among q scope csr name → (if b then bits_for r one else bits_among r scope csr name) ≡ (if b then bits_for q one else bits_among q scope csr name)
  by true rest = ap (λ b. if b then one.rv64 else one.rv32) h
  by false rest = rest

-- ---- widths

module _ (space : Space) (f g : Full) (scope : List BitsOf) where
  abbrev AgreeOn : Width → Type 0
  AgreeOn x = (name : List ℕ) → reads name x ≡ true → Alike (parameter_number space f name) (parameter_number space g name)

  abbrev HasOneNumber : Width → Type 0
  HasOneNumber x = AgreeOn x → width_number space f scope x ≡ width_number space g scope x

  word-case : (name : Name) → HasOneNumber (w.Word name)
  word-case name agree =
      number-Word space f scope name ∙ (agree name (reads-Word name name ∙ same-self name) ∙ sym (number-Word space g scope name))

  plus-case : (a z : Width) → HasOneNumber a → HasOneNumber z → HasOneNumber (w.Plus a z)
  plus-case a z one other agree =
      let x = one (λ name r. agree name (reads-Plus name a z ∙ or-first _ _ r)) in
      let y = other (λ name r. agree name (reads-Plus name a z ∙ or-second _ _ r)) in
      let s = number-Plus space f scope a z in
      let t = number-Plus space g scope a z in cc

  minus-case : (a z : Width) → HasOneNumber a → HasOneNumber z → HasOneNumber (w.Minus a z)
  minus-case a z one other agree =
      let x = one (λ name r. agree name (reads-Minus name a z ∙ or-first _ _ r)) in
      let y = other (λ name r. agree name (reads-Minus name a z ∙ or-second _ _ r)) in
      let s = number-Minus space f scope a z in
      let t = number-Minus space g scope a z in cc

  times-case : (a z : Width) → HasOneNumber a → HasOneNumber z → HasOneNumber (w.Times a z)
  times-case a z one other agree =
      let x = one (λ name r. agree name (reads-Times name a z ∙ or-first _ _ r)) in
      let y = other (λ name r. agree name (reads-Times name a z ∙ or-second _ _ r)) in
      let s = number-Times space f scope a z in
      let t = number-Times space g scope a z in cc

  max-case : (a z : Width) → HasOneNumber a → HasOneNumber z → HasOneNumber (w.Max a z)
  max-case a z one other agree =
      let x = one (λ name r. agree name (reads-Max name a z ∙ or-first _ _ r)) in
      let y = other (λ name r. agree name (reads-Max name a z ∙ or-second _ _ r)) in
      let s = number-Max space f scope a z in
      let t = number-Max space g scope a z in cc

  same-registers : (Alike (parameter_number space f (codes "MXLEN")) (parameter_number space g (codes "MXLEN"))) → (mxlen space f == 64) ≡ (mxlen space g == 64)
  same-registers h =
      without-default (value_of space f (codes "MXLEN"))
      ∙ (widths-alike (parameter_number space f (codes "MXLEN")) (parameter_number space g (codes "MXLEN")) h
      ∙ sym (without-default (value_of space g (codes "MXLEN"))))

  bits-case : (csr : Option Name) (name : Name) → HasOneNumber (w.Bits csr name)
  bits-case csr name agree =
      number-Bits space f scope csr name
      ∙ (ap (λ n. clip (pos n)) (bits-alike (mxlen space f) (mxlen space g) scope csr name (same-registers (agree (codes "MXLEN") (reads-Bits (codes "MXLEN") csr name ∙ same-self (codes "MXLEN")))))
      ∙ sym (number-Bits space g scope csr name))

  pub one-number : (x : Width) → HasOneNumber x
  one-number = induct-Width HasOneNumber (record {
    number = λ n agree. number-Number space f scope n ∙ sym (number-Number space g scope n);
    word = word-case;
    plus = plus-case;
    minus = minus-case;
    times = times-case;
    max = max-case;
    bits = bits-case;
  })

  -- ---- demands

  pub one-answer : (one : Demand) → ((name : List ℕ) → demand_reads one name ≡ true → Alike (parameter_number space f name) (parameter_number space g name)) → widths_meet space scope one f ≡ widths_meet space scope one g
  one-answer (in_range low high width) agree = ap (λ z. int_le low z && int_le z high) (one-number width agree)
  one-answer (in_slice high low of) agree =
      let x = one-number high (λ name r. agree name (or-first _ _ r)) in
      let y = one-number low (λ name r. agree name (or-second (reads name high) _ (or-first _ _ r))) in
      let z = one-number of (λ name r. agree name (or-second (reads name high) _ (or-second (reads name low) _ r))) in cc
  one-answer (defined x) agree = refl
  one-answer (present csr field) agree = refl

-- ---- the full configuration of given numbers

module _ (read : List ℕ → Bool) (space : Space) (full : Full) (name : List ℕ) where
  abbrev Found : Option Value → Type 0
  Found o = Alike (number_or 0 o) (parameter_number space full name)

  abbrev Look : List ParamSpace → List ℕ → Type 0
  Look ps ns = ((xs : List Value) → value_among ps xs name ≡ None) × (value_among ps (map Number ns) name ≡ None) ⊎ Found (value_among ps (map Number ns) name)

  look : read name ≡ true → (ps : List ParamSpace) (ns : List ℕ) → Agrees read space full ps ns → Look ps ns
  look r [] ns agree = inl ((λ xs. refl), refl)
  look r (p ∷ ps) [] agree = absurd agree
  look r (p ∷ ps) (n ∷ ns) agree = by (same_bytes p.name name) refl (look r ps ns agree.1) where
    none : (xs : List Value) → same_bytes p.name name ≡ false → ((xs : List Value) → value_among ps xs name ≡ None) → value_among (p ∷ ps) xs name ≡ None
    none [] e h = refl
    none (x ∷ xs) e h = rw e (h xs)

    by : (b : Bool) → same_bytes p.name name ≡ b → Look ps ns → Look (p ∷ ps) (n ∷ ns)
    by true e rest =
        let same : p.name ≡ name = (bytes_decides p.name name).0 e in
        inr (rw e (subst (λ q. Alike n (parameter_number space full q)) same (agree.0 (ap read same ∙ r))))
    by false e (inl rest) = inl ((λ xs. none xs e rest.0), rw e rest.1)
    by false e (inr rest) = inr (rw e rest)

  pub number-found : read name ≡ true → (ns : List ℕ) → Agrees read space full space.params ns → Alike (parameter_number space (full_with ns) name) (parameter_number space full name)
  number-found r ns agree = by (look r space.params ns agree) where
    by : Look space.params ns → Alike (parameter_number space (full_with ns) name) (parameter_number space full name)
    by (inl none) = ap (λ o. clip (pos (number_or 0 o))) (none.1 ∙ sym (none.0 full.params))
    by (inr found) = found

-- a demand is met in the full configuration of numbers that agree with one exactly where it is met in that one
pub answer-found : (space : Space) (full : Full) (scope : List BitsOf) (one : Demand) (ns : List ℕ) → Agrees (demand_reads one) space full space.params ns → widths_meet space scope one (full_with ns) ≡ widths_meet space scope one full
answer-found space full scope one ns agree =
    one-answer space (full_with ns) full scope one (λ name r. number-found (demand_reads one) space full name r ns agree)
