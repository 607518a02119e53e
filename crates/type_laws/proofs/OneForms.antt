-- The forms of one operand of bits.
use Rattle.std.proofs.Common.{◌≡◌, ◌≤◌, ◌+◌, ◌-◌, ◌*◌, ◌/◌, ◌%◌, ℕ, Bool, true, false, List, [], ◌∷◌, ◌++◌, Option, Some, refl, sym, ap, ◌∙◌, subst, arith}
use Rattle.std.specs.Prelude.{◌&&◌, not, pos, nat_lt, int_le, int_lt, ◌==◌, length, if◌then◌else◌}
use Rattle.std.proofs.lemmas.Int.{ints}
use Rattle.std.proofs.lemmas.Bool.Decides.{nat_tests}
use Rattle.idl_tree.specs.Each.{Each}
use Rattle.udb_base.specs.declared.conditions.Cond.{Cond}
use Rattle.idl_tree.specs.declared.widths.Width.{Width}
use Rattle.idl_tree.specs.declared.widths.Width.TheVariants as wd
use Rattle.idl_tree.specs.declared.expressions.Unary.TheVariants as u
use Rattle.idl_tree.specs.declared.expressions.Expr.{Expr}
use Rattle.idl_tree.specs.declared.expressions.Expr.TheVariants as ex
use Rattle.idl_bits.specs.BitVector.{BitVector}
use Rattle.idl_bits.specs.Operators.{signed_of, resized_to, wide_left_shift_of, repeat_of, slice_of, complement_of, negation_of}
use Rattle.idl_spec.specs.Values.{Value, bits, flag, member, given_text, written_text, plain, is_width}
use Rattle.idl_spec.specs.Harts.{State, Outcome, done, raised, stuck, and_then, read_register, loaded}
use Rattle.idl_spec.specs.Shapes.{Kind, of_bits, on_bits, register_width}
use Rattle.idl_spec.specs.ShapeLaws.{shape-Unary, shape-WideLeft, shape-Repeat, shape-Slice, shape-Signed, shape-Resize, shape-Register, shape-ReadMemory}
use Rattle.idl_spec.specs.Settings.{Setting, registers, number_of_width, with_bits, with_width, with_slice_places, sized}
use Rattle.idl_spec.specs.Forms.{unary, is_access, accessed, address_of, read_memory}
use Rattle.idl_spec.specs.Mean.{mean_expr}
use Rattle.idl_spec.specs.MeanLaws.{mean-Unary, mean-WideLeft, mean-Repeat, mean-Slice, mean-Signed, mean-Resize, mean-Register, mean-ReadMemory}
use Rattle.idl_tree.specs.declared.programs.Function.{Function}
use Rattle.idl_spec.specs.Deeds.{Deed, calls, reads_memory, reads_state, reads_field, acts, leaves_fields}
use Rattle.idl_spec.specs.DeedLaws.{deeds-Unary, deeds-WideLeft, deeds-Repeat, deeds-Slice, deeds-Signed, deeds-Resize, deeds-Register, deeds-ReadMemory}
use Rattle.idl_spec.specs.Demands.{Issue, Visible, width_issues, ranged, slice_issues, want, suits, bits_kind, mismatch_unless, outside_fields, access_issues, in_slice, demand}
use Rattle.idl_spec.specs.Checks.{is_met}
use Rattle.idl_spec.specs.CheckLaws.{checks-Unary, checks-WideLeft, checks-Repeat, checks-Slice, checks-Signed, checks-Resize, checks-Register, checks-ReadMemory}
use Rattle.type_laws.specs.Kinds.{Registers, IsBits, HasKind, Mode, loud, in_field, below_field, is_in_field, StateOk, MayRaise, Good, DeedOk, Round, view_in, under, Passes}
use Rattle.type_laws.specs.LiteralLaws.{numbers-Unary, numbers-WideLeft, numbers-Repeat, numbers-Slice, numbers-Signed, numbers-Resize, numbers-Register, numbers-ReadMemory}
use Rattle.type_laws.proofs.Outcomes.{chosen_true}
use Rattle.type_laws.proofs.Passing.{front, back, met, unless, range}
use Rattle.type_laws.proofs.Widths.{InRange, width_good, number_is, sum_width, product_width, slice_width, SlicePlaces, slice_places, within_is}
use Rattle.type_laws.proofs.Sound.{Sound, Clean, one_sound, names_in, clean_parts, own_deeds}

-- ---- widths of values

module _ (e : Setting) (mode : Mode) where
  pub sized_good : (w : Width) (s : Bool) (v : BitVector) (t : State) → IsBits e w s v → StateOk e mode t → Good e mode (HasKind e (of_bits w s)) (sized v t)
  sized_good w s v t h st =
      subst (Good e mode (HasKind e (of_bits w s))) (sym (chosen_true (done (bits v) t) stuck (is_width v.width) (within_is v.width h.low h.high))) (h, st)

  pub good_if : {A : Type 0} (Q : A → Type 0) (b : Bool) (x y : Outcome A) → (b ≡ true → Good e mode Q x) → (b ≡ false → Good e mode Q y) → Good e mode Q (if b then x else y)
  good_if Q true x y h k = h refl
  good_if Q false x y h k = k refl

  -- an access outside the memory raises
  pub accessed_good : {A : Type 0} (Q : A → Type 0) (code at count : ℕ) (s : State) (next : Outcome A) → MayRaise mode → StateOk e mode s → Good e mode Q next → Good e mode Q (accessed code at count s next)
  accessed_good Q code at count s next may st h =
      good_if Q (not (at % count == 0)) (raised code at s) _ (λ i. (may, st)) (λ i.
      good_if Q (nat_lt (length s.ram) (at + count)) (raised (code + 1) at s) next (λ j. (may, st)) (λ j. h))

-- only outside of fields
pub must_be_loud : (e : Setting) (mode : Mode) (turns : List Function) (deed : Deed) (known : List Cond)
    → leaves_fields true deed ≡ true → leaves_fields false deed ≡ true → Passes e known (mismatch_unless (not (is_in_field mode))) → DeedOk e mode turns deed → mode ≡ loud
must_be_loud e loud turns deed known h k pass ok = refl
must_be_loud e (in_field reads) turns deed known h k pass ok = absurd (let b : false ≡ true = pass.0 in cc)
must_be_loud e (below_field true) turns (calls name) known h k pass ok = absurd (cc)
must_be_loud e (below_field true) turns reads_field known h k pass ok = absurd (cc)
must_be_loud e (below_field true) turns reads_state known h k pass ok = absurd (cc)
must_be_loud e (below_field true) turns reads_memory known h k pass ok = absurd (cc)
must_be_loud e (below_field true) turns acts known h k pass ok = absurd (cc)
must_be_loud e (below_field false) turns (calls name) known h k pass ok = absurd (cc)
must_be_loud e (below_field false) turns reads_field known h k pass ok = absurd (cc)
must_be_loud e (below_field false) turns reads_state known h k pass ok = absurd (cc)
must_be_loud e (below_field false) turns reads_memory known h k pass ok = absurd (cc)
must_be_loud e (below_field false) turns acts known h k pass ok = absurd (cc)

module _ (e : Setting) (mode : Mode) (round : Round) (wide : Registers e) where
  invert_is : (o : Outcome Value) → and_then o (unary u.Invert) ≡ with_bits o (λ v t. done (bits (complement_of v)) t)
  invert_is (done (bits v) s) = refl
  invert_is (done (flag x) s) = refl
  invert_is (done (member k n) s) = refl
  invert_is (done (given_text x) s) = refl
  invert_is (done (written_text x) s) = refl
  invert_is (raised code tval s) = refl
  invert_is stuck = refl

  minus_is : (o : Outcome Value) → and_then o (unary u.Minus) ≡ with_bits o (λ v t. done (bits (negation_of v)) t)
  minus_is (done (bits v) s) = refl
  minus_is (done (flag x) s) = refl
  minus_is (done (member k n) s) = refl
  minus_is (done (given_text x) s) = refl
  minus_is (done (written_text x) s) = refl
  minus_is (raised code tval s) = refl
  minus_is stuck = refl

  -- one operand is clean
  part : (x a : Expr) → Each (Clean e mode round) (a ∷ []) → Clean e mode round a
  part x a h = h.0

  -- the same width and sign
  alike : (w : Width) (s : Bool) (v z : BitVector) → z.width ≡ v.width → z.signed ≡ v.signed → IsBits e w s v → IsBits e w s z
  alike w s v z h k b = record { number = b.number ∙ ap pos (sym h); low = subst (λ n. 1 ≤ n) (sym h) b.low; high = subst (λ n. n ≤ 128) (sym h) b.high; sign = k ∙ b.sign }

  pub sound-Invert : (a : Expr) → Sound e mode round a → Sound e mode round (ex.Unary u.Invert a)
  unfolding complement_of
  sound-Invert a ha = one_sound e mode round (ex.Unary u.Invert a) a (λ clean. record {
    form = λ k. on_bits k of_bits;
    out = of_bits;
    own = λ inner k. want bits_kind k;
    op = λ scope v t. done (bits (complement_of v)) t;
    shape_law = λ inner. shape-Unary (names_in e mode round inner) u.Invert a;
    checks_law = λ inner known. checks-Unary (view_in e mode round inner) u.Invert a known;
    mean_law = λ scope s. mean-Unary e u.Invert a scope s ∙ invert_is (mean_expr e a scope s);
    form_law = λ w s. refl;
    wants = λ inner known k h. unless e known (suits bits_kind (Some k)) h;
    works = λ inner known w s q r here scope v t hv ht. (alike w s v (complement_of v) refl refl hv, ht);
  }) ha (λ c. (clean_parts e mode round (ex.Unary u.Invert a) (a ∷ []) [] [] (deeds-Unary u.Invert a) (numbers-Unary u.Invert a) c).0)

  pub sound-Minus : (a : Expr) → Sound e mode round a → Sound e mode round (ex.Unary u.Minus a)
  unfolding negation_of
  sound-Minus a ha = one_sound e mode round (ex.Unary u.Minus a) a (λ clean. record {
    form = λ k. on_bits k of_bits;
    out = of_bits;
    own = λ inner k. want bits_kind k;
    op = λ scope v t. done (bits (negation_of v)) t;
    shape_law = λ inner. shape-Unary (names_in e mode round inner) u.Minus a;
    checks_law = λ inner known. checks-Unary (view_in e mode round inner) u.Minus a known;
    mean_law = λ scope s. mean-Unary e u.Minus a scope s ∙ minus_is (mean_expr e a scope s);
    form_law = λ w s. refl;
    wants = λ inner known k h. unless e known (suits bits_kind (Some k)) h;
    works = λ inner known w s q r here scope v t hv ht. (alike w s v (negation_of v) refl refl hv, ht);
  }) ha (λ c. (clean_parts e mode round (ex.Unary u.Minus a) (a ∷ []) [] [] (deeds-Unary u.Minus a) (numbers-Unary u.Minus a) c).0)

  pub sound-Signed : (a : Expr) → Sound e mode round a → Sound e mode round (ex.Signed a)
  sound-Signed a ha = one_sound e mode round (ex.Signed a) a (λ clean. record {
    form = λ k. on_bits k (λ w s. of_bits w true);
    out = λ w s. of_bits w true;
    own = λ inner k. want bits_kind k;
    op = λ scope v t. done (bits (signed_of v)) t;
    shape_law = λ inner. shape-Signed (names_in e mode round inner) a;
    checks_law = λ inner known. checks-Signed (view_in e mode round inner) a known;
    mean_law = λ scope s. mean-Signed e a scope s;
    form_law = λ w s. refl;
    wants = λ inner known k h. unless e known (suits bits_kind (Some k)) h;
    works = λ inner known w s q r here scope v t hv ht. (record { number = hv.number; low = hv.low; high = hv.high; sign = refl }, ht);
  }) ha (λ c. (clean_parts e mode round (ex.Signed a) (a ∷ []) [] [] (deeds-Signed a) (numbers-Signed a) c).0)

  pub sound-Resize : (width : Width) (a : Expr) → Sound e mode round a → Sound e mode round (ex.Resize width a)
  unfolding resized_to
  sound-Resize width a ha = one_sound e mode round (ex.Resize width a) a (λ clean. record {
    form = λ k. on_bits k (λ w s. of_bits width s);
    out = λ w s. of_bits width s;
    own = λ inner k. width_issues (view_in e mode round inner) width ++ want bits_kind k;
    op = λ scope v t. with_width e 1 128 width (λ k. done (bits (resized_to k v)) t);
    shape_law = λ inner. shape-Resize (names_in e mode round inner) width a;
    checks_law = λ inner known. checks-Resize (view_in e mode round inner) width a known;
    mean_law = λ scope s. mean-Resize e width a scope s;
    form_law = λ w s. refl;
    wants = λ inner known k h. unless e known (suits bits_kind (Some k)) (back e known (width_issues (view_in e mode round inner) width) _ h);
    works = λ inner known w s q r here scope v t hv ht.
        let z : InRange 1 128 (number_of_width e width) = range e known 1 128 width here r in
        width_good e mode (HasKind e (of_bits width s)) 1 128 width (λ k. done (bits (resized_to k v)) t) z
        (record { number = z.is; low = z.least; high = z.most; sign = hv.sign }, ht);
  }) ha (λ c. (clean_parts e mode round (ex.Resize width a) (a ∷ []) [] [] (deeds-Resize width a) (numbers-Resize width a) c).0)

  pub sound-WideLeft : (a : Expr) (by : Width) → Sound e mode round a → Sound e mode round (ex.WideLeft a by)
  unfolding wide_left_shift_of
  sound-WideLeft a by ha = one_sound e mode round (ex.WideLeft a by) a (λ clean. record {
    form = λ k. on_bits k (λ w s. of_bits (wd.Plus w by) s);
    out = λ w s. of_bits (wd.Plus w by) s;
    own = λ inner k. (width_issues (view_in e mode round inner) by ++ ranged 0 127 by) ++ want bits_kind k;
    op = λ scope v t. with_width e 0 127 by (λ k. sized (wide_left_shift_of v k) t);
    shape_law = λ inner. shape-WideLeft (names_in e mode round inner) a by;
    checks_law = λ inner known. checks-WideLeft (view_in e mode round inner) a by known;
    mean_law = λ scope s. mean-WideLeft e a by scope s;
    form_law = λ w s. refl;
    wants = λ inner known k h. unless e known (suits bits_kind (Some k)) (back e known (width_issues (view_in e mode round inner) by ++ ranged 0 127 by) _ h);
    works = λ inner known w s q r here scope v t hv ht.
        let z : InRange 0 127 (number_of_width e by) = range e known 0 127 by here (back e known (width_issues (view_in e mode round inner) by) _ (front e known (width_issues (view_in e mode round inner) by ++ ranged 0 127 by) _ q)) in
        let y : InRange 1 128 (number_of_width e (wd.Plus w by)) = range e known 1 128 (wd.Plus w by) here r in
        width_good e mode (HasKind e (of_bits (wd.Plus w by) s)) 0 127 by (λ k. sized (wide_left_shift_of v k) t) z
        (sized_good e mode (wd.Plus w by) s (wide_left_shift_of v z.n) t (added by w s v z.n z.is z.most y hv) ht);
  }) ha (λ c. (clean_parts e mode round (ex.WideLeft a by) (a ∷ []) [] [] (deeds-WideLeft a by) (numbers-WideLeft a by) c).0)
    where
      same_number : (n m : ℕ) → pos n ≡ pos m → n ≡ m
      same_number n m h = omega (arith, ints)

      added : (by w : Width) (s : Bool) (v : BitVector) (k : ℕ) → number_of_width e by ≡ pos k → k ≤ 127 → InRange 1 128 (number_of_width e (wd.Plus w by)) → IsBits e w s v → IsBits e (wd.Plus w by) s (wide_left_shift_of v k)
      added by w s v k p h y hv =
          let q : number_of_width e (wd.Plus w by) ≡ pos (v.width + k) = sum_width e w by v.width k hv.number (omega (arith, hv.high)) p (omega arith) in
          let m : y.n ≡ v.width + k = same_number y.n (v.width + k) (sym y.is ∙ q) in
          record { number = q; low = subst (λ n. 1 ≤ n) m y.least; high = subst (λ n. n ≤ 128) m y.most; sign = hv.sign }

  same_number : (n m : ℕ) → pos n ≡ pos m → n ≡ m
  same_number n m h = omega (arith, ints)

  pub sound-Repeat : (times : Width) (a : Expr) → Sound e mode round a → Sound e mode round (ex.Repeat times a)
  unfolding repeat_of
  sound-Repeat times a ha = one_sound e mode round (ex.Repeat times a) a (λ clean. record {
    form = λ k. on_bits k (λ w s. of_bits (wd.Times times w) false);
    out = λ w s. of_bits (wd.Times times w) false;
    own = λ inner k. (width_issues (view_in e mode round inner) times ++ ranged 1 128 times) ++ want bits_kind k;
    op = λ scope v t. with_width e 1 128 times (λ k. sized (repeat_of v k) t);
    shape_law = λ inner. shape-Repeat (names_in e mode round inner) times a;
    checks_law = λ inner known. checks-Repeat (view_in e mode round inner) times a known;
    mean_law = λ scope s. mean-Repeat e times a scope s;
    form_law = λ w s. refl;
    wants = λ inner known k h. unless e known (suits bits_kind (Some k)) (back e known (width_issues (view_in e mode round inner) times ++ ranged 1 128 times) _ h);
    works = λ inner known w s q r here scope v t hv ht.
        let z : InRange 1 128 (number_of_width e times) = range e known 1 128 times here (back e known (width_issues (view_in e mode round inner) times) _ (front e known (width_issues (view_in e mode round inner) times ++ ranged 1 128 times) _ q)) in
        let y : InRange 1 128 (number_of_width e (wd.Times times w)) = range e known 1 128 (wd.Times times w) here r in
        width_good e mode (HasKind e (of_bits (wd.Times times w) false)) 1 128 times (λ k. sized (repeat_of v k) t) z
        (sized_good e mode (wd.Times times w) false (repeat_of v z.n) t (copied w s v z.n z.is z.most y hv) ht);
  }) ha (λ c. (clean_parts e mode round (ex.Repeat times a) (a ∷ []) [] [] (deeds-Repeat times a) (numbers-Repeat times a) c).0)
    where
      copied : (w : Width) (s : Bool) (v : BitVector) (k : ℕ) → number_of_width e times ≡ pos k → k ≤ 128 → InRange 1 128 (number_of_width e (wd.Times times w)) → IsBits e w s v → IsBits e (wd.Times times w) false (repeat_of v k)
      copied w s v k p h y hv =
          let q : number_of_width e (wd.Times times w) ≡ pos (v.width * k) = product_width e times w k v.width p h hv.number hv.high in
          let m : y.n ≡ v.width * k = same_number y.n (v.width * k) (sym y.is ∙ q) in
          record { number = q; low = subst (λ n. 1 ≤ n) m y.least; high = subst (λ n. n ≤ 128) m y.most; sign = refl }

  pub sound-Slice : (a : Expr) (high low : Width) → Sound e mode round a → Sound e mode round (ex.Slice a high low)
  unfolding slice_of
  sound-Slice a high low ha = one_sound e mode round (ex.Slice a high low) a (λ clean. record {
    form = λ k. Some (of_bits (wd.Plus (wd.Minus high low) (wd.Number 1)) false);
    out = λ w s. of_bits (wd.Plus (wd.Minus high low) (wd.Number 1)) false;
    own = own;
    op = λ scope v t. with_slice_places e v.width high low (λ h l. done (bits (slice_of v h l)) t);
    shape_law = λ inner. shape-Slice (names_in e mode round inner) a high low;
    checks_law = λ inner known. checks-Slice (view_in e mode round inner) a high low known;
    mean_law = λ scope s. mean-Slice e a high low scope s;
    form_law = λ w s. refl;
    wants = λ inner known k h. unless e known (suits bits_kind (Some k))
        (back e known (widths inner ++ slice_issues (view_in e mode round inner) (Some k) high low) _ h);
    works = λ inner known w s q r here scope v t hv ht.
        let d : Passes e known (demand (in_slice high low w) ∷ []) = back e known (widths inner) _ (front e known (widths inner ++ (demand (in_slice high low w) ∷ [])) _ q) in
        let z : SlicePlaces v.width (number_of_width e high) (number_of_width e low) = places w s v hv (met e known (in_slice high low w) here d.0) in
        width_good e mode (HasKind e (of_bits (wd.Plus (wd.Minus high low) (wd.Number 1)) false)) 0 (v.width - 1) high _ z.h
        (width_good e mode (HasKind e (of_bits (wd.Plus (wd.Minus high low) (wd.Number 1)) false)) 0 z.h.n low (λ l. done (bits (slice_of v z.h.n l)) t) z.l
        (cut v z.h.n z.l.n z.h.is z.l.is z.l.most (omega (arith, z.h.most, hv.high, hv.low)), ht));
  }) ha (λ c. (clean_parts e mode round (ex.Slice a high low) (a ∷ []) [] [] (deeds-Slice a high low) (numbers-Slice a high low) c).0)
    where
      widths : List Visible → List Issue
      widths inner = width_issues (view_in e mode round inner) high ++ width_issues (view_in e mode round inner) low

      own : List Visible → Option Kind → List Issue
      own inner k = (widths inner ++ slice_issues (view_in e mode round inner) k high low) ++ want bits_kind k

      places : (w : Width) (s : Bool) (v : BitVector) → IsBits e w s v → is_met (under e) (in_slice high low w) ≡ true → SlicePlaces v.width (number_of_width e high) (number_of_width e low)
      places w s v hv h =
          slice_places v.width (number_of_width e high) (number_of_width e low)
          (subst (λ z. (int_le (pos 0) (number_of_width e low) && (int_le (number_of_width e low) (number_of_width e high) && int_lt (number_of_width e high) z)) ≡ true) hv.number h)

      cut : (v : BitVector) (h l : ℕ) → number_of_width e high ≡ pos h → number_of_width e low ≡ pos l → l ≤ h → h ≤ 127 → IsBits e (wd.Plus (wd.Minus high low) (wd.Number 1)) false (slice_of v h l)
      cut v h l p q i j = record { number = slice_width e high low h l p q i j; low = omega arith; high = omega arith; sign = refl }

  pub sound-Register : (a : Expr) → Sound e mode round a → Sound e mode round (ex.Register a)
  sound-Register a ha = one_sound e mode round (ex.Register a) a (λ clean. record {
    form = λ k. Some (of_bits (register_width e.space.params) false);
    out = λ w s. of_bits (register_width e.space.params) false;
    own = λ inner k. outside_fields (view_in e mode round inner) ++ want bits_kind k;
    op = λ scope v t. done (bits (plain (registers e) (read_register t.x v.pattern))) t;
    shape_law = λ inner. shape-Register (names_in e mode round inner) a;
    checks_law = λ inner known. checks-Register (view_in e mode round inner) a known;
    mean_law = λ scope s. mean-Register e a scope s;
    form_law = λ w s. refl;
    wants = λ inner known k h. unless e known (suits bits_kind (Some k)) (back e known (outside_fields (view_in e mode round inner)) _ h);
    works = λ inner known w s q r here scope v t hv ht. (record { number = wide.number; low = wide.low; high = wide.high; sign = refl }, ht);
  }) ha (λ c. (clean_parts e mode round (ex.Register a) (a ∷ []) (reads_state ∷ []) [] (deeds-Register a) (numbers-Register a) c).0)

  -- a count of bits of an access
  access_kind : (count n : ℕ) → is_access count ≡ true → IsBits e (wd.Number count) false (plain count n)
  access_kind count n h = let k : (8 ≤ count) × (count ≤ 64) = counted h in record { number = number_is e count (omega (arith, k.1)); low = omega (arith, k.0); high = omega (arith, k.1); sign = refl }
    where
      counted : is_access count ≡ true → (8 ≤ count) × (count ≤ 64)
      counted h = grind (arith, nat_tests)

  pub sound-ReadMemory : (count : ℕ) (a : Expr) → Sound e mode round a → Sound e mode round (ex.ReadMemory count a)
  sound-ReadMemory count a ha = one_sound e mode round (ex.ReadMemory count a) a (λ clean. record {
    form = λ k. Some (of_bits (wd.Number count) false);
    out = λ w s. of_bits (wd.Number count) false;
    own = λ inner k. (outside_fields (view_in e mode round inner) ++ access_issues count) ++ want bits_kind k;
    op = λ scope v t. read_memory count (address_of e v) t;
    shape_law = λ inner. shape-ReadMemory (names_in e mode round inner) count a;
    checks_law = λ inner known. checks-ReadMemory (view_in e mode round inner) count a known;
    mean_law = λ scope s. mean-ReadMemory e count a scope s;
    form_law = λ w s. refl;
    wants = λ inner known k h. unless e known (suits bits_kind (Some k)) (back e known (outside_fields (view_in e mode round inner) ++ access_issues count) _ h);
    works = λ inner known w s q r here scope v t hv ht.
        let out : mode ≡ loud = must_be_loud e mode round.before reads_memory known refl refl (front e known (outside_fields (view_in e mode round inner)) _ (front e known (outside_fields (view_in e mode round inner) ++ access_issues count) _ q))
        (own_deeds e mode round (ex.ReadMemory count a) (a ∷ []) (reads_memory ∷ []) (deeds-ReadMemory count a) clean).0 in
        let ok : is_access count ≡ true = unless e known (is_access count) (back e known (outside_fields (view_in e mode round inner)) _ (front e known (outside_fields (view_in e mode round inner) ++ access_issues count) _ q)) in
        read_good count (address_of e v) t ok (subst MayRaise (sym out) tt) ht;
  }) ha (λ c. (clean_parts e mode round (ex.ReadMemory count a) (a ∷ []) (reads_memory ∷ []) [] (deeds-ReadMemory count a) (numbers-ReadMemory count a) c).0)
    where
      read_good : (count at : ℕ) (t : State) → is_access count ≡ true → MayRaise mode → StateOk e mode t → Good e mode (HasKind e (of_bits (wd.Number count) false)) (read_memory count at t)
      read_good count at t ok may st =
          subst (Good e mode (HasKind e (of_bits (wd.Number count) false))) (sym (chosen_true (accessed 4 at (count / 8) t (done (bits (plain count (loaded t.ram at (count / 8)))) t)) stuck (is_access count) ok))
          (accessed_good e mode (HasKind e (of_bits (wd.Number count) false)) 4 at (count / 8) t _ may st (access_kind count (loaded t.ram at (count / 8)) ok, st))
