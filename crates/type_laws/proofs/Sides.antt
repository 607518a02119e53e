-- Comparisons of sides: numbers, truth values and texts.
use Rattle.std.proofs.Common.{◌≡◌, ◌<◌, ◌≤◌, ◌^◌, ℕ, zero, suc, max, Bool, true, false, List, Some, refl, sym, ap, ◌∙◌, arith}
use Rattle.std.specs.Prelude.{◌==◌, not, nat_lt, nat_le, IfSome, if◌then◌else◌, pos, int_lt}
use Rattle.std.proofs.Math.Nat.{pow-le-pow_right}
use Rattle.std.specs.Ordering.{int_eq}
use Rattle.std.proofs.lemmas.Bool.Decides.{nat_tests}
use Rattle.std.specs.Cmp.Lexicographic.{bytes_decides}
use Rattle.udb_base.specs.declared.names.Name.{Name}
use Rattle.udb_base.specs.declared.conditions.Value.TheVariants as given
use Rattle.udb_base.specs.declared.conditions.Test.{Test}
use Rattle.udb_base.specs.declared.conditions.Test.TheVariants as test
use Rattle.udb_base.specs.declared.conditions.Cond.{Cond}
use Rattle.udb_base.specs.declared.conditions.Cond.TheVariants as c
use Rattle.udb_base.specs.declared.spaces.Space.{Space}
use Rattle.udb_base.specs.declared.spaces.Full.{Full}
use Rattle.udb_spec.specs.Conditions.{holds, value_of, option_passes, passes, same_bytes}
use Rattle.udb_spec.specs.CondLaws.{holds-Param}
use Rattle.idl_tree.specs.declared.expressions.Binary.{Binary}
use Rattle.idl_tree.specs.declared.expressions.Binary.TheVariants as b
use Rattle.idl_bits.specs.Number.{number_beside, pattern_of}
use Rattle.idl_bits.specs.Operators.{is_equal, is_below}
use Rattle.idl_bits.proofs.Patterns.{number-plain}
use Rattle.idl_bits.proofs.Modulo.{pattern_of-small}
use Rattle.idl_bits.proofs.Signs.{beside-unsigned, equal-signs, below-plain}
use Rattle.idl_spec.specs.Values.{Value, bits, flag, given_text, written_text, plain, width_up_to, least_width}
use Rattle.idl_spec.specs.Harts.{State, done}
use Rattle.idl_spec.specs.Forms.{binary, same_flag}
use Rattle.idl_spec.specs.Formulas.{Side, literal, truth, text, other, mirrored, compares, truth_cond, number_test, equality, same_truth, comparison}
use Rattle.idl_spec.specs.Formulas as side
use Rattle.type_laws.proofs.Told.{truth_is}

-- ---- the least width of a number

up_to : (k n : ℕ) → n < 2 ^ k → n < 2 ^ width_up_to k n
up_to zero n h = omega (arith, h)
up_to (suc k) n h = at (nat_le (2 ^ k) n) refl (up_to k n)
  where
    at : (t : Bool) → nat_le (2 ^ k) n ≡ t → (n < 2 ^ k → n < 2 ^ width_up_to k n) → n < 2 ^ (if t then suc k else width_up_to k n)
    at true e rest = h
    at false e rest = rest (grind (arith, nat_tests))

pub in_least_width : (n : ℕ) → n < 2 ^ 128 → n < 2 ^ least_width n
unfolding least_width
in_least_width n h = up_to 128 n h

-- ---- unsigned numbers

more_bits : (m a w : ℕ) → m < 2 ^ a → a ≤ w → m < 2 ^ w
more_bits m a w h k = let p : 2 ^ a ≤ 2 ^ w = pow-le-pow_right (omega arith) k in omega arith

beside : (a z m n : ℕ) → m < 2 ^ a → number_beside (plain a m) (plain z n) ≡ pos m
beside a z m n h =
    beside-unsigned (plain a m) (plain z n) refl
    ∙ ap pos (ap (pattern_of (max a z)) (number-plain (plain a m) refl) ∙ pattern_of-small (max a z) m (more_bits m a (max a z) h (omega arith)))

equal_is : (a z m n : ℕ) → m < 2 ^ a → n < 2 ^ z → is_equal (plain a m) (plain z n) ≡ (m == n)
unfolding is_equal
equal_is a z m n h k = ap (λ x. int_eq x (number_beside (plain z n) (plain a m))) (beside a z m n h) ∙ (ap (int_eq (pos m)) (beside z a n m k) ∙ sym (equal-signs m n false false (λ i. absurd (cc)) (λ i. absurd (cc))))

below_is : (a z m n : ℕ) → m < 2 ^ a → n < 2 ^ z → is_below (plain a m) (plain z n) ≡ nat_lt m n
unfolding is_below
below_is a z m n h k = ap (λ x. int_lt x (number_beside (plain z n) (plain a m))) (beside a z m n h) ∙ (ap (int_lt (pos m)) (beside z a n m k) ∙ sym (below-plain m n false false refl refl))

not_below : (m n : ℕ) → not (nat_lt m n) ≡ nat_le n m
not_below m n = grind (arith, nat_tests)

-- ---- comparisons as tests

abbrev pub sign_of : Test → Binary
sign_of test.Equal = b.Equal
sign_of test.NotEqual = b.NotEqual
sign_of test.Above = b.Above
sign_of test.AtLeast = b.AtLeast
sign_of test.Below = b.Below
sign_of test.AtMost = b.AtMost

bits_test : (t : Test) (a z m n : ℕ) (s : State) → m < 2 ^ a → n < 2 ^ z → binary (sign_of t) (bits (plain a m)) (bits (plain z n)) s ≡ done (flag (compares t m n)) s
bits_test test.Equal a z m n s h k = ap (λ x. done (flag x) s) (equal_is a z m n h k)
bits_test test.NotEqual a z m n s h k = ap (λ x. done (flag (not x)) s) (equal_is a z m n h k)
bits_test test.Above a z m n s h k = ap (λ x. done (flag x) s) (below_is z a n m k h)
bits_test test.AtLeast a z m n s h k = ap (λ x. done (flag x) s) (ap not (below_is a z m n h k) ∙ not_below m n)
bits_test test.Below a z m n s h k = ap (λ x. done (flag x) s) (below_is a z m n h k)
bits_test test.AtMost a z m n s h k = ap (λ x. done (flag x) s) (ap not (below_is z a n m k h) ∙ not_below n m)

same_truth_value : (x v : Bool) (s u : State) → done (flag x) s ≡ done (flag v) u → x ≡ v
same_truth_value x v s u h = cc

far_equal : (k n : ℕ) → k < n → (0 == n) ≡ (k == n)
far_equal k n h = grind (arith, nat_tests)

far : (t : Test) (k n : ℕ) → k < n → compares t 0 n ≡ compares t k n
far test.Equal k n h = far_equal k n h
far test.NotEqual k n h = ap not (far_equal k n h)
far test.Above k n h = grind (arith, nat_tests)
far test.AtLeast k n h = grind (arith, nat_tests)
far test.Below k n h = grind (arith, nat_tests)
far test.AtMost k n h = grind (arith, nat_tests)

turned : (k n : ℕ) → (k == n) ≡ (n == k)
turned k n = grind (arith, nat_tests)

mirror_is : (t : Test) (k n : ℕ) → compares (mirrored t) k n ≡ compares t n k
mirror_is test.Equal k n = turned k n
mirror_is test.NotEqual k n = ap not (turned k n)
mirror_is test.Above k n = refl
mirror_is test.AtLeast k n = refl
mirror_is test.Below k n = refl
mirror_is test.AtMost k n = refl

-- an unsigned number
pub record IsNumber (n : ℕ) (x : Value) : Type 0 where
  pub width : ℕ
  pub is : x ≡ bits (plain width n)
  pub fits : n < 2 ^ width

numbers_told : (t : Test) (m n : ℕ) (x y : Value) (s u : State) (v : Bool) → IsNumber m x → IsNumber n y → binary (sign_of t) x y s ≡ done (flag v) u → compares t m n ≡ v
numbers_told t m n x y s u v hx hy h =
    same_truth_value (compares t m n) v s u (sym (ap (λ z. binary (sign_of t) z y s) hx.is ∙ (ap (λ z. binary (sign_of t) (bits (plain hx.width m)) z s) hy.is ∙ bits_test t hx.width hy.width m n s hx.fits hy.fits)) ∙ h)

module _ (space : Space) (full : Full) where
  -- a parameter whose value is a number below 2 ^ 64, a truth value or a text
  pub record HoldsNumber (name : Name) (x : Value) : Type 0 where
    pub n : ℕ
    pub value : value_of space full name ≡ Some (given.Number n)
    pub small : n < 2 ^ 64
    pub number : IsNumber n x

  pub record HoldsFlag (name : Name) (x : Value) : Type 0 where
    pub truth : Bool
    pub value : value_of space full name ≡ Some (given.Flag truth)
    pub is : x ≡ flag truth

  pub record HoldsText (name : Name) (x : Value) : Type 0 where
    pub text : List ℕ
    pub value : value_of space full name ≡ Some (given.Word text)
    pub is : x ≡ given_text text

  -- what the value of a side is
  abbrev pub Shows : Side → Value → Type 0
  Shows (literal n) x = IsNumber n x
  Shows (side.number name) x = HoldsNumber name x
  Shows (truth y) x = x ≡ flag y
  Shows (side.flag name) x = HoldsFlag name x
  Shows (text y) x = x ≡ written_text y
  Shows (side.word name) x = HoldsText name x
  Shows other x = Unit {0}

  passes_number : (t : Test) (k n : ℕ) → passes t (given.Number k) (given.Number n) ≡ compares t k n
  passes_number test.Equal k n = refl
  passes_number test.NotEqual k n = refl
  passes_number test.Above k n = refl
  passes_number test.AtLeast k n = refl
  passes_number test.Below k n = refl
  passes_number test.AtMost k n = refl

  number_test_is : (t : Test) (name : Name) (n k : ℕ) → value_of space full name ≡ Some (given.Number k) → k < 2 ^ 64 → holds space full (number_test t name n) ≡ compares t k n
  number_test_is t name n k value small = at (nat_lt n (2 ^ 64)) refl
    where
      at : (x : Bool) → nat_lt n (2 ^ 64) ≡ x → holds space full (if x then c.Param name t (given.Number n) else truth_cond (compares t 0 n)) ≡ compares t k n
      at true e = holds-Param space full name t (given.Number n) ∙ (ap (λ o. option_passes t o (given.Number n)) value ∙ passes_number t k n)
      at false e = let past : k < n = grind (arith, nat_tests) in truth_is space full (compares t 0 n) ∙ far t k n past

  -- `==` and `!=` tell whether two values are the same
  equality_told : (form : Test → Cond) (same : Bool) (x y : Value) → holds space full (form test.Equal) ≡ same → holds space full (form test.NotEqual) ≡ not same
      → ((s : State) → binary b.Equal x y s ≡ done (flag same) s) → ((s : State) → binary b.NotEqual x y s ≡ done (flag (not same)) s)
      → (t : Test) (s u : State) (v : Bool) → binary (sign_of t) x y s ≡ done (flag v) u → IfSome (equality t (form t)) (λ p. holds space full p ≡ v)
  equality_told form same x y he hn be bn test.Equal s u v h = he ∙ same_truth_value same v s u (sym (be s) ∙ h)
  equality_told form same x y he hn be bn test.NotEqual s u v h = hn ∙ same_truth_value (not same) v s u (sym (bn s) ∙ h)
  equality_told form same x y he hn be bn test.Above s u v h = tt
  equality_told form same x y he hn be bn test.AtLeast s u v h = tt
  equality_told form same x y he hn be bn test.Below s u v h = tt
  equality_told form same x y he hn be bn test.AtMost s u v h = tt

  same_flags : (x y : Bool) → same_truth test.Equal x y ≡ same_flag x y
  same_flags true true = refl
  same_flags true false = refl
  same_flags false true = refl
  same_flags false false = refl

  flags_turned : (x y : Bool) → same_flag x y ≡ same_flag y x
  flags_turned true true = refl
  flags_turned true false = refl
  flags_turned false true = refl
  flags_turned false false = refl

  texts_turned : (x y : List ℕ) → same_bytes x y ≡ same_bytes y x
  texts_turned x y = at (same_bytes x y) (same_bytes y x) refl refl
    where
      at : (p q : Bool) → same_bytes x y ≡ p → same_bytes y x ≡ q → p ≡ q
      at true true h k = refl
      at false false h k = refl
      at true false h k = let z : same_bytes y x ≡ true = (bytes_decides y x).1 (sym ((bytes_decides x y).0 h)) in absurd (let w : true ≡ false = sym z ∙ k in cc)
      at false true h k = let z : same_bytes x y ≡ true = (bytes_decides x y).1 (sym ((bytes_decides y x).0 k)) in absurd (let w : true ≡ false = sym z ∙ h in cc)

  flags_told : (form : Test → Cond) (x y : Bool) (p q : Value) → p ≡ flag x → q ≡ flag y → holds space full (form test.Equal) ≡ same_flag x y → holds space full (form test.NotEqual) ≡ not (same_flag x y)
      → (t : Test) (s u : State) (v : Bool) → binary (sign_of t) p q s ≡ done (flag v) u → IfSome (equality t (form t)) (λ c. holds space full c ≡ v)
  flags_told form x y p q hp hq he hn = equality_told form (same_flag x y) p q he hn
      (λ s. ap (λ z. binary b.Equal z q s) hp ∙ ap (λ z. binary b.Equal (flag x) z s) hq) (λ s. ap (λ z. binary b.NotEqual z q s) hp ∙ ap (λ z. binary b.NotEqual (flag x) z s) hq)

  given_flag : (name : Name) (t : Test) (x y : Bool) → value_of space full name ≡ Some (given.Flag x) → holds space full (c.Param name t (given.Flag y)) ≡ passes t (given.Flag x) (given.Flag y)
  given_flag name t x y value = holds-Param space full name t (given.Flag y) ∙ ap (λ o. option_passes t o (given.Flag y)) value

  given_word : (name : Name) (t : Test) (x y : List ℕ) → value_of space full name ≡ Some (given.Word x) → holds space full (c.Param name t (given.Word y)) ≡ passes t (given.Word x) (given.Word y)
  given_word name t x y value = holds-Param space full name t (given.Word y) ∙ ap (λ o. option_passes t o (given.Word y)) value

  -- a comparison whose sides are known tells its condition
  pub comparison_told : (t : Test) (l r : Side) (x y : Value) (s u : State) (v : Bool) → Shows l x → Shows r y → binary (sign_of t) x y s ≡ done (flag v) u → IfSome (comparison t l r) (λ p. holds space full p ≡ v)
  comparison_told t (literal m) (literal n) x y s u v hx hy h = truth_is space full (compares t m n) ∙ numbers_told t m n x y s u v hx hy h
  comparison_told t (side.number name) (literal n) x y s u v hx hy h = number_test_is t name n hx.n hx.value hx.small ∙ numbers_told t hx.n n x y s u v hx.number hy h
  comparison_told t (literal n) (side.number name) x y s u v hx hy h =
      number_test_is (mirrored t) name n hy.n hy.value hy.small ∙ (mirror_is t hy.n n ∙ numbers_told t n hy.n x y s u v hx hy.number h)
  comparison_told t (truth p) (truth q) x y s u v hx hy h =
      flags_told (λ i. truth_cond (same_truth i p q)) p q x y hx hy (truth_is space full (same_truth test.Equal p q) ∙ same_flags p q) (truth_is space full (same_truth test.NotEqual p q) ∙ ap not (same_flags p q)) t s u v h
  comparison_told t (side.flag name) (truth q) x y s u v hx hy h =
      flags_told (λ i. c.Param name i (given.Flag q)) hx.truth q x y hx.is hy (given_flag name test.Equal hx.truth q hx.value) (given_flag name test.NotEqual hx.truth q hx.value) t s u v h
  comparison_told t (truth p) (side.flag name) x y s u v hx hy h =
      flags_told (λ i. c.Param name i (given.Flag p)) p hy.truth x y hx hy.is (given_flag name test.Equal hy.truth p hy.value ∙ flags_turned hy.truth p) (given_flag name test.NotEqual hy.truth p hy.value ∙ ap not (flags_turned hy.truth p)) t s u v h
  comparison_told t (side.word name) (text q) x y s u v hx hy h =
      equality_told (λ i. c.Param name i (given.Word q)) (same_bytes hx.text q) x y (given_word name test.Equal hx.text q hx.value) (given_word name test.NotEqual hx.text q hx.value)
      (λ z. ap (λ w. binary b.Equal w y z) hx.is ∙ ap (λ w. binary b.Equal (given_text hx.text) w z) hy) (λ z. ap (λ w. binary b.NotEqual w y z) hx.is ∙ ap (λ w. binary b.NotEqual (given_text hx.text) w z) hy) t s u v h
  comparison_told t (text p) (side.word name) x y s u v hx hy h =
      equality_told (λ i. c.Param name i (given.Word p)) (same_bytes p hy.text) x y (given_word name test.Equal hy.text p hy.value ∙ texts_turned hy.text p) (given_word name test.NotEqual hy.text p hy.value ∙ ap not (texts_turned hy.text p))
      (λ z. ap (λ w. binary b.Equal w y z) hx ∙ ap (λ w. binary b.Equal (written_text p) w z) hy.is) (λ z. ap (λ w. binary b.NotEqual w y z) hx ∙ ap (λ w. binary b.NotEqual (written_text p) w z) hy.is) t s u v h
  comparison_told t l r x y s u v hx hy h = tt
