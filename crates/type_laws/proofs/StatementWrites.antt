-- Writes to the memory.
use Rattle.std.proofs.Common.{◌≡◌, ◌<◌, ◌≤◌, ◌+◌, ◌/◌, ◌%◌, ℕ, true, false, List, [], ◌∷◌, ◌++◌, length, Option, Some, refl, sym, ap, subst, arith}
use Rattle.std.specs.Prelude.{◌==◌, not}
use Rattle.idl_tree.specs.declared.expressions.Expr.{Expr}
use Rattle.idl_tree.specs.declared.statements.Stmt.TheVariants as st
use Rattle.idl_bits.specs.BitVector.{BitVector}
use Rattle.idl_spec.specs.Harts.{State, done, raised, stuck}
use Rattle.idl_spec.specs.Shapes.{Kind}
use Rattle.idl_spec.specs.Settings.{Setting, Scope, goes_on}
use Rattle.idl_spec.specs.Forms.{address_of}
use Rattle.idl_spec.specs.Mean.{mean_expr}
use Rattle.idl_spec.specs.Programs.{IsState}
use Rattle.idl_spec.specs.Deeds.{acts}
use Rattle.idl_spec.specs.Demands.{Visible, bits_kind, outside_fields}
use Rattle.idl_spec.specs.Checks.{variable_names}
use Rattle.type_laws.specs.Kinds.{HasKind, Mode, loud, StateOk, Good, Matches, Round, view_in, Passes, AllPass}
use Rattle.type_laws.proofs.Outcomes.{bits_good, each_front, each_back}
use Rattle.type_laws.proofs.Passing.{IsOfBits, bits_kind_is, front, back, unless}
use Rattle.type_laws.proofs.OneForms.{must_be_loud, good_if}
use Rattle.type_laws.proofs.Sound.{IsSound, Sound, names_in, checks_in}
use Rattle.type_laws.proofs.StatementFlows.{IsFlow, Flows, SoundStmt, clean_values, own_acts}
use Rattle.std.proofs.Common.{zero, suc, take, drop}
use Rattle.std.specs.Prelude.{All, nat_lt}
use Rattle.std.proofs.lemmas.Bool.Decides.{nat_tests}
use Rattle.std.proofs.lemmas.List.{length-append, length-take-le, length-drop}
use Rattle.std.proofs.lemmas.List.Elements.{All-nil, All-cons, All-append, All-take, All-drop}
use Rattle.std.proofs.lemmas.Nat.{mod_below}
use Rattle.idl_spec.specs.Shapes.{shape}
use Rattle.idl_bits.specs.Number.{extension}
use Rattle.idl_spec.specs.Harts.{low_bytes, stored}
use Rattle.idl_spec.specs.Forms.{accessed, is_access}
use Rattle.idl_spec.specs.Mean.{write_memory}
use Rattle.idl_spec.specs.MeanLaws.{runs-WriteMemory}
use Rattle.idl_spec.specs.DeedLaws.{does-WriteMemory}
use Rattle.idl_spec.specs.Demands.{access_issues, wants_all}
use Rattle.idl_spec.specs.CheckLaws.{walks-WriteMemory}
use Rattle.type_laws.specs.LiteralLaws.{counts-WriteMemory}
use Rattle.type_laws.proofs.Outcomes.{chosen_true}
use Rattle.type_laws.proofs.Passing.{two_want}
use Rattle.type_laws.proofs.StatementForms.{silent}

-- ---- the memory keeps its length, and its bytes their range

low_count : (k n : ℕ) → length (low_bytes k n) ≡ k
low_count zero n = refl
low_count (suc k) n = ap suc (low_count k (n / 256))

low_range : (k n : ℕ) → All (λ b. b < 256) (low_bytes k n)
low_range zero n = All-nil (λ b. b < 256)
low_range (suc k) n = All-cons (λ b. b < 256) (n % 256) (low_bytes k (n / 256)) (mod_below n 256 (omega arith)) (low_range k (n / 256))

pub stored_length : (ram : List ℕ) (at k n : ℕ) → at + k ≤ length ram → length (stored ram at k n) ≡ length ram
unfolding stored
stored_length ram at k n h =
    let first = length-take-le at ram (omega arith) in
    let middle = low_count k n in
    let last = length-drop (at + k) ram in
    rw (length-append (take at ram) (low_bytes k n ++ drop (at + k) ram), length-append (low_bytes k n) (drop (at + k) ram)) (omega arith)

pub stored_range : (ram : List ℕ) (at k n : ℕ) → All (λ b. b < 256) ram → All (λ b. b < 256) (stored ram at k n)
unfolding stored
stored_range ram at k n h =
    All-append (λ b. b < 256) (take at ram) (low_bytes k n ++ drop (at + k) ram) (All-take (λ b. b < 256) at ram h)
    (All-append (λ b. b < 256) (low_bytes k n) (drop (at + k) ram) (low_range k n) (All-drop (λ b. b < 256) (at + k) ram h))

module _ (e : Setting) (mode : Mode) (round : Round) (sound : (x : Expr) → Sound e mode round x) where
  stored_state : (s : State) (at k n : ℕ) → at + k ≤ length s.ram → IsState e.space e.full e.program s → IsState e.space e.full e.program (record s { ram = stored s.ram at k n })
  stored_state s at k n low h = record {
    registers = h.registers;
    in_range = h.in_range;
    zero_register = h.zero_register;
    pc = h.pc;
    next = h.next;
    word = h.word;
    fields = h.fields;
    room = subst (λ z. z ≤ 65536) (sym (stored_length s.ram at k n low)) h.room;
    ram = stored_range s.ram at k n h.ram;
  }

  within : (n at k : ℕ) → nat_lt n (at + k) ≡ false → at + k ≤ n
  within n at k h = grind (arith, nat_tests)

  write_loud : (inner : List Visible) (count : ℕ) (scope : Scope) (at : ℕ) (v : BitVector) (s : State) → is_access count ≡ true → Matches e inner scope → IsState e.space e.full e.program s → Good e loud (IsFlow e round.returns inner) (write_memory count scope at v s)
  write_loud inner count scope at v s ok m h =
      subst (Good e loud (IsFlow e round.returns inner)) (sym (chosen_true (accessed 6 at (count / 8) s (done (goes_on scope) (record s { ram = stored s.ram at (count / 8) (extension count v) }))) stuck (is_access count) ok))
      (good_if e loud (IsFlow e round.returns inner) (not (at % (count / 8) == 0)) (raised 6 at s) _ (λ i. (tt, h)) (λ i.
      good_if e loud (IsFlow e round.returns inner) (nat_lt (length s.ram) (at + count / 8)) (raised 7 at s) (done (goes_on scope) (record s { ram = stored s.ram at (count / 8) (extension count v) })) (λ j. (tt, h)) (λ j.
      (m, stored_state s at (count / 8) (extension count v) (within (length s.ram) at (count / 8) j) h))))

  pub sound-WriteMemory : (count : ℕ) (at x : Expr) → SoundStmt e mode round (st.WriteMemory count at x)
  sound-WriteMemory count at x inner known clean pass scope s h =
      let view = view_in e mode round inner in
      let own = outside_fields view ++ access_issues count in
      let p = subst (AllPass e) (walks-WriteMemory (view_in e mode round []) count at x (variable_names e.variables ++ inner) known) pass in
      let c = clean_values e mode round (st.WriteMemory count at x) (at ∷ x ∷ []) (acts ∷ []) [] [] (does-WriteMemory count at x) (counts-WriteMemory count at x) clean in
      let a : IsSound e mode round at inner known = sound at inner known c.0 (each_front _ (checks_in e mode round inner at known) (checks_in e mode round inner x known) p.1) in
      let b : IsSound e mode round x inner known = sound x inner known c.1.0 (each_back _ (checks_in e mode round inner at known) (checks_in e mode round inner x known) p.1) in
      let q : Passes e known own = front e known own _ p.0 in
      let r = two_want e known bits_kind (Some a.kind) (Some b.kind)
      (subst (λ (z : Option Kind). Passes e known (wants_all bits_kind (Some a.kind ∷ z ∷ []))) b.is
      (subst (λ (z : Option Kind). Passes e known (wants_all bits_kind (z ∷ shape (names_in e mode round inner) x ∷ []))) a.is (back e known own _ p.0))) in
      let k : IsOfBits a.kind = bits_kind_is a.kind r.0 in
      let l : IsOfBits b.kind = bits_kind_is b.kind r.1 in
      let ok : is_access count ≡ true = unless e known (is_access count) (back e known (outside_fields view) _ q) in
      let out : mode ≡ loud = must_be_loud e mode round.before acts known refl refl (front e known (outside_fields view) _ q)
      (own_acts e mode round (st.WriteMemory count at x) (acts ∷ []) _ (does-WriteMemory count at x) clean).0 in
      silent e mode round sound (st.WriteMemory count at x) inner _ refl
      (subst (Flows e mode round inner) (sym (runs-WriteMemory e count at x scope s))
      (bits_good e mode (IsFlow e round.returns inner) k.width k.signed (mean_expr e at scope s) _
      (subst (λ (z : Kind). Good e mode (HasKind e z) (mean_expr e at scope s)) k.is (a.runs scope s h)) (λ v t hv ht.
      bits_good e mode (IsFlow e round.returns inner) l.width l.signed (mean_expr e x scope t) _
      (subst (λ (z : Kind). Good e mode (HasKind e z) (mean_expr e x scope t)) l.is (b.runs scope t (record { matches = h.matches; state = ht; here = h.here }))) (λ w z hw hz.
      subst (λ (m : Mode). StateOk e m z → Good e m (IsFlow e round.returns inner) (write_memory count scope (address_of e v) w z)) (sym out)
      (write_loud inner count scope (address_of e v) w z ok h.matches) hz))))
