-- Assignments to registers.
use Rattle.std.proofs.Common.{◌≡◌, ◌<◌, ◌^◌, ℕ, Bool, true, false, List, [], ◌∷◌, ◌++◌, length, Option, Some, refl, sym, ◌∙◌, subst}
use Rattle.std.specs.Prelude.{◌==◌, if◌then◌else◌}
use Rattle.idl_tree.specs.declared.expressions.Expr.{Expr}
use Rattle.idl_tree.specs.declared.statements.Stmt.TheVariants as st
use Rattle.idl_bits.specs.BitVector.{BitVector}
use Rattle.idl_bits.specs.Number.{number}
use Rattle.idl_bits.proofs.Modulo.{pattern_of-lt}
use Rattle.idl_spec.specs.Harts.{State, done}
use Rattle.idl_spec.specs.Shapes.{Kind}
use Rattle.idl_spec.specs.Settings.{Setting, Scope, goes_on, registers}
use Rattle.idl_spec.specs.Mean.{mean_expr}
use Rattle.idl_spec.specs.Programs.{IsState}
use Rattle.idl_spec.specs.Deeds.{acts}
use Rattle.idl_spec.specs.Demands.{Visible, want, suits, bits_kind, outside_fields}
use Rattle.idl_spec.specs.Checks.{variable_names}
use Rattle.type_laws.specs.Kinds.{HasKind, Mode, loud, StateOk, Good, Matches, Round, view_in, Passes, AllPass}
use Rattle.type_laws.proofs.Outcomes.{bits_good, each_front, each_back}
use Rattle.type_laws.proofs.Passing.{IsOfBits, bits_kind_is, front, back, unless}
use Rattle.type_laws.proofs.OneForms.{must_be_loud}
use Rattle.type_laws.proofs.Sound.{IsSound, Sound, checks_in}
use Rattle.type_laws.proofs.StatementFlows.{IsFlow, Flows, SoundStmt, clean_values, own_acts}
use Rattle.std.proofs.Common.{zero, suc}
use Rattle.std.specs.Prelude.{All, nat_lt, slice_index, slice_set}
use Rattle.std.proofs.lemmas.List.{length-set}
use Rattle.std.proofs.lemmas.List.Elements.{All-set}
use Rattle.idl_tree.specs.declared.statements.Target.TheVariants as t
use Rattle.idl_bits.specs.Number.{extension}
use Rattle.idl_spec.specs.Harts.{write_register}
use Rattle.idl_spec.specs.MeanLaws.{runs-Assign}
use Rattle.idl_spec.specs.DeedLaws.{does-Assign}
use Rattle.idl_spec.specs.CheckLaws.{walks-Assign}
use Rattle.type_laws.specs.LiteralLaws.{counts-Assign}
use Rattle.type_laws.proofs.StatementForms.{silent}

-- ---- what a write to a register keeps

pick : (P : List ℕ → Type 0) (b c : Bool) (x y : List ℕ) → P x → (b ≡ false → P y) → P (if b then x else (if c then y else x))
pick P true c x y h k = h
pick P false true x y h k = k refl
pick P false false x y h k = h

zero_kept : (x : List ℕ) (n v : ℕ) → (n == 0) ≡ false → slice_index (slice_set x n v) 0 ≡ slice_index x 0
zero_kept x zero v h = absurd (cc)
zero_kept [] (suc n) v h = refl
zero_kept (d ∷ x) (suc n) v h = refl

pub written_length : (x : List ℕ) (n v : ℕ) → length (write_register x n v) ≡ length x
written_length x n v = pick (λ (y : List ℕ). length y ≡ length x) (n == 0) (nat_lt n 32) x (slice_set x n v) refl (λ i. length-set x n v)

pub written_range : (P : ℕ → Type 0) (x : List ℕ) (n v : ℕ) → All P x → P v → All P (write_register x n v)
written_range P x n v h k = pick (All P) (n == 0) (nat_lt n 32) x (slice_set x n v) h (λ i. All-set P x n v k h)

pub written_zero : (x : List ℕ) (n v : ℕ) → slice_index (write_register x n v) 0 ≡ slice_index x 0
written_zero x n v = pick (λ (y : List ℕ). slice_index y 0 ≡ slice_index x 0) (n == 0) (nat_lt n 32) x (slice_set x n v) refl (λ i. zero_kept x n v i)

module _ (e : Setting) (mode : Mode) (round : Round) (sound : (x : Expr) → Sound e mode round x) where
  written_state : (s : State) (n v : ℕ) → v < 2 ^ registers e → IsState e.space e.full e.program s → IsState e.space e.full e.program (record s { x = write_register s.x n v })
  written_state s n v low h = record {
    registers = written_length s.x n v ∙ h.registers;
    in_range = written_range (λ m. m < 2 ^ registers e) s.x n v h.in_range low;
    zero_register = written_zero s.x n v ∙ h.zero_register;
    pc = h.pc;
    next = h.next;
    word = h.word;
    fields = h.fields;
    room = h.room;
    ram = h.ram;
  }

  written_loud : (inner : List Visible) (scope : Scope) (n : ℕ) (v : BitVector) (s : State) → Matches e inner scope → IsState e.space e.full e.program s
      → Good e loud (IsFlow e round.returns inner) (done (goes_on scope) (record s { x = write_register s.x n (extension (registers e) v) }))
  written_loud inner scope n v s m h = (m, written_state s n (extension (registers e) v) (pattern_of-lt (registers e) (number v)) h)

  pub sound-assigned-Register : (at x : Expr) → SoundStmt e mode round (st.Assign (t.Register at) x)
  sound-assigned-Register at x inner known clean pass scope s h =
      let view = view_in e mode round inner in
      let p = subst (AllPass e) (walks-Assign (view_in e mode round []) (t.Register at) x (variable_names e.variables ++ inner) known) pass in
      let c = clean_values e mode round (st.Assign (t.Register at) x) (at ∷ x ∷ []) (acts ∷ []) [] [] (does-Assign (t.Register at) x) (counts-Assign (t.Register at) x) clean in
      let places : AllPass e (checks_in e mode round inner at known ++ []) = each_front _ (checks_in e mode round inner at known ++ []) (checks_in e mode round inner x known) p.1.1 in
      let a : IsSound e mode round at inner known = sound at inner known c.0 (each_front _ (checks_in e mode round inner at known) [] places) in
      let b : IsSound e mode round x inner known = sound x inner known c.1.0 (each_back _ (checks_in e mode round inner at known ++ []) (checks_in e mode round inner x known) p.1.1) in
      let k : IsOfBits a.kind = bits_kind_is a.kind (unless e known (suits bits_kind (Some a.kind))
      (subst (λ (z : Option Kind). Passes e known (want bits_kind z)) a.is (back e known (outside_fields view) _ p.1.0))) in
      let m : IsOfBits b.kind = bits_kind_is b.kind (unless e known (suits bits_kind (Some b.kind))
      (subst (λ (z : Option Kind). Passes e known (want bits_kind z)) b.is p.0)) in
      let out : mode ≡ loud = must_be_loud e mode round.before acts known refl refl (front e known (outside_fields view) _ p.1.0)
      (own_acts e mode round (st.Assign (t.Register at) x) (acts ∷ []) _ (does-Assign (t.Register at) x) clean).0 in
      silent e mode round sound (st.Assign (t.Register at) x) inner _ refl
      (subst (Flows e mode round inner) (sym (runs-Assign e (t.Register at) x scope s))
      (bits_good e mode (IsFlow e round.returns inner) k.width k.signed (mean_expr e at scope s) _
      (subst (λ (z : Kind). Good e mode (HasKind e z) (mean_expr e at scope s)) k.is (a.runs scope s h)) (λ i r hi hr.
      bits_good e mode (IsFlow e round.returns inner) m.width m.signed (mean_expr e x scope r) _
      (subst (λ (z : Kind). Good e mode (HasKind e z) (mean_expr e x scope r)) m.is (b.runs scope r (record { matches = h.matches; state = hr; here = h.here }))) (λ v z hv hz.
      subst (λ (g : Mode). StateOk e g z → Good e g (IsFlow e round.returns inner) (done (goes_on scope) (record z { x = write_register z.x i.pattern (extension (registers e) v) }))) (sym out)
      (written_loud inner scope i.pattern v z h.matches) hz))))
