-- Writes of CSRs as software makes them.
use Rattle.std.proofs.Common.{◌≡◌, ◌<◌, ◌^◌, ◌/◌, ◌%◌, ℕ, List, [], ◌∷◌, ◌++◌, Option, None, Some, refl, sym, subst}
use Rattle.std.specs.Prelude.{◌==◌, IfSome}
use Rattle.idl_tree.specs.declared.expressions.Expr.{Expr}
use Rattle.idl_tree.specs.declared.statements.Stmt.TheVariants as st
use Rattle.idl_tree.specs.declared.programs.CsrBody.{CsrBody}
use Rattle.idl_bits.specs.BitVector.{BitVector}
use Rattle.idl_bits.specs.Number.{number}
use Rattle.idl_bits.proofs.Modulo.{pattern_of-lt}
use Rattle.idl_spec.specs.Harts.{State, done, or_stuck}
use Rattle.idl_spec.specs.Shapes.{Kind}
use Rattle.idl_spec.specs.Settings.{Setting, Scope, goes_on, registers}
use Rattle.idl_spec.specs.Forms.{addressed, address_of, illegal}
use Rattle.idl_spec.specs.Mean.{mean_expr, soft_write}
use Rattle.idl_spec.specs.MeanLaws.{runs-SoftWrite}
use Rattle.idl_spec.specs.Programs.{IsState}
use Rattle.idl_spec.specs.Deeds.{acts}
use Rattle.idl_spec.specs.DeedLaws.{does-SoftWrite}
use Rattle.idl_spec.specs.Demands.{Visible, want, suits, bits_kind, outside_fields, address_issues}
use Rattle.idl_spec.specs.Checks.{variable_names, address_checks}
use Rattle.idl_spec.specs.CheckLaws.{walks-SoftWrite}
use Rattle.type_laws.specs.Kinds.{HasKind, Mode, loud, StateOk, Good, Matches, Round, view_in, Passes, AllPass}
use Rattle.type_laws.specs.LiteralLaws.{counts-SoftWrite}
use Rattle.type_laws.specs.Software.{HasWritten, CanWrite, Software}
use Rattle.type_laws.proofs.Outcomes.{each_front, each_back, then_good, bits_good, some_good}
use Rattle.type_laws.proofs.Passing.{IsOfBits, bits_kind_is, front, back, unless}
use Rattle.type_laws.proofs.OneForms.{must_be_loud, good_if}
use Rattle.type_laws.proofs.Sound.{IsSound, Sound, checks_in}
use Rattle.type_laws.proofs.StatementFlows.{IsFlow, Flows, SoundStmt, clean_values, own_acts}
use Rattle.type_laws.proofs.StatementForms.{silent}
use Rattle.type_laws.proofs.Addresses.{IsReal, IsAddressed, addressed_good}

module _ (e : Setting) (mode : Mode) (round : Round) (sound : (x : Expr) → Sound e mode round x) (software : Software e mode) where
  -- a CSR of the program takes the number, or the instruction is illegal
  real_written : (can : CanWrite e) (inner : List Visible) (scope : Scope) (c : CsrBody) (n : ℕ) (s : State) → IsReal e mode round can c → n < 2 ^ registers e → Matches e inner scope → IsState e.space e.full e.program s
      → Good e loud (IsFlow e round.returns inner) (or_stuck e.soft_write (λ write. or_stuck (write c n s) (λ new. done (goes_on scope) new)))
  real_written can inner scope c n s real low m h =
      let w : HasWritten e (can.write c n s) = real.0 real.1 n low s h in
      some_good e loud (IsFlow e round.returns inner) e.soft_write can.write _ can.is
      (some_good e loud (IsFlow e round.returns inner) (can.write c n s) w.state (λ new. done (goes_on scope) new) w.is (m, w.kept))

  written_loud : (can : CanWrite e) (inner : List Visible) (scope : Scope) (address : ℕ) (o : Option CsrBody) (v : BitVector) (s : State) → IfSome o (IsReal e mode round can) → Matches e inner scope → IsState e.space e.full e.program s
      → Good e loud (IsFlow e round.returns inner) (soft_write e scope (record { address = address; csr = o }) v s)
  written_loud can inner scope address None v s real m h = (tt, h)
  written_loud can inner scope address (Some c) v s real m h =
      good_if e loud (IsFlow e round.returns inner) (address / 2 ^ 10 % 4 == 3) (illegal s) _ (λ i. (tt, h))
      (λ i. real_written can inner scope c (address_of e v) s real (pattern_of-lt (registers e) (number v)) m h)

  pub sound-SoftWrite : (address x : Expr) → SoundStmt e mode round (st.SoftWrite address x)
  sound-SoftWrite address x inner known clean pass scope s h =
      let view = view_in e mode round inner in
      let own = outside_fields view ++ address_issues view address in
      let below = address_checks view (address, checks_in e mode round inner address) known in
      let p = subst (AllPass e) (walks-SoftWrite (view_in e mode round []) address x (variable_names e.variables ++ inner) known) pass in
      let c = clean_values e mode round (st.SoftWrite address x) (address ∷ x ∷ []) (acts ∷ []) [] [] (does-SoftWrite address x) (counts-SoftWrite address x) clean in
      let b : IsSound e mode round x inner known = sound x inner known c.1.0 (each_back _ below (checks_in e mode round inner x known) p.1) in
      let q : Passes e known own = front e known own _ p.0 in
      let k : IsOfBits b.kind = bits_kind_is b.kind (unless e known (suits bits_kind (Some b.kind)) (subst (λ (z : Option Kind). Passes e known (want bits_kind z)) b.is (back e known own _ p.0))) in
      let out : mode ≡ loud = must_be_loud e mode round.before acts known refl refl (front e known (outside_fields view) _ q)
      (own_acts e mode round (st.SoftWrite address x) (acts ∷ []) _ (does-SoftWrite address x) clean).0 in
      let can : CanWrite e = software.writes out in
      silent e mode round sound (st.SoftWrite address x) inner _ refl
      (subst (Flows e mode round inner) (sym (runs-SoftWrite e address x scope s))
      (then_good e mode (IsAddressed e mode round can) (IsFlow e round.returns inner) (addressed e address (mean_expr e address) scope s) _
      (addressed_good e mode round can address (sound address) inner known c.0 (back e known (outside_fields view) _ q) (each_front _ below (checks_in e mode round inner x known) p.1) scope s h) (λ one r hone hr.
      bits_good e mode (IsFlow e round.returns inner) k.width k.signed (mean_expr e x scope r) (soft_write e scope one)
      (subst (λ (z : Kind). Good e mode (HasKind e z) (mean_expr e x scope r)) k.is (b.runs scope r (record { matches = h.matches; state = hr; here = h.here }))) (λ v z hv hz.
      subst (λ (g : Mode). StateOk e g z → Good e g (IsFlow e round.returns inner) (soft_write e scope one v z)) (sym out)
      (written_loud can inner scope one.address one.csr v z hone h.matches) hz))))
