-- Assignments to bits of locals and to registers.
use Rattle.std.proofs.Common.{◌≡◌, ◌≤◌, ℕ, Bool, true, false, List, [], ◌∷◌, ◌++◌, Option, Some, refl, sym, ap, ◌∙◌, subst}
use Rattle.std.specs.Prelude.{◌&&◌, if◌then◌else◌, pos}
use Rattle.udb_base.specs.declared.names.Name.{Name}
use Rattle.udb_base.specs.declared.conditions.Cond.{Cond}
use Rattle.idl_tree.specs.declared.widths.Width.{Width}
use Rattle.idl_tree.specs.declared.expressions.Expr.{Expr}
use Rattle.idl_tree.specs.declared.statements.Stmt.TheVariants as st
use Rattle.idl_bits.specs.BitVector.{BitVector}
use Rattle.idl_spec.specs.Values.{Value, bits, flag, member, given_text, written_text}
use Rattle.idl_spec.specs.Shapes.{Kind, of_bits}
use Rattle.idl_spec.specs.Settings.{Setting, Scope, number_of_width}
use Rattle.idl_spec.specs.Mean.{mean_expr}
use Rattle.idl_spec.specs.Demands.{Visible, visible_named, width_issues, want, suits, bits_kind}
use Rattle.idl_spec.specs.Checks.{variable_names}
use Rattle.type_laws.specs.Kinds.{IsBits, HasKind, Mode, Good, Round, view_in, Passes, AllPass}
use Rattle.type_laws.proofs.Outcomes.{bits_good, each_front, each_back}
use Rattle.type_laws.proofs.Passing.{Here, IsOfBits, bits_kind_is, front, back, unless}
use Rattle.type_laws.proofs.Widths.{width_good}
use Rattle.type_laws.proofs.Sound.{IsSound, Sound, checks_in}
use Rattle.type_laws.proofs.StatementFlows.{IsFlow, Flows, SoundStmt, clean_values}
use Rattle.std.proofs.Common.{◌-◌}
use Rattle.std.specs.Prelude.{int_le, int_lt, nat_lt, option_and_then}
use Rattle.idl_tree.specs.declared.statements.Target.TheVariants as t
use Rattle.idl_bits.specs.Operators.{with_bit, with_slice}
use Rattle.idl_spec.specs.Shapes.{innermost}
use Rattle.idl_spec.specs.Mean.{local_bits, bits_of_value, set_local}
use Rattle.idl_spec.specs.MeanLaws.{runs-Assign}
use Rattle.idl_spec.specs.DeedLaws.{does-Assign}
use Rattle.idl_spec.specs.Demands.{in_slice, demand, slice_issues}
use Rattle.idl_spec.specs.Checks.{local_kind, assigned_issues}
use Rattle.idl_spec.specs.CheckLaws.{walks-Assign}
use Rattle.type_laws.specs.LiteralLaws.{counts-Assign}
use Rattle.type_laws.proofs.Outcomes.{some_good}
use Rattle.type_laws.proofs.Passing.{met}
use Rattle.type_laws.proofs.Widths.{SlicePlaces, slice_places}
use Rattle.type_laws.proofs.StatementForms.{silent}
use Rattle.type_laws.proofs.StatementTargets.{HasLocal, local_there, assigned_matches}

-- the bits of a local
record HasBits (e : Setting) (w : Width) (s : Bool) (scope : Scope) (name : List ℕ) : Type 0 where
  old : BitVector
  is : local_bits scope name ≡ Some old
  has : IsBits e w s old

same_size : (b : Bool) (x y : BitVector) → x.width ≡ y.width → x.signed ≡ y.signed → ((if b then x else y).width ≡ y.width) × ((if b then x else y).signed ≡ y.signed)
same_size true x y h k = (h, k)
same_size false x y h k = (refl, refl)

bit_width : (old i v : BitVector) → ((with_bit old i v).width ≡ old.width) × ((with_bit old i v).signed ≡ old.signed)
unfolding with_bit
bit_width old i v = same_size (nat_lt i.pattern old.width) _ old refl refl

slice_size : (old : BitVector) (h l : ℕ) (v : BitVector) → ((with_slice old h l v).width ≡ old.width) × ((with_slice old h l v).signed ≡ old.signed)
unfolding with_slice
slice_size old h l v = (refl, refl)

module _ (e : Setting) where
  resized : (w : Width) (s : Bool) (old new : BitVector) → (new.width ≡ old.width) × (new.signed ≡ old.signed) → IsBits e w s old → IsBits e w s new
  resized w s old new h k = record { number = k.number ∙ ap pos (sym h.0); low = subst (λ n. 1 ≤ n) (sym h.0) k.low; high = subst (λ n. n ≤ 128) (sym h.0) k.high; sign = h.1 ∙ k.sign }

  there : (w : Width) (s : Bool) (scope : Scope) (name : List ℕ) (x : Value) → innermost scope name ≡ Some x → HasKind e (of_bits w s) x → HasBits e w s scope name
  there w s scope name (bits v) is h = record { old = v; is = ap (option_and_then bits_of_value) is; has = h }
  there w s scope name (flag x) is h = absurd h
  there w s scope name (member k n) is h = absurd h
  there w s scope name (given_text x) is h = absurd h
  there w s scope name (written_text x) is h = absurd h

module _ (e : Setting) (mode : Mode) (round : Round) (sound : (x : Expr) → Sound e mode round x) where
  pub sound-assigned-Bit : (name : Name) (at x : Expr) → SoundStmt e mode round (st.Assign (t.Bit name at) x)
  sound-assigned-Bit name at x inner known clean pass scope s h =
      let view = view_in e mode round inner in
      let one = visible_named view name in
      let p = subst (AllPass e) (walks-Assign (view_in e mode round []) (t.Bit name at) x (variable_names e.variables ++ inner) known) pass in
      let c = clean_values e mode round (st.Assign (t.Bit name at) x) (at ∷ x ∷ []) [] [] [] (does-Assign (t.Bit name at) x) (counts-Assign (t.Bit name at) x) clean in
      let places : AllPass e (checks_in e mode round inner at known ++ []) = each_front _ (checks_in e mode round inner at known ++ []) (checks_in e mode round inner x known) p.1.1 in
      let a : IsSound e mode round at inner known = sound at inner known c.0 (each_front _ (checks_in e mode round inner at known) [] places) in
      let b : IsSound e mode round x inner known = sound x inner known c.1.0 (each_back _ (checks_in e mode round inner at known ++ []) (checks_in e mode round inner x known) p.1.1) in
      let own = assigned_issues view name one ++ want bits_kind (local_kind one) in
      let q : Passes e known own = front e known own _ p.1.0 in
      let l : HasLocal e inner scope name one = local_there e mode round inner known scope name h.matches (front e known (assigned_issues view name one) _ q) in
      let j : IsOfBits l.visible.kind = bits_kind_is l.visible.kind (unless e known (suits bits_kind (Some l.visible.kind))
      (subst (λ (z : Option Visible). Passes e known (want bits_kind (local_kind z))) l.is (back e known (assigned_issues view name one) _ q))) in
      let k : IsOfBits a.kind = bits_kind_is a.kind (unless e known (suits bits_kind (Some a.kind))
      (subst (λ (z : Option Kind). Passes e known (want bits_kind z)) a.is (back e known own _ p.1.0))) in
      let m : IsOfBits b.kind = bits_kind_is b.kind (unless e known (suits bits_kind (Some b.kind))
      (subst (λ (z : Option Kind). Passes e known (want bits_kind z)) b.is p.0)) in
      let now : HasBits e j.width j.signed scope name = there e j.width j.signed scope name l.value l.now (subst (λ (z : Kind). HasKind e z l.value) j.is l.has) in
      silent e mode round sound (st.Assign (t.Bit name at) x) inner _ refl
      (subst (Flows e mode round inner) (sym (runs-Assign e (t.Bit name at) x scope s))
      (bits_good e mode (IsFlow e round.returns inner) k.width k.signed (mean_expr e at scope s) _
      (subst (λ (z : Kind). Good e mode (HasKind e z) (mean_expr e at scope s)) k.is (a.runs scope s h)) (λ i r hi hr.
      bits_good e mode (IsFlow e round.returns inner) m.width m.signed (mean_expr e x scope r) _
      (subst (λ (z : Kind). Good e mode (HasKind e z) (mean_expr e x scope r)) m.is (b.runs scope r (record { matches = h.matches; state = hr; here = h.here }))) (λ v z hv hz.
      some_good e mode (IsFlow e round.returns inner) (local_bits scope name) now.old _ now.is (
        assigned_matches e inner scope name l.visible (bits (with_bit now.old i v)) h.matches l.inside
            (subst (λ (g : Kind). HasKind e g (bits (with_bit now.old i v))) (sym j.is) (resized e j.width j.signed now.old (with_bit now.old i v) (bit_width now.old i v) now.has)),
        hz,
      )))))

  slice_pass : (inner : List Visible) (known : List Cond) (w : Width) (s : Bool) (high low : Width) (old : BitVector) → Here e known → Passes e known (demand (in_slice high low w) ∷ []) → IsBits e w s old → SlicePlaces old.width (number_of_width e high) (number_of_width e low)
  slice_pass inner known w s high low old here h k =
      slice_places old.width (number_of_width e high) (number_of_width e low)
      (subst (λ z. (int_le (pos 0) (number_of_width e low) && (int_le (number_of_width e low) (number_of_width e high) && int_lt (number_of_width e high) z)) ≡ true) k.number (met e known (in_slice high low w) here h.0))

  pub sound-assigned-Slice : (name : Name) (high low : Width) (x : Expr) → SoundStmt e mode round (st.Assign (t.Slice name high low) x)
  sound-assigned-Slice name high low x inner known clean pass scope s h =
      let view = view_in e mode round inner in
      let one = visible_named view name in
      let p = subst (AllPass e) (walks-Assign (view_in e mode round []) (t.Slice name high low) x (variable_names e.variables ++ inner) known) pass in
      let c = (clean_values e mode round (st.Assign (t.Slice name high low) x) (x ∷ []) [] [] [] (does-Assign (t.Slice name high low) x) (counts-Assign (t.Slice name high low) x) clean).0 in
      let b : IsSound e mode round x inner known = sound x inner known c p.1.1 in
      let named = (assigned_issues view name one ++ width_issues view high) ++ width_issues view low in
      let own = named ++ slice_issues view (local_kind one) high low in
      let q : Passes e known own = front e known own _ p.1.0 in
      let n : Passes e known named = front e known named _ q in
      let l : HasLocal e inner scope name one = local_there e mode round inner known scope name h.matches (front e known (assigned_issues view name one) _ (front e known (assigned_issues view name one ++ width_issues view high) _ n)) in
      let j : IsOfBits l.visible.kind = bits_kind_is l.visible.kind (unless e known (suits bits_kind (Some l.visible.kind))
      (subst (λ (z : Option Visible). Passes e known (want bits_kind (local_kind z))) l.is (back e known own _ p.1.0))) in
      let cut : Passes e known (demand (in_slice high low j.width) ∷ []) =
      subst (λ (z : Kind). Passes e known (slice_issues view (Some z) high low)) j.is
      (subst (λ (z : Option Visible). Passes e known (slice_issues view (local_kind z) high low)) l.is (back e known named _ q)) in
      let m : IsOfBits b.kind = bits_kind_is b.kind (unless e known (suits bits_kind (Some b.kind))
      (subst (λ (z : Option Kind). Passes e known (want bits_kind z)) b.is p.0)) in
      let now : HasBits e j.width j.signed scope name = there e j.width j.signed scope name l.value l.now (subst (λ (z : Kind). HasKind e z l.value) j.is l.has) in
      let at : SlicePlaces now.old.width (number_of_width e high) (number_of_width e low) = slice_pass inner known j.width j.signed high low now.old h.here cut now.has in
      silent e mode round sound (st.Assign (t.Slice name high low) x) inner _ refl
      (subst (Flows e mode round inner) (sym (runs-Assign e (t.Slice name high low) x scope s))
      (bits_good e mode (IsFlow e round.returns inner) m.width m.signed (mean_expr e x scope s) _
      (subst (λ (z : Kind). Good e mode (HasKind e z) (mean_expr e x scope s)) m.is (b.runs scope s h)) (λ v z hv hz.
      some_good e mode (IsFlow e round.returns inner) (local_bits scope name) now.old _ now.is
      (width_good e mode (IsFlow e round.returns inner) 0 (now.old.width - 1) high _ at.h
      (width_good e mode (IsFlow e round.returns inner) 0 at.h.n low (λ k. set_local scope name (bits (with_slice now.old at.h.n k v)) z) at.l (
        assigned_matches e inner scope name l.visible (bits (with_slice now.old at.h.n at.l.n v)) h.matches l.inside
            (subst (λ (g : Kind). HasKind e g (bits (with_slice now.old at.h.n at.l.n v))) (sym j.is) (resized e j.width j.signed now.old (with_slice now.old at.h.n at.l.n v) (slice_size now.old at.h.n at.l.n v) now.has)),
        hz,
      ))))))
