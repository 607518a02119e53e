-- What bodies of fields give their fields: a type, a number at reset, and a number when software writes.
use Rattle.std.proofs.Common.{◌≡◌, inl, inr, ◌<◌, ◌^◌, ◌%◌, ℕ, Bool, true, false, List, [], ◌∷◌, get_or, Option, None, Some, refl, sym, ap, ◌∙◌, subst}
use Rattle.std.specs.Prelude.{◌&&◌, slice_get, option_map, option_and_then, All, IfSome}
use Rattle.std.proofs.lemmas.Bool.{false≢true}
use Rattle.std.proofs.lemmas.Option.{slice_get-get_or}
use Rattle.std.proofs.lemmas.Nat.{mod_below, pow_pos}
use Rattle.std.proofs.lemmas.List.Elements.{All-head, All-tail}
use Rattle.udb_base.specs.declared.spaces.Space.{Space}
use Rattle.udb_base.specs.declared.spaces.Full.{Full}
use Rattle.udb_spec.specs.Conditions.{holds}
use Rattle.idl_tree.specs.declared.widths.EnumKind.TheVariants.{PrivilegeMode, ExceptionCode, CsrFieldType}
use Rattle.idl_tree.specs.declared.widths.Width.TheVariants as wd
use Rattle.idl_tree.specs.declared.programs.Body.{Body}
use Rattle.idl_tree.specs.declared.programs.FieldType.{FieldType}
use Rattle.idl_tree.specs.declared.programs.FieldType.TheVariants.{RO}
use Rattle.idl_tree.specs.declared.programs.FieldKind.{FieldKind}
use Rattle.idl_tree.specs.declared.programs.FieldKind.TheVariants as kinds
use Rattle.idl_tree.specs.declared.programs.ResetValue.{ResetValue}
use Rattle.idl_tree.specs.declared.programs.ResetValue.TheVariants as resets
use Rattle.idl_tree.specs.declared.programs.CsrBody.{CsrBody}
use Rattle.idl_tree.specs.declared.programs.Program.{Program}
use Rattle.idl_bits.specs.Number.{extension, number}
use Rattle.idl_bits.proofs.Modulo.{pattern_of-lt}
use Rattle.idl_spec.specs.declared.scopes.BodyScope.TheVariants as scope
use Rattle.idl_spec.specs.Values.{Value, bits, flag, member, given_text, written_text}
use Rattle.idl_spec.specs.Harts.{State, Outcome, done, raised, stuck}
use Rattle.idl_spec.specs.Shapes.{Kind, of_bits, of_flag, of_member, of_given_text, of_written_text}
use Rattle.idl_spec.specs.Fields.{Placed, part_width, layout}
use Rattle.idl_spec.specs.Settings.{Setting, NewNumber}
use Rattle.idl_spec.specs.Programs.{IsState, blank_state, brought_to_field, field_types, type_of_member, type_of_kind, field_type, field_result, value_of, run_stmts, written_number, value_at_reset, reset_number}
use Rattle.idl_spec.specs.ProgramFits.{functions_fit, csrs_fit, kind_fits, reset_fits, write_fits, field_presence}
use Rattle.idl_spec.specs.Demands.{same_kind}
use Rattle.idl_spec.specs.Checks.{outer_view, field_view}
use Rattle.type_laws.specs.Kinds.{HasKind, in_field, Good}
use Rattle.type_laws.specs.Given.{IsBareBody, IsBareKind, IsBareReset, IsBareField}
use Rattle.type_laws.proofs.Outcomes.{both_true}
use Rattle.type_laws.proofs.Reach.{Has}
use Rattle.type_laws.proofs.StatementFlows.{CanReturn}
use Rattle.type_laws.proofs.Bodies.{IsGiven}
use Rattle.type_laws.proofs.Presence.{IsPresent, in_layout_present, presence_holds}
use Rattle.type_laws.proofs.ProgramFields.{Ground, CsrFits, csr_fits, FieldFits, field_place, field_setting, quiet_is, field_good}

pub all_at : {X : Type 0} (P : X → Type 0) (xs : List X) (x : X) → All P xs → Has xs x → P x
all_at P [] x all h = absurd h
all_at P (y ∷ ys) x all (inl e) = subst P e (All-head P y ys all)
all_at P (y ∷ ys) x all (inr h) = all_at P ys x (All-tail P y ys all) h

-- ---- values that are returned

-- a value that a body returns, which its kind suits
record Returns (e : Setting) (kind : Kind) (o : Option Value) : Type 0 where
  pub value : Value
  pub is : o ≡ Some value
  pub can : CanReturn e kind value

returns : (e : Setting) (reads : Bool) (kind : Kind) (o : Outcome (Option Value)) → Good e (in_field reads) (IsGiven e (Some kind)) o → Returns e kind (value_of o)
returns e reads kind (done None s) h = absurd h.0
returns e reads kind (done (Some v) s) h = record { value = v; is = refl; can = h.0 }
returns e reads kind (raised code tval s) h = absurd h.0
returns e reads kind stuck h = absurd h

-- a type of a field
pub record HasType (o : Option FieldType) : Type 0 where
  pub type : FieldType
  pub is : o ≡ Some type

-- a number that the field's bits hold
pub record HasNumber (p : Placed) (o : Option ℕ) : Type 0 where
  pub number : ℕ
  pub is : o ≡ Some number
  pub low : number < 2 ^ part_width p.bits

type_there : (n : ℕ) → n < 6 → HasType (slice_get field_types n)
type_there n h = record { type = get_or field_types n RO; is = slice_get-get_or field_types n RO h }

typed_member : (e : Setting) (from : Kind) (v : Value) → same_kind (of_member CsrFieldType) from ≡ true → HasKind e from v → HasType (type_of_member v)
typed_member e (of_bits w s) v h k = absurd (false≢true h)
typed_member e of_flag v h k = absurd (false≢true h)
typed_member e of_given_text v h k = absurd (false≢true h)
typed_member e of_written_text v h k = absurd (false≢true h)
typed_member e (of_member PrivilegeMode) v h k = absurd (false≢true h)
typed_member e (of_member ExceptionCode) v h k = absurd (false≢true h)
typed_member e (of_member CsrFieldType) (bits b) h k = absurd k
typed_member e (of_member CsrFieldType) (flag b) h k = absurd k
typed_member e (of_member CsrFieldType) (given_text b) h k = absurd k
typed_member e (of_member CsrFieldType) (written_text b) h k = absurd k
typed_member e (of_member CsrFieldType) (member PrivilegeMode n) h k = absurd (false≢true k.0)
typed_member e (of_member CsrFieldType) (member ExceptionCode n) h k = absurd (false≢true k.0)
typed_member e (of_member CsrFieldType) (member CsrFieldType n) h k = type_there n k.1

brought : (e : Setting) (p : Placed) (from : Kind) (v : Value) → same_kind (of_bits (wd.Number 1) false) from ≡ true → HasKind e from v → HasNumber p (brought_to_field p v)
brought e p of_flag v h k = absurd (false≢true h)
brought e p (of_member m) v h k = absurd (false≢true h)
brought e p of_given_text v h k = absurd (false≢true h)
brought e p of_written_text v h k = absurd (false≢true h)
brought e p (of_bits w s) (bits b) h k = record { number = extension (part_width p.bits) b; is = refl; low = pattern_of-lt (part_width p.bits) (number b) }
brought e p (of_bits w s) (flag b) h k = absurd k
brought e p (of_bits w s) (member m n) h k = absurd k
brought e p (of_bits w s) (given_text b) h k = absurd k
brought e p (of_bits w s) (written_text b) h k = absurd k

then_type : (e : Setting) (o : Option Value) → Returns e (of_member CsrFieldType) o → HasType (option_and_then type_of_member o)
then_type e o r =
    let t : HasType (type_of_member r.value) = typed_member e r.can.from r.value r.can.fits r.can.has in
    record { type = t.type; is = ap (option_and_then type_of_member) r.is ∙ t.is }

then_number : (e : Setting) (p : Placed) (o : Option Value) → Returns e (of_bits (wd.Number 1) false) o → HasNumber p (option_and_then (brought_to_field p) o)
then_number e p o r =
    let t : HasNumber p (brought_to_field p r.value) = brought e p r.can.from r.value r.can.fits r.can.has in
    record { number = t.number; is = ap (option_and_then (brought_to_field p)) r.is ∙ t.is; low = t.low }

low_part : (p : Placed) (n : ℕ) → HasNumber p (Some (n % 2 ^ part_width p.bits))
low_part p n = record { number = n % 2 ^ part_width p.bits; is = refl; low = mod_below n (2 ^ part_width p.bits) (pow_pos (part_width p.bits)) }

-- ---- fields of a program that fits

module _ (space : Space) (full : Full) (program : Program) (g : Ground space full program) (functions : functions_fit space full program 0 program.functions ≡ true) (csrs : csrs_fit space full program 0 program.csrs ≡ true)
    (c : CsrBody) (has : Has program.csrs c) (p : Placed) (at : Has (layout space full c) p) where
  there : CsrFits space full program c
  there = csr_fits space full program csrs c has

  present : IsPresent space full c p
  present = in_layout_present space full c p at

  here : holds space full (field_presence space c p.field) ≡ true
  here = presence_holds space full g.lawful g.valid program c p present

  fits_there : FieldFits space full program there.place c p.field
  fits_there = field_place space full program there.place c 0 c.fields there.fit p.field present.has

  plain : IsBareField p.field
  plain = all_at IsBareField c.fields p.field (all_at (λ x. All IsBareField x.fields) program.csrs c g.bare_bodies.fields has) present.has

  result_is : (written : Option NewNumber) (body : Body) (s : State) → field_result space full program written body s ≡ value_of (run_stmts (field_setting space full program written) body.statements [] s)
  unfolding field_result
  result_is written body s = ap (λ e. value_of (run_stmts e body.statements [] s)) (quiet_is space full program written)

  fit_parts : (kind_fits space full program there.place fits_there.field (field_presence space c p.field) p.field.kind ≡ true)
      × ((reset_fits space full program there.place fits_there.field (field_presence space c p.field) p.field.reset ≡ true)
      × (write_fits space full program there.place fits_there.field (field_presence space c p.field) p.field.write ≡ true))
  fit_parts =
      let presence = field_presence space c p.field in
      let kind = kind_fits space full program there.place fits_there.field presence p.field.kind in
      let reset = reset_fits space full program there.place fits_there.field presence p.field.reset in
      let write = write_fits space full program there.place fits_there.field presence p.field.write in
      let a = both_true kind (reset && write) fits_there.fit in
      (a.0, both_true reset write a.1)

  -- its type
  type_of : (k : FieldKind) → IsBareKind k → kind_fits space full program there.place fits_there.field (field_presence space c p.field) k ≡ true → HasType (type_of_kind space full program k)
  type_of (kinds.Plain type) bare h = record { type = type; is = refl }
  type_of (kinds.Computed body) bare h =
      let e = field_setting space full program None in
      let good = field_good space full program g functions None false (of_member CsrFieldType) (scope.FieldType there.place fits_there.field) (field_presence space c p.field) body bare refl refl here h blank_state tt in
      subst (λ o. HasType (option_and_then type_of_member o)) (sym (result_is None body blank_state))
      (then_type e _ (returns e false (of_member CsrFieldType) (run_stmts e body.statements [] blank_state) good))

  pub type_known : HasType (field_type space full program p)
  unfolding field_type
  type_known = type_of p.field.kind plain.kind fit_parts.0

  -- its number at reset
  reset_of : (r : ResetValue) → IsBareReset r → reset_fits space full program there.place fits_there.field (field_presence space c p.field) r ≡ true → HasNumber p (value_at_reset space full program p r)
  reset_of (resets.Plain n) bare h = low_part p n
  reset_of (resets.Computed body) bare h =
      let e = field_setting space full program None in
      let kind = of_bits (wd.Number 1) false in
      let good = field_good space full program g functions None false kind (scope.FieldReset there.place fits_there.field) (field_presence space c p.field) body bare refl refl here h blank_state tt in
      subst (λ o. HasNumber p (option_and_then (brought_to_field p) o)) (sym (result_is None body blank_state))
      (then_number e p _ (returns e false kind (run_stmts e body.statements [] blank_state) good))

  pub reset_known : HasNumber p (reset_number space full program p)
  unfolding reset_number
  reset_known = reset_of p.field.reset plain.reset fit_parts.1.0

  -- what its `sw_write` body gives
  write_good : (n : ℕ) (s : State) → IsState space full program s → (body : Body) → IsBareBody body
      → write_fits space full program there.place fits_there.field (field_presence space c p.field) (Some body) ≡ true
      → Good (field_setting space full program (Some (record { csr = c.name; number = n }))) (in_field true) (IsGiven (field_setting space full program (Some (record { csr = c.name; number = n }))) (Some (of_bits (wd.Number 1) false)))
      (run_stmts (field_setting space full program (Some (record { csr = c.name; number = n }))) body.statements [] s)
  write_good n s state body bare h =
      field_good space full program g functions (Some (record { csr = c.name; number = n })) true (of_bits (wd.Number 1) false) (scope.FieldWrite there.place fits_there.field) (field_presence space c p.field) body bare refl
      (ap (λ o. field_view (outer_view space program) true (option_map (λ (x : CsrBody). x.name) o) (of_bits (wd.Number 1) false)) there.there)
      here h s state

  written_of : (n : ℕ) (s : State) → IsState space full program s → (w : Option Body) → IfSome w IsBareBody → write_fits space full program there.place fits_there.field (field_presence space c p.field) w ≡ true
      → HasNumber p (written_number space full program (record { csr = c.name; number = n }) s p w)
  written_of n s state None bare h = low_part p _
  written_of n s state (Some body) bare h =
      let new : NewNumber = record { csr = c.name; number = n } in
      let e = field_setting space full program (Some new) in
      let kind = of_bits (wd.Number 1) false in
      subst (λ o. HasNumber p (option_and_then (brought_to_field p) o)) (sym (result_is (Some new) body s))
      (then_number e p _ (returns e true kind (run_stmts e body.statements [] s) (write_good n s state body bare h)))

  pub written_known : (n : ℕ) (s : State) → IsState space full program s → HasNumber p (written_number space full program (record { csr = c.name; number = n }) s p p.field.write)
  written_known n s state = written_of n s state p.field.write plain.write fit_parts.1.1

  pub body_written : (n : ℕ) (s : State) → IsState space full program s → (body : Body) → p.field.write ≡ Some body
      → Good (field_setting space full program (Some (record { csr = c.name; number = n }))) (in_field true) (IsGiven (field_setting space full program (Some (record { csr = c.name; number = n }))) (Some (of_bits (wd.Number 1) false)))
      (run_stmts (field_setting space full program (Some (record { csr = c.name; number = n }))) body.statements [] s)
  body_written n s state body is =
      write_good n s state body (subst (λ w. IfSome w IsBareBody) is plain.write)
      (subst (λ w. write_fits space full program there.place fits_there.field (field_presence space c p.field) w ≡ true) is fit_parts.1.1)
