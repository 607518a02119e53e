-- What software writes to the CSRs of a program that fits leaves a state of the full configuration.
use Rattle.std.proofs.Common.{◌≡◌, inl, inr, ℕ, Bool, true, false, List, [], ◌∷◌, map, Option, None, Some, refl, sym, ap, ◌∙◌, subst}
use Rattle.std.specs.Prelude.{flat_map, option_map, option_and_then, if◌then◌else◌}
use Rattle.udb_base.specs.declared.spaces.Space.{Space}
use Rattle.udb_base.specs.declared.spaces.Full.{Full}
use Rattle.idl_tree.specs.Each.{Each}
use Rattle.idl_tree.specs.declared.programs.CsrBody.{CsrBody}
use Rattle.idl_tree.specs.declared.programs.Program.{Program}
use Rattle.idl_spec.specs.Harts.{FieldValue, State, with_field}
use Rattle.idl_spec.specs.Fields.{Placed, layout}
use Rattle.idl_spec.specs.Settings.{Setting, NewNumber}
use Rattle.idl_spec.specs.Programs.{IsState, HoldFields, present_fields, field_type, is_writable, written_number, write_field, write_fields, write_csr}
use Rattle.idl_spec.specs.ProgramFits.{functions_fit, csrs_fit}
use Rattle.type_laws.specs.Software.{HasDistinctNames, HasWritten}
use Rattle.type_laws.proofs.Reach.{Has, has_front, has_back}
use Rattle.type_laws.proofs.FieldNames.{IsNamed, all_named}
use Rattle.type_laws.proofs.StatementFields.{fields_kept}
use Rattle.type_laws.proofs.ProgramFunctions.{under_functions}
use Rattle.type_laws.proofs.ProgramFields.{Ground}
use Rattle.type_laws.proofs.ProgramNumbers.{HasType, HasNumber, type_known, written_known}

each_at : {X : Type 0} (P : X → Type 0) (xs : List X) (x : X) → Each P xs → Has xs x → P x
each_at P [] x all h = absurd h
each_at P (y ∷ ys) x all (inl e) = subst P e all.0
each_at P (y ∷ ys) x all (inr h) = each_at P ys x all.1 h

has_mapped : {X Y : Type 0} (f : X → Y) (xs : List X) (x : X) → Has xs x → Has (map f xs) (f x)
has_mapped f [] x h = absurd h
has_mapped f (y ∷ ys) x (inl e) = inl (ap f e)
has_mapped f (y ∷ ys) x (inr h) = inr (has_mapped f ys x h)

module _ (space : Space) (full : Full) (program : Program) where
  abbrev pair : CsrBody → Placed → CsrBody × Placed
  pair c p = (c, p)

  has_field : (cs : List CsrBody) (c : CsrBody) (p : Placed) → Has cs c → Has (layout space full c) p → Has (flat_map (λ x. map (pair x) (layout space full x)) cs) (pair c p)
  has_field [] c p h k = absurd h
  has_field (d ∷ ds) c p (inl e) k =
      has_front (map (pair d) (layout space full d)) (flat_map (λ x. map (pair x) (layout space full x)) ds) (pair c p)
      (subst (λ (x : CsrBody). Has (map (pair x) (layout space full x)) (pair c p)) (sym e) (has_mapped (pair c) (layout space full c) p k))
  has_field (d ∷ ds) c p (inr h) k =
      has_back (map (pair d) (layout space full d)) (flat_map (λ x. map (pair x) (layout space full x)) ds) (pair c p) (has_field ds c p h k)

  -- the fields after a write, held as before
  record Holds (o : Option (List FieldValue)) : Type 0 where
    pub fields : List FieldValue
    pub is : o ≡ Some fields
    pub held : HoldFields fields (present_fields space full program)

  module _ (g : Ground space full program) (functions : functions_fit space full program 0 program.functions ≡ true) (csrs : csrs_fit space full program 0 program.csrs ≡ true)
      (c : CsrBody) (has : Has program.csrs c) (n : ℕ) (s : State) (state : IsState space full program s) where
    abbrev new : NewNumber
    new = record { csr = c.name; number = n }

    distinct : HasDistinctNames program
    distinct = record { csrs = g.program_lawful.csrs; fields = g.program_lawful.fields }

    named : (p : Placed) → Has (layout space full c) p → IsNamed space full program (pair c p)
    named p h = each_at (IsNamed space full program) (present_fields space full program) (pair c p) (all_named space full program distinct) (has_field program.csrs c p has h)

    choose : (p : Placed) → Has (layout space full c) p → (fields : List FieldValue) → HoldFields fields (present_fields space full program) → (b : Bool)
        → Holds (if b then option_map (with_field fields c.name p.field.name) (written_number space full program new s p p.field.write) else Some fields)
    choose p h fields held false = record { fields = fields; is = refl; held = held }
    choose p h fields held true =
        let k : HasNumber p (written_number space full program new s p p.field.write) = written_known space full program g functions csrs c has p h n s state in
        record {
          fields = with_field fields c.name p.field.name k.number;
          is = ap (option_map (with_field fields c.name p.field.name)) k.is;
          held = fields_kept (under_functions space full program None []) c.name p.field.name p k.number (named p h) k.low fields (present_fields space full program) (all_named space full program distinct) held;
        }

    one_written : (p : Placed) → Has (layout space full c) p → (fields : List FieldValue) → HoldFields fields (present_fields space full program) → Holds (write_field space full program new s p fields)
    one_written p h fields held =
        let t : HasType (field_type space full program p) = type_known space full program g functions csrs c has p h in
        subst (λ o. Holds (option_and_then (λ type. if is_writable type then option_map (with_field fields c.name p.field.name) (written_number space full program new s p p.field.write) else Some fields) o)) (sym t.is)
        (choose p h fields held (is_writable t.type))

    all_written : (ps : List Placed) → ((p : Placed) → Has ps p → Has (layout space full c) p) → (fields : List FieldValue) → HoldFields fields (present_fields space full program) → Holds (write_fields space full program new s ps fields)
    all_written [] inside fields held = record { fields = fields; is = refl; held = held }
    all_written (p ∷ ps) inside fields held =
        let o : Holds (write_field space full program new s p fields) = one_written p (inside p (inl refl)) fields held in
        let r : Holds (write_fields space full program new s ps o.fields) = all_written ps (λ q k. inside q (inr k)) o.fields o.held in
        record { fields = r.fields; is = ap (option_and_then (write_fields space full program new s ps)) o.is ∙ r.is; held = r.held }

    written_state : (fields : List FieldValue) → HoldFields fields (present_fields space full program) → IsState space full program (record s { fields = fields })
    written_state fields held = record {
      registers = state.registers;
      in_range = state.in_range;
      zero_register = state.zero_register;
      pc = state.pc;
      next = state.next;
      word = state.word;
      fields = held;
      room = state.room;
      ram = state.ram;
    }

    pub csr_written : (e : Setting) → e.space ≡ space → e.full ≡ full → e.program ≡ program → HasWritten e (write_csr space full program c n s)
    unfolding write_csr
    csr_written e is_space is_full is_program =
        let w : Holds (write_fields space full program new s (layout space full c) s.fields) = all_written (layout space full c) (λ p h. h) s.fields state.fields in
        record {
          state = record s { fields = w.fields };
          is = ap (option_map (λ fields. record s { fields = fields })) w.is;
          kept = subst (λ (x : Program). IsState e.space e.full x (record s { fields = w.fields })) (sym is_program)
              (subst (λ (x : Full). IsState e.space x program (record s { fields = w.fields })) (sym is_full)
              (subst (λ (x : Space). IsState x full program (record s { fields = w.fields })) (sym is_space) (written_state w.fields w.held)));
        }
