-- What software writes, field by field, and what the bodies of fields return.
use Rattle.std.proofs.Common.{◌≡◌, ℕ, suc, ◌+◌, ◌<◌, ◌≤◌, true, List, [], ◌∷◌, drop, length, get_or, Result, Ok, Err, Option, None, Some, refl, sym, ap, ◌∙◌, subst, arith}
use Rattle.std.specs.Prelude.{filter_map, option_and_then}
use Rattle.std.specs.List.{cons_option}
use Rattle.std.proofs.Math.Seq.{drop-cons}
use Rattle.std.proofs.Math.ListN.{drop_of_length-le}
use Rattle.udb_base.specs.declared.spaces.Space.{Space}
use Rattle.udb_base.specs.declared.spaces.Full.{Full}
use Rattle.udb_spec.specs.Conditions.{holds}
use Rattle.idl_tree.specs.declared.statements.Stmt.{Stmt}
use Rattle.idl_tree.specs.declared.programs.Body.{Body}
use Rattle.idl_tree.specs.declared.programs.FieldBodies.{FieldBodies}
use Rattle.idl_tree.specs.declared.programs.FieldType.{FieldType}
use Rattle.idl_tree.specs.declared.programs.FieldKind.TheVariants as kind
use Rattle.idl_tree.specs.declared.programs.CsrBody.{CsrBody}
use Rattle.idl_tree.specs.declared.programs.Program.{Program}
use Rattle.idl_spec.specs.Values as meant
use Rattle.idl_spec.specs.Harts.{FieldValue, State}
use Rattle.idl_spec.specs.Fields.{Placed, placed, layout}
use Rattle.idl_spec.specs.Settings.{Setting, NewNumber}
use Rattle.idl_spec.specs.Mean.{mean_stmts}
use Rattle.idl_spec.specs.Programs.{write_field, write_fields, write_csr, field_result, field_type, quiet_setting, run_stmts, type_of_member, value_of, blank_state}
use Rattle.idl_forms.specs.declared.values.Value.{Value}
use Rattle.idl_forms.specs.declared.values.Local.{Local}
use Rattle.idl_forms.specs.declared.values.Stop.{Stop}
use Rattle.idl_forms.specs.declared.values.Stop.TheVariants.{Memory, Raised, Stuck}
use Rattle.idl_forms.specs.States.{scope_of, value_if_any, Ends, AnswersWith, Returns, or_stop}
use Rattle.idl_mean.specs.Flows.{flow_of, Writes, with_fields}
use Rattle.idl_mean.proofs.CallSteps.{body-ends}

-- ---- field by field

next-place : (i : ℕ) → suc i ≡ i + 1
next-place i = omega arith

-- a list from a place on, opened there
pub opened-at : {X : Type 0} (xs : List X) (i : ℕ) (x : X) → i < length xs → x ≡ get_or xs i x → drop i xs ≡ x ∷ drop (i + 1) xs
opened-at {X = X} xs i x l e =
    drop-cons xs i x l ∙ ap (λ (y : X). y ∷ drop (suc i) xs) (sym e) ∙ ap (λ (n : ℕ). x ∷ drop n xs) (next-place i)

pub write-more : (x : Option (List FieldValue)) (s t : State) (next : List FieldValue → Option (List FieldValue)) → with_fields s x ≡ Some t
    → with_fields s (option_and_then next x) ≡ with_fields t (next t.fields)
write-more None s t next e = absurd (cc)
write-more (Some fs) s t next e =
    let same : record s { fields = fs } ≡ t = cc in
    subst (λ (z : State). with_fields s (next fs) ≡ with_fields z (next z.fields)) same refl

pub write-none : (x : Option (List FieldValue)) (s : State) (next : List FieldValue → Option (List FieldValue)) → with_fields s x ≡ None
    → with_fields s (option_and_then next x) ≡ None
write-none None s next e = refl
write-none (Some fs) s next e = absurd (cc)

module _ (space : Space) (full : Full) (program : Program) (new : NewNumber) (before : State) where
  abbrev pub writes-left : List FieldBodies → State → Option State
  writes-left fields s = with_fields s (write_fields space full program new before (filter_map (placed space full) fields) s.fields)

  -- the rest of the fields, the first of which stands at a place
  abbrev pub writes-rest : Option Placed → List FieldBodies → State → Option State
  writes-rest o rest s = with_fields s (write_fields space full program new before (cons_option o (filter_map (placed space full) rest)) s.fields)

  rest-open : (fields : List FieldBodies) (i : ℕ) (f : FieldBodies) (o : Option Placed) (s : State) → i < length fields → f ≡ get_or fields i f → placed space full f ≡ o
      → writes-left (drop i fields) s ≡ writes-rest o (drop (i + 1) fields) s
  rest-open fields i f o s l e h =
      let opened : drop i fields ≡ f ∷ drop (i + 1) fields = opened-at fields i f l e in
      ap (λ (gs : List FieldBodies). writes-left gs s) opened
      ∙ ap (λ (p : Option Placed). writes-rest p (drop (i + 1) fields) s) h

  pub rest-written : (fields : List FieldBodies) (i : ℕ) (f : FieldBodies) (p : Placed) (s t : State) → i < length fields → f ≡ get_or fields i f → placed space full f ≡ Some p
      → with_fields s (write_field space full program new before p s.fields) ≡ Some t
      → writes-left (drop i fields) s ≡ writes-left (drop (i + 1) fields) t
  rest-written fields i f p s t l e h k =
      rest-open fields i f (Some p) s l e h
      ∙ write-more (write_field space full program new before p s.fields) s t (write_fields space full program new before (filter_map (placed space full) (drop (i + 1) fields))) k

  pub rest-kept : (fields : List FieldBodies) (i : ℕ) (f : FieldBodies) (s : State) → i < length fields → f ≡ get_or fields i f → placed space full f ≡ None
      → writes-left (drop i fields) s ≡ writes-left (drop (i + 1) fields) s
  rest-kept fields i f s l e h = rest-open fields i f None s l e h

  rest-stuck : (fields : List FieldBodies) (i : ℕ) (f : FieldBodies) (p : Placed) (s : State) → i < length fields → f ≡ get_or fields i f → placed space full f ≡ Some p
      → with_fields s (write_field space full program new before p s.fields) ≡ None → writes-left (drop i fields) s ≡ None
  rest-stuck fields i f p s l e h k =
      rest-open fields i f (Some p) s l e h
      ∙ write-none (write_field space full program new before p s.fields) s (write_fields space full program new before (filter_map (placed space full) (drop (i + 1) fields))) k

  pub rest-stops : (fields : List FieldBodies) (i : ℕ) (f : FieldBodies) (p : Placed) (s t : State) (stop : Stop) (r : Result (Unit {0}) Stop) (whole : Option State)
      → i < length fields → f ≡ get_or fields i f → placed space full f ≡ Some p → whole ≡ writes-left (drop i fields) s
      → Writes (with_fields s (write_field space full program new before p s.fields)) (Err stop) t → r ≡ Err stop → Writes whole r t
  rest-stops fields i f p s t Memory r whole l e h w k d = subst (λ (q : Result (Unit {0}) Stop). Writes whole q t) (sym d) tt
  rest-stops fields i f p s t (Raised code tval) r whole l e h w k d = absurd k
  rest-stops fields i f p s t Stuck r whole l e h w k d = subst (λ (q : Result (Unit {0}) Stop). Writes whole q t) (sym d) (w ∙ rest-stuck fields i f p s l e h k)

  pub rest-none : (fields : List FieldBodies) (i : ℕ) (s : State) → length fields ≤ i → writes-left (drop i fields) s ≡ Some s
  rest-none fields i s l = ap (λ (gs : List FieldBodies). writes-left gs s) (drop_of_length-le fields l)

-- all fields of a CSR that is present
pub csr-written : (space : Space) (full : Full) (program : Program) (c : CsrBody) (n : ℕ) (s : State) → holds space full c.present ≡ true
    → write_csr space full program c n s ≡ writes-left space full program (record { csr = c.name; number = n }) s c.fields s
unfolding write_csr layout
csr-written space full program c n s h = rw h refl

-- ---- bodies of fields

module _ (space : Space) (full : Full) (program : Program) (written : Option NewNumber) (e : Setting) (body : Body) (stmts : List Stmt) (scope after : List Local) (s copy t : State)
    (is : e ≡ quiet_setting space full program written) (same : stmts ≡ body.statements) (empty : scope ≡ []) (copied : copy ≡ s) where
  run-is : run_stmts e stmts (scope_of scope) copy ≡ run_stmts (quiet_setting space full program written) body.statements [] s
  run-is = ap (λ (x : Setting). run_stmts x stmts (scope_of scope) copy) is
      ∙ ap (λ (x : List Stmt). run_stmts (quiet_setting space full program written) x (scope_of scope) copy) same
      ∙ ap (λ (x : List Local). run_stmts (quiet_setting space full program written) body.statements (scope_of x) copy) empty
      ∙ ap (λ (x : State). run_stmts (quiet_setting space full program written) body.statements [] x) copied

  pub field-returns : (v : Option Value) → Ends (flow_of after) (mean_stmts e stmts (scope_of scope) copy) (Ok v) t → value_if_any v ≡ field_result space full program written body s
  unfolding field_result
  field-returns v h = sym (ap value_of (body-ends e stmts (scope_of scope) after copy t (Ok v) h)) ∙ ap value_of run-is

  pub field-stops : (stop : Stop) (r : Result (Option Value) Stop) → Ends (flow_of after) (mean_stmts e stmts (scope_of scope) copy) (Err stop) t
      → Returns (value_of (run_stmts e stmts (scope_of scope) copy)) r → Returns (field_result space full program written body s) r
  unfolding field_result
  field-stops stop r h k = subst (λ (x : Option meant.Value). Returns x r) (ap value_of run-is) k

-- ---- types and values at reset

pub answers-or-stop : {A : Type 0} (x : Option A) (r : Result A Stop) → r ≡ or_stop x → AnswersWith (λ (a : A). a) x r
answers-or-stop None r e = subst (λ q. AnswersWith (λ a. a) None q) (sym e) refl
answers-or-stop (Some y) r e = subst (λ q. AnswersWith (λ a. a) (Some y) q) (sym e) refl

pub plain-type : (space : Space) (full : Full) (program : Program) (p : Placed) (k : FieldType) → p.field.kind ≡ kind.Plain k → field_type space full program p ≡ Some k
unfolding field_type
plain-type space full program p k e = rw e refl

pub computed-type : (space : Space) (full : Full) (program : Program) (p : Placed) (body : Body) (blank : State) (v : Option Value) (r : Result FieldType Stop) → p.field.kind ≡ kind.Computed body
    → blank ≡ blank_state → value_if_any v ≡ field_result space full program None body blank → r ≡ or_stop (option_and_then type_of_member (value_if_any v))
    → AnswersWith (λ (k : FieldType). k) (field_type space full program p) r
unfolding field_type
computed-type space full program p body blank v r e b h d =
    let value : value_if_any v ≡ field_result space full program None body blank_state = h ∙ ap (field_result space full program None body) b in
    rw e (answers-or-stop (option_and_then type_of_member (field_result space full program None body blank_state)) r
    (d ∙ ap (λ (x : Option meant.Value). or_stop (option_and_then type_of_member x)) value))
