-- What stands in `CSR[..]` before `.sw_read` and `.sw_write`, and what software reads there.
use Rattle.std.proofs.Common.{◌≡◌, ◌%◌, ℕ, Bool, true, false, List, [], ◌∷◌, ◌++◌, Option, None, Some, refl, sym, ap, ◌∙◌, subst}
use Rattle.std.specs.Prelude.{◌||◌, ◌==◌, IfSome, find, option_and_then, is_some, if◌then◌else◌}
use Rattle.idl_tree.specs.Each.{Each}
use Rattle.udb_base.specs.declared.names.Name.{Name}
use Rattle.udb_base.specs.declared.conditions.Cond.{Cond}
use Rattle.udb_spec.specs.Conditions.{holds, same_bytes}
use Rattle.idl_tree.specs.declared.expressions.Expr.{Expr}
use Rattle.idl_tree.specs.declared.expressions.Expr.TheVariants as ex
use Rattle.idl_tree.specs.declared.programs.Variable.{Variable}
use Rattle.idl_tree.specs.declared.programs.CsrBody.{CsrBody}
use Rattle.idl_spec.specs.Values.{Value, bits, plain}
use Rattle.idl_spec.specs.Harts.{State, done, stuck, required}
use Rattle.idl_spec.specs.Shapes.{Kind, of_bits, or_else, innermost, register_width, shape}
use Rattle.idl_spec.specs.ShapeLaws.{shape-SoftRead}
use Rattle.idl_spec.specs.Fields.{csr_named, read_csr}
use Rattle.idl_spec.specs.Settings.{Setting, Scope, registers, is_local}
use Rattle.idl_spec.specs.Forms as forms
use Rattle.idl_spec.specs.Forms.{Addressed, is_present_csr, csr_at, csr_of_name, addressed_by, addressed, or_illegal, soft_read}
use Rattle.idl_spec.specs.Mean.{mean_expr}
use Rattle.idl_spec.specs.MeanLaws.{mean-SoftRead}
use Rattle.idl_spec.specs.Deeds.{reads_memory}
use Rattle.idl_spec.specs.DeedLaws.{deeds-SoftRead}
use Rattle.idl_spec.specs.Demands.{Issue, Check, Visible, want, suits, bits_kind, outside_fields, unknown_name, demand, defined, csr_word, csr_word_issues, address_issues}
use Rattle.idl_spec.specs.Checks.{check, variable_names, address_checks}
use Rattle.idl_spec.specs.CheckLaws.{checks-SoftRead}
use Rattle.type_laws.specs.Kinds.{HasKind, Mode, loud, StateOk, MayRaise, Good, Matches, Round, view_in, Passes, AllPass}
use Rattle.type_laws.specs.LiteralLaws.{numbers-SoftRead}
use Rattle.type_laws.specs.Software.{TakesNumbers, CanWrite, Software}
use Rattle.type_laws.proofs.Outcomes.{chosen_true, same_some, then_good, bits_good, required_good}
use Rattle.type_laws.proofs.Passing.{Here, IsOfBits, bits_kind_is, front, back, unless, met}
use Rattle.type_laws.proofs.OneForms.{must_be_loud}
use Rattle.type_laws.proofs.Sound.{Stands, IsSound, Sound, Clean, names_in, checks_in, clean_parts, own_deeds}
use Rattle.type_laws.proofs.Worlds.{World, seen, IsFound, found}

-- ---- the words that are local

or_false : (x : Bool) → x ≡ (x || false)
or_false true = refl
or_false false = refl

or_true : (x : Bool) → true ≡ (x || true)
or_true true = refl
or_true false = refl

some_kept : {A : Type 0} (o : Option A) (x : A) → is_some (or_else o (Some x)) ≡ true
some_kept None x = refl
some_kept (Some y) x = refl

none_added : {A : Type 0} (o : Option A) → is_some (or_else o None) ≡ is_some o
none_added None = refl
none_added (Some y) = refl

seen_some : (vs : List Variable) (inner : List Visible) (name : List ℕ)
    → is_some (innermost (seen (variable_names vs ++ inner)) name) ≡ (is_some (innermost (seen inner) name) || is_some (find (λ v. same_bytes v.name name) vs))
seen_some [] inner name = or_false (is_some (innermost (seen inner) name))
seen_some (v ∷ vs) inner name = at (same_bytes v.name name) (innermost (seen (variable_names vs ++ inner)) name) (find (λ w. same_bytes w.name name) vs) _ (seen_some vs inner name)
  where
    at : (b : Bool) (o : Option Visible) (q : Option Variable) (w : Visible) → is_some o ≡ (is_some (innermost (seen inner) name) || is_some q)
        → is_some (or_else o (if b then Some w else None)) ≡ (is_some (innermost (seen inner) name) || is_some (if b then Some v else q))
    at true o q w h = some_kept o w ∙ or_true (is_some (innermost (seen inner) name))
    at false o q w h = none_added o ∙ h

found_each : {X : Type 0} (P : X → Type 0) (test : X → Bool) (xs : List X) (x : X) → Each P xs → find test xs ≡ Some x → P x × (test x ≡ true)
found_each P test [] x h is = absurd (cc)
found_each {X} P test (y ∷ ys) x h is = at (test y) refl is (found_each P test ys x h.1)
  where
    at : (b : Bool) → test y ≡ b → (if b then Some y else find test ys) ≡ Some x → (find test ys ≡ Some x → P x × (test x ≡ true)) → P x × (test x ≡ true)
    at true t k rest = subst (λ (z : X). P z × (test z ≡ true)) (same_some k) (h.0, t)
    at false t k rest = rest k

both_tests : (b c : Bool) → (if b then c else false) ≡ true → c ≡ true
both_tests true c h = h
both_tests false c h = absurd (cc)

module _ (e : Setting) (mode : Mode) (round : Round) where
  found_some : (name : List ℕ) (v : Option Visible) (o : Option Value) → IsFound e name v o → is_some v ≡ is_some o
  found_some name None None h = refl
  found_some name None (Some x) h = absurd h
  found_some name (Some v) None h = absurd h
  found_some name (Some v) (Some x) h = refl

  local_seen : (inner : List Visible) (scope : Scope) (name : Name) → Matches e inner scope → is_some (innermost (seen (variable_names e.variables ++ inner)) name) ≡ is_local e scope name
  local_seen inner scope name h =
      seen_some e.variables inner name
      ∙ ap (λ b. b || is_some (find (λ v. same_bytes v.name name) e.variables)) (found_some name (innermost (seen inner) name) (innermost scope name) (found e inner scope name h))

  -- the word of a CSR is the same at the place and in the scope
  word_same : (inner : List Visible) (scope : Scope) → Matches e inner scope → (x : Expr) → csr_word (view_in e mode round inner) x ≡ forms.csr_word e scope x
  word_same inner scope h (ex.Word name) = ap (λ b. if b then None else Some name) (local_seen inner scope name h)
  word_same inner scope h x = refl

module _ (e : Setting) (mode : Mode) (round : Round) (can : CanWrite e) where
  -- the addressed CSR is one of the program that is present, and takes numbers
  abbrev pub IsReal : CsrBody → Type 0
  IsReal c = TakesNumbers e can.write c × (holds e.space e.full c.present ≡ true)

  abbrev pub IsAddressed : Addressed → Type 0
  IsAddressed one = IfSome one.csr IsReal

  at_number : (address : ℕ) → IsAddressed (csr_at e address)
  at_number address = at (find (λ c. if c.address == address then is_present_csr e c else false) e.program.csrs) refl
    where
      at : (o : Option CsrBody) → find (λ c. if c.address == address then is_present_csr e c else false) e.program.csrs ≡ o → IfSome o IsReal
      at None is = tt
      at (Some c) is =
          let f = found_each (TakesNumbers e can.write) (λ x. if x.address == address then is_present_csr e x else false) e.program.csrs c can.takes is in
          (f.0, both_tests (c.address == address) (is_present_csr e c) f.1)

  named_good : (known : List Cond) (name : Name) (o : Option CsrBody) (s : State) → csr_named e.program.csrs name ≡ o → Passes e known (elim o [ None ↦ unknown_name name ∷ [] | Some c ↦ demand (defined c.present) ∷ [] ])
      → Here e known → StateOk e mode s → Good e mode IsAddressed (required (csr_of_name e name) s)
  named_good known name None s is pass here st = absurd (let b : false ≡ true = pass.0 in cc)
  named_good known name (Some c) s is pass here st =
      let present : holds e.space e.full c.present ≡ true = met e known (defined c.present) here pass.0 in
      let f = found_each (TakesNumbers e can.write) (λ x. same_bytes x.name name) e.program.csrs c can.takes is in
      let one : Addressed = record { address = c.address; csr = Some c } in
      required_good e mode IsAddressed (csr_of_name e name) one s
      (ap (option_and_then (λ (x : CsrBody). if is_present_csr e x then Some (record { address = x.address; csr = Some x }) else None)) is ∙ chosen_true (Some one) None (is_present_csr e c) present)
      (f.0, present) st

  -- the checks of the address: those of a CSR's word, or of the expression
  abbrev word_checks : List Visible → Expr → Option Name → List Cond → List Check
  word_checks inner address o known = elim o [ Some name ↦ check known (csr_word_issues (view_in e mode round inner) name) ∷ [] | None ↦ checks_in e mode round inner address known ]

  abbrev word_wants : List Visible → Expr → Option Name → List Issue
  word_wants inner address o = elim o [ Some name ↦ [] | None ↦ want bits_kind (shape (names_in e mode round inner) address) ]

  by_word : (address : Expr) → Sound e mode round address → (inner : List Visible) (known : List Cond) → Clean e mode round address → (o : Option Name) → Passes e known (word_wants inner address o) → AllPass e (word_checks inner address o known)
      → (scope : Scope) (s : State) → Stands e mode round inner known scope s → Good e mode IsAddressed (addressed_by e o (mean_expr e address) scope s)
  by_word address sound inner known clean (Some name) wants pass scope s h = named_good known name (csr_named e.program.csrs name) s refl pass.0 h.here h.state
  by_word address sound inner known clean None wants pass scope s h =
      let a : IsSound e mode round address inner known = sound inner known clean pass in
      let k : IsOfBits a.kind = bits_kind_is a.kind (unless e known (suits bits_kind (Some a.kind)) (subst (λ (z : Option Kind). Passes e known (want bits_kind z)) a.is wants)) in
      bits_good e mode IsAddressed k.width k.signed (mean_expr e address scope s) _
      (subst (λ (z : Kind). Good e mode (HasKind e z) (mean_expr e address scope s)) k.is (a.runs scope s h)) (λ v t hv ht. (at_number (v.pattern % 4096), ht))

  -- an address that passes is good
  pub addressed_good : (address : Expr) → Sound e mode round address → (inner : List Visible) (known : List Cond) → Clean e mode round address
      → Passes e known (address_issues (view_in e mode round inner) address) → AllPass e (address_checks (view_in e mode round inner) (address, checks_in e mode round inner address) known)
      → (scope : Scope) (s : State) → Stands e mode round inner known scope s → Good e mode IsAddressed (addressed e address (mean_expr e address) scope s)
  addressed_good address sound inner known clean wants pass scope s h =
      let o = csr_word (view_in e mode round inner) address in
      subst (Good e mode IsAddressed) (sym (chosen_true (addressed_by e (forms.csr_word e scope address) (mean_expr e address) scope s) stuck (is_some e.soft_write) (ap is_some can.is)))
      (subst (λ (w : Option Name). Good e mode IsAddressed (addressed_by e w (mean_expr e address) scope s)) (word_same e mode round inner scope h.matches address)
      (by_word address sound inner known clean o wants pass scope s h))

-- ---- reads

module _ (e : Setting) (mode : Mode) (round : Round) (world : World e) (software : Software e mode) where
  read_good : (can : CanWrite e) (o : Option CsrBody) (s : State) → MayRaise mode → StateOk e mode s
      → Good e mode (HasKind e (of_bits (register_width e.space.params) false)) (or_illegal o s (λ csr. done (bits (plain (registers e) (read_csr e.space e.full csr s))) s))
  read_good can None s may st = (may, st)
  read_good can (Some c) s may st = (record { number = world.wide.number; low = world.wide.low; high = world.wide.high; sign = refl }, st)

  pub sound-SoftRead : (a : Expr) → Sound e mode round a → Sound e mode round (ex.SoftRead a)
  sound-SoftRead a ha inner known clean pass =
      let view = view_in e mode round inner in
      let out = of_bits (register_width e.space.params) false in
      let p = subst (AllPass e) (checks-SoftRead view a known) pass in
      let own : Passes e known (outside_fields view ++ address_issues view a) = front e known (outside_fields view ++ address_issues view a) _ p.0 in
      let part : Clean e mode round a = (clean_parts e mode round (ex.SoftRead a) (a ∷ []) (reads_memory ∷ []) [] (deeds-SoftRead a) (numbers-SoftRead a) clean).0 in
      let noisy : mode ≡ loud = must_be_loud e mode round.before reads_memory known refl refl (front e known (outside_fields view) _ own)
      (own_deeds e mode round (ex.SoftRead a) (a ∷ []) (reads_memory ∷ []) (deeds-SoftRead a) clean).0 in
      let can : CanWrite e = software.writes noisy in
      record {
        kind = out;
        is = shape-SoftRead (names_in e mode round inner) a;
        runs = λ scope s at. subst (Good e mode (HasKind e out)) (sym (mean-SoftRead e a scope s))
            (then_good e mode (IsAddressed e mode round can) (HasKind e out) (addressed e a (mean_expr e a) scope s) (soft_read e)
            (addressed_good e mode round can a ha inner known part (back e known (outside_fields view) _ own) p.1 scope s at)
            (λ one t h ht. read_good can one.csr t (subst MayRaise (sym noisy) tt) ht));
      }
