-- What each form of expression means, from what its parts give.
use Rattle.std.proofs.Common.{◌≡◌, ℕ, Bool, List, [], ◌∷◌, map, Result, Option, refl, sym, ap, ◌∙◌, subst}
use Rattle.std.specs.Prelude.{option_map}
use Rattle.udb_base.specs.declared.names.Name.{Name}
use Rattle.udb_base.specs.declared.characters.Chars.{Chars}
use Rattle.idl_tree.specs.declared.widths.Width.{Width}
use Rattle.idl_tree.specs.declared.widths.EnumKind.{EnumKind}
use Rattle.idl_tree.specs.declared.expressions.Unary.{Unary}
use Rattle.idl_tree.specs.declared.expressions.Binary.{Binary}
use Rattle.idl_tree.specs.declared.expressions.Expr.{Expr}
use Rattle.idl_tree.specs.declared.expressions.Expr.TheVariants as ex
use Rattle.idl_spec.specs.Values as meant
use Rattle.idl_spec.specs.Values.{bits, flag, member, written_text, plain, least_width, member_number, machine_mode}
use Rattle.idl_spec.specs.Harts.{State, Outcome, done, and_then, required}
use Rattle.idl_spec.specs.Settings.{Setting, Scope, Reading, registers, value_named}
use Rattle.idl_spec.specs.Forms as forms
use Rattle.idl_spec.specs.Forms.{unary, binary_reading, joined, addressed, soft_read, implemented, implemented_version}
use Rattle.idl_spec.specs.Mean.{mean_expr, Part}
use Rattle.idl_spec.specs.MeanLaws.{mean-Number, mean-Sized, mean-Text, mean-Flag, mean-Word, mean-Member, mean-Unary, mean-Binary, mean-WideLeft, mean-Choice, mean-Join, mean-Repeat, mean-Index, mean-Slice, mean-Call, mean-Signed, mean-Resize, mean-Pc, mean-Encoding, mean-Register, mean-Field, mean-SoftRead, mean-ReadMemory, mean-NewField, mean-Mode, mean-Implemented, mean-ImplementedVersion}
use Rattle.idl_forms.specs.declared.values.Value.{Value}
use Rattle.idl_forms.specs.declared.values.Stop.{Stop}
use Rattle.idl_forms.specs.States.{as_value, value_if_any, Gives, Finds, Maps, Follows, Ends}
use Rattle.idl_forms.specs.Scenes.{addressed_of}
use Rattle.idl_forms.specs.declared.fields.Addressed.{Addressed}
use Rattle.idl_forms.specs.Steps.{literal_step, wide_left_step, repeat_step, slice_step, signed_step, resized_step, register_step, read_memory_step}
use Rattle.idl_mean.specs.Flows.{choice_reading, bit_reading, ReturnsValue}

-- the meaning of a form is another outcome
told : (o p : Outcome meant.Value) (r : Result Value Stop) (s : State) → o ≡ p → Gives p r s → Gives o r s
told o p r s e h = subst (λ x. Gives x r s) (sym e) h

pub form-Number : (e : Setting) (n : ℕ) (scope : Scope) (s : State) (r : Result Value Stop)
    → Finds as_value (done (bits (plain (least_width n) n))) r → Gives (mean_expr e (ex.Number n) scope s) r s
form-Number e n scope s r h = told (mean_expr e (ex.Number n) scope s) ((done (bits (plain (least_width n) n))) s) r s (mean-Number e n scope s) (h s)

pub form-Sized : (e : Setting) (width : Width) (signed : Bool) (n : ℕ) (scope : Scope) (s : State) (r : Result Value Stop)
    → Finds as_value (literal_step e width signed n) r → Gives (mean_expr e (ex.Sized width signed n) scope s) r s
form-Sized e width signed n scope s r h = told (mean_expr e (ex.Sized width signed n) scope s) ((literal_step e width signed n) s) r s (mean-Sized e width signed n scope s) (h s)

pub form-Text : (e : Setting) (x : Chars) (scope : Scope) (s : State) (r : Result Value Stop)
    → Finds as_value (done (written_text x)) r → Gives (mean_expr e (ex.Text x) scope s) r s
form-Text e x scope s r h = told (mean_expr e (ex.Text x) scope s) ((done (written_text x)) s) r s (mean-Text e x scope s) (h s)

pub form-Flag : (e : Setting) (x : Bool) (scope : Scope) (s : State) (r : Result Value Stop)
    → Finds as_value (done (flag x)) r → Gives (mean_expr e (ex.Flag x) scope s) r s
form-Flag e x scope s r h = told (mean_expr e (ex.Flag x) scope s) ((done (flag x)) s) r s (mean-Flag e x scope s) (h s)

pub form-Member : (e : Setting) (kind : EnumKind) (name : Name) (scope : Scope) (s : State) (r : Result Value Stop)
    → Finds as_value (required (option_map (member kind) (member_number kind name))) r → Gives (mean_expr e (ex.Member kind name) scope s) r s
form-Member e kind name scope s r h = told (mean_expr e (ex.Member kind name) scope s) ((required (option_map (member kind) (member_number kind name))) s) r s (mean-Member e kind name scope s) (h s)

pub form-NewField : (e : Setting) (name : Name) (scope : Scope) (s : State) (r : Result Value Stop)
    → Finds as_value (forms.new_field e name) r → Gives (mean_expr e (ex.NewField name) scope s) r s
form-NewField e name scope s r h = told (mean_expr e (ex.NewField name) scope s) ((forms.new_field e name) s) r s (mean-NewField e name scope s) (h s)

pub form-Mode : (e : Setting) (scope : Scope) (s : State) (r : Result Value Stop)
    → Finds as_value (done machine_mode) r → Gives (mean_expr e (ex.Mode) scope s) r s
form-Mode e scope s r h = told (mean_expr e (ex.Mode) scope s) ((done machine_mode) s) r s (mean-Mode e scope s) (h s)

pub form-Implemented : (e : Setting) (name : Name) (scope : Scope) (s : State) (r : Result Value Stop)
    → Finds as_value (required (implemented e name)) r → Gives (mean_expr e (ex.Implemented name) scope s) r s
form-Implemented e name scope s r h = told (mean_expr e (ex.Implemented name) scope s) ((required (implemented e name)) s) r s (mean-Implemented e name scope s) (h s)

pub form-ImplementedVersion : (e : Setting) (name : Name) (x : Chars) (scope : Scope) (s : State) (r : Result Value Stop)
    → Finds as_value (required (implemented_version e name x)) r → Gives (mean_expr e (ex.ImplementedVersion name x) scope s) r s
form-ImplementedVersion e name x scope s r h = told (mean_expr e (ex.ImplementedVersion name x) scope s) ((required (implemented_version e name x)) s) r s (mean-ImplementedVersion e name x scope s) (h s)

pub form-Word : (e : Setting) (name : Name) (scope : Scope) (s : State) (r : Result Value Stop)
    → ((t : State) → t.word ≡ s.word → Gives (required (value_named e scope name t) t) r t) → Gives (mean_expr e (ex.Word name) scope s) r s
form-Word e name scope s r h = told (mean_expr e (ex.Word name) scope s) (required (value_named e scope name s) s) r s (mean-Word e name scope s) (h s refl)

pub form-Pc : (e : Setting) (scope : Scope) (s : State) (r : Result Value Stop)
    → Gives (done (bits (plain (registers e) s.pc)) s) r s → Gives (mean_expr e ex.Pc scope s) r s
form-Pc e scope s r h = told (mean_expr e ex.Pc scope s) (done (bits (plain (registers e) s.pc)) s) r s (mean-Pc e scope s) h

pub form-Encoding : (e : Setting) (scope : Scope) (s : State) (r : Result Value Stop)
    → Gives (done (bits (plain 32 s.word)) s) r s → Gives (mean_expr e ex.Encoding scope s) r s
form-Encoding e scope s r h = told (mean_expr e ex.Encoding scope s) (done (bits (plain 32 s.word)) s) r s (mean-Encoding e scope s) h

pub form-Field : (e : Setting) (csr field : Name) (scope : Scope) (s : State) (r : Result Value Stop)
    → Gives (forms.field_value e csr field s) r s → Gives (mean_expr e (ex.Field csr field) scope s) r s
form-Field e csr field scope s r h = told (mean_expr e (ex.Field csr field) scope s) (forms.field_value e csr field s) r s (mean-Field e csr field scope s) h

pub form-Unary : (e : Setting) (sign : Unary) (a : Expr) (scope : Scope) (s t : State) (p r : Result Value Stop)
    → Gives (mean_expr e a scope s) p t → Maps as_value (λ o. and_then o (unary sign)) p r → Gives (mean_expr e (ex.Unary sign a) scope s) r t
form-Unary e sign a scope s t p r h k = told (mean_expr e (ex.Unary sign a) scope s) (and_then (mean_expr e a scope s) (unary sign)) r t (mean-Unary e sign a scope s) (k t (mean_expr e a scope s) h)

pub form-WideLeft : (e : Setting) (a : Expr) (by : Width) (scope : Scope) (s t : State) (p r : Result Value Stop)
    → Gives (mean_expr e a scope s) p t → Maps as_value (wide_left_step e by) p r → Gives (mean_expr e (ex.WideLeft a by) scope s) r t
form-WideLeft e a by scope s t p r h k = told (mean_expr e (ex.WideLeft a by) scope s) (wide_left_step e by (mean_expr e a scope s)) r t (mean-WideLeft e a by scope s) (k t (mean_expr e a scope s) h)

pub form-Repeat : (e : Setting) (times : Width) (a : Expr) (scope : Scope) (s t : State) (p r : Result Value Stop)
    → Gives (mean_expr e a scope s) p t → Maps as_value (repeat_step e times) p r → Gives (mean_expr e (ex.Repeat times a) scope s) r t
form-Repeat e times a scope s t p r h k = told (mean_expr e (ex.Repeat times a) scope s) (repeat_step e times (mean_expr e a scope s)) r t (mean-Repeat e times a scope s) (k t (mean_expr e a scope s) h)

pub form-Slice : (e : Setting) (a : Expr) (high low : Width) (scope : Scope) (s t : State) (p r : Result Value Stop)
    → Gives (mean_expr e a scope s) p t → Maps as_value (slice_step e high low) p r → Gives (mean_expr e (ex.Slice a high low) scope s) r t
form-Slice e a high low scope s t p r h k = told (mean_expr e (ex.Slice a high low) scope s) (slice_step e high low (mean_expr e a scope s)) r t (mean-Slice e a high low scope s) (k t (mean_expr e a scope s) h)

pub form-Signed : (e : Setting) (a : Expr) (scope : Scope) (s t : State) (p r : Result Value Stop)
    → Gives (mean_expr e a scope s) p t → Maps as_value (signed_step) p r → Gives (mean_expr e (ex.Signed a) scope s) r t
form-Signed e a scope s t p r h k = told (mean_expr e (ex.Signed a) scope s) (signed_step (mean_expr e a scope s)) r t (mean-Signed e a scope s) (k t (mean_expr e a scope s) h)

pub form-Resize : (e : Setting) (width : Width) (a : Expr) (scope : Scope) (s t : State) (p r : Result Value Stop)
    → Gives (mean_expr e a scope s) p t → Maps as_value (resized_step e width) p r → Gives (mean_expr e (ex.Resize width a) scope s) r t
form-Resize e width a scope s t p r h k = told (mean_expr e (ex.Resize width a) scope s) (resized_step e width (mean_expr e a scope s)) r t (mean-Resize e width a scope s) (k t (mean_expr e a scope s) h)

pub form-Register : (e : Setting) (a : Expr) (scope : Scope) (s t : State) (p r : Result Value Stop)
    → Gives (mean_expr e a scope s) p t → Follows as_value (register_step e) p t r t → Gives (mean_expr e (ex.Register a) scope s) r t
form-Register e a scope s t p r h k = told (mean_expr e (ex.Register a) scope s) (register_step e (mean_expr e a scope s)) r t (mean-Register e a scope s) (k (mean_expr e a scope s) h)

pub form-ReadMemory : (e : Setting) (count : ℕ) (a : Expr) (scope : Scope) (s t : State) (p r : Result Value Stop)
    → Gives (mean_expr e a scope s) p t → Follows as_value (read_memory_step e count) p t r t → Gives (mean_expr e (ex.ReadMemory count a) scope s) r t
form-ReadMemory e count a scope s t p r h k = told (mean_expr e (ex.ReadMemory count a) scope s) (read_memory_step e count (mean_expr e a scope s)) r t (mean-ReadMemory e count a scope s) (k (mean_expr e a scope s) h)

pub form-Binary : (e : Setting) (sign : Binary) (a c : Expr) (scope : Scope) (s t : State) (r : Result Value Stop)
    → Gives (binary_reading sign (mean_expr e a) (mean_expr e c) scope s) r t → Gives (mean_expr e (ex.Binary sign a c) scope s) r t
form-Binary e sign a c scope s t r h = told (mean_expr e (ex.Binary sign a c) scope s) (binary_reading sign (mean_expr e a) (mean_expr e c) scope s) r t (mean-Binary e sign a c scope s) h

pub form-Index : (e : Setting) (a at : Expr) (scope : Scope) (s t : State) (r : Result Value Stop)
    → Gives (bit_reading (mean_expr e a) (mean_expr e at) scope s) r t → Gives (mean_expr e (ex.Index a at) scope s) r t
form-Index e a at scope s t r h = told (mean_expr e (ex.Index a at) scope s) (bit_reading (mean_expr e a) (mean_expr e at) scope s) r t (mean-Index e a at scope s) h

pub form-Choice : (e : Setting) (test taken other : Expr) (scope : Scope) (s t : State) (r : Result Value Stop)
    → Gives (choice_reading e (ex.Choice test taken other) (mean_expr e test) (mean_expr e taken) (mean_expr e other) scope s) r t → Gives (mean_expr e (ex.Choice test taken other) scope s) r t
form-Choice e test taken other scope s t r h = told (mean_expr e (ex.Choice test taken other) scope s) (choice_reading e (ex.Choice test taken other) (mean_expr e test) (mean_expr e taken) (mean_expr e other) scope s) r t (mean-Choice e test taken other scope s) h

-- the meanings of parts beside their expressions
meanings-of : (e : Setting) (es : List Expr) → map (λ (p : Part). p.1) (map (λ x. (x, mean_expr e x)) es) ≡ map (mean_expr e) es
meanings-of e [] = refl
meanings-of e (x ∷ es) = ap (λ (ms : List Reading). mean_expr e x ∷ ms) (meanings-of e es)

pub form-Join : (e : Setting) (es : List Expr) (scope : Scope) (s t : State) (r : Result Value Stop)
    → Gives (joined (map (mean_expr e) es) scope s) r t → Gives (mean_expr e (ex.Join es) scope s) r t
form-Join e es scope s t r h =
    told (mean_expr e (ex.Join es) scope s) (joined (map (mean_expr e) es) scope s) r t
    (mean-Join e es scope s ∙ ap (λ (ms : List Reading). joined ms scope s) (meanings-of e es)) h

pub form-Call : (e : Setting) (name : Name) (es : List Expr) (scope : Scope) (s t : State) (p : Result (Option Value) Stop) (r : Result Value Stop)
    → Ends value_if_any (forms.call e name (map (mean_expr e) es) scope s) p t → ReturnsValue p r → Gives (mean_expr e (ex.Call name es) scope s) r t
form-Call e name es scope s t p r h k =
    told (mean_expr e (ex.Call name es) scope s) (and_then (forms.call e name (map (mean_expr e) es) scope s) required) r t
    (mean-Call e name es scope s ∙ ap (λ (ms : List Reading). and_then (forms.call e name ms scope s) required) (meanings-of e es)) (k (forms.call e name (map (mean_expr e) es) scope s) t h)

pub form-SoftRead : (e : Setting) (a : Expr) (scope : Scope) (s t : State) (one : Result Addressed Stop) (r : Result Value Stop)
    → Ends addressed_of (addressed e a (mean_expr e a) scope s) one t
    → ((o : Outcome forms.Addressed) → Ends addressed_of o one t → Gives (and_then o (soft_read e)) r t)
    → Gives (mean_expr e (ex.SoftRead a) scope s) r t
form-SoftRead e a scope s t one r h k =
    told (mean_expr e (ex.SoftRead a) scope s) (and_then (addressed e a (mean_expr e a) scope s) (soft_read e)) r t
    (mean-SoftRead e a scope s) (k (addressed e a (mean_expr e a) scope s) h)

-- the same of an expression that is the form
pub of-form : (e : Setting) (x y : Expr) (scope : Scope) (s t : State) (r : Result Value Stop) → x ≡ y → Gives (mean_expr e y scope s) r t → Gives (mean_expr e x scope s) r t
of-form e x y scope s t r d h = subst (λ z. Gives (mean_expr e z scope s) r t) (sym d) h

pub of-choice : (e : Setting) (x test taken other : Expr) (scope : Scope) (s t : State) (r : Result Value Stop) → x ≡ ex.Choice test taken other
    → Gives (choice_reading e x (mean_expr e test) (mean_expr e taken) (mean_expr e other) scope s) r t → Gives (mean_expr e x scope s) r t
of-choice e x test taken other scope s t r d h =
    of-form e x (ex.Choice test taken other) scope s t r d
    (form-Choice e test taken other scope s t r
    (subst (λ z. Gives (choice_reading e z (mean_expr e test) (mean_expr e taken) (mean_expr e other) scope s) r t) d h))
