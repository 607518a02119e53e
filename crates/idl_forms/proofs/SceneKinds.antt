-- The kinds of what a scene names.
use Rattle.std.proofs.Common.{◌≡◌, ◌≤◌, Ok, inl, inr, to_z, of_z, w64, ℕ, Bool, true, false, List, [], ◌∷◌, Option, None, Some, refl, sym, ap, ◌∙◌, arith}
use Rattle.std.specs.Prelude.{◌⊎◌, ℤ, pos, negsuc, ◌≤ℤ◌, option_map, option_and_then, is_some, codes}
use Rattle.std.proofs.lemmas.Int.{ints, clamps}
use Rattle.std.proofs.Common.{zero, suc, ◌<◌, length, get_or, Result, Err, IfOk, ltb, cond}
use Rattle.std.specs.Prelude.{find, position, if◌then◌else◌}
use Rattle.std.specs.List.{position_or_len}
use Rattle.std.specs.Result.{result_ok}
use Rattle.std.specs.Cmp.Lexicographic.{bytes_decides}
use Rattle.std.proofs.lemmas.List.Folds.{find_at}
use Rattle.std.proofs.lemmas.Option.{none-some, slice_get_past}
use Rattle.std.proofs.lemmas.Bool.{ltb-false}
use Rattle.udb_base.specs.declared.versions.Requirement.{Requirement}
use Rattle.udb_spec.specs.Grammar.{SpellsRequirement}
use Rattle.udb_spec.specs.Conditions.{same_bytes, value_of}
use Rattle.udb_spec.specs.Spaces.{number_or}
use Rattle.udb_cond.specs.Places.{IsParamAt, param_place}
use Rattle.udb_cond.specs.Requirements.{requirement_of}
use Rattle.udb_cond.proofs.RequirementLemmas.{read-spells, spells-read}
use Rattle.idl_width.specs.NumberLaws.{number-Word, number-Number}
use Rattle.idl_spec.specs.Shapes.{parameter_named, register_width}
use Rattle.udb_base.specs.declared.names.Name.{Name}
use Rattle.idl_tree.specs.declared.widths.Width.TheVariants as wd
use Rattle.idl_tree.specs.declared.programs.CsrBody.{CsrBody}
use Rattle.idl_tree.specs.declared.programs.FieldBodies.{FieldBodies}
use Rattle.idl_width.specs.Numbers.{clip, bits_among, IsClipped}
use Rattle.idl_width.specs.NumberLaws.{number-Bits}
use Rattle.idl_spec.specs.Shapes.{of_bits, field_kind}
use Rattle.idl_spec.specs.Fields.{bits_scope, csr_named, field_named}
use Rattle.idl_spec.specs.Settings.{Setting, Scope, number_of_width, names_of}
use Rattle.idl_forms.specs.declared.scenes.Scene.{Scene}
use Rattle.idl_forms.specs.declared.kinds.Kind.TheVariants as k
use Rattle.idl_forms.specs.declared.kinds.Kind.{Kind}
use Rattle.idl_tree.specs.declared.widths.Shape.{Shape}
use Rattle.idl_tree.specs.declared.widths.Shape.TheVariants as sh
use Rattle.idl_spec.specs.Values.{Value, bits, flag, member, given_text, written_text}
use Rattle.idl_spec.specs.Harts.{Outcome, done, raised, stuck, and_then}
use Rattle.idl_spec.specs.Mean.{in_shape}
use Rattle.idl_forms.specs.States.{or_stop, scalar_step}
use Rattle.idl_forms.specs.NumberedKinds.{unsigned}
use Rattle.idl_forms.specs.Kinds.{numbered_if_any}
use Rattle.idl_forms.specs.Scenes.{setting_of}
use Rattle.idl_forms.specs.Ready.{IsScene}

pub few : (n : ℕ) → n ≤ 1000000 → clip (pos n) ≡ pos n
few n h = omega (arith, ints, clamps)

-- what `$bits` gives in a scene
pub scene-number : (c : Scene) → IsScene c → (csr : Option Name) (name : Name) (n : ℕ) → n ≡ bits_among c.registers c.widths.now csr name → n ≤ 1000000 → number_of_width (setting_of c) (wd.Bits csr name) ≡ pos n
scene-number c ready csr name n is h =
    number-Bits c.space.now c.full.now (bits_scope c.program.now c.variables.now) csr name
    ∙ ap (λ r. clip (pos (bits_among r (bits_scope c.program.now c.variables.now) csr name))) ready.registers
    ∙ ap (λ s. clip (pos (bits_among c.registers s csr name))) (sym ready.widths) ∙ ap (λ m. clip (pos m)) (sym is) ∙ few n h

pub scene-field : (c : Scene) → IsScene c → (scope : Scope) (csr field : Name) (body : CsrBody) (f : FieldBodies) (n : ℕ) → csr_named c.program.now.csrs csr ≡ Some body → field_named body.fields field ≡ Some f
    → n ≡ bits_among c.registers c.widths.now (Some csr) field → n ≤ 1000000 → numbered_if_any (setting_of c) (field_kind (names_of (setting_of c) scope) csr field) ≡ Some (k.Bits (pos n) false)
scene-field c ready scope csr field body f n first second is h =
    ap (λ o. numbered_if_any (setting_of c) (option_and_then (λ b. option_map (λ g. of_bits (wd.Bits (Some csr) field) false) (field_named b.fields field)) o)) first
    ∙ ap (λ o. numbered_if_any (setting_of c) (option_map (λ g. of_bits (wd.Bits (Some csr) field) false) o)) second
    ∙ ap (λ z. Some (k.Bits z false)) (scene-number c ready (Some csr) field n is h)

-- a width of one word, as the code keeps it
pub unsigned-is : (r : Option Kind) (z : ℤ) (n : ℕ) → r ≡ unsigned (to_z w64 (of_z w64 z)) → z ≡ pos n → n ≤ 1000000 → r ≡ Some (k.Bits (pos n) false)
unsigned-is r z n h is small = let back : to_z w64 (of_z w64 z) ≡ pos n = omega (arith, ints) in h ∙ ap (λ y. Some (k.Bits y false)) back

pub or-stop-ok : {A : Type 0} (x : Option A) (y : A) → or_stop x ≡ Ok y → x ≡ Some y
or-stop-ok None y h = absurd (cc)
or-stop-ok (Some a) y h = cc

pub width-limit : (n : ℕ) → (n ≡ 32) ⊎ (n ≡ 64) → n ≤ 64
width-limit n (inl h) = omega arith
width-limit n (inr h) = omega arith

pub some-map : {A B : Type 0} (f : A → B) (o : Option A) → is_some (option_map f o) ≡ is_some o
some-map f None = refl
some-map f (Some a) = refl

-- a text has no shape
pub shape-of-scalar : (e : Setting) (shape : Shape) (o : Outcome Value) → and_then o (in_shape e shape) ≡ and_then (and_then o scalar_step) (in_shape e shape)
shape-of-scalar e shape (done (bits v) s) = refl
shape-of-scalar e shape (done (flag x) s) = refl
shape-of-scalar e shape (done (member m n) s) = refl
shape-of-scalar e (sh.Bits signed width) (done (given_text x) s) = refl
shape-of-scalar e sh.Boolean (done (given_text x) s) = refl
shape-of-scalar e (sh.Enum m) (done (given_text x) s) = refl
shape-of-scalar e (sh.Bits signed width) (done (written_text x) s) = refl
shape-of-scalar e sh.Boolean (done (written_text x) s) = refl
shape-of-scalar e (sh.Enum m) (done (written_text x) s) = refl
shape-of-scalar e shape (raised code tval s) = refl
shape-of-scalar e shape stuck = refl

none-read : {E : Type 0} (text : List ℕ) (fault : E) (o : Option Requirement) → requirement_of text ≡ o → ((x : Requirement) → SpellsRequirement text x → Err fault ≡ Ok x) → None ≡ o
none-read text fault None is exact = refl
none-read text fault (Some x) is exact = absurd (let h = exact x (read-spells text x is) in cc)

-- a parser that answers exactly what is spelled answers what is read
pub exactly-read : {E : Type 0} (text : List ℕ) (r : Result Requirement E) → IfOk r (SpellsRequirement text) → ((x : Requirement) → SpellsRequirement text x → r ≡ Ok x) → result_ok r ≡ requirement_of text
exactly-read text (Ok x) is exact = sym (spells-read text x is)
exactly-read text (Err fault) is exact = none-read text fault (requirement_of text) refl exact

-- ---- a parameter of a name

find-there : {X : Type 0} (p : X → Bool) (xs : List X) (k : ℕ) → k < length xs → ((d : X) → p (get_or xs k d) ≡ true) → is_some (find p xs) ≡ true
find-there p [] k lt h = absurd (omega arith)
find-there p (x ∷ xs) zero lt h = ap (λ b. is_some (cond b (Some x) (find p xs))) (h x)
find-there p (x ∷ xs) (suc k) lt h = by-test (p x) x (find p xs) (find-there p xs k (omega arith) h) where
  by-test : {A : Type 0} (b : Bool) (a : A) (o : Option A) → is_some o ≡ true → is_some (cond b (Some a) o) ≡ true
  by-test true a o t = refl
  by-test false a o t = t

pub scene-register : (c : Scene) → IsScene c → is_some (parameter_named c.space.now.params (codes "MXLEN")) ≡ true → number_of_width (setting_of c) (register_width c.space.now.params) ≡ clip (pos (number_or 0 (value_of c.space.now c.full.now (codes "MXLEN"))))
scene-register c ready h =
    ap (λ b. number_of_width (setting_of c) (if b then wd.Word (codes "MXLEN") else wd.Number 32)) h
    ∙ number-Word c.space.now c.full.now (bits_scope c.program.now c.variables.now) (codes "MXLEN")

pub parameter-there : (c : Scene) (k : ℕ) (name : List ℕ) → IsParamAt c.space.now k name → is_some (parameter_named c.space.now.params name) ≡ true
parameter-there c k name at = find-there (λ p. same_bytes p.name name) c.space.now.params k at.0 (λ d. (bytes_decides (get_or c.space.now.params k d).name name).1 (at.1 d))

pub clipped-twice : (r : Option Kind) (z : ℤ) (n : ℕ) → r ≡ unsigned (to_z w64 (of_z w64 z)) → z ≡ clip (pos n) → r ≡ Some (k.Bits (clip (pos n)) false)
clipped-twice r z n h is = let back : to_z w64 (of_z w64 z) ≡ clip (pos n) = omega (arith, ints, clamps) in h ∙ ap (λ y. Some (k.Bits y false)) back

none-found : {X : Type 0} (p : X → Bool) (xs : List X) (b : Bool) → ltb (position_or_len p xs) (length xs) ≡ b → cond b (Some (position_or_len p xs)) None ≡ None → is_some (find p xs) ≡ false
none-found p xs true is t = absurd (none-some (position_or_len p xs) (sym t))
none-found p xs false is t = ap is_some (find_at p xs ∙ slice_get_past xs (position_or_len p xs) (ltb-false (position_or_len p xs) (length xs) is))

position-find : {X : Type 0} (p : X → Bool) (xs : List X) → position p xs ≡ None → is_some (find p xs) ≡ false
position-find p xs h = none-found p xs (ltb (position_or_len p xs) (length xs)) refl h

pub scene-plain : (c : Scene) → IsScene c → param_place c.space.now (codes "MXLEN") ≡ None → number_of_width (setting_of c) (register_width c.space.now.params) ≡ pos 32
scene-plain c ready h =
    ap (λ b. number_of_width (setting_of c) (if b then wd.Word (codes "MXLEN") else wd.Number 32)) (position-find (λ p. same_bytes p.name (codes "MXLEN")) c.space.now.params h)
    ∙ (number-Number c.space.now c.full.now (bits_scope c.program.now c.variables.now) 32 ∙ few 32 (omega arith))

-- a clipped number, as a word of the code keeps it
pub kept-whole : (z : ℤ) → IsClipped z → to_z w64 (of_z w64 z) ≡ z
kept-whole z h = let low : negsuc 999999 ≤ℤ z = h.0 in let high : z ≤ℤ pos 1000000 = h.1 in omega (arith, ints)
