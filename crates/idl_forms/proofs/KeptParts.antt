-- What a write to the memory and to a field keeps of a state.
use Rattle.std.proofs.Common.{◌≡◌, ℕ, zero, suc, ◌+◌, ◌/◌, ◌%◌, ◌^◌, ◌<◌, ◌≤◌, Bool, true, false, cond, List, [], ◌∷◌, ◌++◌, map, take, drop, length, Some, refl, ap, arith}
use Rattle.std.specs.Prelude.{All}
use Rattle.std.proofs.lemmas.Bool.{and_parts}
use Rattle.std.proofs.lemmas.List.{length-append, length-take-le, length-drop}
use Rattle.std.proofs.lemmas.List.Elements.{All-nil, All-cons, All-head, All-tail, All-append, All-take, All-drop}
use Rattle.std.proofs.lemmas.Nat.{mod_below}
use Rattle.std.specs.Cmp.Lexicographic.{bytes_decides}
use Rattle.udb_spec.specs.Conditions.{same_bytes}
use Rattle.udb_base.specs.declared.spaces.Space.{Space}
use Rattle.udb_base.specs.declared.spaces.Full.{Full}
use Rattle.idl_tree.specs.declared.programs.Program.{Program}
use Rattle.idl_spec.specs.Harts.{State, FieldValue, is_field, with_field, low_bytes, stored}
use Rattle.idl_spec.specs.Fields.{Placed, part_width, present_field}
use Rattle.idl_forms.specs.declared.scenes.Scene.{Scene}
use Rattle.idl_forms.specs.Ready.{InField, IsSoundAt, Keeps, field_names}

-- ---- memory

low-length : (k n : ℕ) → length (low_bytes k n) ≡ k
low-length zero n = refl
low-length (suc k) n = ap suc (low-length k (n / 256))

low-range : (k n : ℕ) → All (λ b. b < 256) (low_bytes k n)
low-range zero n = All-nil (λ b. b < 256)
low-range (suc k) n = All-cons (λ b. b < 256) (n % 256) (low_bytes k (n / 256)) (mod_below n 256 (omega arith)) (low-range k (n / 256))

stored-length : (ram : List ℕ) (at k n : ℕ) → at + k ≤ length ram → length (stored ram at k n) ≡ length ram
unfolding stored
stored-length ram at k n h =
    let front = length-take-le at ram (omega arith) in
    let low = low-length k n in
    let rest = length-drop (at + k) ram in
    rw (length-append (take at ram) (low_bytes k n ++ drop (at + k) ram), length-append (low_bytes k n) (drop (at + k) ram)) (omega arith)

stored-range : (ram : List ℕ) (at k n : ℕ) → All (λ b. b < 256) ram → All (λ b. b < 256) (stored ram at k n)
unfolding stored
stored-range ram at k n h =
    All-append (λ b. b < 256) (take at ram) (low_bytes k n ++ drop (at + k) ram) (All-take (λ b. b < 256) at ram h)
    (All-append (λ b. b < 256) (low_bytes k n) (drop (at + k) ram) (low-range k n) (All-drop (λ b. b < 256) (at + k) ram h))

pub memory-kept : (c : Scene) (s : State) (at k n : ℕ) → IsSoundAt c s → at + k ≤ length s.ram → Keeps c s (record s { ram = stored s.ram at k n })
memory-kept c s at k n h l = record {
  sound = record {
    registers = h.registers;
    in_range = h.in_range;
    zero_register = h.zero_register;
    pc = h.pc;
    next = h.next;
    word = h.word;
    fields = h.fields;
    room = rw (stored-length s.ram at k n l) h.room;
    ram = stored-range s.ram at k n h.ram;
  };
  names = refl;
}

-- ---- fields

abbrev names_in : FieldValue → List ℕ × List ℕ
names_in f = (f.csr, f.field)

either-names : (t : Bool) (f : FieldValue) (n : ℕ) → names_in (cond t (record f { number = n }) f) ≡ names_in f
either-names true f n = refl
either-names false f n = refl

same-names : (fields : List FieldValue) (csr field : List ℕ) (n : ℕ) → field_names (with_field fields csr field n) ≡ field_names fields
unfolding with_field
same-names [] csr field n = refl
same-names (f ∷ fields) csr field n =
    let first = either-names (is_field csr field f) f n in
    let rest = same-names fields csr field n in
    λ i. first i ∷ rest i

either-fits : (space : Space) (full : Full) (program : Program) (csr field : List ℕ) (p : Placed) (n : ℕ) (t : Bool) (f : FieldValue) → (t ≡ true → (f.csr ≡ csr) × (f.field ≡ field)) → present_field space full program csr field ≡ Some p → n < 2 ^ part_width p.bits
    → InField space full program f → InField space full program (cond t (record f { number = n }) f)
either-fits space full program csr field p n true f names e l h = λ q d.
    let is = names refl in
    let other : present_field space full program csr field ≡ Some q = rw (is.0, is.1) at d in
    let same : p ≡ q = cc in
    rw same at l
either-fits space full program csr field p n false f names e l h = h

named : (csr field : List ℕ) (f : FieldValue) → is_field csr field f ≡ true → (f.csr ≡ csr) × (f.field ≡ field)
named csr field f e =
    let parts = and_parts (same_bytes f.csr csr) (same_bytes f.field field) e in
    ((bytes_decides f.csr csr).0 parts.0, (bytes_decides f.field field).0 parts.1)

fields-fit : (space : Space) (full : Full) (program : Program) (csr field : List ℕ) (p : Placed) (n : ℕ) (fields : List FieldValue) → present_field space full program csr field ≡ Some p → n < 2 ^ part_width p.bits
    → All (InField space full program) fields → All (InField space full program) (with_field fields csr field n)
unfolding with_field
fields-fit space full program csr field p n [] e l h = h
fields-fit space full program csr field p n (f ∷ fields) e l h =
    All-cons (InField space full program) (cond (is_field csr field f) (record f { number = n }) f) (map (λ g. cond (is_field csr field g) (record g { number = n }) g) fields)
    (either-fits space full program csr field p n (is_field csr field f) f (named csr field f) e l (All-head (InField space full program) f fields h))
    (fields-fit space full program csr field p n fields e l (All-tail (InField space full program) f fields h))

pub field-kept : (c : Scene) (s : State) (csr field : List ℕ) (p : Placed) (n : ℕ) → IsSoundAt c s → present_field c.space.now c.full.now c.program.now csr field ≡ Some p → n < 2 ^ part_width p.bits
    → Keeps c s (record s { fields = with_field s.fields csr field n })
field-kept c s csr field p n h e l = record {
  sound = record {
    registers = h.registers;
    in_range = h.in_range;
    zero_register = h.zero_register;
    pc = h.pc;
    next = h.next;
    word = h.word;
    room = h.room;
    ram = h.ram;
    fields = fields-fit c.space.now c.full.now c.program.now csr field p n s.fields e l h.fields;
  };
  names = same-names s.fields csr field n;
}
