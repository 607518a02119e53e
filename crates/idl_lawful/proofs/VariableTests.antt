-- The tests of variables decide whether they are lawful.
use Rattle.std.proofs.Common.{◌≡◌, ◌≢◌, ◌&&◌, ◌≤◌, ◌<◌, Bool, true, not, ℕ, nat_le, nat_lt, List, All, refl}
use Rattle.std.specs.Prelude.{AllPairs, sum_by}
use Rattle.std.specs.List.{list_all}
use Rattle.std.specs.Bool.{Decides}
use Rattle.std.proofs.lemmas.Bool.Decides.{Decides-and, Decides-by_and, Decides-ltb}
use Rattle.idl_lawful.proofs.Bits.{at-most-decides}
use Rattle.udb_base.specs.Lists.{are_distinct}
use Rattle.udb_spec.specs.Conditions.{same_bytes}
use Rattle.idl_tree.specs.declared.programs.Base.{Base}
use Rattle.idl_tree.specs.declared.programs.Base.TheVariants as base
use Rattle.idl_tree.specs.declared.programs.BitPart.{BitPart}
use Rattle.idl_tree.specs.declared.programs.Variable.{Variable}
use Rattle.idl_spec.specs.Fields.{part_width}
use Rattle.idl_forms.specs.Ready.{IsLawfulVariable, AreLawfulVariables, Meet}
use Rattle.idl_lawful.specs.Tests.{is_part_of_word, is_lawful_variable, meet, is_same_variable, pass}
use Rattle.idl_lawful.proofs.Distinct.{names-differ, pairs-decide}

-- two names have to differ
abbrev Apart : Base → Base → List ℕ → List ℕ → Type 0
Apart a b x y = Meet a b → x ≢ y

apart-decides : (a b : Base) (x y : List ℕ) → Decides (not (meet a b && same_bytes x y)) (Apart a b x y)
apart-decides base.All base.All x y = (λ n _. (names-differ x y).0 n, λ h. (names-differ x y).1 (h tt))
apart-decides base.All base.Rv32 x y = (λ n _. (names-differ x y).0 n, λ h. (names-differ x y).1 (h tt))
apart-decides base.All base.Rv64 x y = (λ n _. (names-differ x y).0 n, λ h. (names-differ x y).1 (h tt))
apart-decides base.Rv32 base.All x y = (λ n _. (names-differ x y).0 n, λ h. (names-differ x y).1 (h tt))
apart-decides base.Rv32 base.Rv32 x y = (λ n _. (names-differ x y).0 n, λ h. (names-differ x y).1 (h tt))
apart-decides base.Rv32 base.Rv64 x y = (λ _ meets. absurd meets, λ _. refl)
apart-decides base.Rv64 base.All x y = (λ n _. (names-differ x y).0 n, λ h. (names-differ x y).1 (h tt))
apart-decides base.Rv64 base.Rv32 x y = (λ _ meets. absurd meets, λ _. refl)
apart-decides base.Rv64 base.Rv64 x y = (λ n _. (names-differ x y).0 n, λ h. (names-differ x y).1 (h tt))

abbrev IsPartOfWord : BitPart → Type 0
IsPartOfWord part = (part.low ≤ part.high) × (part.high < 32)

part-decides : (part : BitPart) → Decides (is_part_of_word part) (IsPartOfWord part)
part-decides part = Decides-and (nat_le part.low part.high) (nat_lt part.high 32) (at-most-decides part.low part.high) (Decides-ltb part.high 32)

parts-decide : (parts : List BitPart) → Decides (list_all is_part_of_word parts) (All IsPartOfWord parts)
parts-decide = Decides-by_and is_part_of_word IsPartOfWord (list_all is_part_of_word) part-decides refl (λ _ _. refl)

variable-decides : (v : Variable) → Decides (is_lawful_variable v) (IsLawfulVariable v)
variable-decides v =
    let n : ℕ = sum_by part_width v.location in
    let all = Decides-and (list_all is_part_of_word v.location) (nat_le 1 n && (nat_le n 32 && nat_le v.shift 31)) (parts-decide v.location)
    (Decides-and (nat_le 1 n) (nat_le n 32 && nat_le v.shift 31) (at-most-decides 1 n)
    (Decides-and (nat_le n 32) (nat_le v.shift 31) (at-most-decides n 32) (at-most-decides v.shift 31))) in (
      λ e. (let h = all.0 e in record { parts = h.0; some = h.1.0; few = h.1.1.0; shift = h.1.1.1 }),
      λ h. all.1 (h.parts, (h.some, (h.few, h.shift))),
    )

each-decides : (vs : List Variable) → Decides (list_all is_lawful_variable vs) (All IsLawfulVariable vs)
each-decides = Decides-by_and is_lawful_variable IsLawfulVariable (list_all is_lawful_variable) variable-decides refl (λ _ _. refl)

names-decide : (vs : List Variable) → Decides (are_distinct is_same_variable vs) (AllPairs (λ a b. Meet a.base b.base → a.name ≢ b.name) vs)
names-decide = pairs-decide is_same_variable (λ a b. Meet a.base b.base → a.name ≢ b.name) (λ a b. apart-decides a.base b.base a.name b.name)

pub variables-decide : (vs : List Variable) → Decides (pass vs) (AreLawfulVariables vs)
variables-decide vs =
    let all = Decides-and (list_all is_lawful_variable vs) (are_distinct is_same_variable vs) (each-decides vs) (names-decide vs) in (
      λ e. (let h = all.0 e in record { each = h.0; names = h.1 }),
      λ h. all.1 (h.each, h.names),
    )
