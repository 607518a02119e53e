-- What issues that pass give.
use Rattle.std.proofs.Common.{◌≡◌, ℕ, Bool, true, false, List, [], ◌∷◌, ◌++◌, Option, Some, refl}
use Rattle.std.specs.Prelude.{◌||◌, not, pos}
use Rattle.std.specs.List.{list_all}
use Rattle.udb_base.specs.declared.names.Name.{Name}
use Rattle.udb_base.specs.declared.conditions.Cond.{Cond}
use Rattle.idl_tree.specs.declared.widths.Width.{Width}
use Rattle.idl_spec.specs.Shapes.{Kind, of_bits, of_flag, of_member, of_given_text, of_written_text}
use Rattle.idl_spec.specs.Settings.{Setting, number_of_width}
use Rattle.idl_spec.specs.Demands.{Demand, Issue, demand, mismatch_unless, unknown_unless, ranged, wants_all, suits, bits_kind, flag_kind, in_range}
use Rattle.idl_spec.specs.Checks.{context_holds, is_met, passes}
use Rattle.type_laws.specs.Kinds.{Passes, under}
use Rattle.type_laws.proofs.Outcomes.{both_true, each_front, each_back}
use Rattle.type_laws.proofs.Widths.{InRange}
use Rattle.type_laws.proofs.Widths as widths

-- a kind of bits
pub record IsOfBits (k : Kind) : Type 0 where
  pub width : Width
  pub signed : Bool
  pub is : k ≡ of_bits width signed

pub bits_kind_is : (k : Kind) → suits bits_kind (Some k) ≡ true → IsOfBits k
bits_kind_is (of_bits w s) h = record { width = w; signed = s; is = refl }
bits_kind_is of_flag h = absurd (cc)
bits_kind_is (of_member m) h = absurd (cc)
bits_kind_is of_given_text h = absurd (cc)
bits_kind_is of_written_text h = absurd (cc)

pub flag_kind_is : (k : Kind) → suits flag_kind (Some k) ≡ true → k ≡ of_flag
flag_kind_is (of_bits w s) h = absurd (cc)
flag_kind_is of_flag h = refl
flag_kind_is (of_member m) h = absurd (cc)
flag_kind_is of_given_text h = absurd (cc)
flag_kind_is of_written_text h = absurd (cc)

holds_then : (b m : Bool) → b ≡ true → (not b || m) ≡ true → m ≡ true
holds_then true m e h = h
holds_then false m e h = absurd (cc)

module _ (e : Setting) (context : List Cond) where
  abbrev pub Here : Type 0
  Here = context_holds (under e) context ≡ true

  pub front : (xs ys : List Issue) → Passes e context (xs ++ ys) → Passes e context xs
  front = each_front (λ (i : Issue). passes (under e) context i ≡ true)

  pub back : (xs ys : List Issue) → Passes e context (xs ++ ys) → Passes e context ys
  back = each_back (λ (i : Issue). passes (under e) context i ≡ true)

  pub met : (d : Demand) → Here → passes (under e) context (demand d) ≡ true → is_met (under e) d ≡ true
  met d here h = holds_then (context_holds (under e) context) (is_met (under e) d) here h

  pub unless : (b : Bool) → Passes e context (mismatch_unless b) → b ≡ true
  unless true h = refl
  unless false h = absurd (let k : false ≡ true = h.0 in cc)

  pub known : (b : Bool) (name : Name) → Passes e context (unknown_unless b name) → b ≡ true
  known true name h = refl
  known false name h = absurd (let k : false ≡ true = h.0 in cc)

  pub range : (low high : ℕ) (width : Width) → Here → Passes e context (ranged low high width) → InRange low high (number_of_width e width)
  range low high width here h = widths.in_range low high (number_of_width e width) (met (in_range (pos low) (pos high) width) here h.0)

  -- two parts of the same kind
  pub two_want : (w x y : Option Kind) → Passes e context (wants_all w (x ∷ y ∷ [])) → (suits w x ≡ true) × (suits w y ≡ true)
  two_want w x y h =
      let a = both_true (suits w x) (list_all (suits w) (y ∷ [])) (unless (list_all (suits w) (x ∷ y ∷ [])) h) in
      (a.0, (both_true (suits w y) true a.1).0)
