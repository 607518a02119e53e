-- What is read is spelled by the bytes, and what the bytes spell is read.
use Rattle.std.proofs.Common.{◌≡◌, ℕ, Bool, true, false, cond, List, refl, ap, sym, ◌∙◌, Option, None, Some, Result, Ok, Err, IfOk, IfSome, option_and_then}
use Rattle.std.specs.Cmp.Lexicographic.{bytes_decides}
use Rattle.udb_spec.specs.Conditions.{same_bytes}
use Rattle.udb_base.specs.Lines.{text_of_lines}
use Rattle.first_spec.specs.declared.bundle.FirstBundle.{FirstBundle}
use Rattle.first_spec.specs.Bundle.{bundle_lines, SpellsFirst}
use Rattle.first_bundle.specs.Lines.{split_lines}
use Rattle.first_bundle.specs.Reading.{bundle_of}
use Rattle.first_bundle.specs.Checks.{bundle_passes, is_spelled, if_spelled, spelled_by}
use Rattle.first_bundle.proofs.Clean.{left_so, right_so, both_so}
use Rattle.first_bundle.proofs.Examined.{read_passed, passes}
use Rattle.first_bundle.proofs.ReadBack.{read_back}

if_found : (bytes : List ℕ) (x : FirstBundle) (t : Bool) → bundle_of (split_lines bytes) ≡ Some x → is_spelled bytes x ≡ t → IfSome (cond t (Some x) None) (SpellsFirst bytes)
if_found bytes x true e h = record {
  first = read_passed (split_lines bytes) x e (left_so (bundle_passes x) (same_bytes (text_of_lines (bundle_lines x)) bytes) h);
  text = sym ((bytes_decides (text_of_lines (bundle_lines x)) bytes).0 (right_so (bundle_passes x) (same_bytes (text_of_lines (bundle_lines x)) bytes) h));
}
if_found bytes x false e h = tt

found_so : (bytes : List ℕ) (o : Option FirstBundle) → bundle_of (split_lines bytes) ≡ o → IfSome (option_and_then (if_spelled bytes) o) (SpellsFirst bytes)
found_so bytes None e = tt
found_so bytes (Some x) e = if_found bytes x (is_spelled bytes x) e refl

found : (bytes : List ℕ) → IfSome (spelled_by bytes) (SpellsFirst bytes)
found bytes = found_so bytes (bundle_of (split_lines bytes)) refl

one : (bytes : List ℕ) (x : FirstBundle) → SpellsFirst bytes x → spelled_by bytes ≡ Some x
one bytes x h =
    ap (option_and_then (if_spelled bytes)) (read_back bytes x h)
    ∙ ap (λ (t : Bool). cond t (Some x) None) (both_so (bundle_passes x) (same_bytes (text_of_lines (bundle_lines x)) bytes) (passes x h.first) ((bytes_decides (text_of_lines (bundle_lines x)) bytes).1 (sym h.text)))

pub read_found : {E : Type 0} (bytes : List ℕ) (r : Result (Option FirstBundle) E) → IfOk r (λ o. o ≡ spelled_by bytes) → IfOk r (λ o. IfSome o (SpellsFirst bytes))
read_found bytes (Ok o) e = rw e (found bytes)
read_found bytes (Err f) e = tt

pub read_one : {E : Type 0} (bytes : List ℕ) (r : Result (Option FirstBundle) E) → IfOk r (λ o. o ≡ spelled_by bytes) → (x : FirstBundle) → SpellsFirst bytes x → IfOk r (λ o. o ≡ Some x)
read_one bytes (Ok o) e x h = e ∙ one bytes x h
read_one bytes (Err f) e x h = tt

pub read_none : {E : Type 0} (bytes : List ℕ) (r : Result (Option FirstBundle) E) → IfOk r (λ o. o ≡ spelled_by bytes) → IfOk r (λ o. o ≡ None → (x : FirstBundle) → SpellsFirst bytes x → ⊥)
read_none bytes (Ok o) e = λ n x h. let some : o ≡ Some x = e ∙ one bytes x h in cc
read_none bytes (Err f) e = tt

-- bytes spell at most one bundle
pub one_bundle : (bytes : List ℕ) (x y : FirstBundle) → SpellsFirst bytes x → SpellsFirst bytes y → x ≡ y
one_bundle bytes x y h k = same_bundle x y (sym (one bytes x h) ∙ one bytes y k)
  where
    same_bundle : (a b : FirstBundle) → Some a ≡ Some b → a ≡ b
    same_bundle a b e = cc
