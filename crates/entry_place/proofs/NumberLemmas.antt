-- Numbers of locations, and parts that are read one after the other.
use Rattle.std.proofs.Common.{◌≡◌, IfOk, ℕ, ◌+◌, ◌<◌, ◌≤◌, ◌^◌, ◌&&◌, Bool, true, false, nat_lt, List, [], ◌∷◌, length, get_or, drop, ◌++◌, map, Option, Some, None, Result, Ok, Err, refl, sym, ap, ◌∙◌, if◌then◌else◌, arith, inl, inr, ◌⊎◌}
use Rattle.std.specs.Result.{OkIff, result_ok}
use Rattle.std.specs.Str.{all_ascii_digits}
use Rattle.std.specs.Str.Parse.{digits_value, ParsesUnsigned}
use Rattle.std.proofs.lemmas.Bool.{cases_lt, and_parts, lt-ltb, le-ltb, leb-true}
use Rattle.std.proofs.lemmas.Str.Parse.{IsNumeralModel, numerals_by_value, tells_all_ascii_digits, parse_digits}
use Rattle.udb_base.specs.Lists.{each, one_more_part, after_parts, after_one_more}
use Rattle.std.proofs.lemmas.List.{drop_more}
use Rattle.idl_tree.specs.declared.programs.BitPart.{BitPart}
use Rattle.std.specs.Borrow.{Bor}
use Rattle.std.specs.List.{slice_split}
use Rattle.entry_place.specs.Places.{is_number, number_of, is_bar, part_of, parts_of}

own : IsNumeralModel (λ ds. all_ascii_digits ds ≡ true) (digits_value 10)
own = numerals_by_value _ tells_all_ascii_digits

some_digits : (text : List ℕ) → is_number text ≡ true → 0 < length text
some_digits text h = let rest = (and_parts _ _ h).1 in let le = leb-true 1 (length text) (and_parts _ _ rest).0 in omega arith

small : (text : List ℕ) → is_number text ≡ true → digits_value 10 text < 65536 → number_of text ≡ Some (digits_value 10 text)
small text h lt = rw (h, lt-ltb (digits_value 10 text) 65536 lt) refl

large : (text : List ℕ) → is_number text ≡ true → 65536 ≤ digits_value 10 text → number_of text ≡ None
large text h le = rw (h, le-ltb (digits_value 10 text) 65536 le) refl

by_value : {E : Type 0} (text : List ℕ) (r : Result ℕ E) → is_number text ≡ true → OkIff r ((0 < length text) × (digits_value 10 text < 65536)) (digits_value 10 text) → (digits_value 10 text < 65536) ⊎ (65536 ≤ digits_value 10 text) → result_ok r ≡ number_of text
by_value text (Ok x) h p side = ap Some p.1 ∙ sym (small text h p.0.1)
by_value text (Err e) h p (inl lt) = absurd (p (some_digits text h, lt))
by_value text (Err e) h p (inr le) = sym (large text h le)

-- what `parse` gives of a number's digits
pub parsed : {E : Type 0} (text : List ℕ) (r : Result ℕ E) → is_number text ≡ true → ParsesUnsigned 16 10 text r → result_ok r ≡ number_of text
parsed text r h p = by_value text r h (parse_digits own 16 text r p (and_parts _ _ h).0) (cases_lt (digits_value 10 text) 65536)

-- parts of a list, read through a view
pub each_map : {A B C : Type 0} (f : B → Option C) (g : A → B) (xs : List A) → each (λ x. f (g x)) xs ≡ each f (map g xs)
each_map f g [] = refl
each_map f g (x ∷ xs) = ap (one_more_part (f (g x))) (each_map f g xs)

pub part_turn : {A B : Type 0} (f : A → Option B) (xs : List A) (i : ℕ) (d : A) (ps qs : List B) (p : B) → i < length xs → f (get_or xs i d) ≡ Some p → qs ≡ ps ++ p ∷ [] → after_parts ps (each f (drop i xs)) ≡ each f xs → after_parts qs (each f (drop (i + 1) xs)) ≡ each f xs
part_turn f xs i d ps qs p lt is more h =
    ap (λ rs. after_parts rs (each f (drop (i + 1) xs))) more ∙ after_one_more ps p (each f (drop (i + 1) xs)) ∙ ap (λ o. after_parts ps (one_more_part o (each f (drop (i + 1) xs)))) (sym is) ∙ ap (λ ys. after_parts ps (each f ys)) (sym (drop_more xs i d lt)) ∙ h

-- the pieces of a text, each read
pub pieces_read : {E : Type 0} (texts : List (Bor (List ℕ))) (text : List ℕ) (r : Result (Option (List BitPart)) E) → map (λ x. x.now) texts ≡ slice_split is_bar text → IfOk r (λ o. o ≡ each (λ x. part_of x.now) texts) → IfOk r (λ o. o ≡ parts_of text)
pieces_read texts text (Ok o) is h = h ∙ each_map part_of (λ x. x.now) texts ∙ ap (each part_of) is
pieces_read texts text (Err e) is h = h
