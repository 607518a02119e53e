-- Which parameters widths name, form by form.
use Rattle.std.proofs.Common.{◌≡◌, ℕ, Bool, true, false, List, [], ◌∷◌, ◌++◌, Option, None, Some, refl, sym, ap, ◌∙◌}
use Rattle.std.specs.Prelude.{◌||◌, ◌&&◌, not, filter, codes, if◌then◌else◌}
use Rattle.std.specs.Cmp.Lexicographic.{same_text}
use Rattle.std.proofs.lemmas.List.Folds.{list_any-append}
use Rattle.udb_base.specs.Lists.{is_among}
use Rattle.udb_base.specs.declared.names.Name.{Name}
use Rattle.udb_spec.specs.Conditions.{same_bytes}
use Rattle.idl_tree.specs.declared.widths.Width.{Width}
use Rattle.idl_tree.specs.declared.widths.Width.TheVariants as wd
use Rattle.idl_tree.specs.declared.programs.Variable.{Variable}
use Rattle.idl_tree.specs.declared.programs.Program.{Program}
use Rattle.idl_spec.specs.Costs.{named_in, bits_named, by_base}
use Rattle.idl_spec.specs.CostLaws as law
use Rattle.type_costs.specs.Turns.{bits_by_base, bounds_name}

abbrev among : Name → List Name → Bool
among x xs = is_among same_bytes x xs

abbrev others : List Name → List Name → List Name
others xs ys = filter (λ name. not (among name xs)) ys

or-false : (b : Bool) → (b || false) ≡ b
or-false true = refl
or-false false = refl

-- a name that isn't among the first is among the others where it is among all
among-others : (x : Name) (xs ys : List Name) → among x xs ≡ false → among x (others xs ys) ≡ among x ys
among-others x xs [] h = refl
among-others x xs (y ∷ ys) h = at (among y xs) refl (same_bytes x y) refl (among-others x xs ys h)
  where
    at : (b : Bool) → among y xs ≡ b → (s : Bool) → same_bytes x y ≡ s → among x (others xs ys) ≡ among x ys
        → among x (if not b then y ∷ others xs ys else others xs ys) ≡ (s || among x ys)
    at false is s same more = ap (λ c. c || among x (others xs ys)) same ∙ ap (λ c. s || c) more
    at true is false same more = more
    at true is true same more =
        let one : x ≡ y = same_text x y (sym same) in
        absurd (cc (ap (λ z. among z xs) one, is, h))

among-both : (x : Name) (xs ys : List Name) → among x (xs ++ others xs ys) ≡ (among x xs || among x ys)
among-both x xs ys = list_any-append (same_bytes x) xs (others xs ys) ∙ at (among x xs) refl
  where
    at : (b : Bool) → among x xs ≡ b → (b || among x (others xs ys)) ≡ (b || among x ys)
    at true is = refl
    at false is = among-others x xs ys is

among-base : (x : Name) (b : Bool) → among x (by_base b).params ≡ (b && same_bytes x (codes "MXLEN"))
among-base x true = or-false (same_bytes x (codes "MXLEN"))
among-base x false = refl

module _ (program : Program) (variables : List Variable) (x : Name) where
  abbrev names : Width → Bool
  names width = among x (named_in program variables width).params

  pub names-Number : (n : ℕ) → names (wd.Number n) ≡ false
  names-Number n = ap (λ z. among x z.params) (law.named-Number program variables n)

  pub names-Word : (name : Name) → names (wd.Word name) ≡ same_bytes x name
  names-Word name = ap (λ z. among x z.params) (law.named-Word program variables name) ∙ or-false (same_bytes x name)

  pub names-Plus : (a c : Width) → names (wd.Plus a c) ≡ (names a || names c)
  names-Plus a c = ap (λ z. among x z.params) (law.named-Plus program variables a c) ∙ among-both x (named_in program variables a).params (named_in program variables c).params

  pub names-Minus : (a c : Width) → names (wd.Minus a c) ≡ (names a || names c)
  names-Minus a c = ap (λ z. among x z.params) (law.named-Minus program variables a c) ∙ among-both x (named_in program variables a).params (named_in program variables c).params

  pub names-Times : (a c : Width) → names (wd.Times a c) ≡ (names a || names c)
  names-Times a c = ap (λ z. among x z.params) (law.named-Times program variables a c) ∙ among-both x (named_in program variables a).params (named_in program variables c).params

  pub names-Max : (a c : Width) → names (wd.Max a c) ≡ (names a || names c)
  names-Max a c = ap (λ z. among x z.params) (law.named-Max program variables a c) ∙ among-both x (named_in program variables a).params (named_in program variables c).params

  of-bits : (csr : Option Name) (name : Name) → among x (bits_named program variables csr name).params ≡ (bits_by_base program variables csr name && same_bytes x (codes "MXLEN"))
  of-bits None name = among-base x (bits_by_base program variables None name)
  of-bits (Some csr) name = among-base x (bits_by_base program variables (Some csr) name)

  pub names-Bits : (csr : Option Name) (name : Name) → names (wd.Bits csr name) ≡ (bits_by_base program variables csr name && same_bytes x (codes "MXLEN"))
  names-Bits csr name = ap (λ z. among x z.params) (law.named-Bits program variables csr name) ∙ of-bits csr name

  pub names-either : (from to : Width) → bounds_name program variables from to x ≡ (names from || names to)
  names-either from to = among-both x (named_in program variables from).params (named_in program variables to).params

pub ruleset name_laws = (names-Number, names-Word, names-Plus, names-Minus, names-Times, names-Max, names-Bits)

pub ruleset both_laws = (names-either)
