-- Lists of arguments beside kinds.
use Rattle.std.proofs.Common.{◌≡◌, Bool, true, false, List, [], ◌∷◌, Option, length, map, suc, refl, ap}
use Rattle.std.specs.Prelude.{◌&&◌}
use Rattle.idl_tree.specs.declared.programs.Argument.{Argument}
use Rattle.idl_spec.specs.Demands.{arguments_suit}
use Rattle.type_kinds.specs.declared.kinds.Kind.{Kind}
use Rattle.type_kinds.specs.Kinds.{kind_if_any}

and-false : (x y : Bool) → false ≡ y → false ≡ (x && y)
and-false true y h = h
and-false false y h = refl

pub other-length : (xs : List Argument) (ks : List (Option Kind)) → (length xs ≡ length ks → ⊥) → false ≡ arguments_suit xs (map kind_if_any ks)
other-length [] [] h = absurd (h refl)
other-length [] (k ∷ ks) h = refl
other-length (a ∷ xs) [] h = refl
other-length (a ∷ xs) (k ∷ ks) h = and-false _ _ (other-length xs ks (λ e. h (ap suc e)))

pub ruleset suit_laws = (other-length)
