-- The number of a width, form by form.
use Rattle.std.specs.Prelude.{◌≡◌, ℕ, ℤ, pos, ◌+ℤ◌, ◌-ℤ◌, ◌*ℤ◌, List, Option}
use Rattle.udb_base.specs.declared.names.Name.{Name}
use Rattle.udb_base.specs.declared.spaces.Space.{Space}
use Rattle.udb_base.specs.declared.spaces.Full.{Full}
use Rattle.udb_spec.specs.Spaces.{mxlen}
use Rattle.idl_tree.specs.declared.widths.Width.{Width}
use Rattle.idl_tree.specs.declared.widths.Width.TheVariants as w
use Rattle.idl_tree.specs.WidthLaws.{fold-Width-Number, fold-Width-Word, fold-Width-Plus, fold-Width-Minus, fold-Width-Times, fold-Width-Max, fold-Width-Bits}
use Rattle.idl_width.specs.declared.scopes.BitsOf.{BitsOf}
use Rattle.idl_width.specs.Numbers.{clip, bits_among, parameter_number, larger, number_step, width_number}

module _ (space : Space) (full : Full) (scope : List BitsOf) where
  pub number-Number : (n : ℕ) → width_number space full scope (w.Number n) ≡ clip (pos n)
  unfolding width_number
  number-Number = fold-Width-Number ℤ (λ layer. clip (number_step space full scope layer))

  pub number-Word : (name : Name) → width_number space full scope (w.Word name) ≡ clip (pos (parameter_number space full name))
  unfolding width_number
  number-Word = fold-Width-Word ℤ (λ layer. clip (number_step space full scope layer))

  pub number-Plus : (a b : Width) → width_number space full scope (w.Plus a b) ≡ clip (width_number space full scope a +ℤ width_number space full scope b)
  unfolding width_number
  number-Plus = fold-Width-Plus ℤ (λ layer. clip (number_step space full scope layer))

  pub number-Minus : (a b : Width) → width_number space full scope (w.Minus a b) ≡ clip (width_number space full scope a -ℤ width_number space full scope b)
  unfolding width_number
  number-Minus = fold-Width-Minus ℤ (λ layer. clip (number_step space full scope layer))

  pub number-Times : (a b : Width) → width_number space full scope (w.Times a b) ≡ clip (width_number space full scope a *ℤ width_number space full scope b)
  unfolding width_number
  number-Times = fold-Width-Times ℤ (λ layer. clip (number_step space full scope layer))

  pub number-Max : (a b : Width) → width_number space full scope (w.Max a b) ≡ clip (larger (width_number space full scope a) (width_number space full scope b))
  unfolding width_number
  number-Max = fold-Width-Max ℤ (λ layer. clip (number_step space full scope layer))

  pub number-Bits : (csr : Option Name) (name : Name) → width_number space full scope (w.Bits csr name) ≡ clip (pos (bits_among (mxlen space full) scope csr name))
  unfolding width_number
  number-Bits = fold-Width-Bits ℤ (λ layer. clip (number_step space full scope layer))

pub ruleset width_numbers = (number-Number, number-Word, number-Plus, number-Minus, number-Times, number-Max, number-Bits)
