-- The levels of the signs between operands.
use Rattle.std.proofs.Common.{◌≡◌, ℕ, suc, ◌-◌, ◌<◌, [], ◌∷◌, refl, arith}
use Rattle.idl_token.specs.declared.kinds.Sign.{Sign}
use Rattle.idl_token.specs.declared.kinds.Sign.TheVariants as s
use Rattle.idl_token.specs.Precedence.{precedence}
use Rattle.idl_grammar.specs.Tables.{binding}
use Rattle.idl_fault.specs.Machine as m
use Rattle.idl_fault.specs.Views.{infix_by, is_wide}

pub infix_is : (k : ℕ) (c : Sign) → m.infix_plan k (binding c) ≡ infix_by k (precedence c) (is_wide c)
infix_is k s.OpenParen = refl
infix_is k _ = refl

pub onward_none : (k : ℕ) → k ≡ 0 → m.onward_plan k ≡ m.passes []
onward_none k is = rw is refl

pub onward_more : (k : ℕ) → 0 < k → m.onward_plan k ≡ m.passes (m.onward (k - 1) ∷ m.more (k - 1) ∷ [])
onward_more k lt = go k (k - 1) (omega arith)
  where
    go : (k j : ℕ) → k ≡ suc j → m.onward_plan k ≡ m.passes (m.onward j ∷ m.more j ∷ [])
    go k j is = rw is refl
