-- Conditions by their depth.
use Rattle.std.proofs.Common.{◌≡◌, ℕ, zero, suc, ◌-◌, None, refl, ap, sym, arith}
use Rattle.yaml_spec.specs.declared.tree.Tree.{Tree}
use Rattle.cond_tree.specs.declared.members.Wanted.TheVariants.{Any}
use Rattle.cond_tree.specs.Members.{member_by}
use Rattle.cond_tree.specs.Conds.{cond_of, form_cond, member_or}

pub cond_zero : (t : Tree) → cond_of 0 t ≡ None
unfolding cond_of
cond_zero t = refl

pub cond_next : (n : ℕ) (t : Tree) → (n ≡ 0 → ⊥) → cond_of n t ≡ member_or (member_by Any t) (form_cond (cond_of (n - 1)) t)
unfolding cond_of
cond_next zero t h = absurd (h refl)
cond_next (suc n) t h = let e : suc n - 1 ≡ n = omega arith in ap (λ k. member_or (member_by Any t) (form_cond (cond_of k) t)) (sym e)

pub ruleset depths = (cond_zero, cond_next)
