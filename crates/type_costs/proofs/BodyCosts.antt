-- The costs of bodies together.
use Rattle.std.proofs.Common.{◌≡◌, ◌<◌, ◌+◌, ℕ, length, get_or, take, List, [], ◌∷◌, ◌++◌, sym, ap, ◌∙◌, append_assoc, append-nil, arith}
use Rattle.std.specs.Prelude.{sum_by, flat_map}
use Rattle.std.proofs.lemmas.Grind.{take_at_read}
use Rattle.std.proofs.lemmas.List.Sums.{sum_by-append}
use Rattle.idl_tree.specs.declared.programs.Body.{Body}
use Rattle.idl_spec.specs.Costs.{Prices, cost_under}
use Rattle.type_costs.specs.Capped.{capped}
use Rattle.type_costs.specs.Bodies.{bodies_cost}
use Rattle.type_costs.proofs.CappedSums.{small, capped-both}

flat-last : {X Y : Type 0} (g : X → List Y) (xs : List X) (x : X) → flat_map g (xs ++ x ∷ []) ≡ flat_map g xs ++ g x
flat-last g [] x = append-nil (g x)
flat-last g (y ∷ xs) x = ap (λ zs. g y ++ zs) (flat-last g xs x) ∙ sym (append_assoc (g y) (flat_map g xs) (g x))

module _ (prices : Prices) where
  pub bodies-none : bodies_cost prices [] ≡ 0
  unfolding bodies_cost
  bodies-none = small 0 (omega arith)

  pub bodies-one : (body : Body) → bodies_cost prices (body ∷ []) ≡ capped (cost_under prices body.statements)
  unfolding bodies_cost
  bodies-one body = ap capped (omega arith)

  pub bodies-append : (a c : List Body) → bodies_cost prices (a ++ c) ≡ capped (bodies_cost prices a + bodies_cost prices c)
  unfolding bodies_cost
  bodies-append a c =
      ap capped (sum_by-append (λ body. cost_under prices body.statements) a c)
      ∙ sym (capped-both (sum_by (λ body. cost_under prices body.statements) a) (sum_by (λ body. cost_under prices body.statements) c))

  -- the bodies of one more part
  pub bodies-more : {X : Type 0} (g : X → List Body) (xs : List X) (i : ℕ) (x : X) (cost one : ℕ) → i < length xs → x ≡ get_or xs i x
      → cost ≡ bodies_cost prices (flat_map g (take i xs)) → one ≡ bodies_cost prices (g x) → capped (cost + one) ≡ bodies_cost prices (flat_map g (take (i + 1) xs))
  bodies-more g xs i x cost one lt is so here =
      ap (λ n. capped (n + one)) so ∙ (ap (λ n. capped (bodies_cost prices (flat_map g (take i xs)) + n)) here ∙ sym (bodies-append (flat_map g (take i xs)) (g x)))
      ∙ ap (bodies_cost prices) (sym (flat-last g (take i xs) x))
      ∙ ap (λ ys. bodies_cost prices (flat_map g ys)) (sym ((take_at_read xs i x lt).1 ∙ ap (λ z. take i xs ++ z ∷ []) (sym is)))

pub ruleset body_laws = (bodies-none, bodies-one)

pub ruleset list_laws = (bodies-none, bodies-append)
