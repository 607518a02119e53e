-- The order of rows is total, and rows that tie have one key.
use Rattle.std.proofs.Common.{◌≡◌, ℕ, zero, suc, ◌&&◌, ◌||◌, Bool, true, false, cond, refl, ap, sym, ◌∙◌}
use Rattle.std.specs.Cmp.{IsTotalOrder, IsStrictWeakOrder}
use Rattle.std.specs.Ordering.{nat_cmp, is_lt, ordering_then, ordering_reverse}
use Rattle.std.specs.Cmp.Lexicographic.{slice_cmp}
use Rattle.std.specs.declared.cmp.Ordering.{Ordering}
use Rattle.std.specs.declared.cmp.Ordering.TheVariants.{Less, Equal, Greater}
use Rattle.std.proofs.lemmas.Cmp.{ranked, nat_cmp_total, nat_list_cmp_total, on_total, then_total}
use Rattle.std.proofs.lemmas.List.Sorted.{ranks_by}
use Rattle.std.proofs.lemmas.Map.Lookups.{exact_bytes}
use Rattle.udb_base.specs.declared.kinds.Kind.{Kind}
use Rattle.udb_base.specs.declared.kinds.Kind.TheVariants.{Extension, Parameter, Instruction, Csr, Functions, Config}
use Rattle.udb_base.specs.declared.rows.Row.{Row}
use Rattle.udb_base.specs.Order.{kind_place, row_lt, row_cmp}

-- ---- the order is total

pub row_total : IsTotalOrder row_cmp
row_total = then_total (on_total (λ (r : Row). kind_place r.kind) nat_cmp_total) (on_total (λ (r : Row). r.name) nat_list_cmp_total)

pub row_weak : IsStrictWeakOrder (λ a b. is_lt (row_cmp a b))
row_weak = ranks_by row_total (λ r. r)

lt_test : (l e : Bool) (o : Ordering) → is_lt (ordering_then (cond l Less (cond e Equal Greater)) o) ≡ (l || (e && is_lt o))
lt_test true e o = refl
lt_test false true o = refl
lt_test false false o = refl

pub row_lt-cmp : (a b : Row) → is_lt (row_cmp a b) ≡ row_lt a b
row_lt-cmp a b = lt_test _ _ _

-- ---- rows that tie have one key

kind_at : ℕ → Kind
kind_at zero = Extension
kind_at (suc zero) = Parameter
kind_at (suc (suc zero)) = Instruction
kind_at (suc (suc (suc zero))) = Csr
kind_at (suc (suc (suc (suc zero)))) = Functions
kind_at (suc (suc (suc (suc (suc n))))) = Config

kind_back : (k : Kind) → kind_at (kind_place k) ≡ k
unfolding kind_at
kind_back Extension = refl
kind_back Parameter = refl
kind_back Instruction = refl
kind_back Csr = refl
kind_back Functions = refl
kind_back Config = refl

pub kind_place-is : (j k : Kind) → kind_place j ≡ kind_place k → j ≡ k
kind_place-is j k e = sym (kind_back j) ∙ ap kind_at e ∙ kind_back k

then_equal : (p q : Ordering) → ordering_then p q ≡ Equal → (p ≡ Equal) × (q ≡ Equal)
then_equal Less q e = absurd (cc)
then_equal Equal q e = (refl, e)
then_equal Greater q e = absurd (cc)

pub tie_is : (a b : Row) → row_cmp a b ≡ Equal → (a.kind ≡ b.kind) × (a.name ≡ b.name)
tie_is a b e =
    let both = then_equal (nat_cmp (kind_place a.kind) (kind_place b.kind)) (slice_cmp nat_cmp a.name b.name) e in
    (kind_place-is a.kind b.kind (ranked (kind_place a.kind) (kind_place b.kind) Equal (sym both.0)), exact_bytes a.name b.name both.1)

no_way_back : (o : Ordering) → is_lt o ≡ true → is_lt (ordering_reverse o) ≡ true → ⊥
no_way_back Less h g = absurd (cc)
no_way_back Equal h g = absurd (cc)
no_way_back Greater h g = absurd (cc)

pub one_way : (a b : Row) → row_lt a b ≡ true → row_lt b a ≡ true → ⊥
one_way a b h g = no_way_back (row_cmp a b) (row_lt-cmp a b ∙ h) (ap is_lt (sym (row_total.antisymm b a)) ∙ (row_lt-cmp b a ∙ g))
