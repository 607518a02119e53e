-- The keys of a bundle's rows are distinct, place by place.
use Rattle.std.proofs.Common.{ℕ, zero, suc, ◌<◌, List, [], ◌∷◌, length, get_or, arith}
use Rattle.udb_base.specs.declared.rows.Row.{Row}
use Rattle.udb_bundle.specs.Bundles.{HasDistinctKeys}
use Rattle.udb_base.specs.Order.{HasOtherKey}

pub distinct_pairs : (rows : List Row) → HasDistinctKeys rows → (i j : ℕ) (d : Row) → i < j → j < length rows → HasOtherKey (get_or rows i d) (get_or rows j d)
distinct_pairs [] h i j d lt b = absurd (omega arith)
distinct_pairs (r ∷ rs) h zero zero d lt b = absurd (omega arith)
distinct_pairs (r ∷ rs) h zero (suc j) d lt b = h.0 j d (omega arith)
distinct_pairs (r ∷ rs) h (suc i) zero d lt b = absurd (omega arith)
distinct_pairs (r ∷ rs) h (suc i) (suc j) d lt b = distinct_pairs rs h.1 i j d (omega arith) (omega arith)
