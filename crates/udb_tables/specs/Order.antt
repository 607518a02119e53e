-- The order of tables, which is that of keepers' tables.
pub use Rattle.udb_base.specs.Order.{kind_place, key_lt, row_lt, row_cmp, IsInOrder, HasOtherKey, HasDistinctKeys}
