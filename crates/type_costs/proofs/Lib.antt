pub mod BodyCosts
pub mod CappedSums
pub mod ExpressionCosts
pub mod Listings
pub mod NamedParameters
pub mod PlacedCosts
pub mod SameCosts
pub mod StatementCosts
