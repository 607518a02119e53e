pub mod DigitLemmas
pub mod FindLemmas
pub mod CutLemmas
pub mod RowLemmas
pub mod ValueLemmas
pub mod SignLemmas
pub mod SteadyLemmas
