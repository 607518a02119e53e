pub mod DeedForms
pub mod FieldCalls
pub mod LastOne
pub mod MarkedFunctions
