pub mod BodyForms
pub mod ArgumentLists
pub mod OwnForms
pub mod WalkForms
pub mod StepForms
pub mod TargetForms
