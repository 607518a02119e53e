mod ExprRows
mod StateRows
mod TypeRows
mod BodyRows
mod PlaceRows
mod StepRows
