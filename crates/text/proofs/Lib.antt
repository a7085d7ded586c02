pub mod FieldGrammar
pub mod FieldSteps
pub mod LineEnds
pub mod Pieces
pub mod ReadBack
pub mod TenthPart
