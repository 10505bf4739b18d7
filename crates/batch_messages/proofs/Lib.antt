pub mod WordsByNumber
pub mod ActsAtNodes
mod CircleWords
pub mod ExplanationCodes
mod ShownLines
mod TextGrowth
