pub mod LineWords
pub mod AbsentBytes
pub mod Numerals
pub mod Places
pub mod WordRoundTrips
pub mod WordsOfOut
pub mod OutFromWords
pub mod OutFromLine
pub mod PassedOverLines
mod Shares
mod LivePhases
mod StableSort
mod StateRows
pub mod InputProgress
mod Promises
mod Lines
