pub mod Trimmed
pub mod RowsOfTrimmed
pub mod Showing
pub mod Along
pub mod RowsOfShowing
