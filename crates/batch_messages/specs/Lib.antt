pub mod CircleSentence
pub mod WarningWords
pub mod Explaining
pub mod Shown
