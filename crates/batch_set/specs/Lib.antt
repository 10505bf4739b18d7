pub mod Looked
pub mod Linking
pub mod Sources
