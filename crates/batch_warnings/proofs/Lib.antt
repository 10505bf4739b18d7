pub mod Branches
pub mod NumbersOfMatches
pub mod DeclaredValues
pub mod AddedNames
