pub mod LineSeats
pub mod LinesOfNodes
pub mod BranchLines
pub mod SameNodes
pub mod TrimmedActs
pub mod TrimmedRecipes
pub mod TrimmedLines
