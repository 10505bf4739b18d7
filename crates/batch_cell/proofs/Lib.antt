pub mod Resources
pub mod Positions
pub mod OfferedPhases
pub mod Candidates
pub mod DistinctNames
pub mod ResourceNames
