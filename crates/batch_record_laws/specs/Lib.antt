pub mod Procedures
pub mod Premises
pub mod Candidates
pub mod Telling
pub mod Ways
pub mod Sets
pub mod Once
pub mod Replays
