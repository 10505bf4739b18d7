pub mod Bits
pub mod SignSets
pub mod Signs
