pub mod WantedSigns
pub mod Bits
pub mod SignSets
pub mod NodesBySign
