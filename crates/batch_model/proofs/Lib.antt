pub mod Members
pub mod TreeParts
pub mod ExclusiveUnits
pub mod Bindings
