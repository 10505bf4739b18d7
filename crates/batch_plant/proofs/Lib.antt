pub mod Deeds
pub mod PlantPorts
pub mod Joins
pub mod UnitsOfLink
pub mod TickRecords
pub mod OrdersOfMoves
pub mod TickEffects
