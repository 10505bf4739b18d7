pub mod Equipment
pub mod LookUps
