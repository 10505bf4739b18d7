pub mod Units
pub mod SteadyUnit
pub mod AnyDriver
