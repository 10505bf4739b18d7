pub mod Headline
pub mod Settlement
pub mod Sets
pub mod Units
