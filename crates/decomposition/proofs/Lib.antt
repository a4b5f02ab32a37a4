pub mod Parted
pub mod Divided
pub mod Fuel
pub mod Decomposed
pub mod Begun
