pub mod Ranged
pub mod Delivered
pub mod Lived
