pub mod Algebra
pub mod Models
pub mod Worth
pub mod UpsideDown
