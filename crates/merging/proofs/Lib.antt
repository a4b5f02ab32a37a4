pub mod First
pub mod Marks
pub mod Labels
pub mod Steps
pub mod Filling
pub mod Linked
pub mod Depth
pub mod Turns
