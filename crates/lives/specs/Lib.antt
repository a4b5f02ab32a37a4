pub mod Ranges
pub mod Moments
pub mod Life
pub mod Promise
pub mod Example
