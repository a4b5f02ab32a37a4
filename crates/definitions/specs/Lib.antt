pub mod Operands
pub mod Combine
pub mod Writing
pub mod Sound
pub mod Exact
