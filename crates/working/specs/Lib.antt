pub mod Records
pub mod Gather
pub mod Translation
pub mod Exact
