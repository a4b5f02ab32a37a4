pub mod Fetched
pub mod Soundness
