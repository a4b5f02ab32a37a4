pub mod Sign
pub mod Rank
pub mod Way
pub mod Refusals
pub mod Hex
pub mod First
