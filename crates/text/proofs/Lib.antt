mod FirstLine
pub mod Pairs
