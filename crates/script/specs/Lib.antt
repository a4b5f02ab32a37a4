pub mod Script
pub mod Combination
pub mod Translate
