pub mod Alike
pub mod Written
