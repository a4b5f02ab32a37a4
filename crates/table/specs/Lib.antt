pub mod Kept
pub mod Reading
pub mod Tables
