pub mod KeptWays
pub mod Tables
pub mod Readings
