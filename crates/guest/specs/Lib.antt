pub mod Guests
pub mod Sides
