pub mod Places
pub mod Gathering
pub mod Translating
