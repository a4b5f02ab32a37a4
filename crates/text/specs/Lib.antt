pub mod Lines
pub mod Digits
pub mod Frames
pub mod Seen
