mod Apart
pub mod Found
pub mod Table
