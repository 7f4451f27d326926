pub mod Held
pub mod Lines
pub mod Numbers
