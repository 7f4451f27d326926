pub mod Entries
pub mod State
pub mod Changes
pub mod Held
