pub mod Room
pub mod Stack
pub mod Heap
pub mod Push
pub mod Entry
pub mod Limited
