pub mod Caches
pub mod Documents
pub mod Follow
pub mod Playlists
pub mod Scene
pub mod Scheduler
