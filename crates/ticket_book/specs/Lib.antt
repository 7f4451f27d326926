pub mod AlongLaws
pub mod InArena
pub mod Mirrors
pub mod Moving
pub mod Tickets
pub mod WalkLaws
