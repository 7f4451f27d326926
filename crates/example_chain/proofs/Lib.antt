pub mod DocumentLemmas
mod FollowLemmas
pub mod PlaylistLemmas
pub mod ReversalLemmas
pub mod SceneLemmas
pub mod CacheLemmas
