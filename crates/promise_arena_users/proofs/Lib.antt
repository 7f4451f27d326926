pub mod MirrorLemmas
pub mod ReuseLemmas
mod WritingLemmas
