pub mod FreeListLemmas
pub mod FreeSlotsLemmas
pub mod ExchangeLemmas
pub mod EntriesLemmas
pub mod WalkLemmas
pub mod FreeLinkLemmas
mod AdvancerLemmas
mod CompressionLemmas
mod TransferLemmas
mod TakeOverLemmas
mod RecasterLemmas
pub mod DirectLemmas
mod DirectExchangeLemmas
mod DirectCompressionLemmas
mod CopyLemmas
mod DirectCopyLemmas
pub mod RecastingLemmas
pub mod StepsLemmas
pub mod DrainLemmas
pub mod IteratorLemmas
pub mod LentSlotsLemmas
pub mod IterMutLemmas
pub mod BothWaysLemmas
pub mod TwoItemsLemmas
pub mod TwoValuesLemmas
pub mod DirectTwoValuesLemmas
