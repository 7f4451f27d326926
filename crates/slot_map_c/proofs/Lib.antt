mod Values
mod AsBox
mod EntriesLemmas
mod CompressLemmas
