mod Values
mod AsBox
mod ListLemmas
mod AlongLemmas
mod SearchLemmas
mod ChangeLemmas
mod GetLemmas
mod ReadLemmas
