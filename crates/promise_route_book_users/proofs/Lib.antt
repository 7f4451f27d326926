mod DispatchLemmas
mod HintLemmas
mod ReferenceLemmas
mod RefusedLemmas
