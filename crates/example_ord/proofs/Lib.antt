pub mod OrderBookLemmas
pub mod OrderMoveLemmas
