pub mod AskedLemmas
pub mod EndLemmas
mod LookLemmas
pub mod StandingLemmas
pub mod TakeOverLemmas
pub mod TicketLemmas
