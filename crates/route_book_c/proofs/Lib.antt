mod Values
mod AsBox
mod RoomLemmas
mod ListLemmas
mod KeptLemmas
mod LengthLemmas
mod AnswerLemmas
