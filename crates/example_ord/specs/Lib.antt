pub mod OrderBooks
