-- Words of digits as bytes of the text: for the answers of `algorithm::counted::multi`.
pub mod BorrowedBytes
pub mod WordsInTexts
