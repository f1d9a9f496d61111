-- What the exported calls leave in the words that are lent for their answers.
pub mod Exports
