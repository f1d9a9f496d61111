-- What the paper's words mean: trees and records, the grammar, the reading of a script.
pub mod Sizes
pub mod Trees
pub mod Readers
pub mod Grammar
pub mod Script
pub mod Latest
pub mod Words
pub mod Computing
