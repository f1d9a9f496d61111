-- What the program compares, and how.
pub mod Comparing
