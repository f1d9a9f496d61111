-- What the program prints: words in lines, and the listing of a script. And what it reads.
pub mod Lines
pub mod Listing
pub mod Inputs
