-- What the code's readers answer, in terms of the definition; what judging and reading answer and leave; the lookup.
pub mod Atoms
pub mod Rows
pub mod Joins
pub mod Powers
pub mod Few
pub mod Faults
pub mod Meets
pub mod Editions
pub mod Calls
pub mod Signs
pub mod Turns
pub mod Bodies
pub mod Scripts
pub mod Judging
pub mod Reading
pub mod Parts
pub mod Computing
