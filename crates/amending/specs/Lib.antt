-- What the paper's section "Amending" means. Laws of these definitions stand in proofs/.
pub mod Amend
pub mod Amending
pub mod Lent
pub mod Moves
pub mod Entries
pub mod Memory
pub mod Verdict
pub mod Grounds
pub mod States
pub mod Kept
