-- What the paper's words on days mean. Laws of these definitions stand in proofs/.
pub mod Calendar
