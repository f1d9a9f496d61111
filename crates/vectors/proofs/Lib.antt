-- Laws of what is compared.
pub mod ComparingLaws
