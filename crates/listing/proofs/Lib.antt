-- Laws of lines and of the listing.
pub mod InputLaws
pub mod LineLaws
pub mod ListingLaws
pub mod CutLaws
