-- Laws of the definitions, for the proofs of this crate and of those above it.
pub mod RowText
pub mod Shown
pub mod VerdictText
pub mod Fitting
pub mod ReadLists
pub mod Scenes
pub mod CutRows
pub mod Assembled
pub mod SheetLaws
pub mod RowLines
pub mod ReadBack
mod SameReport
mod RulesLaws
