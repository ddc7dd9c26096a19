-- What the contracts cite. To be read in this order.
pub mod Verdicts
pub mod Ascending
pub mod RulesLaws
pub mod Rows
pub mod Places
pub mod Upstream
