-- what the contracts cite
pub mod Outcomes
