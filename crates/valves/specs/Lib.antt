-- what the contracts of the inner functions cite
pub mod Rule
