-- what the contracts of the answers cite
pub mod Answers
