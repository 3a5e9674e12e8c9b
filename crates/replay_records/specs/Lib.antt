-- what the contracts of the replay library cite
pub mod Kept
pub mod Pieces
pub mod Written
