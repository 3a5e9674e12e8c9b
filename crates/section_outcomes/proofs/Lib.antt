-- Laws of a block's key, and of outcomes.
pub mod Keys
pub mod Tests
