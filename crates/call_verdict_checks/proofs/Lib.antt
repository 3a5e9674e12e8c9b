-- Laws of a verdict's tests.
pub mod Tests
