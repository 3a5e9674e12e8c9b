-- What the contracts of `cmac` cite.
pub mod Cmac
-- what is shown of padding and truncation
pub mod Shown
