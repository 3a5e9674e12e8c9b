-- The claim over any run, and the laws of one valve, of the 48 and of their digits.
pub mod Valves
pub mod Digits
pub mod Run
