-- The contracts of the exported calls, against the rules; and demand 3 of runs of them.
pub mod Boundary
pub mod Contracts
pub mod Exported
pub mod Run
