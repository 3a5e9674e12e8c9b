-- Stops: a stop shows in the numbers that the core answers. Shape: its question is never refused. Boundary: the contracts are the rules. GateContracts,
-- Contracts: runs of the gate and of both by what the checker makes of the contracts; GateFromContracts, FromContracts: what holds of them. Exported, Safety:
-- the same with the clauses written out.
pub mod Stops
pub mod Shape
pub mod Boundary
pub mod GateContracts
pub mod Contracts
pub mod GateFromContracts
pub mod FromContracts
pub mod Exported
pub mod Safety
