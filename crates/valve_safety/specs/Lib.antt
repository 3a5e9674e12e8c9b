-- Exported: runs of the gate's exported calls are the runs of its claim. Safety: the gate and the core in one run.
pub mod Exported
pub mod Safety
