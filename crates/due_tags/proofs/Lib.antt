-- Laws of the sweep.
pub mod Arrival
pub mod Judged
