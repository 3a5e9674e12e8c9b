-- Laws of DSM-PKR that other crates cite.
pub mod Pkr
