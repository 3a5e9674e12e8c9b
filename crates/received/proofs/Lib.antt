-- Laws of fields and items that came, for this crate's proofs and its callers'.
pub mod Fields
pub mod Items
pub mod Cases
