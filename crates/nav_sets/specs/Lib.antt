-- What the inner functions' contracts cite.
pub mod Pieces
-- where each bit of a set comes from
pub mod Table
