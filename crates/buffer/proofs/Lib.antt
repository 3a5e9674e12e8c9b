-- What the library's methods on slices and numbers give, in the words of `laws`.
pub mod Library
