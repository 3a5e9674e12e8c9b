-- Laws of lost fields.
mod Lost
