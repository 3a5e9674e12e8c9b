-- Laws of what is kept of a key.
mod HmacBytes
mod Functions
