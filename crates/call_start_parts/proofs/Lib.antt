-- Laws of the parts of a start.
mod Cleared
