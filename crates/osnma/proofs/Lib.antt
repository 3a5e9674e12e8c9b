-- Row 1 of each exported call.
mod Lengths
