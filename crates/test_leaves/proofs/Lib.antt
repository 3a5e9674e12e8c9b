-- The checks of a walk.
mod Checks
