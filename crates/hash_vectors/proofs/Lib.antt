-- The published examples, computed.
mod Sha
mod Sha3
mod Mac
mod Aes
mod Cmac
