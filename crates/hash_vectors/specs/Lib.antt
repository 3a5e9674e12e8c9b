-- SHA-256, SHA-3, HMAC, AES and CMAC at published examples.
pub mod Sha
pub mod Sha3
pub mod Mac
pub mod Aes
pub mod Cmac
