-- What the contracts of `hmac` cite.
pub mod Hmac
