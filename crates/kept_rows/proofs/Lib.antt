mod Texts
mod Places
pub mod Meaning
