pub mod Regular
pub mod Productions
pub mod Places
pub mod Readings
pub mod Documents
pub mod Scanner
