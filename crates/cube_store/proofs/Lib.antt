pub mod WordBits
pub mod Marks
pub mod Mapped
pub mod Firsts
