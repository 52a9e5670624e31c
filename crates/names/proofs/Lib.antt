mod Numbers
pub mod Beginning
mod Tables
mod Packing
mod Packed
mod Determined
