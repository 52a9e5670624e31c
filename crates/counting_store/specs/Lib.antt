pub mod Counters
