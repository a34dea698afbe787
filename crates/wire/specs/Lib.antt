pub mod Booked
pub mod Bytes
pub mod Meaning
pub mod Format
pub mod JournalRow
pub mod Answered
