pub mod Bits
pub mod Entries
pub mod Held
pub mod Left
pub mod Piled
pub mod Segments
pub mod Spans
