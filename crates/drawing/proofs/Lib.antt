pub mod Accesses
pub mod Streams
pub mod Strips
