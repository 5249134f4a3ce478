pub mod Args
pub mod Serving
pub mod Status
pub mod Sitting
pub mod Beside
