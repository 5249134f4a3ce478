pub mod Placed
pub mod Tagged
pub mod Released
pub mod Held
pub mod Bookmarked
pub mod Naming
