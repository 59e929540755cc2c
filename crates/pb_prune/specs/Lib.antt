pub mod Held
pub mod Solutions
pub mod Subtree
pub mod AgreedPrefix
pub mod Checks
