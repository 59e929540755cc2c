pub mod Descent
pub mod Paths
pub mod SearchState
pub mod Made
pub mod Nodes
pub mod Ended
pub use Rattle.pb_prune.specs.Held
pub use Rattle.pb_prune.specs.Solutions
