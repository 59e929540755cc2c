pub mod Searcher
pub mod Layout
pub mod Root
pub mod Form
pub mod Searched
pub use Rattle.pb_cubes.specs.Done
pub use Rattle.pb_subtree.specs.Held
