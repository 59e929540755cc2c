pub mod Reading
pub mod Texts
pub mod Outcome
pub mod Budgeted
pub mod Division
pub use Rattle.pb_cubes.specs.Solving
pub mod Run
pub mod Laws
