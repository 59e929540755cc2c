pub mod Relaxation
pub use Rattle.pb_dual.specs.Multipliers
