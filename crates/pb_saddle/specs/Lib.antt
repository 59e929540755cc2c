pub mod Shifting
pub use Rattle.pb_dual.specs.Multipliers
