pub use Rattle.pb_search.specs.Form
pub mod Under
pub mod Sought
pub mod Explained
pub mod Fixed
pub mod Known
