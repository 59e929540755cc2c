pub mod Laws
pub mod Numbers
pub mod Rule
pub mod Seats
pub mod Steps
