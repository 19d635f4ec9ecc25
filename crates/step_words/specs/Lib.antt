pub mod Courses
pub mod Coming
pub mod Sittings
pub mod Seats
