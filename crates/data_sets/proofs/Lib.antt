pub mod Booked
mod Worked
