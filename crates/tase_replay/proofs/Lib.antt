pub mod CallRead
pub mod Taking
pub mod Reached
pub mod Entering
pub mod Served
pub mod Linking
pub mod Seating
pub mod Still
pub mod Acted
pub mod Receiving
pub mod Sending
pub mod SoFar
pub mod Pending
pub mod Own
pub mod Players
pub mod TakenLines
pub mod Printable
pub mod PrintedBack
pub mod PlayPrints
pub mod OrdersTaken
pub mod OrdersBack
pub mod QuietLast
mod Worked
mod WorkedReadings
mod WorkedLinks
mod WorkedPrinted
