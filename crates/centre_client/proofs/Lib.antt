pub mod Called
pub mod FirstErrors
pub mod Spelled
pub mod Playable
pub mod PlayedOn
pub mod WaitsOn
pub mod PlaysHeard
pub mod Guarded
pub mod WritesMeant
pub mod Exchanged
pub mod DeviceRequests
mod Worked
mod WorkedClients
pub mod ValuesSized
pub mod MembersSized
pub mod NamesSized
pub mod CallsSized
pub mod LineFaultsMet
