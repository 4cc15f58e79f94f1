mod LineParts
mod Escaping
mod Duties
mod Listed
mod Playing
mod Telling
mod Sending
mod Keeping
mod Verified
mod Lacking
mod VerdictsTold
mod Counting
mod Tasks
mod Ended
pub mod OfAsking
pub mod OfClient
pub mod OfDiscover
pub mod OfLoading
pub mod OfServer
