pub mod Worlds
pub mod Told
pub mod Remaining
pub mod Closed
pub mod Takes
pub mod Wanted
pub mod Going
pub mod Refused
pub mod Memory
pub mod TooLong
pub mod Attended
pub mod EndedClosed
pub mod OfCourses
pub use Rattle.tase_conn.proofs as TaseConn
pub use Rattle.node_core.proofs as NodeCore
