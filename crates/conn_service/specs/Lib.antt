pub mod Served
pub mod Sends
pub mod Attending
pub mod Courses
pub mod EndTexts
pub use Rattle.tase_conn.specs as TaseConn
pub use Rattle.node_core.specs as NodeCore
