pub mod ServedParts
pub mod Ending
pub mod Working
pub mod Gathered
pub mod Serving
pub mod Plant
pub mod Run
pub mod Rounds
pub use Rattle.node_server.specs as NodeServer
