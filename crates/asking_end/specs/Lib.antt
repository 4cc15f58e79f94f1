pub mod Agendas
pub mod Asking
pub mod Askers
pub mod Callers
pub mod Hearings
pub mod Sayings
pub mod Exchanges
pub mod Service
pub use Rattle.node_server.specs.Links as Links
