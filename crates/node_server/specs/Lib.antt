pub mod SeatCalls
pub mod NodeCalls
pub mod Ticking
pub mod HeldLines
pub mod FeedReading
pub mod Feeding
pub mod Turn
pub mod Seats
pub mod Links
pub mod Jobs
pub use Rattle.conn_service.specs as ConnService
pub use Rattle.conn_service.specs.TaseConn as TaseConn
