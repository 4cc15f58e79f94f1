pub mod OfEvents
pub mod OfJournal
pub mod OfReports
pub mod OfOrders
