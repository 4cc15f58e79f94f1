pub mod Events
pub mod Journal
pub mod Reports
pub mod Orders
