pub mod Offers
pub mod Others
pub mod UserData
pub mod Results
pub mod Agreements
pub mod Expecting
pub mod Ppdus
pub mod Written
