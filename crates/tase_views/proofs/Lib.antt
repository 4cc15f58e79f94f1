pub mod Seen
pub mod OwnRefusals
pub mod Reseated
pub mod NotShown
pub mod Others
pub mod NothingMade
pub mod KeyNumbers
pub mod InForce
pub mod OwnDevices
pub mod TypedObjects
pub mod DevicesSeen
pub mod OpenKeys
pub mod Seated
pub mod Holders
pub mod DeviceRows
pub mod DeviceBanks
pub mod OrdersAnswered
pub mod OrdersGiven
pub mod TextLengths
pub mod NodeSample
mod Worked
mod WorkedReports
mod WorkedDevices
mod WorkedSets
mod WorkedPlant
mod WorkedForce
mod WorkedEvents
mod WorkedTypes
