mod Pending
mod FirstSeat
mod AtWork
mod ClaimsLeft
mod OwnStop
mod Quiet
mod FeedQuiet
mod LinkQuiet
mod TakenAlone
mod PlantTold
mod CountsRisen
mod GatheredJobs
mod EndFirst
mod LeftTold
mod ServedAll
pub mod OfPlant
pub mod OfRun
pub mod OfRounds
