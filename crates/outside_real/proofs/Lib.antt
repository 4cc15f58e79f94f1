pub mod LinkCalls
pub mod LinkTrying
pub mod Trying
