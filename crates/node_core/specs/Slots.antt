pub mod SetsKept
pub mod SlotsKept
pub mod SlotWrites
pub mod Associations
