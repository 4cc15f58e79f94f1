pub mod Taking
pub mod PlantHistory
