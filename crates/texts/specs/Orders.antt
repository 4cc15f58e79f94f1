pub mod PlantLines
