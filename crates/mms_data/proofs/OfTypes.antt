pub mod ShapesRead
pub mod ShapesLawful
pub mod ShapesWritten
pub mod ShapeLengths
pub mod ShapesSpelled
pub mod SameShapeTexts
pub mod SameShapes
mod WorkedShapes
