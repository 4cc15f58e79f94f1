pub mod ReplyTexts
pub mod CallWords
pub mod Breaks
pub mod WordPlaces
pub mod CallTexts
pub mod Assigned
pub mod Verbs
pub mod FeedLines
