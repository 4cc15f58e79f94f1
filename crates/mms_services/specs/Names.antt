pub mod Defines
pub mod MemberLists
pub mod Deletes
pub mod NameLists
