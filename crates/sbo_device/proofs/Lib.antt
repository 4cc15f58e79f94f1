mod Worked
pub mod SameHolders
pub mod OneHolder
pub mod BankLists
pub mod BankMoves
pub mod HoldsEnd
