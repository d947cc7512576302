pub mod Beginnings
pub mod EachRow
pub mod Histories
pub mod Growing
pub mod Adding
pub mod RowLists
