pub mod Calls
pub mod Printed
pub mod RecordText
pub mod RowText
pub mod Telling
