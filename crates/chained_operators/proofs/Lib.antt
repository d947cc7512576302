pub mod PassingOn
