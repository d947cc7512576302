pub mod NumberLemmas
pub mod JsonLemmas
pub mod ListLemmas
pub mod ScriptLemmas
