pub mod JobTasks
mod Rows
mod ScriptParts
mod PlainText
mod RunLines
