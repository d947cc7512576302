pub mod Coordinator
