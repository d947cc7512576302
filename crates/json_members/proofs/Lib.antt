mod Names
mod Utf8
