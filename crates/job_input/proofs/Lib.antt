mod Digits
mod Partitioned
mod PlainLines
mod Putting
mod Texts
mod Runs
mod WholeJob
