-- The shape of an attempt: its gates fit, and barriers stand where they are due.
pub mod Fitting
pub mod Gates
pub mod GatesKept
pub mod Shapes
pub mod ShapeCalls
pub mod BarriersKept
pub mod ShapesKept
