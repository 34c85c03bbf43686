pub mod WayLines
