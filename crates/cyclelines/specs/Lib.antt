pub mod CycleLines
