pub mod Stands
pub mod Edges
pub mod RowParts
