pub mod Copied
pub mod Judged
pub mod Sifts
pub mod KeptPut
pub mod SalvageEnds
