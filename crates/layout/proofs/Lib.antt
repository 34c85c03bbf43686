pub mod LoopPlaces
pub mod Laws
pub mod Pack
pub mod FirstLaws
