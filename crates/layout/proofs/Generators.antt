pub mod Orderings
pub mod Band
pub mod BandRows
pub mod Drawn
