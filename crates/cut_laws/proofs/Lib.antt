pub mod Rooms
pub mod Demand3
pub mod NoColumns
pub mod Alone
pub mod FirstRows
pub mod BothRoutes
pub mod Generated
