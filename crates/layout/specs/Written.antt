pub mod SameWritten
pub mod BetweenWritten
pub mod SidesWritten
pub mod PoolWritten
pub mod FileWritten
