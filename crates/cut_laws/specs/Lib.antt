pub mod Equations
pub mod BothRoutes
