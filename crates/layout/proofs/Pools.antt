pub mod Pool
pub mod PoolChecks
pub mod PoolTables
