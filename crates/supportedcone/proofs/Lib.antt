-- sums over a list, one element at a time
pub mod Steps
-- records by index
pub mod Records
-- reading a record; bounds from check 1
pub mod Reading
pub mod Bounds
-- computed corner cases
pub mod Corners
