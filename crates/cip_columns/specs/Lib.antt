pub mod ColumnPools
pub mod PointChains
pub mod PoolPoints
pub mod PointPrints
