pub mod Adding
pub mod Mixed
pub mod PoolCodes
pub mod RowIndex
pub mod RowPools
pub mod Statements
pub use Rattle.cip_problem.specs.Improving
