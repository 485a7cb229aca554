pub mod HeldPoint
pub mod Inside
