mod BlockSame
mod Few
mod Good
mod Owned
mod PointLaws
mod PointSame
pub mod ProgramSame
mod ReadLines
mod Rising
mod SemiNamed
mod SemiTried
mod Sound
pub mod SoundState
mod Taken
mod TestsSame
mod Tried
pub mod BlockLaws
pub mod BlockNumbers
pub mod ByLine
pub mod Coefficients
pub mod Cuts
pub mod LineBytes
pub mod LineEnded
pub mod LineFaults
pub mod LineOutcomes
pub mod LineSame
pub mod LookUps
pub mod LpEvents
pub mod LpFits
pub mod LpForms
pub mod LpPieceLaws
pub mod LpStream
pub mod LpTexts
pub mod MpsNames
pub mod Outcomes
pub mod PartedPieces
pub mod PartedTokens
pub mod PieceEnds
pub mod Quiet
pub mod SemiColumns
pub mod TakenTexts
pub mod Told
