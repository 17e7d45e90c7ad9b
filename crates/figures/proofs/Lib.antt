-- The theorems, and what the functions' proofs cite.
mod AllReported
pub mod Computing
mod Every
pub mod KindsSumToAccesses
mod LinesRead
pub mod NoLineLeftOut
mod Printed
mod ScriptCounted
mod ScriptsRead
pub mod StaysReadable
mod Tally
pub mod TotalIsSum
mod TurnColumns
pub mod TurnsAreOfTheMachine
mod TurnsCounted
