-- What the functions' proofs cite, and what holds of a cut.
pub mod Computing
pub mod CutIsRight
mod CutWays
mod Entries
mod Groups
pub mod Laws
pub mod NoLineLeftOut
pub mod PassesEnd
mod Printed
pub mod PrintsWhatItShows
mod ReadAgain
mod LinesCutting
mod LinesRun
mod LinesRead
mod LinesTrying
pub mod ScriptIsItsLines
mod ScriptsRead
mod Slots
pub mod StaysReadable
mod Sublists
mod TextsRead
mod Tried
mod TriedOn
mod TurnAnswers
mod Written
