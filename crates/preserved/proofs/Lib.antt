-- What turns and beginnings preserve.
pub mod EffectsGood
pub mod LaidOutIsReadable
pub mod PlansGood
pub mod Proved
pub mod TreeLevels
