pub mod Lists
pub mod Rings
pub mod ReaderMessages
pub mod WriterOutputs
pub mod DeskChanges
pub mod ServiceRounds
pub mod DeskRings
pub mod ThreadStreams
