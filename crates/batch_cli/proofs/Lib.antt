pub mod BareCommands
pub mod Faults
pub mod CommandRows
pub mod Numbers
pub mod TableEntries
