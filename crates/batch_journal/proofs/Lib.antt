mod LineLemmas
mod RunsOfCalls
mod CrashLemmas
mod LastWholeLine
mod DiskInMemory
mod WindowLemmas
mod GroupLemmas
mod JournalLemmas
mod GroupScan
mod RecoveryLemmas
mod ClosingLines
mod SumLemmas
mod GroupWrites
pub mod ReaderLemmas
mod PendingLines
mod DamageLemmas
mod DigestLemmas
pub mod FilesWithoutRefusal
mod RecoveryRows
