mod AnswersToLines
mod RepeatedAnswers
mod Comments
mod CountedLines
mod RecoveryBlock
pub mod StartOverJournal
mod StartBlock
mod RepeatedDeskAnswers
pub mod RecordComparison
pub mod LineOutcomes
pub mod MemoryRefusals
pub mod AuditSteps
