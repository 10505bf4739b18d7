pub mod DesksOverJournal
pub mod SafeJournals
pub mod RepeatedDeskAnswers
pub mod DeskService
pub mod FileRuns
pub mod ProgramRuns
pub mod RunsWithComments
pub mod Plants
pub mod AuditFindings
pub mod RecordStatus
pub mod RunsOverJournal
mod RecordPictures
