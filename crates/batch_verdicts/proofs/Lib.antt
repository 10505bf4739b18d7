pub mod FirstBytes
pub mod RecipeTexts
pub mod HaltCauses
pub mod CertificateRanks
pub mod Outcomes
pub mod Successes
mod WrittenPrefix
pub mod NodeTexts
pub mod WarningEffects
pub mod EdgesOnCircles
pub mod DocumentRefusals
pub mod BrokenRules
pub mod TrimmedSets
