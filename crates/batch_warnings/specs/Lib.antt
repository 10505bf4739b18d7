pub mod Warnings
pub mod LabelSets
