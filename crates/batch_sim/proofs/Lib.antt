mod ChangedPrefix
mod UnitReport
mod DriverBoxes
