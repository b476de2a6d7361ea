-- the words of the command line
pub mod RoundWords
pub mod Bounds
-- `slots`
pub mod Rounds
-- the law on `slots`
pub mod SlotsApart
-- the law on certificates
pub mod CertifiedRuns
