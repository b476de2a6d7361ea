-- `part`: frames and lines
pub mod BaseFrames
pub mod Lines
pub mod Pieces
-- the text of a part
pub mod Buffers
pub mod TextSteps
pub mod Fronts
pub mod Bits
-- how `part` ends
pub mod SmallStops
pub mod PartsChecked
pub mod PartsExact
pub mod PartEnds
-- the law
pub mod OneLine
pub mod PlainLines
pub mod CertificatesMerged
-- `merge`
pub mod LineReads
pub mod MergeReads
pub mod MergeEnds
pub mod Numbers
pub mod LastLabel
pub mod EntryLines
pub mod Steps
pub mod Runs
pub mod Certifying
pub mod Lost
