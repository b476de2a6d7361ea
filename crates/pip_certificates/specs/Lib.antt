-- `part`
pub mod BaseWords
pub mod PartText
pub mod PartReading
pub mod PartExact
pub mod PartAbout
pub mod PartDues
pub mod PartShown
pub mod CertificateLaw
-- `merge`
pub mod MergeDues
pub mod LongLines
pub mod MergeReading
pub mod Forms
pub mod Entries
pub mod Sums
pub mod Merges
pub mod Seen
pub mod MergeLaw
