pub mod Words
pub mod Children
pub mod Dues
pub mod SlotsLaw
pub mod CertifiedRuns
