pub mod Links
pub mod TableWords
pub mod Masks
pub mod Rows
pub mod Visits
pub mod Verdicts
pub mod Places
pub mod Loads
pub mod Walks
pub mod Families
pub mod EachNode
pub mod PartLaws
pub mod Givens
pub mod Inserts
pub mod Apart
pub mod Siblings
pub mod Lends
pub mod Children
pub mod Narrowing
pub mod BootRoot
pub mod Broken
pub mod Yes
pub mod ShadowWords
pub mod PageWords
pub mod Differing
pub mod TreeIn
pub mod Judges
pub mod Shapes
-- Numbers and words of a line
pub mod Digits
pub mod Words
-- Lines of bytes
pub mod Splitting
-- What a line does, and how reading goes on
pub mod Rising
pub mod Reading
-- What lines say, and the text of a memory
pub mod LineTexts
pub mod LinesBack
pub mod RoundTrip
pub mod Canonical
pub mod CanonicalRun
pub mod FirstBad
pub mod Unread
