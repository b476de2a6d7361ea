-- Sessions, runs and texts of the documents
mod Premises
mod Scripts
mod Sessions
mod Runs
mod Assembly
mod Texts
-- Instructions, signed words, list pages
mod Effects
mod Signed
mod ListPages
-- Reading a tree off a memory
mod Audits
