-- Scripts: how they are told, what a line does, one turn, all turns
pub mod Telling
pub mod Lines
pub mod Turns
pub mod Whole
pub mod Settled
-- where a command waits at first
pub mod Waiting
-- the words of the command line
pub mod Bounds
-- `dis`
pub mod Driven
pub mod Disassembly
-- `asm`
pub mod Assembling
-- `run`, `tree` and `core`
pub mod Reports
pub mod Running
-- `soak`
pub mod Soaked
-- `audit`
pub mod Audited
pub mod LayoutWords
pub mod CoreAudited
