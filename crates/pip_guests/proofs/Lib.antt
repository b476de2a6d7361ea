-- One tree, two trees that agree, one event, two worlds, lists of events, inputs, turns, machines; then what the laws
-- don't say
pub mod Words
pub mod Lines
pub mod Moves
pub mod Reading
pub mod Taking
pub mod Inside
pub mod Elsewhere
pub mod Leaving
pub mod Known
pub mod Together
pub mod Asking
pub mod Inputs
pub mod Interrupts
pub mod Lending
pub mod Ancestors
pub mod Turns
pub mod TurnsLeaving
pub mod Numbers
pub mod Programs
pub mod OnInputs
pub mod Limits
mod Premises
pub mod AncestorPremises
mod TurnPremises
mod LinesRaised
pub mod Machines
pub mod Seen
pub mod Runners
pub mod Masks
pub mod Answered
pub mod Moved
pub mod Alikes
pub mod Staying
pub mod Turning
pub mod Refusing
pub mod Confined
pub mod Few
pub mod Nothing
pub mod Testing
pub mod Entries
