-- where a command waits at first
pub mod Waiting
-- the ways to end, images with faults, and accepted ones
pub mod Endings
pub mod ImageFaults
pub mod Accepted
pub mod Refused
pub mod OneImage
-- images that are read
pub mod Begins
pub mod LinesBelow
-- words of no form
pub mod Unknown
-- the command that was asked for, and the limits of its numbers
pub mod Within
pub mod Asked
-- all inputs
pub mod Answered
