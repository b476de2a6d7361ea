-- headers of too few frames
pub mod Shortness
-- acts that were cut
pub mod Cuts
-- the run of the children
pub mod Monitoring
-- where the command waits at first, and how it ends
pub mod Waiting
pub mod Monitored
