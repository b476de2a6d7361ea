-- the boot tree in frames
pub mod Boot
-- pages hidden and opened, given and taken back
pub mod Hiding
pub mod Marking
pub mod Giving
pub mod Taking
-- what calls share
pub mod Tested
pub mod Calls
