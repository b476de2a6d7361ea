-- the boot tree in frames
pub mod RootAlone
pub mod RootFilled
-- partitions by their parents and by their parents' rows
pub mod Climb
pub mod Children
-- pages hidden and opened, given and taken back
pub mod UserBits
pub mod Marking
pub mod Giving
pub mod Taking
-- what calls share
pub mod Tested
pub mod Calls
