-- searches: how they end, and where they wait at first
pub mod SearchEnds
pub mod Searched
-- `every` and runs
pub mod EveryOnce
pub mod EveryLines
pub mod RunsChosen
pub mod InTime
-- menus
pub mod MenuLines
pub mod MenuReads
pub mod AgainstEnds
pub mod AgainstOnce
pub mod Covered
-- `apart`
pub mod ApartFound
pub mod ApartOnce
pub mod ApartNames
pub mod ApartHolds
-- the last lines of texts
pub mod TextNames
pub mod SaidLines
