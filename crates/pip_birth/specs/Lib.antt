-- createPartition: its five pages, and the frames of what is new
pub mod FivePages
pub mod Newborn
-- deletePartition: what runs, words that become free, and a child that ends with all below it
pub mod Deleting
pub mod Freeing
pub mod Ending
