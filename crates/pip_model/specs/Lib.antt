-- The tree of partitions, and what holds of it
pub mod Lists
pub mod Tree
pub mod Boot
pub mod Sound
pub mod Ancestors
-- Calls on memory
pub mod Answers
pub mod CreatePartition
pub mod DeletePartition
pub mod CountToMap
pub mod Prepare
pub mod Collect
pub mod AddVAddr
pub mod RemoveVAddr
pub mod MappedInChild
pub mod Accepted
-- Worlds: accesses, processors, and what events do
pub mod Reach
pub mod Cache
pub mod Handlers
pub mod Worlds
pub mod Deliver
pub mod Events
pub mod Switching
pub mod Poll
pub mod Happens
pub mod Due
pub mod Work
-- Frames: the words that lay a tree out
pub mod NodeWords
pub mod FullRows
pub mod Layout
pub mod NodeIn
pub mod Midway
pub mod Partitions
pub mod Booting
pub mod Booted
-- Laws
pub mod Laws
pub mod Local
pub mod GiveBack
-- Scripts, and machines under them
pub mod Views
pub mod Port
pub mod Script
pub mod Grammar
pub mod Text
-- Instructions and runs
pub mod Generator
pub mod InstrWords
pub mod InstrRead
pub mod InstrText
pub mod Effects
pub mod Acts
pub mod Turn
pub mod Run
-- Images and assembly texts
pub mod Images
pub mod AsmWords
pub mod AsmLines
pub mod Assembly
pub mod DisText
-- Texts of trees and frames, and long runs of calls
pub mod Dump
pub mod Soak
pub mod RunTexts
-- A tree read off a memory, and what is found there
pub mod ReadOff
pub mod Parts
pub mod Audit
pub mod Walking
