pub mod Words
pub mod SlotSets
