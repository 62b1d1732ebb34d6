pub mod SlotSets
