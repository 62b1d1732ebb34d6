pub mod PostLinearize
