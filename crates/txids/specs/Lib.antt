pub mod Txids
