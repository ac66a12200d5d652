pub mod OverMemory
