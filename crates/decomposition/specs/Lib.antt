pub mod Decomposition
