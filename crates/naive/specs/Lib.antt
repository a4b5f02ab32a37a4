pub mod Naive
