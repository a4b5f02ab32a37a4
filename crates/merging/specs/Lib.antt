pub mod Merging
pub mod Trie
pub mod Marks
