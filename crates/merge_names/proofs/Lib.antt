-- An entry has a number just where the directory has its name.
pub mod CommonName
