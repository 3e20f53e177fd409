pub mod Codewords
