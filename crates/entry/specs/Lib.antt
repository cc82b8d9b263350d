pub mod Mack
