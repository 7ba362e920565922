-- runs in lists of numbers
pub mod Runs
-- messages, and a van that receives them
pub mod Messages
pub mod Received
-- the log that a list of calls leaves, and what is written from it
pub mod Grown
pub mod Written
pub mod Theorems
