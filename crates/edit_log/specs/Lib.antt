-- The log of documents 01 and 02, S-9: its records and two chains, their form, what is written to them, and what the code's parts give.
pub mod Log
pub mod Chains
pub mod Writes
pub mod Values
