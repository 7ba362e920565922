-- Document 01's memory, requests, layout, rows and calls, in its order, and document 02's among them.
pub mod Answer
pub mod Memory
pub mod System
pub mod Log
pub mod Message
pub mod Request
pub mod Layout
pub mod Rows
pub mod Call
pub mod Calls
pub mod Values
