-- Document 02, S-6: the receiver in the outside-broadcast van. What the writer puts is Message.antt of crates/replication.
pub mod Message
pub mod Answer
pub mod Receive
