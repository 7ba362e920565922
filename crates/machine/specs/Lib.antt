-- Document 01, "The plain machine", the single library of "The one-copy order", and the words of demand 2 about titles; the table of twelve, and the
-- stories of document 02's S-3, S-4, S-7, S-8 and S-9.
pub mod Machine
pub mod Library
pub mod OneCopy
pub mod Asked
pub mod Titles
pub mod Table
pub mod Taken
pub mod Forwarded
pub mod Moved
pub mod Restarted
pub mod Retired
