-- Document 02, S-10: the old wall file, and its conversion to one copy of ours and back.
pub mod OldFile
pub mod Convert
pub mod Promises
