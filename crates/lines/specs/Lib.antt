-- What the contracts of lines cite.
pub mod Build
pub mod Cursor
pub mod Input
pub mod Parse
pub mod Text
pub mod Words
