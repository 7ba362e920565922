-- the layout, with the lengths of control's arrays
pub mod Arrays
-- the log
pub mod Transactions
-- the calls, one by one
pub mod Represented
pub mod Retire
pub mod Sessions
pub mod Send
pub mod Refresh
pub mod Read
pub mod Commit
pub mod Preview
pub mod Write
pub mod Made
pub mod Move
pub mod Load
pub mod Setup
pub mod Refused
-- all calls, and lists of them
pub mod Simulation
pub mod Standing
pub mod OneCopyOrder
pub mod Unchanging
pub mod Unmoved
pub mod Told
pub mod Moved
pub mod Forward
pub mod Titles
pub mod Theorems
