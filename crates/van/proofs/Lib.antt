-- Worked examples, and laws on the definitions of specs/ for the proofs of this crate and of the crates above.
pub mod Examples
pub mod MessageLaws
pub mod ReceiveLaws
pub mod TransactionLaws
pub mod WriteLaws
