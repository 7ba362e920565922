-- The statement of document 02's S-6.
pub mod Delivery
