-- What the contracts of order_lines cite.
pub mod Order
