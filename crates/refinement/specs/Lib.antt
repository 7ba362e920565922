-- What bytes and control stand for: the relation between the calls on bytes and the plain machine. The statement of document 02's S-7 about lists without
-- moves.
pub mod Represents
pub mod Lent
pub mod Unmoved
