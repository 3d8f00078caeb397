-- The law by which a header's text is put into a lent buffer.
pub mod Fields
