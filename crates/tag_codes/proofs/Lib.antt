-- Laws of tag and MACSEQ messages that other crates cite.
pub mod Messages
