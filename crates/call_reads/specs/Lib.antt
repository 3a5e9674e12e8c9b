-- what the reads' contracts say
pub mod Reads
