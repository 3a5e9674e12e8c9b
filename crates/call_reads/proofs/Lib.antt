-- Laws of the reads.
mod Answers
mod Scan
mod Pairs
