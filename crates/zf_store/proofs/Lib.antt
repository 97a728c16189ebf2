-- Lemmas on stores.
--     Cut          codes of one length, cut from bits
--     Runs         runs of bits that move between words
--     Joined       the words of two runs end to end, and their bytes
--     Opened       what a file says, and why it says nothing
--     Kept         what follows from what holds of the fields
pub mod Cut
pub mod Runs
pub mod Joined
pub mod Opened
pub mod Kept
