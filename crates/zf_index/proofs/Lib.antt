-- Lemmas on indexes.
--     Places      places of codes that stand one after another
--     Longest     how many bits a code has at most
--     Even        a file of a fixed rate: its codes have as many bits each
--     Read        codes that are read where they begin, and what a stream of them says
pub mod Places
pub mod Longest
pub mod Read
pub mod Even
