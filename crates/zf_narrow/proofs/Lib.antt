-- Lemmas on narrow streams.
--     OneMore    one value more, of bytes and as bytes
--     Whole      the bytes of whole values, and what follows them
--     Taken      what is read of a source, one piece behind another
--     Stepping   one read of a source that promotes
--     Reading    one read of a promotion, as the source sees it
--     Demoting   one write of a demotion
--     Back       narrow values and what stands for them, there and back
--     Nearest    the nearest number, and what is restored by values
--     RoundTrip  raw narrow bytes, there and back
--     Given      one read of a promotion, as the log of what was given sees it
--     Giving     what a source that promotes has given, of what it has read
--     Compressed how a compression of narrow values ends
--     ZeroBytes  the first bytes of values that stand for narrow ones
--     GivenNarrow  how it ends, told of what the source says that it gave
--     Restored   how a restoration of narrow values ends
--     StreamsBack  streams of narrow values, there and back
pub mod OneMore
pub mod Taken
pub mod Whole
pub mod Stepping
pub mod Reading
pub mod Demoting
pub mod Back
pub mod Nearest
pub mod RoundTrip
pub mod Given
pub mod Giving
pub mod Compressed
pub mod ZeroBytes
pub mod GivenNarrow
pub mod Restored
pub mod StreamsBack
