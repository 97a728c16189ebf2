-- Lemmas on streams.
--     LittleEndian   raw bytes as values, one after another
--     RawValues      values as raw bytes, one part after another
--     WordBytes      the bytes of words, and the words of bytes
--     OnErrors       what holds anyhow holds after an error
--     Failing        calls that fail only where a device does, one after another
--     Piecewise      bytes that are written part by part
--     Flowing        bits on their way through a writer to a sink
--     Rows           the codes of an array, row by row
--     RawRows        what is read of raw values
--     ReadingValues  values that are read piece by piece
--     Slabwise       an array that is compressed slab by slab
--     Padded         the codes of padded blocks
--     Places         values that are put behind those that are held
--     LookedAt       what the stream of raw bytes looks at
--     PrefixesOfStreams    what was written of a stream
--     Headed         what the first bytes of a source say of all of it
--     Answering      what an answer says of the input
--     Rooms          the rooms that an array is compressed and restored in, as they are used
--     Endings        how compressing ends, put together
--     Drawing        how what is drawn from a source adds up
--     Windows        the bits of a window, as it moves on
--     SlabsBack      the blocks and the values of an array, slab by slab
--     Runs           the codes of a slab that were read so far
--     Restored       an array that is restored slab by slab
--     RestoredAll    the end of an array that is restored
--     FromPrefix      what is restored of a window, said of the whole stream
--     OwnFaults      which faults are a call's own
--     RestoreEndings how restoring ends, put together
--     GoodText       what is restored of a good stream stays so with bytes behind it
--     GivenBack      what is restored of what a source says that it gave
--     Refusals       each refusal is that of some input, or comes from outside
--     Lengths        how many bytes a stream has at most
--     TypedAnswers   what is answered where a stream is restored if its values are of one type
pub mod LittleEndian
pub mod RawValues
pub mod WordBytes
pub mod OnErrors
pub mod Failing
pub mod Piecewise
pub mod Flowing
pub mod Rows
pub mod RawRows
pub mod ReadingValues
pub mod Slabwise
pub mod Padded
pub mod Places
pub mod LookedAt
pub mod PrefixesOfStreams
pub mod Headed
pub mod Answering
pub mod Rooms
pub mod Endings
pub mod Drawing
pub mod Windows
pub mod SlabsBack
pub mod Runs
pub mod Restored
pub mod RestoredAll
pub mod FromPrefix
pub mod OwnFaults
pub mod RestoreEndings
pub mod GoodText
pub mod GivenBack
pub mod Refusals
pub mod Lengths
pub mod TypedAnswers
