-- Lemmas on what streams say.
--     Steps          what a stream says, step by step
--     Codes          the codes of blocks, one after another; a code says of a block only what its padded block says
--     Fill           the fill behind the codes
--     Joining        the blocks of a stream, read one after another
--     Joined         the values of an array are joined of its blocks
--     Enough         as many bits as the longest codes have are enough for any codes
--     Parsed         from what was read to what a stream says
--     TextOfParse    what is restored of a stream is the raw bytes of its values
--     ParseOfStream  a stream of codes that read back is parsed to what they stand for
--     RateStreams    what a stream of a fixed rate says: its codes are cut by places alone
--     BlocksBack     the codes of blocks read back
--     StreamsBack    what compress writes, restore reads
--     Excerpts       what is read of a few of the bits of a file
--     Prefixes       a code is read alike with any bits behind it, and with none
--     Whole          the codes that are read, each whole, and the first that is short
--     Cuts           a stream is cut in the block whose code is the first that is short
--     Fits           what reading gives is of the type
--     Parts          the parts of what a good stream says, and that its values are of its type
pub mod Steps
pub mod Codes
pub mod Fill
pub mod Joining
pub mod Joined
pub mod Enough
pub mod Parsed
pub mod TextOfParse
pub mod ParseOfStream
pub mod RateStreams
pub mod BlocksBack
pub mod StreamsBack
pub mod Excerpts
pub mod Prefixes
pub mod Whole
pub mod Cuts
pub mod Fits
pub mod Parts
