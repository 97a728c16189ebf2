-- Lemmas on the error.
--     WholeLines   a line and its lift over whole numbers, where nothing wraps, and how far what comes back is from it
--     NoWrap       where nothing wraps, the line of the type is that of whole numbers
--     Lines        the two facts of a line
--     Members      the places of a line in a block
--     Axes         along all axes: how large coefficients are, and how far what comes back is from the block
--     LostDigits   what the digits below a plane come to
--     Blocks       how far what a fixed rate makes of a block is from it
--     Streams      how far the values of a stream are from whatever contents have its codes
--     Stored       what was stored comes back within the bound
--     Cuts         codes that are cut from bits, and the plane of the codes of an index
--     Indexed      what is certified of a file whose codes an index has
--     LineLaws     the two facts of a line, as the laws state them
--     Certificates what is certified is there once its parts are
pub mod WholeLines
pub mod NoWrap
pub mod Lines
pub mod Members
pub mod Axes
pub mod LostDigits
pub mod Blocks
pub mod Streams
pub mod Stored
pub mod Cuts
pub mod Indexed
pub mod LineLaws
pub mod Certificates
pub mod WrittenBack
