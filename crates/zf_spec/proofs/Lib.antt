-- Lemmas about the definitions, for the laws of this crate and for the crates above. From the ground up:
--     Ring, Sums       products and sums of whole numbers
--     Wrapping         numbers that agree modulo a power of two, and the wrapped number
--     Halves           halves that are rounded down
--     Negabinary       the digits of a number, and the number of digits
--     Fields           the lowest bits of a number
--     WordBits         the bits of words, and a word in which a bit is set
--     Counting         the numbers from one number on, and lists that a function makes of them
--     Raster           positions in a box and their raster numbers
--     Padding          the padded block and the values that exist
--     LorenzoInverse   the Lorenzo transform and its inverse undo each other
--     Order, Rising    the order of keys, and lists of places whose keys rise
--     Ranking          the place of each rank, and blocks by rank and by place
--     Reach            how far ones reach, in a plane and over planes
--     PlaneCode        the cases of a plane code, and how long codes are at most
--     Apart            the code of planes, and what is kept of them, plane by plane
--     PlaneDigits      planes and the coefficients that they are the digits of
--     HeldPlanes       the digits that planes hold in words
--     Beginnings       bits that begin a list continued with zeros
--     Full             the only planes whose code begins a list of bits
--     KeptCases        what a budget keeps of digits, by cases
--     KeptSame         what a budget keeps is known from as many bits
--     CutCodes         the codes of planes that a budget cuts
--     BlockReading     what reading the code of a block gives, and how long it is
--     Bytes            bytes of bits, and the bytes of numbers
--     RawValues        values and their raw bytes, and the length of the header
--     Files            how long a file is whose codes all have one length
pub mod Ring
pub mod Sums
pub mod Wrapping
pub mod Halves
pub mod Negabinary
pub mod Fields
pub mod WordBits
pub mod Counting
pub mod Raster
pub mod Padding
pub mod LorenzoInverse
pub mod Order
pub mod Rising
pub mod Ranking
pub mod Reach
pub mod PlaneCode
pub mod Apart
pub mod PlaneDigits
pub mod HeldPlanes
pub mod Beginnings
pub mod Full
pub mod KeptCases
pub mod KeptSame
pub mod CutCodes
pub mod BlockReading
pub mod Bytes
pub mod RawValues
pub mod Files
