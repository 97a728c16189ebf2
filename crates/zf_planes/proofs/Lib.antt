-- Lemmas on planes and their code.
--     Runs         a plane's tail n digits into it, as a group bit and a run
--     Tables       tables of planes of four digits
--     Doubled      the code of runs, and its tables
--     Gathering    bits of several planes in one word
--     Narrow       planes in which the first three ranks alone have ones
--     ShortPlanes  planes in one word by the codes of their tails
--     WordPlanes   planes in one word by the bits of their code
--     Lengths      how long the tail of a plane is
--     Budgets      a list that is written in parts, as far as a budget reaches
--     Zeros        the code of zeros and of a run as numbers
--     Unpacking    the digits that planes hold in words
--     Digits       the digits of a plane as bits of its words, and its ones
--     Placing      a plane whose digits are put in from its front on
--     Steps        one step of reading a tail
--     PlaneAhead   what the decoder makes of one plane
--     PlanesAhead  what the decoder makes of planes
--     Coming       planes that come one behind another, from state to state
--     PlanesRead   planes that are read from the greatest on
--     Lanes        digits of four coefficients in words, and in four lanes of one word
--     LaneTables   tables of planes of four digits in lanes
--     LanesAhead   planes of four digits that are read at once, in lanes
--     Passing      a reader that passes the bits of a code in parts
--     Peeking      bits that were looked at and are not yet passed
--     LastRank     planes of four digits in which three ranks have had a one
--     Lone         planes of four digits in which the first rank alone has ones
--     TurnedPairs  digits that stand two bits apart, put together and turned
--     Strings      planes of four digits in one number, and their code
--     TopPlanes    the top planes of words, and those of four words as a string
pub mod Runs
pub mod Tables
pub mod Doubled
pub mod Gathering
pub mod Narrow
pub mod ShortPlanes
pub mod WordPlanes
pub mod Lengths
pub mod Budgets
pub mod Zeros
pub mod Unpacking
pub mod Digits
pub mod Placing
pub mod Steps
pub mod PlaneAhead
pub mod PlanesAhead
pub mod Coming
pub mod PlanesRead
pub mod Lanes
pub mod LaneTables
pub mod LanesAhead
pub mod Passing
pub mod Peeking
pub mod LastRank
pub mod Lone
pub mod TurnedPairs
pub mod Strings
pub mod TopPlanes
