-- What the contracts of the words cite.
--     Names       the names of files
--     Words       which lists of words are commands, and where others stop
--     Stages      what each stage of reading words knows
pub mod Names
pub mod Words
pub mod Stages
