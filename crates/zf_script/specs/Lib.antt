-- What the contracts of zf_script cite.
--     NumberWords     words of numbers, with the numbers as a `Pos` has them
--     Verbs           the first words of lines
--     Arguments       what stands behind a verb where it is more than one word
--     Seen            how commands, replies and refusals are seen as those of the language
pub mod NumberWords
pub mod Verbs
pub mod Arguments
pub mod Seen
