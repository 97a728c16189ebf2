-- What the contracts of zfpi_bench cite.
--     Square   the sizes of its array
pub mod Square
