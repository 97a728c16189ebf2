-- Lemmas on the runs of scripts.
--     Sessions   a session after a call
--     Allowing   a command by its kind, where a setting allows some kinds
--     Looking    a read-only array after a call
--     Changing   changes through the window as steps of a script
--     Resizing   shapes that an array may be resized to
--     Ending     how a run ends
--     Pairing    a store and a two-way cache over it, after a call
--     Viewing    what a call of a view makes of an array that is split
--     Lending    such a call over codes that were lent
--     Splitting  how a split begins, and how it ends
--     Parting    an array that may be split, as what a script runs on
pub mod Sessions
pub mod Allowing
pub mod Looking
pub mod Changing
pub mod Resizing
pub mod Ending
pub mod Pairing
pub mod Viewing
pub mod Lending
pub mod Splitting
pub mod Parting
