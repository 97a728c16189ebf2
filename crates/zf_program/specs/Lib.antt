-- What the contracts of the program cite.
--     Statuses    the exit code of each status, and its line for the error output
--     Faults      the status of each fault that a call answers
--     World       what a call works on, and what is seen of its devices
--     Info        how far `info` reads, and the line that it writes
--     Sample      the line that `sample` writes
--     Opened      what the file of a name is opened as
--     Scripts     what `run` and `look` do with it and a script
--     Certified   the line that `bound` writes
--     Answer      what a command is: one record a command
--     Steps       the loads and saves of a call, one after another
--     Fetching    how a command gets the bytes of a stream's file
--     Accesses    what a script does with a file by its access
--     Subjects    what a script works on, and how a run over it ends
--     Loaded      what a command has loaded, and what it is opened as
--     Sending     how what a command wrote is handed on
--     Headline    what the program promises of every command
--     Calls       what a command did to its devices
--     Rungs       what a command on a script promises on each rung of its way
pub mod Statuses
pub mod Faults
pub mod World
pub mod Info
pub mod Sample
pub mod Opened
pub mod Scripts
pub mod Certified
pub mod Answer
pub mod Steps
pub mod Fetching
pub mod Accesses
pub mod Subjects
pub mod Loaded
pub mod Sending
pub mod Headline
pub mod Calls
pub mod Rungs
