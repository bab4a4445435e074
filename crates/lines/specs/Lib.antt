-- What the output line of one word is, which word is listed for a line of the input, and the room that an output line takes.
pub mod Line
pub mod Listed
pub mod Room
