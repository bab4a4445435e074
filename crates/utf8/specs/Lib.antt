-- The characters of a word and the steps over it, in reading order; and last Behind, what stands before a cursor, for the suffix stage.
-- A reader need believe only `same` of Steps: what the characters of a text are is a theorem (text-read-back).
pub mod Characters
pub mod Steps
pub mod Behind
