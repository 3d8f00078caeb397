-- To be believed: what the engine must do, or what is claimed of it.
-- The numbers of document 01 that limit a frame's fields. Each stands here once; every other definition names it.
use Rattle.std.specs.Prelude.{ℕ, ◌+◌}

-- "Written preambles are 5 to 20 characters"
abbrev pub fewest_preambles : ℕ
fewest_preambles = 5

abbrev pub most_preambles : ℕ
most_preambles = 20

-- "polling above 63" is refused: "a 6-bit polling address"
abbrev pub largest_polling : ℕ
largest_polling = 63

-- "ACK and BACK carry at least 2 data bytes"
abbrev pub fewest_answered : ℕ
fewest_answered = 2

-- "data above 255" is refused: the byte count is one byte
abbrev pub most_data : ℕ
most_data = 255

-- "5: command 254": the standard reserves it
abbrev pub reserved_command : ℕ
reserved_command = 254

-- "the longest frame" of those with at most so many data bytes: beside the data it has the longest preamble, a delimiter, a unique address, a command, a byte count and a check byte
abbrev pub longest_frame : ℕ → ℕ
longest_frame limit = limit + (most_preambles + 1 + 5 + 1 + 1 + 1)
