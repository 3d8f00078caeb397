-- To be believed: what the engine must do, or what is claimed of it.
-- Document 01, "Refusals, by where each is checked": the table, and what a call may answer.
use Rattle.std.specs.Prelude.{ℕ, Result, Ok, Err}
use Rattle.base.specs.declared.Refusal.{Refusal}
use Rattle.base.specs.declared.Refusal.TheVariants.{BadProfile, BadRetries, PreambleLength, Address, Command, DataLong, MessageInHand, NoRequest, DataLength, BurstWish, FewPreambles, NoDelimiter, EndsEarly, Unsound, BufferShort, BadScript, Revision, BadLoad, Register, TableFull, BadRecording, UnequalTaps, TapsDiffer, RecordSize, TickTooLarge, WaitTooShort}

-- "A refusal gives its number only." The player's answer to 16 is a text: crates/player/specs/Play.antt.
abbrev pub number : Refusal → ℕ
-- a value is 0 or above 1,000, HOLD not below RT2, RT2 or STO not below RT1 primary, or RT1 secondary not RT1 primary + RT2
number BadProfile = 1
-- R outside 3 to 15
number BadRetries = 2
-- preamble outside 5 to 20; on the infrared port any other than 5
number PreambleLength = 3
-- polling above 63, of a request to revision 3 to 5 above 15 (document 02, item 2), or unique above 38 bits
number Address = 4
-- command 254, or a short address with a command but 0
number Command = 5
-- data above 255
number DataLong = 6
-- a message is in hand
number MessageInHand = 7
-- no request in hand, or past T+STO; on the infrared port STO is that of the request's command
number NoRequest = 8
-- data outside 2 to 255
number DataLength = 9
-- burst on without burst content (so every wish for burst on at the infrared port), or on or off wished in answer to command 0, or to command 11 by broadcast
number BurstWish = 10
-- fewer than two preambles
number FewPreambles = 11
-- writer: type not 2, 6 or 1; reader: the byte behind the preamble is no delimiter
number NoDelimiter = 12
-- bytes end early
number EndsEarly = 13
-- ACK or BACK with count below 2, else wrong check byte
number Unsound = 14
-- buffer too short
number BufferShort = 15
-- a bad script
number BadScript = 16
-- revision outside 3 to 7
number Revision = 17
-- document 02, item 4: seed 0, no records, or above 65,536
number BadLoad = 18
-- document 02, item 5: a write to one of the modem chip's bytes 0, 3 and 4 to 7, or any byte above 7
number Register = 19
-- document 02, item 7: a frame to be entered in a table of readings in which no row matches and all are filled
number TableFull = 20
-- document 02, items 9 and 10: a recording of odd length, or with another value in a tick
number BadRecording = 21
-- document 02, item 10: two recordings of unequal lengths
number UnequalTaps = 22
-- document 02, item 10: two different characters in one tick
number TapsDiffer = 23
-- document 02, item 11: a record size other than 4 or 6
number RecordSize = 24
-- document 02, item 11: a tick too large to turn back
number TickTooLarge = 25
-- document 02, item 12: 2 data bytes already wait too long
number WaitTooShort = 26

-- what a call answers: it is accepted, with what it gives, or refused with a number of the table
pub data Called (A : Type 0) : Type 0 where
  accepted : A → Called A
  refused : ℕ → Called A

-- what a call's answer says in those words
abbrev pub called_as : {A : Type 0} → Result A Refusal → Called A
called_as (Ok x) = accepted x
called_as (Err why) = refused (number why)
