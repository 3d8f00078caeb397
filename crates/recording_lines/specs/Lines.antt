-- How the code stands for what is to be believed.
-- What the program `frames` prints: a line for each frame and break that the tick reader finds (document 02, item 9), in the order of their ticks. `Kept` is what is passed on from one piece of a recording to the next.
use Rattle.std.specs.Prelude.{ℕ, ◌+◌, Bool, true, false, List, [], ◌∷◌, ◌++◌, take}
use Rattle.base.specs.Choice.{when◌then◌else◌, ◌<?◌, ◌=?◌}
use Rattle.frame.specs.declared.Header.{Header}
use Rattle.line.specs.Reader.{passing, taken, taken_data}
use Rattle.line.specs.declared.Event.{Event}
use Rattle.line.specs.declared.Event.TheVariants.{Nothing, PassedOver, Broken, Frame, Damaged}
use Rattle.line.specs.declared.Heard.{Heard}
use Rattle.line.specs.declared.Place.{Place}
use Rattle.line.specs.declared.Place.TheVariants.{Passing, Idle, Preamble, First, Address, Expansion, Command, Count, Data, Check}
use Rattle.line.specs.declared.Whole.{Whole}
use Rattle.player_listing.specs.Text.{type_name, master_digit, word}
use Rattle.texts.specs.Digits.{decimal, spaced}
use Rattle.recording_lines.specs.declared.Progress.{Progress}

-- ---- the text of a line

abbrev pub ticks_text : ℕ → ℕ → List ℕ
ticks_text first last = word (decimal first) ++ word (decimal last)

-- "broken" and "damaged", with a newline
unfoldable pub broken_line : ℕ → ℕ → List ℕ
broken_line first last = ticks_text first last ++ (98 ∷ 114 ∷ 111 ∷ 107 ∷ 101 ∷ 110 ∷ 10 ∷ [])

unfoldable pub damaged_line : ℕ → ℕ → List ℕ
damaged_line first last = ticks_text first last ++ (100 ∷ 97 ∷ 109 ∷ 97 ∷ 103 ∷ 101 ∷ 100 ∷ 10 ∷ [])

-- type, master (0 primary), address, command, byte count
unfoldable pub fields_text : Header → ℕ → List ℕ
fields_text h count =
    word (type_name h.kind)
    ++ (word (master_digit h.primary ∷ [])
    ++ (word (decimal h.address)
    ++ (word (decimal h.command)
    ++ decimal count)))

-- "whole", the fields, and the data in hexadecimal: the first of the bytes that the reader holds
unfoldable pub whole_line : ℕ → ℕ → Whole → List ℕ → List ℕ
whole_line first last w bytes =
    ticks_text first last
    ++ ((119 ∷ 104 ∷ 111 ∷ 108 ∷ 101 ∷ 32 ∷ [])
    ++ (fields_text w.header w.count
    ++ (spaced (take w.count bytes) ++ (10 ∷ []))))

-- the line of a tick, by what the reader tells in it, where the list has an entry
abbrev pub line_by : ℕ → ℕ → Event → List ℕ → List ℕ
line_by first last Nothing bytes = []
line_by first last PassedOver bytes = when last =? 0 then broken_line first last else []
line_by first last Broken bytes = broken_line first last
line_by first last (Frame w) bytes = whole_line first last w bytes
line_by first last (Damaged w m) bytes = damaged_line first last

-- ---- from tick to tick

-- what is passed on from piece to piece: the reader, the next tick and the first one of the frame, and the data so far
pub record Kept : Type 0 where
  pub progress : Progress
  pub bytes : List ℕ

abbrev pub is_idle : Place → Bool
is_idle Passing = false
is_idle Idle = true
is_idle (Preamble n) = false
is_idle First = false
is_idle (Address n) = false
is_idle (Expansion n) = false
is_idle Command = false
is_idle Count = false
is_idle (Data n) = false
is_idle Check = false

-- where the reader is before a frame, a frame or break that is told later begins in this tick at the earliest
abbrev pub first_of : Progress → ℕ
first_of p = when is_idle p.receiver.place then p.tick else p.first

-- ticks are counted in 64 bits, and no file has more
abbrev pub next_tick : ℕ → ℕ
next_tick t = when t <? 18446744073709551615 then t + 1 else t

unfoldable pub stepped : Kept → Heard → Kept
stepped k h = record {
  progress = record { receiver = (taken k.progress.receiver h).receiver; tick = next_tick k.progress.tick; first = first_of k.progress };
  bytes = taken_data k.progress.receiver h k.bytes;
}

-- a frame's data stand in the reader's bytes when its check byte is heard
unfoldable pub line_at : Kept → Heard → List ℕ
line_at k h = line_by (first_of k.progress) k.progress.tick (taken k.progress.receiver h).event (taken_data k.progress.receiver h k.bytes)

-- the lines of some ticks, and what is kept after them
unfoldable pub lines_from : Kept → List Heard → List ℕ
lines_from k [] = []
lines_from k (h ∷ hs) = line_at k h ++ lines_from (stepped k h) hs

unfoldable pub kept_behind : Kept → List Heard → Kept
kept_behind k [] = k
kept_behind k (h ∷ hs) = kept_behind (stepped k h) hs

-- before the first tick
abbrev pub start_of : Progress
start_of = record { receiver = passing; tick = 0; first = 0 }
