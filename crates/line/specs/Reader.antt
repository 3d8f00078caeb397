-- To be believed: what the engine must do, or what is claimed of it.
-- The tick reader: document 01, "Frames", the paragraph on the line, with document 02, item 1, for a silent tick inside a frame. In each tick it takes what is heard and tells what became of a frame.
use Rattle.std.specs.Prelude.{ℕ, ◌+◌, ◌-◌, ◌*◌, ◌/◌, ◌%◌, ◌^◌, Bool, true, false, ◌≡◌, List, [], ◌∷◌, Option, Some, None}
use Rattle.std.specs.Int.Bits.{bit_xor}
use Rattle.base.specs.Choice.{when◌then◌else◌, ◌<?◌, ◌=?◌}
use Rattle.base.specs.Store.{stored}
use Rattle.frame.specs.Limits.{most_data}
use Rattle.frame.specs.Delimiter.{delimiter_of}
use Rattle.frame.specs.Frame.{too_few}
use Rattle.frame.specs.declared.Delimiter.{Delimiter}
use Rattle.frame.specs.declared.Header.{Header}
use Rattle.line.specs.declared.Damage.{Damage}
use Rattle.line.specs.declared.Damage.TheVariants.{Parity, Overrun, Framing}
use Rattle.line.specs.declared.Heard.{Heard}
use Rattle.line.specs.declared.Heard.TheVariants.{Silence, Character, Damaged}
use Rattle.line.specs.declared.Place.{Place}
use Rattle.line.specs.declared.Place.TheVariants.{Passing, Idle, Preamble, First, Address, Expansion, Command, Count, Data, Check}
use Rattle.line.specs.declared.FrameDamage.{FrameDamage}
use Rattle.line.specs.declared.Receiver.{Receiver}
use Rattle.line.specs.declared.Whole.{Whole}
use Rattle.line.specs.declared.Event.{Event}
use Rattle.line.specs.declared.Event.TheVariants.{Nothing, PassedOver, Broken, Frame}
use Rattle.line.specs.declared.Taken.{Taken}

-- a reader at a place, which holds nothing of a frame
abbrev pub no_header : Header
no_header = record { kind = 0; long = false; primary = false; burst = false; address = 0; command = 0 }

abbrev pub no_damage : FrameDamage
no_damage = record { parity = false; overrun = false; framing = false; check = false; address = false }

abbrev pub blank : Place → Receiver
blank place = record { place = place; header = no_header; expansion = 0; count = 0; sum = 0; damage = no_damage; gap = false }

-- before a frame
abbrev pub idle : Receiver
idle = blank Idle

-- "a reader at its start, after its own sending or after a broken frame passes over all characters until a silent tick"
abbrev pub passing : Receiver
passing = blank Passing

abbrev pub tells : Receiver → Event → Taken
tells r e = record { receiver = r; event = e }

-- a frame that a character breaks: "passes over all characters"
abbrev pub breaks : Taken
breaks = tells passing Broken

-- the reader after a silent tick that is passed over
abbrev pub gapped : Receiver → Receiver
gapped r = record { place = r.place; header = r.header; expansion = r.expansion; count = r.count; sum = r.sum; damage = r.damage; gap = true }

-- a silent tick inside a frame: "One silent tick inside a frame is now passed over. The second in a row breaks the frame"; then, as in document 01, "the next character may start another"
unfoldable pub silent_inside : Receiver → Taken
silent_inside r = when r.gap then tells idle Broken else tells (gapped r) Nothing

-- inside a frame: from its first 0xFF on, up to its check byte
abbrev pub inside_frame : Place → Bool
inside_frame Passing = false
inside_frame Idle = false
inside_frame (Preamble n) = true
inside_frame First = true
inside_frame (Address n) = true
inside_frame (Expansion n) = true
inside_frame Command = true
inside_frame Count = true
inside_frame (Data n) = true
inside_frame Check = true

-- a silent tick; after one outside a frame the reader is before a frame
abbrev pub silence : Receiver → Taken
silence r = when inside_frame r.place then silent_inside r else tells idle Nothing

-- the exclusive-or from the delimiter on, with one more character
abbrev pub summed : Receiver → ℕ → ℕ
summed r c = bit_xor r.sum c

-- the reader with one more character of the frame, at its next place
abbrev pub next : Receiver → Header → Place → ℕ → Taken
next r h place c =
    tells (record { place = place; header = h; expansion = r.expansion; count = r.count; sum = summed r c; damage = r.damage; gap = false }) Nothing

-- before a frame: 0xFF, or a character "that is neither 0xFF nor a delimiter"
unfoldable pub at_idle : ℕ → Taken
at_idle c = when c =? 0xFF then tells (blank (Preamble 1)) Nothing else breaks

-- the delimiter
abbrev pub begins : ℕ → Option Delimiter → Taken
begins c None = breaks
begins c (Some d) =
    tells (record {
      place = First;
      header = record { kind = d.kind; long = d.long; primary = false; burst = false; address = 0; command = 0 };
      expansion = d.expansion;
      count = 0;
      sum = c;
      damage = no_damage;
      gap = false;
    }) Nothing

-- in the preamble: another 0xFF, or "a delimiter behind two 0xFF"
unfoldable pub at_preamble : ℕ → ℕ → Taken
at_preamble n c = when c =? 0xFF then tells (blank (Preamble 2)) Nothing else when n <? 2 then breaks else begins c (delimiter_of c)

-- the place behind the address
abbrev pub behind_address : Receiver → Place
behind_address r = when r.expansion =? 0 then Command else Expansion r.expansion

-- the first address byte: master bit, burst flag, six bits
abbrev pub first_header : Header → ℕ → Header
first_header h c = record { kind = h.kind; long = h.long; primary = (c / 128 =? 1); burst = (c / 64 % 2 =? 1); address = c % 64; command = h.command }

unfoldable pub at_first : Receiver → ℕ → Taken
at_first r c = when r.header.long then next r (first_header r.header c) (Address 4) c else next r (first_header r.header c) (behind_address r) c

-- another address byte: the address so far, and eight more bits
abbrev pub address_header : Header → ℕ → Header
address_header h c =
    record { kind = h.kind; long = h.long; primary = h.primary; burst = h.burst; address = h.address % 2 ^ 32 * 256 + c; command = h.command }

unfoldable pub at_address : Receiver → ℕ → ℕ → Taken
at_address r n c = when 1 <? n then next r (address_header r.header c) (Address (n - 1)) c else next r (address_header r.header c) (behind_address r) c

unfoldable pub at_expansion : Receiver → ℕ → ℕ → Taken
at_expansion r n c = when 1 <? n then next r r.header (Expansion (n - 1)) c else next r r.header Command c

abbrev pub command_header : Header → ℕ → Header
command_header h c = record { kind = h.kind; long = h.long; primary = h.primary; burst = h.burst; address = h.address; command = c }

unfoldable pub at_command : Receiver → ℕ → Taken
at_command r c = next r (command_header r.header c) Count c

-- the byte count: "an ACK or BACK with count below 2" breaks the frame
abbrev pub counted : Receiver → ℕ → Place → Taken
counted r c place =
    tells (record { place = place; header = r.header; expansion = r.expansion; count = c; sum = summed r c; damage = r.damage; gap = false }) Nothing

unfoldable pub at_count : Receiver → ℕ → Taken
at_count r c = when too_few r.header.kind c then breaks else when c =? 0 then counted r c Check else counted r c (Data 0)

-- a data byte: whatever it is, it starts no other frame
unfoldable pub at_data : Receiver → ℕ → ℕ → Taken
at_data r n c = when n + 1 <? r.count then next r r.header (Data (n + 1)) c else next r r.header Check c

-- the check byte: "A frame is damaged if it is whole but a character in it is damaged or its check byte is wrong."
abbrev pub whole_of : Receiver → Whole
whole_of r = record { header = r.header; expansion = r.expansion; count = r.count }

abbrev pub is_damaged : FrameDamage → Bool
is_damaged m = when m.parity then true else when m.overrun then true else when m.framing then true else when m.check then true else m.address

abbrev pub with_check : FrameDamage → Bool → FrameDamage
with_check m wrong = record { parity = m.parity; overrun = m.overrun; framing = m.framing; check = wrong; address = m.address }

abbrev pub ended : Whole → FrameDamage → Event
ended w m = when is_damaged m then Event.Damaged w m else Frame w

unfoldable pub at_check : Receiver → ℕ → Taken
at_check r c = tells idle (ended (whole_of r) (with_check r.damage (when summed r c =? 0 then false else true)))

-- a character, by the reader's place
abbrev pub character : Place → Receiver → ℕ → Taken
character Passing r c = tells passing PassedOver
character Idle r c = at_idle c
character (Preamble n) r c = at_preamble n c
character First r c = at_first r c
character (Address n) r c = at_address r n c
character (Expansion n) r c = at_expansion r n c
character Command r c = at_command r c
character Count r c = at_count r c
character (Data n) r c = at_data r n c
character Check r c = at_check r c

-- damage in address or expansion bytes, and damage in command, data or check byte by its kind
abbrev pub address_damaged : FrameDamage → FrameDamage
address_damaged m = record { parity = m.parity; overrun = m.overrun; framing = m.framing; check = m.check; address = true }

abbrev pub kind_damaged : Damage → FrameDamage → FrameDamage
kind_damaged Parity m = record { parity = true; overrun = m.overrun; framing = m.framing; check = m.check; address = m.address }
kind_damaged Overrun m = record { parity = m.parity; overrun = true; framing = m.framing; check = m.check; address = m.address }
kind_damaged Framing m = record { parity = m.parity; overrun = m.overrun; framing = true; check = m.check; address = m.address }

abbrev pub marked : Receiver → FrameDamage → Receiver
marked r m = record { place = r.place; header = r.header; expansion = r.expansion; count = r.count; sum = r.sum; damage = m; gap = r.gap }

-- a damaged character, by the reader's place: "So does damage in preamble, delimiter or byte count"; elsewhere the frame goes on, damaged
abbrev pub damaged : Place → Receiver → ℕ → Damage → Taken
damaged Passing r c kind = tells passing PassedOver
damaged Idle r c kind = breaks
damaged (Preamble n) r c kind = breaks
damaged First r c kind = at_first (marked r (address_damaged r.damage)) c
damaged (Address n) r c kind = at_address (marked r (address_damaged r.damage)) n c
damaged (Expansion n) r c kind = at_expansion (marked r (address_damaged r.damage)) n c
damaged Command r c kind = at_command (marked r (kind_damaged kind r.damage)) c
damaged Count r c kind = breaks
damaged (Data n) r c kind = at_data (marked r (kind_damaged kind r.damage)) n c
damaged Check r c kind = at_check (marked r (kind_damaged kind r.damage)) c

-- a tick of the reader
unfoldable pub taken : Receiver → Heard → Taken
taken r Silence = silence r
taken r (Character c) = character r.place r c
taken r (Damaged c kind) = damaged r.place r c kind

-- a data byte is stored at the place of its number; the lent buffer has 255 bytes
abbrev pub kept_byte : ℕ → ℕ → List ℕ → List ℕ
kept_byte n c bytes = when n <? most_data then stored bytes n (c ∷ []) else bytes

abbrev pub kept : Place → ℕ → List ℕ → List ℕ
kept Passing c bytes = bytes
kept Idle c bytes = bytes
kept (Preamble n) c bytes = bytes
kept First c bytes = bytes
kept (Address n) c bytes = bytes
kept (Expansion n) c bytes = bytes
kept Command c bytes = bytes
kept Count c bytes = bytes
kept (Data n) c bytes = kept_byte n c bytes
kept Check c bytes = bytes

unfoldable pub taken_data : Receiver → Heard → List ℕ → List ℕ
taken_data r Silence bytes = bytes
taken_data r (Character c) bytes = kept r.place c bytes
taken_data r (Damaged c kind) bytes = kept r.place c bytes

-- what a tick promises
pub record ReaderTakeIs (r : Receiver) (heard : Heard) (bytes : List ℕ) (t : Taken) (after : List ℕ) : Type 0 where
  pub reader : t ≡ taken r heard
  pub buffer : after ≡ taken_data r heard bytes
