-- To be believed: what the engine must do, or what is claimed of it.
-- Document 01, "The player", the script: its records, what makes it good, and the calls of each tick.
use Rattle.std.specs.Prelude.{ℕ, zero, suc, ◌+◌, ◌*◌, ◌/◌, ◌%◌, Bool, true, false, List, [], ◌∷◌, length, get_or, drop, replicate, Option, Some, None}
use Rattle.base.specs.Choice.{when◌then◌else◌, ◌<?◌, ◌=?◌}
use Rattle.base.specs.Refusal.{Called, accepted, refused}
use Rattle.turns.specs.Link.{MasterCall, no_request, requests, DeviceCall, no_call, gives_answer, gives_content, Calls}
use Rattle.turns.specs.declared.Wish.TheVariants.{Same, On, Off}
use Rattle.player_script.specs.declared.Entry.{Entry}
use Rattle.player_script.specs.declared.Form.{Form}
use Rattle.player_script.specs.declared.Form.TheVariants.{Old, New}
use Rattle.player_script.specs.declared.ScriptTick.{ScriptTick}
use Rattle.player_script.specs.declared.ScriptCall.{ScriptCall}

-- "Script records are 4 bytes, most significant first: tick 16 bits, party 4, action 4, argument 8."
abbrev pub entry_of : ℕ → ℕ → ℕ → ℕ → Entry
entry_of a b c d = record { tick = a * 256 + b; party = c / 16; action = c % 16; argument = d }

-- the whole records of some bytes, without bytes left over
unfoldable pub records_of : List ℕ → List Entry
records_of [] = []
records_of (a ∷ []) = []
records_of (a ∷ b ∷ []) = []
records_of (a ∷ b ∷ c ∷ []) = []
records_of (a ∷ b ∷ c ∷ d ∷ rest) = entry_of a b c d ∷ records_of rest

-- ---- document 02, item 11

-- "Scripts get 6-byte records with a 32-bit tick; the other fields keep their widths."
abbrev pub long_entry_of : ℕ → ℕ → ℕ → ℕ → ℕ → ℕ → Entry
long_entry_of a b c d e f = record { tick = (a * 256 + b) * 65536 + (c * 256 + d); party = e / 16; action = e % 16; argument = f }

unfoldable pub long_records_of : List ℕ → List Entry
long_records_of [] = []
long_records_of (a ∷ []) = []
long_records_of (a ∷ b ∷ []) = []
long_records_of (a ∷ b ∷ c ∷ []) = []
long_records_of (a ∷ b ∷ c ∷ d ∷ []) = []
long_records_of (a ∷ b ∷ c ∷ d ∷ e ∷ []) = []
long_records_of (a ∷ b ∷ c ∷ d ∷ e ∷ f ∷ rest) = long_entry_of a b c d e f ∷ long_records_of rest

-- how many bytes a record has
unfoldable pub width : Form → ℕ
width Old = 4
width New = 6

-- the form whose records have so many bytes: "It refuses a record size other than 4 or 6 with 24"
unfoldable pub form_of : ℕ → Called Form
form_of size = when size =? 4 then accepted Old else when size =? 6 then accepted New else refused 24

-- the size that a program's argument says, the digit 4 or 6; any other word says none, which is 24 too
abbrev pub digit_size : ℕ → ℕ
digit_size c = when c =? 52 then 4 else when c =? 54 then 6 else 0

abbrev pub size_in : List ℕ → ℕ
size_in word = when length word =? 1 then digit_size (get_or word 0 0) else 0

-- the whole records of a script of a form
unfoldable pub records_in : Form → List ℕ → List Entry
records_in Old script = records_of script
records_in New script = long_records_of script

-- ---- a good script

-- "0 stop before this tick (party 0, argument 0, last record)"
abbrev pub is_stop : Entry → Bool
is_stop e = when e.action =? 0 then (when e.party =? 0 then e.argument =? 0 else false) else false

-- "1 master asks command 0 .. ; 3 master asks command 3 .."
abbrev pub is_masters : ℕ → Bool
is_masters action = when action =? 1 then true else action =? 3

-- "2 device answers .. ; 4 and 5 as 2, with burst on or off"
abbrev pub is_devices : ℕ → Bool
is_devices action = when action =? 2 then true else (when action =? 4 then true else action =? 5)

-- "Parties: 0 primary, 1 secondary, 2 to 7 devices"; "a master's action for a device or the reverse, another party or action" is bad
abbrev pub is_call : Entry → Bool
is_call e = when e.party <? 2 then is_masters e.action else (when e.party <? 8 then is_devices e.action else false)

unfoldable pub is_in : ℕ → List ℕ → Bool
is_in n [] = false
is_in n (m ∷ ms) = when n =? m then true else is_in n ms

-- the parties that have a call in the tick of this record, before it; in the tick `last` they are these
abbrev pub called_before : ℕ → List ℕ → Entry → List ℕ
called_before last called e = when e.tick =? last then called else []

-- the records after one of tick `last`, in which these parties have calls: "A falling tick, two calls to one party in a tick (the stop is no call), .. or a missing stop" is bad
unfoldable pub is_good : ℕ → List ℕ → List Entry → Bool
is_good last called [] = false
is_good last called (e ∷ []) = when e.tick <? last then false else is_stop e
is_good last called (e ∷ f ∷ es) =
    when e.tick <? last then false else
    when is_call e
    then (when is_in e.party (called_before last called e) then false else is_good e.tick (e.party ∷ called_before last called e) (f ∷ es))
    else false

-- "bytes left over" are bad too
unfoldable pub good_script : List ℕ → Bool
good_script script = when length script % 4 =? 0 then is_good 0 [] (records_of script) else false

-- a script of a form: good records, and no bytes left over
unfoldable pub good_in : Form → List ℕ → Bool
good_in f script = when length script % width f =? 0 then is_good 0 [] (records_in f script) else false

-- ---- the calls of a tick

-- the record of this party in this tick; the stop is no call
abbrev pub is_of : ℕ → ℕ → Entry → Bool
is_of tick party e = when e.tick =? tick then (when e.action =? 0 then false else e.party =? party) else false

-- the call of a record
abbrev pub call_of : Entry → ScriptCall
call_of e = record { action = e.action; argument = e.argument }

-- what a script wants of a party in a tick
unfoldable pub wanted_at : ℕ → ℕ → List Entry → Option ScriptCall
wanted_at tick party [] = None
wanted_at tick party (e ∷ es) = when is_of tick party e then Some (call_of e) else wanted_at tick party es

-- "FSK, R 3, preamble 5"
abbrev pub master_call : Option ScriptCall → MasterCall
master_call None = no_request
master_call (Some w) =
    when w.action =? 1 then requests (record { preamble = 5; revision = 7; long = false; address = w.argument; command = 0 }) []
    else requests (record { preamble = 5; revision = 7; long = true; address = w.argument; command = 3 }) []

-- "2 device answers with that many zero bytes"
abbrev pub device_call : Option ScriptCall → DeviceCall
device_call None = no_call
device_call (Some w) =
    when w.action =? 2 then gives_answer Same (replicate w.argument 0) else
    when w.action =? 4 then gives_answer On (replicate w.argument 0) else gives_answer Off (replicate w.argument 0)

-- "Burst content is command 3 with two zero bytes": each device's call of tick 0, where an answer could only be refused
abbrev pub device_call_at : ℕ → ℕ → List Entry → DeviceCall
device_call_at tick party es = when tick =? 0 then gives_content 3 (0 ∷ 0 ∷ []) else device_call (wanted_at tick party es)

abbrev pub calls_at : ℕ → List Entry → Calls
calls_at tick es = record {
  for_primary = master_call (wanted_at tick 0 es);
  for_secondary = master_call (wanted_at tick 1 es);
  for_devices = device_call_at tick 2 es ∷ device_call_at tick 3 es ∷ device_call_at tick 4 es
      ∷ device_call_at tick 5 es ∷ device_call_at tick 6 es ∷ device_call_at tick 7 es ∷ [];
}

-- the stop's tick
unfoldable pub stop_of : List Entry → ℕ
stop_of [] = 0
stop_of (e ∷ []) = e.tick
stop_of (e ∷ f ∷ es) = stop_of (f ∷ es)

-- so many ticks from this one on
unfoldable pub calls_from : ℕ → ℕ → List Entry → List Calls
calls_from tick zero es = []
calls_from tick (suc n) es = calls_at tick es ∷ calls_from (tick + 1) n es

-- ---- the same, read tick by tick

-- the records of this tick that stand first
unfoldable pub leading : ℕ → List Entry → List Entry
leading tick [] = []
leading tick (e ∷ es) = when e.tick =? tick then e ∷ leading tick es else []

-- what these records want of each party in a tick, and the place where reading goes on
abbrev pub tick_of : ℕ → List Entry → ℕ → ScriptTick
tick_of tick es next = record {
  calls =
      wanted_at tick 0 es ∷ wanted_at tick 1 es ∷ wanted_at tick 2 es ∷ wanted_at tick 3 es
      ∷ wanted_at tick 4 es ∷ wanted_at tick 5 es ∷ wanted_at tick 6 es ∷ wanted_at tick 7 es ∷ [];
  next = next;
}

-- the place after these records of so many bytes each, from a place on
unfoldable pub place_behind : ℕ → ℕ → List Entry → ℕ
place_behind w at [] = at
place_behind w at (e ∷ es) = place_behind w (at + w) es

-- from a place on, the records of this tick that stand first: what they want, and the place after them
unfoldable pub tick_at : Form → List ℕ → ℕ → ℕ → ScriptTick
tick_at f script at tick =
    tick_of tick (leading tick (records_in f (drop at script))) (place_behind (width f) at (leading tick (records_in f (drop at script))))
