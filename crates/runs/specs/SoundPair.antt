-- To be believed: what the engine must do, or what is claimed of it.
-- Document 02, item 1: "Senders still leave no gap, so turns on a sound pair are those of document 01." Document 01's silent tick is written out for a reader, a master and a device, and with it document 01's run; from the parties' starts alone the two runs are equal.
use Rattle.std.specs.Prelude.{ℕ, ◌≡◌, true, false, List, [], ◌∷◌}
use Rattle.base.specs.Choice.{when◌then◌else◌}
use Rattle.base.specs.Refusal.{accepted}
use Rattle.line.specs.Profile.{profile_made}
use Rattle.line.specs.Reader.{idle, inside_frame, tells}
use Rattle.line.specs.declared.Event.TheVariants.{Nothing, Broken}
use Rattle.line.specs.declared.Heard.{Heard}
use Rattle.line.specs.declared.Heard.TheVariants.{Silence, Character, Damaged}
use Rattle.line.specs.declared.Profile.{Profile}
use Rattle.line.specs.declared.Receiver.{Receiver}
use Rattle.line.specs.declared.Taken.{Taken}
use Rattle.turns.specs.Master as M
use Rattle.turns.specs.Master.{after_break}
use Rattle.turns.specs.Device as D
use Rattle.turns.specs.Device.{error_frame}
use Rattle.turns.specs.Link.{MasterCall, DeviceCall, no_call, MasterSide, MasterStep, master_data, master_calls, DeviceSide, DeviceStep, device_data, device_calls, Link, LinkStep, Calls, link_after, run}
use Rattle.turns.specs.Demand3.{Premises}
use Rattle.turns.specs.Run.{All, MasterStarts, DeviceStarts}
use Rattle.turns.specs.declared.Master.{Master}
use Rattle.turns.specs.declared.MasterTaken.{MasterTaken}
use Rattle.turns.specs.declared.MasterTold.{MasterTold}
use Rattle.turns.specs.declared.Device.{Device}
use Rattle.turns.specs.declared.DeviceTaken.{DeviceTaken}
use Rattle.turns.specs.declared.DeviceTold.{DeviceTold}

-- ---- document 01's silent tick: "A silent tick inside a frame breaks it, and the next character may start another."

-- a reader; `master_reads_01` and `device_reads_01` in proofs/SoundPairs say that the reader of each party below is this one
abbrev pub silence01 : Receiver → Taken
silence01 r = when inside_frame r.place then tells idle Broken else tells idle Nothing

-- a master: the frame that the tick breaks, then the count. The silent tick that breaks a frame is the first that the timer after it counts.
abbrev pub master_silence01 : Master → MasterTaken
master_silence01 m =
    when inside_frame m.receiver.place then M.counts (after_break m idle Broken).master (after_break m idle Broken).told Broken
    else M.counts (M.master_with m idle m.burst m.noted m.timer m.message) MasterTold.Nothing Nothing

-- a device: "after RT1 primary behind anything else"
abbrev pub device_silence01 : Device → DeviceTaken
device_silence01 d =
    when inside_frame d.receiver.place then D.counts d idle (D.due_after d.profile (D.ended_by Broken)) Broken
    else D.counts d idle d.due Nothing

-- ---- document 01's tick of each party: everything heard but silence is taken as it is now, and so are the host's call and what is sent

abbrev pub master_hears01 : Master → Heard → List ℕ → MasterTaken
master_hears01 m Silence bytes = master_silence01 m
master_hears01 m (Character c) bytes = M.on_heard m (Character c) bytes
master_hears01 m (Damaged c kind) bytes = M.on_heard m (Damaged c kind) bytes

unfoldable pub master_takes01 : Master → Heard → List ℕ → MasterTaken
master_takes01 m heard bytes = when m.deaf then M.tells m MasterTold.Nothing Nothing else master_hears01 m heard bytes

unfoldable pub master_tick01 : ℕ → MasterSide → Heard → MasterCall → MasterStep
master_tick01 limit x heard call = master_calls limit (master_takes01 x.master heard (master_data x heard)) call x.frame (master_data x heard)

abbrev pub device_hears01 : Device → Heard → DeviceTaken
device_hears01 d Silence = device_silence01 d
device_hears01 d (Character c) = D.on_heard d (Character c)
device_hears01 d (Damaged c kind) = D.on_heard d (Damaged c kind)

unfoldable pub device_takes01 : Device → Heard → DeviceTaken
device_takes01 d heard = when d.deaf then D.tells d DeviceTold.Nothing Nothing else device_hears01 d heard

unfoldable pub device_tick01 : ℕ → DeviceSide → Heard → DeviceCall → DeviceStep
device_tick01 limit x heard call =
    device_calls limit (device_takes01 x.device heard) call
    (error_frame x.device (device_takes01 x.device heard).event x.frame) (device_data x heard) x.contents

-- ---- document 01's run

unfoldable pub device_ticks01 : ℕ → Heard → List DeviceSide → List DeviceCall → List DeviceStep
device_ticks01 limit heard [] calls = []
device_ticks01 limit heard (x ∷ xs) [] = device_tick01 limit x heard no_call ∷ device_ticks01 limit heard xs []
device_ticks01 limit heard (x ∷ xs) (c ∷ cs) = device_tick01 limit x heard c ∷ device_ticks01 limit heard xs cs

unfoldable pub link_tick01 : ℕ → Link → Calls → LinkStep
link_tick01 limit l c = record {
  for_primary = master_tick01 limit l.primary l.line c.for_primary;
  for_secondary = master_tick01 limit l.secondary l.line c.for_secondary;
  for_devices = device_ticks01 limit l.line l.devices c.for_devices;
}

unfoldable pub run01 : ℕ → Link → List Calls → List LinkStep
run01 limit l [] = []
run01 limit l (c ∷ cs) = link_tick01 limit l c ∷ run01 limit (link_after (link_tick01 limit l c)) cs

-- ---- "turns on a sound pair are those of document 01": what every party sends, tells its host and answers its host's call, and its state and buffers, in every tick

-- under demand 3's premises
abbrev pub SoundPair : ℕ → Type 0
SoundPair limit = (p : Profile) (retries : ℕ) (l : Link) (ticks : List Calls) → Premises limit p retries l ticks → run limit l ticks ≡ run01 limit l ticks

-- That the pair is sound is how the line is defined in Link: a lone sender's character is neither damaged nor lost. Of demand 3's premises only the starts are needed: devices may share addresses, and several may burst or answer, so that two send in one tick (`shared_address_sound` in proofs/SoundScenes).
abbrev pub SoundFromStarts : ℕ → Type 0
SoundFromStarts limit =
    (p : Profile) (retries : ℕ) (l : Link) (ticks : List Calls) → profile_made p ≡ accepted p → MasterStarts p true retries l.primary
    → MasterStarts p false retries l.secondary → All (DeviceStarts p) l.devices → run limit l ticks ≡ run01 limit l ticks
