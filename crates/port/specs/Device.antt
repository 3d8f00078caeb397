-- To be believed: what the engine must do, or what is claimed of it.
-- Document 02, item 13: a device of the infrared port. It is document 01's device (crates/turns/specs/Device.antt) except for what stands here: the shorter STO of commands 0 and 11, its preamble, and that it dozes. It has no call for burst content, so document 01's refusal of "burst on without burst content" with 10 refuses every "burst on" (specs/NoBurst).
use Rattle.std.specs.Prelude.{ℕ, ◌+◌, Bool, true, false, List}
use Rattle.base.specs.Choice.{when◌then◌else◌, ◌<?◌, ◌≤?◌, ◌=?◌}
use Rattle.base.specs.Refusal.{Called, accepted, refused}
use Rattle.frame.specs.Delimiter.{back}
use Rattle.line.specs.Profile.{infrared_profile}
use Rattle.line.specs.Reader.{blank, no_damage}
use Rattle.line.specs.declared.Event.{Event}
use Rattle.line.specs.declared.Event.TheVariants.{Nothing, PassedOver, Broken, Frame}
use Rattle.line.specs.declared.Heard.{Heard}
use Rattle.line.specs.declared.Heard.TheVariants.{Silence, Character, Damaged}
use Rattle.line.specs.declared.Place.{Place}
use Rattle.line.specs.declared.Place.TheVariants.{Passing, Idle, Preamble, First, Address, Expansion, Command, Count, Data, Check}
use Rattle.line.specs.declared.Receiver.{Receiver}
use Rattle.turns.specs.Device.{device_with, device_takes, answered, device_sends, device_starts}
use Rattle.turns.specs.declared.Device.{Device}
use Rattle.turns.specs.declared.DeviceTaken.{DeviceTaken}
use Rattle.turns.specs.declared.DeviceTold.{DeviceTold}
use Rattle.turns.specs.declared.Sent.{Sent}
use Rattle.turns.specs.declared.Sent.TheVariants.{Silent}
use Rattle.turns.specs.declared.Turn.{Turn}
use Rattle.turns.specs.declared.Turn.TheVariants.{Listens, Asked, AnswerWaits, Begins, Answers, Follows, Bursts}
use Rattle.turns.specs.declared.Wish.{Wish}
use Rattle.turns.specs.declared.Wish.TheVariants.{Same}
use Rattle.port.specs.Numbers.{sto_of, port_preamble, doze_ticks}
use Rattle.port.specs.declared.Ear.{Ear}
use Rattle.port.specs.declared.Ear.TheVariants.{Awake, PassesOver, Dozes}
use Rattle.port.specs.declared.PortDevice.{PortDevice}
use Rattle.port.specs.declared.PortDeviceTaken.{PortDeviceTaken}
use Rattle.port.specs.declared.PortDeviceSent.{PortDeviceSent}

-- ---- what wakes a dozing device

-- whether this character is heard, undamaged
abbrev pub is_undamaged : ℕ → Heard → Bool
is_undamaged c Silence = false
is_undamaged c (Character e) = e =? c
is_undamaged c (Damaged e kind) = false

-- a character other than 0xFF, "damaged or not"
abbrev pub is_other : Heard → Bool
is_other Silence = false
is_other (Character c) = when c =? 0xFF then false else true
is_other (Damaged c kind) = when c =? 0xFF then false else true

-- two of "three wake-up bytes that alternate", 0x00 and 0xFF
abbrev pub both_undamaged : ℕ → ℕ → Heard → Heard → Bool
both_undamaged c e a b = when is_undamaged c a then is_undamaged e b else false

-- "three wake-up bytes that alternate", in successive ticks
abbrev pub alternate : Heard → Heard → Heard → Bool
alternate a b h = when both_undamaged 0x00 0xFF a b then is_undamaged 0x00 h else (when both_undamaged 0xFF 0x00 a b then is_undamaged 0xFF h else false)

-- "or two characters other than 0xFF, damaged or not"
abbrev pub wakes : Heard → Heard → Heard → Bool
wakes a b h = when alternate a b h then true else (when is_other b then is_other h else false)

-- ---- take: what was heard

-- a silent tick is quiet, and is counted as long as the count matters; any character ends the quiet
abbrev pub quiet_after : ℕ → Heard → ℕ
quiet_after n Silence = when n <? doze_ticks then n + 1 else n
quiet_after n (Character c) = 0
quiet_after n (Damaged c kind) = 0

-- "dozes after 20,946 quiet ticks"; else it listens in this manner
abbrev pub unless_quiet : ℕ → Ear → Ear
unless_quiet quiet ear = when doze_ticks ≤? quiet then Dozes Silence Silence else ear

-- the device after what was heard, which then listens in this manner
abbrev pub device_took : PortDevice → Heard → Ear → DeviceTaken → PortDeviceTaken
device_took y heard ear t = record {
  device = record { device = t.device; ear = ear; quiet = quiet_after y.quiet heard };
  told = t.told;
  event = t.event;
}

-- a device that was not dozing before this tick
abbrev pub listens_on : PortDevice → Heard → Ear → DeviceTaken → PortDeviceTaken
listens_on y heard ear t = device_took y heard (unless_quiet (quiet_after y.quiet heard) ear) t

-- a device that does not read: it is as it was; of this tick nothing is told, or that a character is passed over
abbrev pub unread : Device → Event → DeviceTaken
unread d event = record { device = d; told = DeviceTold.Nothing; event = event }

-- each character that is passed over is told as document 01's reader tells it
abbrev pub passed_over : Heard → Event
passed_over Silence = Nothing
passed_over (Character c) = PassedOver
passed_over (Damaged c kind) = PassedOver

-- the same device with another reader
abbrev pub with_receiver : Device → Receiver → Device
with_receiver d r = device_with d r d.turn d.request d.wish d.length d.due

-- "and then passes over characters until two 0xFF", "in successive ticks": the second is read as the second of a preamble
abbrev pub passes_on : PortDevice → Heard → Bool → PortDeviceTaken
passes_on y heard before =
    when is_undamaged 0xFF heard then
    (when before then listens_on y heard Awake (unread (with_receiver y.device (blank (Preamble 2))) Nothing)
    else listens_on y heard (PassesOver true) (unread y.device (passed_over heard)))
    else listens_on y heard (PassesOver false) (unread y.device (passed_over heard))

-- a dozing device
abbrev pub dozes_on : PortDevice → Heard → Heard → Heard → PortDeviceTaken
dozes_on y heard a b =
    when wakes a b heard then device_took y heard (PassesOver false) (unread y.device Nothing)
    else device_took y heard (Dozes b heard) (unread y.device Nothing)

abbrev pub is_idle : Place → Bool
is_idle Passing = false
is_idle Idle = true
is_idle (Preamble n) = false
is_idle First = false
is_idle (Address n) = false
is_idle (Expansion n) = false
is_idle Command = false
is_idle Count = false
is_idle (Data n) = false
is_idle Check = false

-- "an awake one that hears 0x00 between frames"
abbrev pub hears_wake_up : Device → Heard → Bool
hears_wake_up d heard = when is_idle d.receiver.place then is_undamaged 0x00 heard else false

-- "a BACK counts as a damaged frame": it is told as one, and a device does nothing on either
abbrev pub counted_as : Event → Event
counted_as Nothing = Nothing
counted_as PassedOver = PassedOver
counted_as Broken = Broken
counted_as (Frame w) = when w.header.kind =? back then Event.Damaged w no_damage else Frame w
counted_as (Event.Damaged w d) = Event.Damaged w d

abbrev pub reads : DeviceTaken → DeviceTaken
reads t = record { device = t.device; told = t.told; event = counted_as t.event }

-- as any character does, it drops a request in hand
abbrev pub drops_request : Device → Device
drops_request d = device_with d d.receiver Listens d.request Same d.length d.due

-- "does the same"; all else is as in document 01
abbrev pub awake : PortDevice → Heard → PortDeviceTaken
awake y heard =
    when hears_wake_up y.device heard then listens_on y heard (PassesOver false) (unread (drops_request y.device) (passed_over heard))
    else listens_on y heard Awake (reads (device_takes y.device heard))

abbrev pub hears_by : PortDevice → Heard → Ear → PortDeviceTaken
hears_by y heard Awake = awake y heard
hears_by y heard (PassesOver before) = passes_on y heard before
hears_by y heard (Dozes a b) = dozes_on y heard a b

-- "A sending party hears nothing", and neither does a fresh one in its first tick
unfoldable pub port_device_takes : PortDevice → Heard → PortDeviceTaken
port_device_takes y heard =
    when y.device.deaf then record { device = y; told = DeviceTold.Nothing; event = Nothing }
    else hears_by y heard y.ear

-- ---- the host's answer

-- "8: .. past T+STO", of the request's command; n ticks are left of the longest STO, this one included
abbrev pub past_sto : ℕ → Turn → Bool
past_sto command Listens = false
past_sto command (Asked n) = n + sto_of command ≤? infrared_profile.sto
past_sto command AnswerWaits = false
past_sto command Begins = false
past_sto command (Answers n) = false
past_sto command Follows = false
past_sto command (Bursts n) = false

abbrev pub too_late : Device → Bool
too_late d = past_sto d.request.command d.turn

unfoldable pub port_answered : ℕ → Device → Wish → ℕ → Called Device
port_answered limit d wish count = when too_late d then refused 8 else answered limit d wish count

-- ---- send: a character of its own ends the quiet

abbrev pub quiet_sending : ℕ → Sent → ℕ
quiet_sending n Silent = n
quiet_sending n (Sent.Character c) = 0

unfoldable pub port_device_sends : PortDevice → List ℕ → PortDeviceSent
port_device_sends y frame = record {
  device = record { device = (device_sends y.device frame).device; ear = y.ear; quiet = quiet_sending y.quiet (device_sends y.device frame).sent };
  sent = (device_sends y.device frame).sent;
}

-- ---- start: "another preamble with 3"; "A device starts awake"

abbrev pub device_started : Called Device → Called PortDevice
device_started (accepted d) = accepted (record { device = d; ear = Awake; quiet = 0 })
device_started (refused why) = refused why

abbrev pub port_device_starts : ℕ → ℕ → ℕ → Called PortDevice
port_device_starts preamble polling unique =
    when preamble =? port_preamble then device_started (device_starts infrared_profile preamble polling unique) else refused 3
