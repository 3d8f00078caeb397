-- Inner contracts: nothing that is to be believed rests on them.
-- How a party's tick goes: it only counts a silent tick, it only hears a character, or it acts. The laws in proofs/Ways.antt say that the first two, which are shorter, do what its tick does.
use Rattle.std.specs.Prelude.{◌-◌, Bool, true, false, Option, Some, None}
use Rattle.base.specs.Choice.{when◌then◌else◌}
use Rattle.line.specs.Reader.{idle, inside_frame}
use Rattle.line.specs.declared.Heard.{Heard}
use Rattle.line.specs.declared.Heard.TheVariants.{Silence, Character}
use Rattle.line.specs.declared.Receiver.{Receiver}
use Rattle.turns.specs.Device as D
use Rattle.turns.specs.Master as M
use Rattle.turns.specs.Master.{count_clear, timer}
use Rattle.turns.specs.declared.Device.{Device}
use Rattle.turns.specs.declared.Master.{Master}
use Rattle.turns.specs.declared.Stage.{Stage}
use Rattle.turns.specs.declared.Stage.TheVariants.{Free, Waiting, Sending, Awaiting}
use Rattle.turns.specs.declared.Turn.{Turn}
use Rattle.turns.specs.declared.Turn.TheVariants.{Listens, Asked, AnswerWaits, Begins, Answers, Follows, Bursts}
use Rattle.turns.specs.declared.Wish.TheVariants.{Same}
use Rattle.device_tick.specs.declared.DeviceCall.{DeviceCall}
use Rattle.link_parties.specs.Readers.{same_reader}
use Rattle.link_parties.specs.declared.Way.{Way}
use Rattle.link_parties.specs.declared.Way.TheVariants.{Counts, Hears, Acts}
use Rattle.turns.specs.declared.Request.{Request}

-- a character: the party only hears it where the line's reader finds nothing and the party's reader equals that one, by its flag or by comparison
abbrev pub hears_if : Bool → Bool → Bool → Way
hears_if follows quiet same = when quiet then (when follows then Hears else when same then Hears else Acts) else Acts

abbrev pub counts_if : Bool → Way
counts_if counts = when counts then Counts else Acts

-- ---- a device

abbrev pub calls_device : DeviceCall → Bool
calls_device DeviceCall.Nothing = false
calls_device (DeviceCall.Answers wish) = true
calls_device (DeviceCall.Content command) = true

abbrev pub is_listening : Turn → Bool
is_listening Listens = true
is_listening (Asked n) = false
is_listening AnswerWaits = false
is_listening Begins = false
is_listening (Answers n) = false
is_listening Follows = false
is_listening (Bursts n) = false

-- no BACK may begin, no frame is broken and no request is in hand
abbrev pub device_counts : Device → Bool
device_counts d = when d.burst then false else when inside_frame d.receiver.place then false else is_listening d.turn

abbrev pub device_hears : Device → Heard → Bool → Bool → Receiver → Way
device_hears d Silence follows quiet reader = counts_if (device_counts d)
device_hears d (Character c) follows quiet reader = hears_if follows quiet (same_reader d.receiver reader)
device_hears d (Heard.Damaged c kind) follows quiet reader = Acts

unfoldable pub device_way : Device → Heard → DeviceCall → Bool → Bool → Receiver → Way
device_way d heard call follows quiet reader = when d.deaf then Acts else when calls_device call then Acts else device_hears d heard follows quiet reader

abbrev pub counted_device : Device → Device
counted_device d = D.device_with d idle Listens d.request d.wish d.length (d.due - 1)

abbrev pub heard_device : Device → Receiver → Device
heard_device d r = D.device_with d r Listens d.request Same d.length 0

abbrev pub in_slot : Device → Option Device
in_slot d = Some d

-- ---- a master

abbrev pub calls_master : Option Request → Bool
calls_master None = false
calls_master (Some q) = true

abbrev pub is_free : Stage → Bool
is_free Free = true
is_free Waiting = false
is_free (Sending n) = false
is_free (Awaiting n) = false

abbrev pub is_sending : Stage → Bool
is_sending Free = false
is_sending Waiting = false
is_sending (Sending n) = true
is_sending (Awaiting n) = false

-- BURST is clear, no frame is broken and no message is in hand
abbrev pub master_counts : Master → Bool
master_counts m = when m.burst then false else when inside_frame m.receiver.place then false else is_free m.message.stage

abbrev pub master_character : Master → Bool → Bool → Receiver → Way
master_character m follows quiet reader = when is_sending m.message.stage then Acts else hears_if follows quiet (same_reader m.receiver reader)

abbrev pub master_hears : Master → Heard → Bool → Bool → Receiver → Way
master_hears m Silence follows quiet reader = counts_if (master_counts m)
master_hears m (Character c) follows quiet reader = master_character m follows quiet reader
master_hears m (Heard.Damaged c kind) follows quiet reader = Acts

unfoldable pub master_way : Master → Heard → Option Request → Bool → Bool → Receiver → Way
master_way m heard call follows quiet reader = when m.deaf then Acts else when calls_master call then Acts else master_hears m heard follows quiet reader

abbrev pub counted_master : Master → Master
counted_master m = M.master_with m idle m.burst m.noted (count_clear m.profile m.timer) m.message

abbrev pub heard_master : Master → Receiver → Master
heard_master m r = M.master_with m r m.burst m.noted (timer 0) m.message
