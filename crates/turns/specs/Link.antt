-- To be believed: what the engine must do, or what is claimed of it.
-- Document 01, "Line and ticks" and "Runs of the link": one primary, one secondary and devices on one line; a tick of them all, and a run over a list of ticks.
use Rattle.std.specs.Prelude.{ℕ, List, [], ◌∷◌, length}
use Rattle.base.specs.Refusal.{Called, accepted, refused}
use Rattle.base.specs.Choice.{when◌then◌else◌}
use Rattle.base.specs.Store.{stored}
use Rattle.frame.specs.Frame.{frame_bytes}
use Rattle.line.specs.Reader.{taken_data}
use Rattle.line.specs.declared.Damage.TheVariants.{Framing}
use Rattle.line.specs.declared.Heard.{Heard}
use Rattle.line.specs.declared.Heard.TheVariants.{Silence, Character, Damaged}
use Rattle.turns.specs.Master.{requested, request_header, master_takes, master_sends}
use Rattle.turns.specs.Device.{answered, answer_frame, content_given, device_takes, device_sends, error_frame, begun_frame}
use Rattle.turns.specs.declared.CallResult.{CallResult}
use Rattle.turns.specs.declared.Request.{Request}
use Rattle.turns.specs.declared.Sent.{Sent}
use Rattle.turns.specs.declared.Sent.TheVariants.{Silent}
use Rattle.turns.specs.declared.Wish.{Wish}
use Rattle.turns.specs.declared.Master.{Master}
use Rattle.turns.specs.declared.MasterTold.{MasterTold}
use Rattle.turns.specs.declared.MasterSent.{MasterSent}
use Rattle.turns.specs.declared.MasterTaken.{MasterTaken}
use Rattle.turns.specs.declared.Device.{Device}
use Rattle.turns.specs.declared.DeviceTold.{DeviceTold}
use Rattle.turns.specs.declared.DeviceTaken.{DeviceTaken}

-- ---- calls: "A tick has at most one call for each party: a master's request, a device's answer or its burst content"

pub data MasterCall : Type 0 where
  no_request : MasterCall
  requests : Request → List ℕ → MasterCall

pub data DeviceCall : Type 0 where
  no_call : DeviceCall
  gives_answer : Wish → List ℕ → DeviceCall
  gives_content : ℕ → List ℕ → DeviceCall

-- ---- a master with its lent buffers, and its tick

pub record MasterSide : Type 0 where
  pub master : Master
  -- its STX
  pub frame : List ℕ
  -- the data of the frame that it hears
  pub bytes : List ℕ

pub record MasterStep : Type 0 where
  pub side : MasterSide
  pub sent : Sent
  pub told : MasterTold
  pub result : CallResult

abbrev pub master_data : MasterSide → Heard → List ℕ
master_data x heard = when x.master.deaf then x.bytes else taken_data x.master.receiver heard x.bytes

abbrev pub master_sent : MasterSent → List ℕ → List ℕ → MasterTold → CallResult → MasterStep
master_sent s frame bytes told result =
    record { side = record { master = s.master; frame = frame; bytes = bytes }; sent = s.sent; told = told; result = result }

abbrev pub master_called : Called Master → Master → List ℕ → List ℕ → List ℕ → MasterTold → MasterStep
master_called (accepted m) before put frame bytes told = master_sent (master_sends m (stored frame 0 put)) (stored frame 0 put) bytes told CallResult.Taken
master_called (refused why) before put frame bytes told = master_sent (master_sends before frame) frame bytes told (CallResult.Refused why)

abbrev pub master_calls : ℕ → MasterTaken → MasterCall → List ℕ → List ℕ → MasterStep
master_calls limit t no_request frame bytes = master_sent (master_sends t.master frame) frame bytes t.told CallResult.Nothing
master_calls limit t (requests q put) frame bytes =
    master_called (requested limit t.master q (length put)) t.master (frame_bytes q.preamble (request_header t.master q) put) frame bytes t.told

-- "take what the line carried in the tick before, then its host's call, then sends one character or none"
unfoldable pub master_tick : ℕ → MasterSide → Heard → MasterCall → MasterStep
master_tick limit x heard call = master_calls limit (master_takes x.master heard (master_data x heard)) call x.frame (master_data x heard)

-- ---- a device with its lent buffers, and its tick

pub record DeviceSide : Type 0 where
  pub device : Device
  -- its ACK or BACK
  pub frame : List ℕ
  -- the data of the frame that it hears
  pub bytes : List ℕ
  -- the data of its burst content
  pub contents : List ℕ

pub record DeviceStep : Type 0 where
  pub side : DeviceSide
  pub sent : Sent
  pub told : DeviceTold
  pub result : CallResult

abbrev pub device_data : DeviceSide → Heard → List ℕ
device_data x heard = when x.device.deaf then x.bytes else taken_data x.device.receiver heard x.bytes

-- the frame buffer after what was heard: an error answer may have been put into it
abbrev pub heard_frame : DeviceSide → Heard → List ℕ
heard_frame x heard = error_frame x.device (device_takes x.device heard).event x.frame

abbrev pub device_sent : Device → List ℕ → List ℕ → List ℕ → DeviceTold → CallResult → DeviceStep
device_sent d frame bytes contents told result = record {
  side = record {
    device = (device_sends d (begun_frame d d.turn contents frame)).device;
    frame = begun_frame d d.turn contents frame;
    bytes = bytes;
    contents = contents;
  };
  sent = (device_sends d (begun_frame d d.turn contents frame)).sent;
  told = told;
  result = result;
}

-- `written` is the frame buffer with the answer
abbrev pub answer_called : Called Device → Device → List ℕ → List ℕ → List ℕ → List ℕ → DeviceTold → DeviceStep
answer_called (accepted d) before written frame bytes contents told = device_sent d written bytes contents told CallResult.Taken
answer_called (refused why) before written frame bytes contents told = device_sent before frame bytes contents told (CallResult.Refused why)

abbrev pub content_called : Called Device → Device → List ℕ → List ℕ → List ℕ → List ℕ → DeviceTold → DeviceStep
content_called (accepted d) before put frame bytes contents told = device_sent d frame bytes (stored contents 0 put) told CallResult.Taken
content_called (refused why) before put frame bytes contents told = device_sent before frame bytes contents told (CallResult.Refused why)

abbrev pub device_calls : ℕ → DeviceTaken → DeviceCall → List ℕ → List ℕ → List ℕ → DeviceStep
device_calls limit t no_call frame bytes contents = device_sent t.device frame bytes contents t.told CallResult.Nothing
device_calls limit t (gives_answer wish put) frame bytes contents =
    answer_called (answered limit t.device wish (length put)) t.device (answer_frame t.device wish put frame) frame bytes contents t.told
device_calls limit t (gives_content command put) frame bytes contents =
    content_called (content_given limit t.device command (length put)) t.device put frame bytes contents t.told

unfoldable pub device_tick : ℕ → DeviceSide → Heard → DeviceCall → DeviceStep
device_tick limit x heard call = device_calls limit (device_takes x.device heard) call (heard_frame x heard) (device_data x heard) x.contents

-- ---- the line: "silence where nobody sent, the character of a lone sender, and damage 3 under two or more". Document 01 gives no character under two senders; it is 0x00 here.

abbrev pub joins : Sent → Heard → Heard
joins Silent heard = heard
joins (Sent.Character c) Silence = Character c
joins (Sent.Character c) (Character e) = Damaged 0x00 Framing
joins (Sent.Character c) (Damaged e kind) = Damaged 0x00 Framing

-- ---- the link

pub record Link : Type 0 where
  pub primary : MasterSide
  pub secondary : MasterSide
  pub devices : List DeviceSide
  -- what the line carried in the last tick
  pub line : Heard

-- a tick's calls; a device past the end of the list has none
pub record Calls : Type 0 where
  pub for_primary : MasterCall
  pub for_secondary : MasterCall
  pub for_devices : List DeviceCall

unfoldable pub device_ticks : ℕ → Heard → List DeviceSide → List DeviceCall → List DeviceStep
device_ticks limit heard [] calls = []
device_ticks limit heard (x ∷ xs) [] = device_tick limit x heard no_call ∷ device_ticks limit heard xs []
device_ticks limit heard (x ∷ xs) (c ∷ cs) = device_tick limit x heard c ∷ device_ticks limit heard xs cs

unfoldable pub sides : List DeviceStep → List DeviceSide
sides [] = []
sides (s ∷ ss) = s.side ∷ sides ss

unfoldable pub carried : List DeviceStep → Heard
carried [] = Silence
carried (s ∷ ss) = joins s.sent (carried ss)

pub record LinkStep : Type 0 where
  pub for_primary : MasterStep
  pub for_secondary : MasterStep
  pub for_devices : List DeviceStep

unfoldable pub link_tick : ℕ → Link → Calls → LinkStep
link_tick limit l c = record {
  for_primary = master_tick limit l.primary l.line c.for_primary;
  for_secondary = master_tick limit l.secondary l.line c.for_secondary;
  for_devices = device_ticks limit l.line l.devices c.for_devices;
}

-- "Each party begins a tick with the state that its tick before left"
abbrev pub link_after : LinkStep → Link
link_after s = record {
  primary = s.for_primary.side;
  secondary = s.for_secondary.side;
  devices = sides s.for_devices;
  line = joins s.for_primary.sent (joins s.for_secondary.sent (carried s.for_devices));
}

-- a run: what every party does in each tick of the list
unfoldable pub run : ℕ → Link → List Calls → List LinkStep
run limit l [] = []
run limit l (c ∷ cs) = link_tick limit l c ∷ run limit (link_after (link_tick limit l c)) cs
