-- How the code stands for what is to be believed.
-- A device's tick, over its words and lent buffers.
use Rattle.std.specs.Prelude.{ℕ, List, ◌≡◌}
use Rattle.base.specs.Lent.{Lent, before, after}
use Rattle.line.specs.declared.Event.{Event}
use Rattle.line.specs.declared.Event.TheVariants.{Frame}
use Rattle.line.specs.declared.Heard.{Heard}
use Rattle.turns.specs.Device.{device_takes}
use Rattle.turns.specs.Link.{DeviceStep, device_tick}
use Rattle.turns.specs.Told.{device_tells}
use Rattle.turns.specs.declared.DeviceTold.{DeviceTold}
use Rattle.turns.specs.declared.DeviceTold.TheVariants.{Nothing, Request, Broadcast}
use Rattle.device_tick.specs.Tick.{call_of, side_of}
use Rattle.device_tick.specs.declared.DeviceCall.{DeviceCall}
use Rattle.party.specs.Numbers.{sent_number, call_number}
use Rattle.state_words.specs.Numbers.{tick_numbers}
use Rattle.device_c.specs.Words.{packed, unpacked, limit_at}

-- what a call leaves after a tick: the words and the three lent buffers, the results and what it returns
pub record StepIs (limit : ℕ) (s : DeviceStep) (event : Event) (words frame bytes contents results : List ℕ) (r : ℕ) : Type 0 where
  pub words_are : words ≡ packed limit s.side.device
  pub limit_is : limit_at words ≡ limit
  pub unpacked_is : unpacked words ≡ s.side.device
  pub frame_is : frame ≡ s.side.frame
  pub bytes_are : bytes ≡ s.side.bytes
  pub contents_are : contents ≡ s.side.contents
  pub results_are : results ≡ tick_numbers (sent_number s.sent) (device_tells s.told).number 0 event
  pub returned : r ≡ call_number s.result

-- the step of the device that the words stood for before the call, and what its reader found; the data of the host's call are `put`
abbrev pub DeviceTicks : Lent (List ℕ) → Lent (List ℕ) → Lent (List ℕ) → Lent (List ℕ)
    → Heard → DeviceCall → List ℕ → Lent (List ℕ) → ℕ → Type 0
DeviceTicks words frame bytes contents heard call put results r =
    StepIs
    (limit_at (before words))
    (device_tick (limit_at (before words)) (side_of (unpacked (before words)) (before frame) (before bytes) (before contents)) heard (call_of call put))
    (device_takes (unpacked (before words)) heard).event
    (after words) (after frame) (after bytes) (after contents) (after results) r

-- a request or a broadcast that the host is told is the frame that the reader found in that tick, whose fields stand in the results and whose data in the lent buffer (proofs/Found.antt)
abbrev pub ToldIsFound : DeviceTold → Event → Type 0
ToldIsFound Nothing event = Unit {0}
ToldIsFound (Request w) event = event ≡ Frame w
ToldIsFound (Broadcast w) event = event ≡ Frame w
