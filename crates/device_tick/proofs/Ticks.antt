-- The law of a device's tick: take, call and send, one behind the other.
use Rattle.std.specs.Prelude.{Result, Ok, Err}
use Prim.Native.Nat.{ℕ}
use mathlib.Core.Path.{◌≡◌, refl, sym, ap, subst, ◌∙◌}
use mathlib.Core.List.{List}
use Rattle.line.specs.declared.Heard.{Heard}
use Rattle.turns.specs.Device.{device_takes, error_frame, device_sends}
use Rattle.turns.specs.Link.{DeviceStep, device_sent, device_calls, device_tick}
use Rattle.turns.specs.declared.Device.{Device}
use Rattle.turns.specs.declared.DeviceSent.{DeviceSent}
use Rattle.turns.specs.declared.DeviceTaken.{DeviceTaken}
use Rattle.device.specs.Promises.{DeviceTakeIs, SendIs}
use Rattle.device_tick.specs.declared.DeviceTicked.{DeviceTicked}
use Rattle.device_tick.specs.declared.DeviceCall.{DeviceCall}
use Rattle.device_tick.specs.declared.DeviceCallTaken.{DeviceCallTaken}
use Rattle.device_tick.specs.Tick.{call_of, side_of, step_of, DeviceCalledIs, DeviceTickIs}

module _ (limit : ℕ) (d : Device) (heard : Heard) (call : DeviceCall) (put frame bytes contents heard-frame called-frame frame_after bytes_after contents_after : List ℕ) (t : DeviceTaken) (c : DeviceCallTaken) (s : DeviceSent) where
  abbrev ticked : DeviceTicked
  ticked = record { device = s.device; sent = s.sent; told = t.told; event = t.event; result = c.result }

  pub tick_is : DeviceTakeIs d heard bytes frame t bytes_after heard-frame → DeviceCalledIs limit t.device call put heard-frame contents c called-frame contents_after → SendIs c.device contents_after called-frame s frame_after
      → DeviceTickIs limit d heard call put frame bytes contents ticked frame_after bytes_after contents_after
  unfolding device_tick
  tick_is p q r = record {
    step = whole;
    found = ap (λ (x : DeviceTaken). x.event) p.taken;
  }
    where
      sent_from : List ℕ → DeviceStep
      sent_from l = record { side = side_of (device_sends c.device l).device l bytes_after contents_after; sent = (device_sends c.device l).sent; told = t.told; result = c.result }

      -- what was sent, from the buffer in which a BACK that begins stands
      sends_is : step_of ticked frame_after bytes_after contents_after ≡ sent_from frame_after
      sends_is = ap (λ (x : DeviceSent). record { side = side_of x.device frame_after bytes_after contents_after; sent = x.sent; told = t.told; result = c.result }) r.sent

      begun : sent_from frame_after ≡ device_sent c.device called-frame bytes_after contents_after t.told c.result
      begun = ap sent_from r.frame_is

      called : device_sent c.device called-frame bytes_after contents_after t.told c.result ≡ device_calls limit t (call_of call put) heard-frame bytes_after contents
      called = sym (q.goes t.told t.event bytes_after)

      taken_is : device_calls limit t (call_of call put) heard-frame bytes_after contents ≡ device_tick limit (side_of d frame bytes contents) heard (call_of call put)
      taken_is =
          ap (λ (x : DeviceTaken). device_calls limit x (call_of call put) heard-frame bytes_after contents) p.taken
          ∙ ap (λ (l : List ℕ). device_calls limit (device_takes d heard) (call_of call put) l bytes_after contents) p.frame_is
          ∙ ap (λ (l : List ℕ). device_calls limit (device_takes d heard) (call_of call put) (error_frame d (device_takes d heard).event frame) l contents) p.data_is

      whole : step_of ticked frame_after bytes_after contents_after ≡ device_tick limit (side_of d frame bytes contents) heard (call_of call put)
      whole = sends_is ∙ begun ∙ called ∙ taken_is

pub ruleset ticks = (refl, tick_is)
