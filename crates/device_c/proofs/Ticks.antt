-- A tick by what its parts gave.
use Prim.Native.Nat.{ℕ, ◌<◌, ◌^◌}
use mathlib.Core.List.{List}
use mathlib.Core.Path.{◌≡◌, ap, ◌∙◌}
use Rattle.line.specs.declared.Heard.{Heard}
use Rattle.turns.specs.Device.{device_takes}
use Rattle.turns.specs.Link.{DeviceStep, device_tick}
use Rattle.turns.specs.Told.{device_tells}
use Rattle.turns.specs.declared.Device.{Device}
use Rattle.device_tick.specs.Tick.{call_of, side_of, DeviceTickIs}
use Rattle.device_tick.specs.declared.DeviceCall.{DeviceCall}
use Rattle.device_tick.specs.declared.DeviceTicked.{DeviceTicked}
use Rattle.party.specs.Numbers.{sent_number, call_number}
use Rattle.state_words.specs.Numbers.{tick_numbers}
use Rattle.device_c.specs.Words.{packed, unpacked, limit_at}
use Rattle.device_c.specs.Fits.{DeviceFits}
use Rattle.device_c.specs.Tick.{StepIs}
use Rattle.device_c.proofs.Kept.{device_kept, limit_kept}

-- a tick of the device that the words were
pub tick_is : (limit : ℕ) (before frame bytes contents : List ℕ) (d : Device) (heard : Heard) (call : DeviceCall) (put : List ℕ) (t : DeviceTicked) (frame_after bytes_after contents_after words results : List ℕ) (sent told r : ℕ)
    → limit ≡ limit_at before → limit < 2 ^ 8 → d ≡ unpacked before → DeviceTickIs limit d heard call put frame bytes contents t frame_after bytes_after contents_after → DeviceFits t.device → words ≡ packed limit t.device
    → results ≡ tick_numbers sent told 0 t.event → sent ≡ sent_number t.sent → told ≡ (device_tells t.told).number → r ≡ call_number t.result
    → StepIs (limit_at before) (device_tick (limit_at before) (side_of (unpacked before) frame bytes contents) heard (call_of call put)) (device_takes (unpacked before) heard).event words frame_after bytes_after contents_after results r
tick_is limit before frame bytes contents d heard call put t frame_after bytes_after contents_after words results sent told r same small e v f w n a b q =
    let step : _ = v.step ∙ (λ i. device_tick (same i) (side_of (e i) frame bytes contents) heard (call_of call put)) in
    record {
      words_are = w ∙ (λ i. packed (same i) (step i).side.device);
      limit_is = ap limit_at w ∙ limit_kept limit t.device small ∙ same;
      unpacked_is = ap unpacked w ∙ device_kept limit t.device f ∙ ap (λ (s : DeviceStep). s.side.device) step;
      frame_is = ap (λ (s : DeviceStep). s.side.frame) step;
      bytes_are = ap (λ (s : DeviceStep). s.side.bytes) step;
      contents_are = ap (λ (s : DeviceStep). s.side.contents) step;
      results_are = n ∙ (λ i. tick_numbers
          ((a ∙ ap (λ (s : DeviceStep). sent_number s.sent) step) i)
          ((b ∙ ap (λ (s : DeviceStep). (device_tells s.told).number) step) i)
          0
          ((v.found ∙ ap (λ (x : Device). (device_takes x heard).event) e) i));
      returned = q ∙ ap (λ (s : DeviceStep). call_number s.result) step;
    }
