-- A tick by what its parts gave, and one with what was made of its arguments: of the port's master, and of a device of the port.
use Rattle.std.specs.Prelude.{Option}
use Prim.Native.Nat.{ℕ, ◌<◌, ◌^◌}
use mathlib.Core.List.{List}
use mathlib.Core.Path.{◌≡◌, refl, ap, subst, ◌∙◌}
use Rattle.line.specs.declared.Heard.{Heard}
use Rattle.turns.specs.Told.{master_tells, device_tells}
use Rattle.party.specs.Numbers.{sent_number, call_number}
use Rattle.state_words.specs.Numbers.{tick_numbers}
use Rattle.master.specs.Tick.{call_of}
use Rattle.master_c.specs.Tick.{told_attempts}
use Rattle.master_c.specs.Words as MasterWords
use Rattle.master_c.proofs.Kept as MasterKept
use Rattle.device_c.specs.Words as DeviceWords
use Rattle.device_c.proofs.Kept as DeviceKept
use Rattle.port.specs.Ticks.{PortMasterStep, port_master_tick, PortDeviceStep, port_device_tick}
use Rattle.port.specs.declared.PortDevice.{PortDevice}
use Rattle.port.specs.declared.PortMaster.{PortMaster}
use Rattle.port_master.specs.Ticks.{side_of, step_of, PortMasterTickIs}
use Rattle.port_master.specs.declared.PortMasterTicked.{PortMasterTicked}
use Rattle.port_device.specs.Ticks as D
use Rattle.port_device.specs.Ticks.{PortDeviceTickIs}
use Rattle.port_device.specs.declared.PortDeviceTicked.{PortDeviceTicked}
use Rattle.port_c.specs.Words.{master_words, unpacked_master, device_words, unpacked_device}
use Rattle.port_c.specs.Fits.{PortMasterFits, PortDeviceFits}
use Rattle.port_c.specs.Tick.{MasterStepIs, DeviceStepIs}
use Rattle.port_c.proofs.Kept.{port_master_kept, port_device_kept}
use Rattle.turns.specs.declared.Request.{Request}
use Rattle.turns.specs.declared.Wish.{Wish}

-- ---- the master

pub master_tick_is : (limit : ℕ) (words port frame bytes : List ℕ) (x : PortMaster) (heard : Heard) (call : Option Request) (put : List ℕ) (t : PortMasterTicked) (frame_after bytes_after words-after port-after results : List ℕ) (sent told attempts r : ℕ)
    → limit ≡ MasterWords.limit_at words → limit < 2 ^ 8 → x ≡ unpacked_master words port → PortMasterTickIs limit x heard call put frame bytes t frame_after bytes_after → PortMasterFits t.master → words-after ≡ MasterWords.packed limit t.master.master → port-after ≡ master_words t.master
    → results ≡ tick_numbers sent told attempts t.event → sent ≡ sent_number t.sent → told ≡ (master_tells t.told).number → attempts ≡ told_attempts t.told
    → r ≡ call_number t.result
    → MasterStepIs (MasterWords.limit_at words) (port_master_tick (MasterWords.limit_at words) (side_of (unpacked_master words port) frame bytes) heard (call_of call put)) words-after port-after frame_after bytes_after results r
master_tick_is limit words port frame bytes x heard call put t frame_after bytes_after words-after port-after results sent told attempts r same small d v f w p n a b e q =
    let step : step_of heard t frame_after bytes_after ≡ port_master_tick (MasterWords.limit_at words) (side_of (unpacked_master words port) frame bytes) heard (call_of call put) =
    v ∙ (λ i. port_master_tick (same i) (side_of (d i) frame bytes) heard (call_of call put)) in
    record {
      words_are = w ∙ (λ i. MasterWords.packed (same i) (step i).side.master.master);
      limit_is = ap MasterWords.limit_at w ∙ MasterKept.limit_kept limit t.master.master small ∙ same;
      port_are = p ∙ ap (λ (s : PortMasterStep). master_words s.side.master) step;
      unpacked_is = (λ i. unpacked_master (w i) (p i)) ∙ port_master_kept limit t.master f ∙ ap (λ (s : PortMasterStep). s.side.master) step;
      frame_is = ap (λ (s : PortMasterStep). s.side.frame) step;
      bytes_are = ap (λ (s : PortMasterStep). s.side.bytes) step;
      results_are = n ∙ (λ i. tick_numbers
          ((a ∙ ap (λ (s : PortMasterStep). sent_number s.sent) step) i)
          ((b ∙ ap (λ (s : PortMasterStep). (master_tells s.told).number) step) i)
          ((e ∙ ap (λ (s : PortMasterStep). told_attempts s.told) step) i)
          (step i).event);
      returned = q ∙ ap (λ (s : PortMasterStep). call_number s.result) step;
    }

pub ruleset masters = (refl, master_tick_is)

-- ---- a device

pub device_tick_is : (limit : ℕ) (words port frame bytes : List ℕ) (y : PortDevice) (heard : Heard) (call : Option Wish) (put : List ℕ) (t : PortDeviceTicked) (frame_after bytes_after words-after port-after results : List ℕ) (sent told r : ℕ)
    → limit ≡ DeviceWords.limit_at words → limit < 2 ^ 8 → y ≡ unpacked_device words port → PortDeviceTickIs limit y heard call put frame bytes t frame_after bytes_after → PortDeviceFits t.device → words-after ≡ DeviceWords.packed limit t.device.device → port-after ≡ device_words t.device
    → results ≡ tick_numbers sent told 0 t.event → sent ≡ sent_number t.sent → told ≡ (device_tells t.told).number → r ≡ call_number t.result
    → DeviceStepIs (DeviceWords.limit_at words) (port_device_tick (DeviceWords.limit_at words) (D.side_of (unpacked_device words port) frame bytes) heard (D.call_of call put)) words-after port-after frame_after bytes_after results r
device_tick_is limit words port frame bytes y heard call put t frame_after bytes_after words-after port-after results sent told r same small d v f w p n a b q =
    let step : D.step_of heard t frame_after bytes_after ≡ port_device_tick (DeviceWords.limit_at words) (D.side_of (unpacked_device words port) frame bytes) heard (D.call_of call put) =
    v ∙ (λ i. port_device_tick (same i) (D.side_of (d i) frame bytes) heard (D.call_of call put)) in
    record {
      words_are = w ∙ (λ i. DeviceWords.packed (same i) (step i).side.device.device);
      limit_is = ap DeviceWords.limit_at w ∙ DeviceKept.limit_kept limit t.device.device small ∙ same;
      port_are = p ∙ ap (λ (s : PortDeviceStep). device_words s.side.device) step;
      unpacked_is = (λ i. unpacked_device (w i) (p i)) ∙ port_device_kept limit t.device f ∙ ap (λ (s : PortDeviceStep). s.side.device) step;
      frame_is = ap (λ (s : PortDeviceStep). s.side.frame) step;
      bytes_are = ap (λ (s : PortDeviceStep). s.side.bytes) step;
      results_are = n ∙ (λ i. tick_numbers
          ((a ∙ ap (λ (s : PortDeviceStep). sent_number s.sent) step) i)
          ((b ∙ ap (λ (s : PortDeviceStep). (device_tells s.told).number) step) i)
          0
          (step i).event);
      returned = q ∙ ap (λ (s : PortDeviceStep). call_number s.result) step;
    }

pub ruleset devices = (refl, device_tick_is)
