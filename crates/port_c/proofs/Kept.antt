-- What is packed and unpacked again is what it was, for every master and device of the port whose numbers are values of their types.
use Rattle.std.specs.Prelude.{Option, Some, None}
use Prim.Native.Nat.{ℕ, ◌+◌, ◌-◌, ◌%◌, ◌^◌}
use native.Mathlib.Omega.{arith}
use mathlib.Core.Bool.{true, false}
use mathlib.Core.Path.{◌≡◌, refl, ap, ◌∙◌}
use borrow.Author.Tests.{ne_eqb}
use Rattle.base.specs.Choice.{when◌then◌else◌, ◌=?◌}
use Rattle.base.proofs.Choices.{if_is_false}
use Rattle.line.specs.declared.Damage.TheVariants.{Parity, Overrun, Framing}
use Rattle.line.specs.declared.Heard.{Heard}
use Rattle.line.specs.declared.Heard.TheVariants.{Silence, Character, Damaged}
use Rattle.line.specs.Heard.{heard_of}
use Rattle.state_words.proofs.Kept.{number_kept}
use Rattle.master_c.specs.Words as MasterWords
use Rattle.master_c.proofs.Kept.{master_kept}
use Rattle.device_c.specs.Words as DeviceWords
use Rattle.device_c.proofs.Kept.{device_kept}
use Rattle.port.specs.declared.Ear.{Ear}
use Rattle.port.specs.declared.Ear.TheVariants.{Awake, PassesOver, Dozes}
use Rattle.port.specs.declared.PortDevice.{PortDevice}
use Rattle.port.specs.declared.PortMaster.{PortMaster}
use Rattle.port_c.specs.Words.{wake_word, wake_of, master_words, unpacked_master, heard_kind, heard_character, ear_number, ear_first, ear_second, ear_by, device_words, unpacked_device}
use Rattle.port_c.specs.Fits.{WakeFits, PortMasterFits, HeardFits, EarFits, PortDeviceFits}

wake_kept : (w : Option ℕ) → WakeFits w → wake_of (wake_word w) ≡ w
unfolding when◌then◌else◌
wake_kept None f = refl
wake_kept (Some n) f = if_is_false (n + 1 =? 0) _ _ (ne_eqb (n + 1) 0 (λ e. omega arith)) ∙ ap (λ (k : ℕ). Some (k % 2 ^ 16)) (one_less n) ∙ ap Some (number_kept 16 n f)
  where
    one_less : (n : ℕ) → n + 1 - 1 ≡ n
    one_less n = omega arith

pub port_master_kept : (limit : ℕ) (x : PortMaster) → PortMasterFits x → unpacked_master (MasterWords.packed limit x.master) (master_words x) ≡ x
port_master_kept limit x f = λ i. record { master = master_kept limit x.master f.master i; since = number_kept 16 x.since f.since i; wake = wake_kept x.wake f.wake i }

heard_kept : (h : Heard) → HeardFits h → heard_of (heard_kind h % 2 ^ 8) (heard_character h % 2 ^ 8) ≡ h
unfolding when◌then◌else◌
heard_kept Silence f = refl
heard_kept (Character c) f = ap Character (number_kept 8 c f)
heard_kept (Damaged c Parity) f = ap (λ (k : ℕ). Damaged k Parity) (number_kept 8 c f)
heard_kept (Damaged c Overrun) f = ap (λ (k : ℕ). Damaged k Overrun) (number_kept 8 c f)
heard_kept (Damaged c Framing) f = ap (λ (k : ℕ). Damaged k Framing) (number_kept 8 c f)

ear_kept : (e : Ear) → EarFits e
    → ear_by (ear_number e) (heard_of (heard_kind (ear_first e) % 2 ^ 8) (heard_character (ear_first e) % 2 ^ 8)) (heard_of (heard_kind (ear_second e) % 2 ^ 8) (heard_character (ear_second e) % 2 ^ 8)) ≡ e
unfolding when◌then◌else◌
ear_kept Awake f = refl
ear_kept (PassesOver true) f = refl
ear_kept (PassesOver false) f = refl
ear_kept (Dozes a b) f = λ i. Dozes (heard_kept a f.first i) (heard_kept b f.second i)

pub port_device_kept : (limit : ℕ) (y : PortDevice) → PortDeviceFits y → unpacked_device (DeviceWords.packed limit y.device) (device_words y) ≡ y
port_device_kept limit y f = λ i. record { device = device_kept limit y.device f.device i; ear = ear_kept y.ear f.ear i; quiet = number_kept 16 y.quiet f.quiet i }
