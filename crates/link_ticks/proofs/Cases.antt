-- A definition by cases, at a case that a `match` has told.
use Prim.Native.Nat.{ℕ, zero, suc, ◌<◌}
use native.Mathlib.Omega.{arith}
use mathlib.Core.Bool.{Bool}
use mathlib.Core.Path.{◌≡◌, refl, sym, ap, ◌∙◌}
use Rattle.turns.specs.declared.CallResult.{CallResult}
use Rattle.turns.specs.declared.DeviceTold.{DeviceTold}
use Rattle.turns.specs.declared.MasterTold.{MasterTold}
use Rattle.turns.specs.declared.Sent.{Sent}
use Rattle.turns.specs.declared.Sent.TheVariants.{Silent}
use Rattle.party.specs.Numbers.{sent_number}
use Rattle.link_parties.specs.Stands.{no_master_call, no_device_call}
use Rattle.link_parties.specs.declared.DeviceCallWithPart.{DeviceCallWithPart}
use Rattle.link_parties.specs.declared.DeviceDid.{DeviceDid}
use Rattle.link_parties.specs.declared.MasterCallWithPart.{MasterCallWithPart}
use Rattle.link_parties.specs.declared.MasterDid.{MasterDid}
use Rattle.link_ticks.specs.Ticks.{master_call_in, device_call_in, sends_none, sends_byte, CodeIs, master_host_told, device_host_told, answer_kept, master_told_kept, device_told_kept, master_did_by, device_did_by}

pub master_tells_at : (p q : MasterTold) (b r : Bool) → p ≡ q → r ≡ master_host_told q b → r ≡ master_host_told p b
master_tells_at p q b r e f = f ∙ ap (λ (x : MasterTold). master_host_told x b) (sym e)

pub device_tells_at : (p q : DeviceTold) (b r : Bool) → p ≡ q → r ≡ device_host_told q b → r ≡ device_host_told p b
device_tells_at p q b r e f = f ∙ ap (λ (x : DeviceTold). device_host_told x b) (sym e)

pub answer_kept_at : (old r : CallResult) (p q : CallResult) → p ≡ q → r ≡ answer_kept old q → r ≡ answer_kept old p
answer_kept_at old r p q e f = f ∙ ap (λ (x : CallResult). answer_kept old x) (sym e)

pub master_kept_at : (old p q r : MasterTold) → p ≡ q → r ≡ master_told_kept old q → r ≡ master_told_kept old p
master_kept_at old p q r e f = f ∙ ap (master_told_kept old) (sym e)

pub device_kept_at : (old p q r : DeviceTold) → p ≡ q → r ≡ device_told_kept old q → r ≡ device_told_kept old p
device_kept_at old p q r e f = f ∙ ap (device_told_kept old) (sym e)

pub master_did_is : (old : MasterDid) (told a : MasterTold) (result : CallResult) (b : CallResult) → a ≡ master_told_kept old.told told → b ≡ answer_kept old.result result
    → ◌≡◌ {A = MasterDid} (record { told = a; result = b }) (master_did_by old told result)
master_did_is old told a result b e f = λ i. record { told = e i; result = f i }

pub device_did_is : (old : DeviceDid) (told a : DeviceTold) (result : CallResult) (b : CallResult) → a ≡ device_told_kept old.told told → b ≡ answer_kept old.result result
    → ◌≡◌ {A = DeviceDid} (record { told = a; result = b }) (device_did_by old told result)
device_did_is old told a result b e f = λ i. record { told = e i; result = f i }

-- what is sent, as a number
pub code_is : (s : Sent) (r : ℕ) → r ≡ sent_number s → r < 512 → CodeIs s r
code_is Silent r e h = record { is = e; byte = sends_none }
code_is (Sent.Character c) r e h = record { is = e; byte = sends_byte {c = c} (omega (arith, e, h)) }

-- only the first tick has calls
pub master_call_first : (t : ℕ) (c r : MasterCallWithPart) → t ≡ 0 → r ≡ c → r ≡ master_call_in t c
master_call_first t c r e f = f ∙ ap (λ (n : ℕ). master_call_in n c) (sym e)

pub master_call_later : (t : ℕ) (c r : MasterCallWithPart) → (t ≡ 0 → ⊥) → r ≡ no_master_call → r ≡ master_call_in t c
master_call_later zero c r e f = absurd (e refl)
master_call_later (suc t) c r e f = f

pub device_call_first : (t : ℕ) (c r : DeviceCallWithPart) → t ≡ 0 → r ≡ c → r ≡ device_call_in t c
device_call_first t c r e f = f ∙ ap (λ (n : ℕ). device_call_in n c) (sym e)

pub device_call_later : (t : ℕ) (c r : DeviceCallWithPart) → (t ≡ 0 → ⊥) → r ≡ no_device_call → r ≡ device_call_in t c
device_call_later zero c r e f = absurd (e refl)
device_call_later (suc t) c r e f = f

pub ruleset calls = (refl, master_call_first, master_call_later, device_call_first, device_call_later)

pub ruleset cases = (refl, master_tells_at, device_tells_at, answer_kept_at, master_kept_at, device_kept_at, master_did_is, device_did_is)
