-- A start by what was answered.
use Rattle.std.specs.Prelude.{Result, Ok, Err}
use Prim.Native.Nat.{ℕ}
use native.Mathlib.Omega.{arith}
use mathlib.Core.Bool.{false}
use mathlib.Core.List.{List}
use mathlib.Core.Path.{◌≡◌, refl, sym, ap, subst, ◌∙◌}
use Rattle.base.specs.Choice.{◌outside◌to◌}
use Rattle.base.specs.declared.Refusal.{Refusal}
use Rattle.base.specs.Refusal.{number, Called, accepted, refused, called_as}
use Rattle.base.proofs.Choices.{if_is_true, if_is_false}
use Rattle.frame.specs.Limits.{fewest_answered, most_data}
use Rattle.master_c.specs.Words as MasterWords
use Rattle.master_c.proofs.Kept as MasterKept
use Rattle.device_c.specs.Words as DeviceWords
use Rattle.device_c.proofs.Kept as DeviceKept
use Rattle.state_start_c.specs.Start.{limited}
use Rattle.state_start_c.proofs.Starts.{limit_inside, limit_outside, limit_byte}
use Rattle.port.specs.declared.PortDevice.{PortDevice}
use Rattle.port.specs.declared.PortMaster.{PortMaster}
use Rattle.port_c.specs.Words.{master_words, unpacked_master, device_words, unpacked_device}
use Rattle.port_c.specs.Fits.{PortMasterFits, PortDeviceFits}
use Rattle.port_c.specs.Start.{PortStartIs}
use Rattle.port_c.proofs.Kept.{port_master_kept, port_device_kept}

module _ {A : Type 0} (packed ported : A → List ℕ) (unpacked : List ℕ → List ℕ → A) (limit-at : List ℕ → ℕ) (limit : ℕ) where
  taken : (fresh : A) (words port words-after port-after : List ℕ) → (limit outside fewest_answered to most_data) ≡ false → words-after ≡ packed fresh → port-after ≡ ported fresh
      → unpacked (packed fresh) (ported fresh) ≡ fresh → limit-at (packed fresh) ≡ limit → PortStartIs packed ported unpacked limit-at limit (limited limit (accepted fresh)) words port words-after port-after 0
  taken fresh words port words-after port-after e p o k l =
      let inside : ◌≡◌ {A = Called A} (accepted fresh) (limited limit (accepted fresh)) = sym (if_is_false (limit outside fewest_answered to most_data) (refused 9) (accepted fresh) e) in
      subst (λ (c : Called A). PortStartIs packed ported unpacked limit-at limit c words port words-after port-after 0) inside
      (record { returned = refl; words_are = p; port_are = o; unpacked_is = (λ i. unpacked (p i) (o i)) ∙ k; limit_is = ap limit-at p ∙ l })

  too_long : (fresh : A) (l : Result ℕ Refusal) (why : Refusal) (words port : List ℕ) (r : ℕ) → called_as l ≡ limited limit (accepted limit) → l ≡ Err why → r ≡ number why
      → PortStartIs packed ported unpacked limit-at limit (limited limit (accepted fresh)) words port words port r
  too_long fresh l why words port r q e p =
      let o = limit_outside limit l why q e in
      let outside_is : ◌≡◌ {A = Called A} (refused 9) (limited limit (accepted fresh)) = sym (if_is_true (limit outside fewest_answered to most_data) (refused 9) (accepted fresh) o.1) in
      subst (λ (c : Called A). PortStartIs packed ported unpacked limit-at limit c words port words port r) outside_is
      (record { returned = p ∙ sym o.0; words_are = refl; port_are = refl; unpacked_is = tt; limit_is = tt })

-- ---- the master

abbrev MasterIs : ℕ → Called PortMaster → List ℕ → List ℕ → List ℕ → List ℕ → ℕ → Type 0
MasterIs limit c = PortStartIs (λ (x : PortMaster). MasterWords.packed limit x.master) master_words unpacked_master MasterWords.limit_at limit (limited limit c)

pub master_taken : (limit k : ℕ) (l : Result ℕ Refusal) (x : PortMaster) (words port words-after port-after : List ℕ) → called_as l ≡ limited limit (accepted limit) → l ≡ Ok k → PortMasterFits x
    → words-after ≡ MasterWords.packed k x.master → port-after ≡ master_words x → MasterIs limit (accepted x) words port words-after port-after 0
master_taken limit k l x words port words-after port-after q e f p o =
    let i = limit_inside limit k l q e in
    taken (λ (x : PortMaster). MasterWords.packed limit x.master) master_words unpacked_master MasterWords.limit_at limit x words port words-after port-after i.1
    (p ∙ ap (λ (n : ℕ). MasterWords.packed n x.master) i.0) o (port_master_kept limit x f) (MasterKept.limit_kept limit x.master (omega (arith, limit_byte limit _ refl i.1)))

pub master_long : (limit : ℕ) (l : Result ℕ Refusal) (why : Refusal) (x : PortMaster) (words port : List ℕ) (r : ℕ) → called_as l ≡ limited limit (accepted limit) → l ≡ Err why → r ≡ number why → MasterIs limit (accepted x) words port words port r
master_long limit l why x words port r q e p = too_long (λ (x : PortMaster). MasterWords.packed limit x.master) master_words unpacked_master MasterWords.limit_at limit x l why words port r q e p

pub ruleset masters = (refl, master_taken, master_long)

-- ---- a device

abbrev DeviceIs : ℕ → Called PortDevice → List ℕ → List ℕ → List ℕ → List ℕ → ℕ → Type 0
DeviceIs limit c = PortStartIs (λ (y : PortDevice). DeviceWords.packed limit y.device) device_words unpacked_device DeviceWords.limit_at limit (limited limit c)

pub device_taken : (limit k : ℕ) (l : Result ℕ Refusal) (y : PortDevice) (words port words-after port-after : List ℕ) → called_as l ≡ limited limit (accepted limit) → l ≡ Ok k → PortDeviceFits y
    → words-after ≡ DeviceWords.packed k y.device → port-after ≡ device_words y → DeviceIs limit (accepted y) words port words-after port-after 0
device_taken limit k l y words port words-after port-after q e f p o =
    let i = limit_inside limit k l q e in
    taken (λ (y : PortDevice). DeviceWords.packed limit y.device) device_words unpacked_device DeviceWords.limit_at limit y words port words-after port-after i.1
    (p ∙ ap (λ (n : ℕ). DeviceWords.packed n y.device) i.0) o (port_device_kept limit y f) (DeviceKept.limit_kept limit y.device (omega (arith, limit_byte limit _ refl i.1)))

pub device_long : (limit : ℕ) (l : Result ℕ Refusal) (why : Refusal) (y : PortDevice) (words port : List ℕ) (r : ℕ) → called_as l ≡ limited limit (accepted limit) → l ≡ Err why → r ≡ number why → DeviceIs limit (accepted y) words port words port r
device_long limit l why y words port r q e p = too_long (λ (y : PortDevice). DeviceWords.packed limit y.device) device_words unpacked_device DeviceWords.limit_at limit y l why words port r q e p

pub ruleset devices = (refl, device_taken, device_long)
