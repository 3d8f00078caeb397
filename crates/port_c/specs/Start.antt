-- How the code stands for what is to be believed.
-- The starts of the port's master and of a device of the port, over both arrays of words; those of the pair are over one (crates/state_start_c/specs/Start.antt). The data limit is that of document 02, item 12.
use Rattle.std.specs.Prelude.{ℕ, List, ◌≡◌}
use Rattle.base.specs.Lent.{Lent, before, after}
use Rattle.base.specs.Refusal.{Called, accepted, refused}
use Rattle.state_start_c.specs.Start.{start_number, start_words, LimitIs, limited}
use Rattle.master_c.specs.Words as MasterWords
use Rattle.device_c.specs.Words as DeviceWords
use Rattle.port.specs.declared.PortDevice.{PortDevice}
use Rattle.port.specs.declared.PortMaster.{PortMaster}
use Rattle.port_c.specs.Words.{master_words, unpacked_master, device_words, unpacked_device}

-- the words of a fresh party are unpacked to it, so that its first tick begins with it
abbrev pub UnpackedIs : {A : Type 0} → (List ℕ → List ℕ → A) → Called A → List ℕ → List ℕ → Type 0
UnpackedIs unpacked (accepted fresh) words port = unpacked words port ≡ fresh
UnpackedIs unpacked (refused why) words port = Unit {0}

pub record PortStartIs {A : Type 0} (packed : A → List ℕ) (ported : A → List ℕ) (unpacked : List ℕ → List ℕ → A) (limit-at : List ℕ → ℕ) (limit : ℕ)
    (started : Called A) (words port words-after port-after : List ℕ) (r : ℕ) : Type 0 where
  pub returned : r ≡ start_number started
  pub words_are : words-after ≡ start_words packed started words
  pub port_are : port-after ≡ start_words ported started port
  pub unpacked_is : UnpackedIs unpacked started words-after port-after
  pub limit_is : LimitIs limit-at limit started words-after

-- refused with 2, then with 9
abbrev pub PortMasterLeft : ℕ → Called PortMaster → Lent (List ℕ) → Lent (List ℕ) → ℕ → Type 0
PortMasterLeft limit started words port r =
    PortStartIs (λ (x : PortMaster). MasterWords.packed limit x.master) master_words unpacked_master MasterWords.limit_at limit (limited limit started)
    (before words) (before port) (after words) (after port) r

-- refused with 3 and 4, then with 9
abbrev pub PortDeviceLeft : ℕ → Called PortDevice → Lent (List ℕ) → Lent (List ℕ) → ℕ → Type 0
PortDeviceLeft limit started words port r =
    PortStartIs (λ (y : PortDevice). DeviceWords.packed limit y.device) device_words unpacked_device DeviceWords.limit_at limit (limited limit started)
    (before words) (before port) (after words) (after port) r
