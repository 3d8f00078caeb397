-- How the code stands for what is to be believed.
-- The starts. For a master or a device: the profile that the start is given, and what the start leaves where it is accepted and where it is refused.
use Rattle.std.specs.Prelude.{ℕ, Bool, List, ◌≡◌}
use Rattle.base.specs.Lent.{Lent, before, after}
use Rattle.base.specs.Choice.{when◌then◌else◌, ◌outside◌to◌}
use Rattle.base.specs.Refusal.{Called, accepted, refused}
use Rattle.frame.specs.Limits.{fewest_answered, most_data}
use Rattle.line.specs.Profile.{profile_made}
use Rattle.line.specs.Reader.{passing}
use Rattle.line.specs.declared.Profile.{Profile}
use Rattle.turns.specs.Device.{device_starts}
use Rattle.turns.specs.Master.{master_starts}
use Rattle.turns.specs.declared.Device.{Device}
use Rattle.turns.specs.declared.Master.{Master}
use Rattle.state_words.specs.Reader.{receiver_words, receiver_at}
use Rattle.master_c.specs.Words as MasterWords
use Rattle.device_c.specs.Words as DeviceWords

-- ---- the tick reader: its words, which are unpacked to a reader at its start

pub record ReaderStarts (words : Lent (List ℕ)) : Type 0 where
  pub words_are : after words ≡ receiver_words passing
  pub unpacked_is : receiver_at (after words) 0 ≡ passing

-- ---- a master or a device

-- the profile, number by number
abbrev pub profile : ℕ → ℕ → ℕ → ℕ → ℕ → Profile
profile sto hold rt2 rt1p rt1s = record { sto = sto; hold = hold; rt2 = rt2; rt1p = rt1p; rt1s = rt1s }

-- what it returns: 0, or the refusal's number
abbrev pub start_number : {A : Type 0} → Called A → ℕ
start_number (accepted fresh) = 0
start_number (refused why) = why

-- the words: those of the fresh party, or what was there
abbrev pub start_words : {A : Type 0} → (A → List ℕ) → Called A → List ℕ → List ℕ
start_words packed (accepted fresh) before = packed fresh
start_words packed (refused why) before = before

-- the words of a fresh party are unpacked to it, so that its first tick begins with it
abbrev pub UnpackedIs : {A : Type 0} → (List ℕ → A) → Called A → List ℕ → Type 0
UnpackedIs unpacked (accepted fresh) after = unpacked after ≡ fresh
UnpackedIs unpacked (refused why) after = Unit {0}

-- document 02, item 12: "a start with a length outside 2 to 255 with 9", beside the refusals of document 01, of which the lowest applies
abbrev pub limited : {A : Type 0} → ℕ → Called A → Called A
limited limit (accepted fresh) = when limit outside fewest_answered to most_data then refused 9 else accepted fresh
limited limit (refused why) = refused why

-- its limit stands in the words
abbrev pub LimitIs : {A : Type 0} → (List ℕ → ℕ) → ℕ → Called A → List ℕ → Type 0
LimitIs limit-at limit (accepted fresh) after = limit-at after ≡ limit
LimitIs limit-at limit (refused why) after = Unit {0}

pub record StartIs {A : Type 0} (packed : A → List ℕ) (unpacked : List ℕ → A) (limit-at : List ℕ → ℕ) (limit : ℕ)
    (started : Called A) (before after : List ℕ) (r : ℕ) : Type 0 where
  pub returned : r ≡ start_number started
  pub words_are : after ≡ start_words packed started before
  pub unpacked_is : UnpackedIs unpacked started after
  pub limit_is : LimitIs limit-at limit started after

-- ---- a master: refused with 1 for the profile, then with 2 and 9

abbrev pub master_by : Called Profile → Bool → ℕ → Called Master
master_by (accepted p) primary retries = master_starts p primary retries
master_by (refused why) primary retries = refused why

abbrev pub MasterLeft : ℕ → Called Master → Lent (List ℕ) → ℕ → Type 0
MasterLeft limit started words r =
    StartIs (MasterWords.packed limit) MasterWords.unpacked MasterWords.limit_at limit (limited limit started) (before words) (after words) r

abbrev pub MasterStarts : Profile → Bool → ℕ → ℕ → Lent (List ℕ) → ℕ → Type 0
MasterStarts p primary retries limit words r = MasterLeft limit (master_by (profile_made p) primary retries) words r

-- ---- a device: refused with 1 for the profile, then with 3, 4 and 9

abbrev pub device_by : Called Profile → ℕ → ℕ → ℕ → Called Device
device_by (accepted p) preamble polling unique = device_starts p preamble polling unique
device_by (refused why) preamble polling unique = refused why

abbrev pub DeviceLeft : ℕ → Called Device → Lent (List ℕ) → ℕ → Type 0
DeviceLeft limit started words r =
    StartIs (DeviceWords.packed limit) DeviceWords.unpacked DeviceWords.limit_at limit (limited limit started) (before words) (after words) r

abbrev pub DeviceStarts : Profile → ℕ → ℕ → ℕ → ℕ → Lent (List ℕ) → ℕ → Type 0
DeviceStarts p preamble polling unique limit words r = DeviceLeft limit (device_by (profile_made p) preamble polling unique) words r
