-- How the code stands for what is to be believed.
-- The port's words beside those of its master or device. Whatever words a program in C lends, they stand for some master or device; proofs/Kept.antt says that `unpacked_master` and `unpacked_device` give back every one that the code holds.
use Rattle.std.specs.Prelude.{ℕ, ◌+◌, ◌-◌, ◌%◌, ◌^◌, true, false, List, [], ◌∷◌, Option, Some, None}
use Rattle.base.specs.Choice.{when◌then◌else◌, ◌=?◌}
use Rattle.line.specs.declared.Damage.{Damage}
use Rattle.line.specs.declared.Damage.TheVariants.{Parity, Overrun, Framing}
use Rattle.line.specs.declared.Heard.{Heard}
use Rattle.line.specs.declared.Heard.TheVariants.{Silence, Character, Damaged}
use Rattle.line.specs.Heard.{heard_of}
use Rattle.state_words.specs.Fields.{word_at, number_at}
use Rattle.master_c.specs.Words as MasterWords
use Rattle.device_c.specs.Words as DeviceWords
use Rattle.port.specs.declared.Ear.{Ear}
use Rattle.port.specs.declared.Ear.TheVariants.{Awake, PassesOver, Dozes}
use Rattle.port.specs.declared.PortDevice.{PortDevice}
use Rattle.port.specs.declared.PortMaster.{PortMaster}

-- ---- the master's two words: the ticks since an answer, and the wake-up

-- 0, or one more than the characters still to be sent
abbrev pub wake_word : Option ℕ → ℕ
wake_word None = 0
wake_word (Some n) = n + 1

abbrev pub wake_of : ℕ → Option ℕ
wake_of word = when word =? 0 then None else Some ((word - 1) % 2 ^ 16)

abbrev pub master_words : PortMaster → List ℕ
master_words x = x.since ∷ wake_word x.wake ∷ []

abbrev pub unpacked_master : List ℕ → List ℕ → PortMaster
unpacked_master words port = record { master = MasterWords.unpacked words; since = number_at 16 port 0; wake = wake_of (word_at port 1) }

-- ---- a device's six words: how it listens; for one that dozes, kind and character of what was heard in the two ticks before; and the quiet ticks

-- what was heard, by the numbers of `heard_of`
abbrev pub damage_kind : Damage → ℕ
damage_kind Parity = 2
damage_kind Overrun = 3
damage_kind Framing = 4

abbrev pub heard_kind : Heard → ℕ
heard_kind Silence = 0
heard_kind (Character c) = 1
heard_kind (Damaged c kind) = damage_kind kind

abbrev pub heard_character : Heard → ℕ
heard_character Silence = 0
heard_character (Character c) = c
heard_character (Damaged c kind) = c

abbrev pub ear_number : Ear → ℕ
ear_number Awake = 0
ear_number (PassesOver before) = when before then 2 else 1
ear_number (Dozes a b) = 3

abbrev pub ear_first : Ear → Heard
ear_first Awake = Silence
ear_first (PassesOver before) = Silence
ear_first (Dozes a b) = a

abbrev pub ear_second : Ear → Heard
ear_second Awake = Silence
ear_second (PassesOver before) = Silence
ear_second (Dozes a b) = b

abbrev pub ear_by : ℕ → Heard → Heard → Ear
ear_by number a b = when number =? 1 then PassesOver false else when number =? 2 then PassesOver true else when number =? 3 then Dozes a b else Awake

abbrev pub device_words : PortDevice → List ℕ
device_words y =
    ear_number y.ear ∷
    heard_kind (ear_first y.ear) ∷
    heard_character (ear_first y.ear) ∷
    heard_kind (ear_second y.ear) ∷
    heard_character (ear_second y.ear) ∷
    y.quiet ∷ []

abbrev pub unpacked_device : List ℕ → List ℕ → PortDevice
unpacked_device words port = record {
  device = DeviceWords.unpacked words;
  ear = ear_by (word_at port 0) (heard_of (number_at 8 port 1) (number_at 8 port 2)) (heard_of (number_at 8 port 3) (number_at 8 port 4));
  quiet = number_at 16 port 5;
}
