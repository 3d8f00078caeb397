-- Inner contracts: nothing that is to be believed rests on them.
-- What the functions that jump from tick to tick promise, each in terms of what the tick reader finds from there on.
use Rattle.std.specs.Prelude.{ℕ, ◌+◌, ◌-◌, ◌*◌, ◌/◌, ◌%◌, ◌≤◌, ◌<◌, ◌≡◌, Bool, true, false, List, [], ◌++◌, length, drop, Option, Some, None, Result, Ok, Err}
use Rattle.std.specs.Int.Bits.{bit_xor}
use Rattle.base.specs.Choice.{when◌then◌else◌, ◌=?◌, ◌≤?◌}
use Rattle.base.specs.Store.{stored}
use Rattle.line.specs.Reader.{idle, passing, blank, is_damaged}
use Rattle.line.specs.declared.Place.TheVariants.{Preamble, First, Address, Expansion, Command, Count, Data, Check}
use Rattle.line.specs.declared.Receiver.{Receiver}
use Rattle.recording.specs.Recording.{TickIs}
use Rattle.recording.specs.Form.{ticks_of}
use Rattle.recording_list.specs.Listing.{entry, found, listing_of}
use Rattle.recording_list.specs.declared.Item.{Item}
use Rattle.recording_list.specs.declared.Outcome.{Outcome}
use Rattle.recording_list.specs.declared.Outcome.TheVariants.{Ends, Breaks}
use Rattle.recording_list.specs.declared.Run.{Run}
use Rattle.recording_list.specs.declared.Stop.{Stop}
use Rattle.recording_list.specs.declared.Stop.TheVariants.{Broke, Over}

-- what the reader r finds from tick t of a recording on
abbrev pub found_from : List ℕ → ℕ → Receiver → List ℕ
found_from recording t r = found t r (ticks_of (drop (2 * t) recording))

-- ---- ticks

-- a silent tick of a recording, and one with a character
pub record SilentTick (recording : List ℕ) (t : ℕ) : Type 0 where
  pub number : ℕ
  pub tick : TickIs recording t number
  pub is_silent : number ≡ 0
  pub within : 2 * t + 2 ≤ length recording

pub record SoundTick (recording : List ℕ) (t : ℕ) : Type 0 where
  pub number : ℕ
  pub tick : TickIs recording t number
  pub sounds : number ≡ 0 → ⊥
  pub within : 2 * t + 2 ≤ length recording

-- tick u is t, or the next tick where t is silent
pub data Reaches (recording : List ℕ) (t : ℕ) : ℕ → Type 0 where
  at_once : Reaches recording t t
  behind_silence : SilentTick recording t → Reaches recording t (t + 1)

-- ---- inside a frame: the next character

pub record NextAt (recording : List ℕ) (t u : ℕ) : Type 0 where
  pub reaches : Reaches recording t u
  pub sound : SoundTick recording u

-- two silent ticks in a row
pub record TwoSilent (recording : List ℕ) (t u : ℕ) : Type 0 where
  pub first : SilentTick recording t
  pub second : SilentTick recording u
  pub next : u ≡ t + 1

-- no character is left, and at most one silent tick
pub data NoMore (recording : List ℕ) (t : ℕ) : Type 0 where
  no_tick : length recording / 2 ≤ t → NoMore recording t
  last_silent : SilentTick recording t → length recording / 2 ≤ t + 1 → NoMore recording t

abbrev pub NextIs : List ℕ → ℕ → Result ℕ Stop → Type 0
NextIs recording t (Ok u) = NextAt recording t u
NextIs recording t (Err (Broke u)) = TwoSilent recording t u
NextIs recording t (Err Over) = NoMore recording t

-- ---- so many characters

-- whether a character was damaged, after one more tick
abbrev pub harmed_by : Bool → ℕ → Bool
harmed_by harm v = when v % 256 =? 32 then harm else true

-- from tick t up to but not including tick u there are n characters, with at most one silent tick before each; sum and harm are brought up to date, starting from s and b
pub data Walk (recording : List ℕ) (t s : ℕ) (b : Bool) : ℕ → ℕ → ℕ → Bool → Type 0 where
  no_character : Walk recording t s b t 0 s b
  one_more : {u w n sum : ℕ} {harm : Bool} → Walk recording t s b u n sum harm → Reaches recording u w → (k : SoundTick recording w)
      → Walk recording t s b (w + 1) (n + 1) (bit_xor sum (k.number / 256)) (harmed_by harm k.number)

pub record WalkTo (recording : List ℕ) (t s : ℕ) (b : Bool) (need u : ℕ) : Type 0 where
  pub place : ℕ
  pub count : ℕ
  pub sum : ℕ
  pub harm : Bool
  pub walk : Walk recording t s b place count sum harm
  pub fewer : count < need
  pub two : TwoSilent recording place u

pub record WalkOver (recording : List ℕ) (t s : ℕ) (b : Bool) (need : ℕ) : Type 0 where
  pub place : ℕ
  pub count : ℕ
  pub sum : ℕ
  pub harm : Bool
  pub walk : Walk recording t s b place count sum harm
  pub fewer : count < need
  pub none : NoMore recording place

abbrev pub RunIs : List ℕ → ℕ → ℕ → ℕ → Bool → Result Run Stop → Type 0
RunIs recording t need s b (Ok run) = Walk recording t s b run.end need run.sum run.harm
RunIs recording t need s b (Err (Broke u)) = WalkTo recording t s b need u
RunIs recording t need s b (Err Over) = WalkOver recording t s b need

-- other is 0 only where it was 0 before and the tick is an undamaged character
pub record StillSound (other v after : ℕ) : Type 0 where
  pub sound : after ≡ 0 → (other ≡ 0) × (v % 256 ≡ 32)

-- where there is a sum, so many ticks are undamaged characters and Walk holds of them
pub record PlainIs (recording : List ℕ) (t need s : ℕ) (p : Option ℕ) : Type 0 where
  pub run : (sum : ℕ) → p ≡ Some sum → (b : Bool) → Walk recording t s b (t + need) need sum b

-- ---- the reader inside a frame

-- n more characters lead to the byte count
pub data HeadPlace (r : Receiver) (n : ℕ) : Type 0 where
  at_first_place : r.place ≡ First → n ≡ (when r.header.long then 6 else 2) + r.expansion → HeadPlace r n
  at_address_place : (k : ℕ) → r.place ≡ Address k → 1 ≤ k → n ≡ k + r.expansion + 1 → HeadPlace r n
  at_expansion_place : (k : ℕ) → r.place ≡ Expansion k → 1 ≤ k → n ≡ k + 1 → HeadPlace r n
  at_command_place : r.place ≡ Command → n ≡ 1 → HeadPlace r n
  at_count_place : r.place ≡ Count → n ≡ 0 → HeadPlace r n

-- n more characters lead to the check byte
pub data TailPlace (r : Receiver) (n : ℕ) : Type 0 where
  at_data_place : (k : ℕ) → r.place ≡ Data k → k < r.count → n ≡ r.count - k → TailPlace r n
  at_check_place : r.place ≡ Check → n ≡ 0 → TailPlace r n

pub record Inside (s : ℕ) (b : Bool) (r : Receiver) : Type 0 where
  pub summed : r.sum ≡ s
  pub harmed : is_damaged r.damage ≡ b
  pub unchecked : r.damage.check ≡ false
  pub no_gap : r.gap ≡ false

pub record InHead (frame n s : ℕ) (b : Bool) (r : Receiver) : Type 0 where
  pub place : HeadPlace r n
  pub of_frame : r.header.kind ≡ frame
  pub inside : Inside s b r

pub record InTail (n s : ℕ) (b : Bool) (r : Receiver) : Type 0 where
  pub place : TailPlace r n
  pub inside : Inside s b r

-- at the last character: 1 whole, 2 damaged
abbrev pub verdict_of : ℕ → Bool → ℕ
verdict_of sum harm = when harm then 2 else when sum =? 0 then 1 else 2

-- ---- what became of a frame

-- l is what is found from tick t on: an entry, and then what a reader before a frame, or one that passes over characters, finds after it; or nothing
pub record EndsAt (recording : List ℕ) (t : ℕ) (l : List ℕ) (u verdict : ℕ) (r : Receiver) : Type 0 where
  pub from : t ≤ u
  pub within : 2 * u + 2 ≤ length recording
  pub told : l ≡ entry u verdict ++ found_from recording (u + 1) r

abbrev pub OutcomeIs : List ℕ → ℕ → List ℕ → Result Outcome Stop → Type 0
OutcomeIs recording t l (Ok (Ends u verdict)) = EndsAt recording t l u verdict idle
OutcomeIs recording t l (Ok (Breaks u)) = EndsAt recording t l u 0 passing
OutcomeIs recording t l (Err (Broke u)) = EndsAt recording t l u 0 idle
OutcomeIs recording t l (Err Over) = l ≡ []

-- for every reader that is there
pub record TailIs (recording : List ℕ) (t n s : ℕ) (b : Bool) (o : Result Outcome Stop) : Type 0 where
  pub each : (r : Receiver) → InTail n s b r → OutcomeIs recording t (found_from recording t r) o

pub record CountIs (recording : List ℕ) (t frame s : ℕ) (b : Bool) (o : Result Outcome Stop) : Type 0 where
  pub each : (r : Receiver) → InHead frame 0 s b r → OutcomeIs recording t (found_from recording t r) o

pub record HeadIs (recording : List ℕ) (t frame n s : ℕ) (o : Result Outcome Stop) : Type 0 where
  pub each : (r : Receiver) → InHead frame n s false r → OutcomeIs recording t (found_from recording t r) o

pub record FrameIs (recording : List ℕ) (t : ℕ) (r : Receiver) (o : Result Outcome Stop) : Type 0 where
  pub this : OutcomeIs recording t (found_from recording t r) o

-- in the preamble, after one 0xFF or after two
abbrev pub in_preamble : Bool → Receiver
in_preamble two = when two then blank (Preamble 2) else blank (Preamble 1)

-- ---- an entry of the list

pub record ToldAt (recording : List ℕ) (t u verdict next : ℕ) : Type 0 where
  pub onward : t < next
  pub within : 2 * next ≤ length recording
  pub told : found_from recording t idle ≡ entry u verdict ++ found_from recording next idle

abbrev pub ItemIs : List ℕ → ℕ → Option Item → Type 0
ItemIs recording t (Some item) = ToldAt recording t item.tick item.verdict item.next
ItemIs recording t None = found_from recording t idle ≡ []

-- the reader r may leave out the ticks from t up to but not including u, and after them it is s
pub record LeftOut (recording : List ℕ) (t : ℕ) (r : Receiver) (u : ℕ) (s : Receiver) : Type 0 where
  pub from : t ≤ u
  pub within : 2 * u ≤ length recording
  pub same : found_from recording t r ≡ found_from recording u s

-- silence left out, up to a tick with a character or the recording's end
pub record SoundFrom (recording : List ℕ) (t u : ℕ) : Type 0 where
  pub left_out : LeftOut recording t idle u idle
  pub first : u < length recording / 2 → SoundTick recording u

-- where entries are put, the buffer has so many bytes
pub record HasRoom (put : Bool) (need : ℕ) (out : List ℕ) : Type 0 where
  pub room : put ≡ true → need ≤ length out

-- entries after n others, put into the buffer or only counted; r is how many there are then
pub record EntriesAre (put : Bool) (entries : List ℕ) (n : ℕ) (before : List ℕ) (r : ℕ) (after : List ℕ) : Type 0 where
  pub number : 9 * r ≡ 9 * n + length entries
  pub buffer : after ≡ (when put then stored before (9 * n) entries else before)

-- whether the buffer has room for the list; the buffer stays as it was
pub record RoomIs (recording before : List ℕ) (r : Bool) (after : List ℕ) : Type 0 where
  pub answer : r ≡ (length (listing_of recording) ≤? length before)
  pub stays : after ≡ before
