-- To be believed: what the engine must do, or what is claimed of it.
-- Document 01, "The player": "one line per frame that its sender sent to the end before the stop, alone in each tick". What a master or a device sends from its start on are silent ticks and frames, and the output has a line for each frame that it sent to the end alone, and no other line of that party.
use Rattle.std.specs.Prelude.{ℕ, zero, suc, ◌+◌, ◌-◌, ◌<◌, ◌≡◌, Bool, true, false, List, [], ◌∷◌, ◌++◌, length, take, get_or, replicate}
use Rattle.base.specs.Refusal.{accepted}
use Rattle.base.specs.Choice.{when◌then◌else◌, ◌=?◌}
use Rattle.line.specs.Profile.{profile_made}
use Rattle.line.specs.declared.Profile.{Profile}
use Rattle.turns.specs.Link.{MasterSide, DeviceSide}
use Rattle.turns.specs.Run.{MasterStarts, DeviceStarts}
use Rattle.turns.specs.Bursts.{DeviceInput}
use Rattle.turns.specs.Gaps.{MasterInput, master_sents, device_sents, IsFrame, NoGap}
use Rattle.turns.specs.declared.Sent.{Sent}
use Rattle.turns.specs.declared.Sent.TheVariants.{Silent, Character}
use Rattle.player_listing.specs.Lines.{Line, line_of, quiet_monitor, listens, is_lone, lines_from}
use Rattle.player_listing.specs.declared.Monitor.{Monitor}

-- a frame's characters, one in each tick
unfoldable pub sent_characters : List ℕ → List Sent
sent_characters [] = []
sent_characters (c ∷ cs) = Character c ∷ sent_characters cs

-- "alone in each tick", in n ticks from this one on; `lone` says of each tick whether at most one party sends in it
unfoldable pub alone_for : (ℕ → Bool) → ℕ → ℕ → Bool
alone_for lone tick zero = true
alone_for lone tick (suc n) = when lone tick then alone_for lone (tick + 1) n else false

-- the lines of one party, from this tick on, by what it sends
unfoldable pub party_lines : (ℕ → Bool) → ℕ → ℕ → Monitor → List Sent → List Line
party_lines lone party tick e [] = []
party_lines lone party tick e (s ∷ ss) =
    (listens tick party (lone tick) e s).lines
    ++ party_lines lone party (tick + 1) (listens tick party (lone tick) e s).monitor ss

-- the line of a frame whose first character is sent in this tick: "tick of its last character, party, type, master (0 primary), length in characters"
unfoldable pub frame_line : (ℕ → Bool) → ℕ → ℕ → (w : List ℕ) → IsFrame w → List Line
frame_line lone party tick w f = when alone_for lone tick (length w) then line_of (tick + length w - 1) party f.header (length w) ∷ [] else []

-- what a party sends from this tick on, as silent ticks and frames, and the lines of the frames that it "sent to the end before the stop, alone in each tick". A frame that the stop cuts off has no line.
pub data Frames (lone : ℕ → Bool) (party : ℕ) : ℕ → List Sent → List Line → Type 0 where
  at_stop : {tick : ℕ} → Frames lone party tick [] []
  silent : {tick : ℕ} {ss : List Sent} {ls : List Line} → Frames lone party (tick + 1) ss ls → Frames lone party tick (Silent ∷ ss) ls
  sent_to_end : {tick : ℕ} {w : List ℕ} {ss : List Sent} {ls : List Line} (f : IsFrame w) → Frames lone party (tick + length w) ss ls
      → Frames lone party tick (sent_characters w ++ ss) (frame_line lone party tick w f ++ ls)
  stopped : {tick n : ℕ} {w : List ℕ} → IsFrame w → n < length w → Frames lone party tick (sent_characters (take n w)) []

-- However the silent ticks and frames are told apart, the lines are those of the output.
abbrev pub ListedAsSent : Type 0
ListedAsSent =
    (lone : ℕ → Bool) (party tick : ℕ) (ss : List Sent) (ls : List Line) → Frames lone party tick ss ls → party_lines lone party tick quiet_monitor ss ≡ ls

-- every master and device that started, whatever it hears and its host calls
abbrev pub MasterListed : ℕ → Type 0
MasterListed limit =
    (lone : ℕ → Bool) (party tick : ℕ) (p : Profile) (primary : Bool) (retries : ℕ) (x : MasterSide) (inputs : List MasterInput)
    → profile_made p ≡ accepted p → MasterStarts p primary retries x
    → Frames lone party tick (master_sents limit x inputs) (party_lines lone party tick quiet_monitor (master_sents limit x inputs))

abbrev pub DeviceListed : ℕ → Type 0
DeviceListed limit =
    (lone : ℕ → Bool) (party tick : ℕ) (p : Profile) (x : DeviceSide) (inputs : List DeviceInput) → profile_made p ≡ accepted p → DeviceStarts p x
    → Frames lone party tick (device_sents limit x inputs) (party_lines lone party tick quiet_monitor (device_sents limit x inputs))

-- ---- in the output of all parties

-- the lines of one party
unfoldable pub lines_by : ℕ → List Line → List Line
lines_by party [] = []
lines_by party (l ∷ ls) = when l.party =? party then l ∷ lines_by party ls else lines_by party ls

-- what it sends in each tick
unfoldable pub sent_by : ℕ → List (List Sent) → List Sent
sent_by party [] = []
sent_by party (ss ∷ ticks) = get_or ss party Silent ∷ sent_by party ticks

-- ticks of n parties from this one on, and in which of them at most one sends
pub data Ticks (lone : ℕ → Bool) (n : ℕ) : ℕ → List (List Sent) → Type 0 where
  no_more : {tick : ℕ} → Ticks lone n tick []
  one_more_tick : {tick : ℕ} {ss : List Sent} {ticks : List (List Sent)} → length ss ≡ n → lone tick ≡ is_lone ss → Ticks lone n (tick + 1) ticks
      → Ticks lone n tick (ss ∷ ticks)

-- a party that sends silent ticks and whole frames, as every master and device does from its start on: its lines in the output
abbrev pub OutputListed : Type 0
OutputListed =
    (lone : ℕ → Bool) (n party tick : ℕ) (ticks : List (List Sent)) → Ticks lone n tick ticks → party < n → NoGap [] (sent_by party ticks)
    → Frames lone party tick (sent_by party ticks) (lines_by party (lines_from tick (replicate n quiet_monitor) ticks))
