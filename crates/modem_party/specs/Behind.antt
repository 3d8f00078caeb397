-- To be believed: what the engine must do, or what is claimed of it.
-- Document 02, item 5: "A party behind the chip that reads byte 2 in every tick must send and report, tick for tick, what it does without it." The claim, for any party, with any further accesses of its driver that spare what is heard and sent.
use Rattle.std.specs.Prelude.{ℕ, Bool, true, false, List, [], ◌∷◌, ◌≡◌}
use Rattle.line.specs.declared.Heard.{Heard}
use Rattle.line.specs.declared.Heard.TheVariants.{Silence}
use Rattle.modem.specs.Parity.{ninth}
use Rattle.modem.specs.Chip.{arrives, chip_after, goes_out, tick_ends}
use Rattle.modem.specs.Driver.{hears, transmits, stays_silent, wire}
use Rattle.modem.specs.Further.{Further, hears_among, transmits_among, stays_silent_among, Spares}
use Rattle.modem.specs.declared.Carried.{Carried}
use Rattle.modem.specs.declared.Carried.TheVariants.{Nine}
use Rattle.modem.specs.declared.Chip.{Chip}
use Rattle.modem.specs.declared.ChipHeard.{ChipHeard}
use Rattle.modem.specs.declared.Mark.{Mark}
use Rattle.modem.specs.declared.TickEnded.{TickEnded}
use Rattle.turns.specs.declared.Sent.{Sent}

-- ---- a party, and a list of ticks without the chip

-- a party's tick: the party after it, what it sends, and all that it tells
pub record Step (S T : Type 0) : Type 0 where
  pub behind : S
  pub sent : Sent
  pub told : T

-- what is heard, and the host's call; behind a chip also the ninth bit where damage is marked, and the driver's further accesses
pub record Tick (C : Type 0) : Type 0 where
  pub heard : Heard
  pub bit : Bool
  pub call : C
  pub further : Further

unfoldable pub plain : {S C T : Type 0} → (S → Heard → C → Step S T) → S → List (Tick C) → List (Step S T)
plain step s [] = []
plain step s (t ∷ ts) = step s t.heard t.call ∷ plain step (step s t.heard t.call).behind ts

-- what is asked of a party: it is deaf in the tick after one in which it sent, and a deaf party does what it does in silence (document 01: "A sending party hears nothing")
pub record HearsNot {S C T : Type 0} (step : S → Heard → C → Step S T) (deaf : S → Bool) : Type 0 where
  pub ignores : (s : S) (h : Heard) (c : C) → deaf s ≡ true → step s h c ≡ step s Silence c
  pub sends_deaf : (s : S) (h : Heard) (c : C) (x : ℕ) → (step s h c).sent ≡ Sent.Character x → deaf (step s h c).behind ≡ true

-- ---- the same behind a chip

-- what the driver does with what the party sends
abbrev pub says : Chip → Sent → Chip
says x Sent.Silent = stays_silent x
says x (Sent.Character c) = transmits x c

-- the same among further accesses
abbrev pub says_among : Further → Chip → Sent → Chip
says_among f x Sent.Silent = stays_silent_among f x
says_among f x (Sent.Character c) = transmits_among f x c

pub record Behind (S T : Type 0) : Type 0 where
  pub step : Step S T
  pub chip : Chip
  pub carried : Carried

-- the party's tick is over; what it sends goes out
abbrev pub closes : {S T : Type 0} → Further → Chip → Step S T → Behind S T
closes f x u = record { step = u; chip = chip_after (says_among f x u.sent); carried = goes_out (says_among f x u.sent) }

-- the chip takes what the line carried, and the driver reads
abbrev pub heard_in : {C : Type 0} → Chip → Tick C → ChipHeard
heard_in x t = hears_among t.further (arrives x (wire t.heard t.bit))

-- a tick: the chip takes what the line carried, the driver reads, the party has its tick, the driver writes, the tick ends
abbrev pub behind_tick : {S C T : Type 0} → (S → Heard → C → Step S T) → Chip → S → Tick C → Behind S T
behind_tick step x s t = closes t.further (heard_in x t).chip (step s (heard_in x t).heard t.call)

-- what the party does in a tick, and what goes out on its line
pub record OnLine (S T : Type 0) : Type 0 where
  pub step : Step S T
  pub carried : Carried

abbrev pub on_line : {S T : Type 0} → Behind S T → OnLine S T
on_line b = record { step = b.step; carried = b.carried }

unfoldable pub chipped : {S C T : Type 0} → (S → Heard → C → Step S T) → Chip → S → List (Tick C) → List (OnLine S T)
chipped step x s [] = []
chipped step x s (t ∷ ts) =
    on_line (behind_tick step x s t) ∷ chipped step (behind_tick step x s t).chip (behind_tick step x s t).step.behind ts

-- ---- the claim

-- what the line carries for what a party sends
abbrev pub wire_sent : Sent → Carried
wire_sent Sent.Silent = Carried.Silence
wire_sent (Sent.Character c) = Nine c (ninth c) Mark.Sound

unfoldable pub wired : {S T : Type 0} → List (Step S T) → List (OnLine S T)
wired [] = []
wired (u ∷ us) = record { step = u; carried = wire_sent u.sent } ∷ wired us

-- a chip between two ticks of a party: byte 2 is read, nothing is written, and it is deaf only if the party is. A fresh chip is so.
pub record Rests (x : Chip) (deaf : Bool) : Type 0 where
  pub read_out : x.received ≡ false
  pub ready : x.ready ≡ true
  pub nothing_left : x.sending ≡ false
  pub deaf_too : x.deaf ≡ true → deaf ≡ true

-- in every tick the driver's further accesses, which may be others in each, spare what is heard and sent
pub data Spared (C : Type 0) : List (Tick C) → Type 0 where
  none : Spared C []
  and : {t : Tick C} {ts : List (Tick C)} → Spares t.heard t.further → Spared C ts → Spared C (t ∷ ts)

abbrev pub BehindSame : {S C T : Type 0} → (S → Heard → C → Step S T) → (S → Bool) → Type 0
BehindSame {S} {C} {T} step deaf =
    (x : Chip) (s : S) (ts : List (Tick C)) → Rests x (deaf s) → Spared C ts → chipped step x s ts ≡ wired (plain step s ts)

-- ---- one tick that the code ran, with no further access: the party did `u`, and its chip ended the tick as `e`

pub record BehindIs {S C T : Type 0} (step : S → Heard → C → Step S T) (deaf : S → Bool) (x : Chip) (w : Carried) (s : S) (c : C)
    (u : Step S T) (e : TickEnded) : Type 0 where
  -- the party's tick with what the driver heard, and the chip's end of the tick with what the party sends
  pub ticks : u ≡ step s (hears (arrives x w)).heard c
  pub ends : e ≡ tick_ends (says (hears (arrives x w)).chip u.sent)
  -- and so: the party does what it does without the chip, where the chip was at rest
  pub same : (h : Heard) (bit : Bool) → w ≡ wire h bit → Rests x (deaf s) → u ≡ step s h c
  pub sends : (h : Heard) (bit : Bool) → w ≡ wire h bit → Rests x (deaf s) → e.carried ≡ wire_sent u.sent
  pub rests : (h : Heard) (bit : Bool) → w ≡ wire h bit → Rests x (deaf s) → Rests e.chip (deaf u.behind)
