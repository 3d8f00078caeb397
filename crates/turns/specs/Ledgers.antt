-- To be believed: what the engine must do, or what is claimed of it.
-- For each device a ledger of what its host was told and gave, kept from what a run shows; and item 6's premise on the answers to command 11.
use Rattle.std.specs.Prelude.{ℕ, ◌+◌, ◌≤◌, Bool, true, false, List, [], ◌∷◌}
use Rattle.base.specs.Choice.{when◌then◌else◌}
use Rattle.frame.specs.declared.Header.{Header}
use Rattle.turns.specs.Party.{seeks_tag}
use Rattle.turns.specs.Link.{DeviceCall, no_call, gives_answer, gives_content, DeviceSide, DeviceStep, LinkStep, Calls}
use Rattle.turns.specs.declared.CallResult.{CallResult}
use Rattle.turns.specs.declared.DeviceTold.{DeviceTold}
use Rattle.turns.specs.declared.DeviceTold.TheVariants.{Request, Broadcast}

-- ---- the ledger of a device

pub data Ledger : Type 0 where
  blank : Ledger
  -- its host was told this request last
  told : Header → Ledger
  -- and gave these data as the answer to it
  given : Header → List ℕ → Ledger

-- the host is told a request
abbrev pub told_by : DeviceTold → Ledger → Ledger
told_by DeviceTold.Nothing g = g
told_by (Request w) g = told w.header
told_by (Broadcast w) g = g

-- the host's answer is taken
abbrev pub answered_with : List ℕ → Ledger → Ledger
answered_with put blank = blank
answered_with put (told h) = given h put
answered_with put (given h before) = given h before

abbrev pub answer_by : List ℕ → CallResult → Ledger → Ledger
answer_by put CallResult.Nothing g = g
answer_by put CallResult.Taken g = answered_with put g
answer_by put (CallResult.Refused why) g = g

abbrev pub called_by : DeviceCall → CallResult → Ledger → Ledger
called_by no_call a g = g
called_by (gives_answer wish put) a g = answer_by put a g
called_by (gives_content command put) a g = g

-- a tick of the device
abbrev pub ledger_after : DeviceCall → DeviceStep → Ledger → Ledger
ledger_after c s g = called_by c s.result (told_by s.told g)

unfoldable pub ledgers_after : List DeviceCall → List DeviceStep → List Ledger → List Ledger
ledgers_after calls [] gs = []
ledgers_after calls (s ∷ ss) [] = []
ledgers_after [] (s ∷ ss) (g ∷ gs) = ledger_after no_call s g ∷ ledgers_after [] ss gs
ledgers_after (c ∷ cs) (s ∷ ss) (g ∷ gs) = ledger_after c s g ∷ ledgers_after cs ss gs

-- at the start
unfoldable pub blanks : List DeviceSide → List Ledger
blanks [] = []
blanks (x ∷ xs) = blank ∷ blanks xs

-- ---- item 6: "one tag, one device, so that at most one host's answer to each command 11 is taken"

-- whether its host's answer to the command 11 that it was told last was taken
abbrev pub found : Ledger → Bool
found blank = false
found (told h) = false
found (given h put) = seeks_tag h

-- how many hosts' answers to it were taken. It is one command 11: all devices are told it in the same tick, and what their ledgers held before ends there (`told_together` and `none_outlives` in crates/runs/proofs/Together.antt).
unfoldable pub finders : List Ledger → ℕ
finders [] = 0
finders (g ∷ gs) = (when found g then 1 else 0) + finders gs

-- at most one such answer after every tick, by the calls and what the run shows
pub data OneFinds : List Ledger → List Calls → List LinkStep → Type 0 where
  no_tick : {gs : List Ledger} → OneFinds gs [] []
  tick_and : {gs : List Ledger} {c : Calls} {cs : List Calls} {s : LinkStep} {ss : List LinkStep}
      → finders (ledgers_after c.for_devices s.for_devices gs) ≤ 1
      → OneFinds (ledgers_after c.for_devices s.for_devices gs) cs ss → OneFinds gs (c ∷ cs) (s ∷ ss)
