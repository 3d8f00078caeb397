-- The ledgers of the credited answer are those of the premise on command 11, closed at each report and wherever a master sends: so at most one host's answer stands in them, and where one was credited it is the only one.
use Prim.Native.Nat.{ℕ, ◌+◌, ◌≤◌}
use native.Mathlib.Omega.{arith}
use mathlib.Core.Path.{◌≡◌, sym, subst}
use mathlib.Core.Bool.{Bool, true}
use mathlib.Core.List.{List, [], ◌∷◌}
use Rattle.base.specs.Choice.{when◌then◌else◌}
use Rattle.frame.specs.declared.Header.{Header}
use Rattle.turns.specs.Party.{seeks_tag}
use Rattle.turns.specs.Link.{DeviceCall, no_call, gives_answer, gives_content, DeviceSide, DeviceStep, LinkStep, Calls}
use Rattle.turns.specs.Ledgers.{Ledger, blank, told_by, called_by, ledger_after, ledgers_after, blanks, finders}
use Rattle.runs.specs.Credit.{closed, closed_by, closed_after, booked_by, Gave, this_one, another}
use Rattle.turns.specs.declared.CallResult.{CallResult}
use Rattle.turns.specs.declared.DeviceTold.{DeviceTold}
use Rattle.turns.specs.declared.DeviceTold.TheVariants.{Request, Broadcast}
use Rattle.turns.specs.declared.MasterTold.{MasterTold}
use Rattle.turns.specs.declared.MasterTold.TheVariants.{Answered, GivenUp, BroadcastSent}
use Rattle.turns.specs.declared.Sent.{Sent}
use Rattle.turns.specs.declared.Sent.TheVariants.{Silent, Character}

-- every entry is the same, or closed
pub data Within : List Ledger → List Ledger → Type 0 where
  no_entry : Within [] []
  same_and : {g : Ledger} {gs fs : List Ledger} → Within gs fs → Within (g ∷ gs) (g ∷ fs)
  closed_and : {f : Ledger} {gs fs : List Ledger} → Within gs fs → Within (blank ∷ gs) (f ∷ fs)

pub within_blanks : (xs : List DeviceSide) → Within (blanks xs) (blanks xs)
unfolding blanks
within_blanks [] = no_entry
within_blanks (x ∷ xs) = same_and (within_blanks xs)

within_closed : {gs fs : List Ledger} → Within gs fs → Within (closed gs) fs
unfolding closed
within_closed no_entry = no_entry
within_closed (same_and w) = closed_and (within_closed w)
within_closed (closed_and w) = closed_and (within_closed w)

within_report : (t : MasterTold) {gs fs : List Ledger} → Within gs fs → Within (closed_by t gs) fs
within_report MasterTold.Nothing w = w
within_report (Answered v) w = within_closed w
within_report (GivenUp n) w = within_closed w
within_report BroadcastSent w = within_closed w

within_sent : (t : Sent) {gs fs : List Ledger} → Within gs fs → Within (closed_after t gs) fs
within_sent Silent w = w
within_sent (Character c) w = within_closed w

-- a closed entry stays closed, until its host is told another request
entry_after : (c : DeviceCall) (s : DeviceStep) (f : Ledger) {gs fs : List Ledger} → Within gs fs → Within (ledger_after c s blank ∷ gs) (ledger_after c s f ∷ fs)
entry_after c s f {gs} {fs} w = by_told s.told c s.result
  where
    by_call : (c : DeviceCall) (a : CallResult) → Within (called_by c a blank ∷ gs) (called_by c a f ∷ fs)
    by_call no_call a = closed_and w
    by_call (gives_answer wish put) CallResult.Nothing = closed_and w
    by_call (gives_answer wish put) CallResult.Taken = closed_and w
    by_call (gives_answer wish put) (CallResult.Refused why) = closed_and w
    by_call (gives_content command put) a = closed_and w

    by_told : (t : DeviceTold) (c : DeviceCall) (a : CallResult) → Within (called_by c a (told_by t blank) ∷ gs) (called_by c a (told_by t f) ∷ fs)
    by_told DeviceTold.Nothing c a = by_call c a
    by_told (Request v) c a = same_and w
    by_told (Broadcast v) c a = by_call c a

within_after : (cs : List DeviceCall) (ss : List DeviceStep) {gs fs : List Ledger} → Within gs fs → Within (ledgers_after cs ss gs) (ledgers_after cs ss fs)
unfolding ledgers_after
within_after cs [] w = no_entry
within_after cs (s ∷ ss) no_entry = no_entry
within_after [] (s ∷ ss) (same_and w) = same_and (within_after [] ss w)
within_after (c ∷ cs) (s ∷ ss) (same_and w) = same_and (within_after cs ss w)
within_after [] (s ∷ ss) (closed_and {f} w) = entry_after no_call s f (within_after [] ss w)
within_after (c ∷ cs) (s ∷ ss) (closed_and {f} w) = entry_after c s f (within_after cs ss w)

pub within_tick : (c : Calls) (s : LinkStep) {gs fs : List Ledger} → Within gs fs → Within (booked_by c s gs) (ledgers_after c.for_devices s.for_devices fs)
within_tick c s w =
    within_sent s.for_primary.sent
    (within_sent s.for_secondary.sent (within_after c.for_devices s.for_devices (within_report s.for_primary.told (within_report s.for_secondary.told w))))

pub finders_within : {gs fs : List Ledger} → Within gs fs → finders gs ≤ finders fs
unfolding finders when◌then◌else◌
finders_within no_entry = omega arith
finders_within (same_and w) = omega (arith, finders_within w)
finders_within (closed_and w) = omega (arith, finders_within w)

-- at the start
pub no_finder : (xs : List DeviceSide) → finders (blanks xs) ≤ 1
unfolding finders blanks when◌then◌else◌
no_finder [] = omega arith
no_finder (x ∷ xs) = omega (arith, no_finder xs)

-- one whose answer is credited is a finder
pub gave_found : {h : Header} {put : List ℕ} {xs : List DeviceSide} {gs : List Ledger} → seeks_tag h ≡ true → Gave h put xs gs → 1 ≤ finders gs
unfolding finders when◌then◌else◌
gave_found {h} tag (this_one {gs = gs} may) = subst (λ (b : Bool). 1 ≤ (when b then 1 else 0) + finders gs) (sym tag) (omega arith)
gave_found tag (another g) = omega (arith, gave_found tag g)
