-- To be believed: what the engine must do, or what is claimed of it.
-- Document 02, item 13: "A waiting message (its wake-up, if any) starts within RT1 + 1 ticks of the port's last character or its acceptance, the later counting." This is claimed of the master for every list of what it hears and what its host asks. The proof is in proofs/Starts.
use Rattle.std.specs.Prelude.{ℕ, suc, ◌+◌, ◌≤◌, Bool, ◌≡◌, List, [], ◌∷◌, None}
use Rattle.base.specs.Refusal.{accepted}
use Rattle.line.specs.Gaps.{IsCharacter}
use Rattle.line.specs.declared.Heard.TheVariants.{Silence}
use Rattle.turns.specs.declared.CallResult.{CallResult}
use Rattle.turns.specs.declared.Sent.TheVariants.{Silent, Character}
use Rattle.turns.specs.declared.Stage.TheVariants.{Waiting}
use Rattle.line.specs.Profile.{infrared_profile}
use Rattle.port.specs.Master.{port_master_starts}
use Rattle.port.specs.Ticks.{PortMasterSide, PortMasterStep, MasterInput, port_master_run}

abbrev pub rt1 : ℕ
rt1 = infrared_profile.rt1p

-- From this tick on the message starts, at the latest d ticks after it; a character that the port carries meanwhile starts the count again. Of a start that is due after the list's end nothing is claimed.
pub data StartsWithin : ℕ → List PortMasterStep → Type 0 where
  no_tick : {d : ℕ} → StartsWithin d []
  -- in this tick
  starts : {d c : ℕ} {s : PortMasterStep} {ss : List PortMasterStep} → s.sent ≡ Character c → StartsWithin d (s ∷ ss)
  last : {d : ℕ} {s : PortMasterStep} → s.sent ≡ Silent → StartsWithin d (s ∷ [])
  -- the port is silent in this tick
  waits : {d : ℕ} {s t : PortMasterStep} {ss : List PortMasterStep} → s.sent ≡ Silent → t.heard ≡ Silence → StartsWithin d (t ∷ ss)
      → StartsWithin (suc d) (s ∷ t ∷ ss)
  -- it carries a character in this tick, which is taken in the next: from here RT1 + 1, from the next tick RT1
  anew : {d : ℕ} {s t : PortMasterStep} {ss : List PortMasterStep} → s.sent ≡ Silent → IsCharacter t.heard → StartsWithin rt1 (t ∷ ss)
      → StartsWithin d (s ∷ t ∷ ss)

-- after this tick a message waits, for its first attempt or for a retry that is due, and nothing of it has been sent
pub record IsWaiting (s : PortMasterStep) : Type 0 where
  pub waits : s.side.master.master.message.stage ≡ Waiting
  pub no_wake_up : s.side.master.wake ≡ None

-- every message that was taken; and every retry, from the tick that makes it due on
pub data EachStarts : List PortMasterStep → Type 0 where
  no_more : EachStarts []
  and : {s : PortMasterStep} {ss : List PortMasterStep} → (s.result ≡ CallResult.Taken → StartsWithin (rt1 + 1) (s ∷ ss))
      → (IsWaiting s → StartsWithin rt1 (s ∷ ss)) → EachStarts ss → EachStarts (s ∷ ss)

abbrev pub StartsInTime : Type 0
StartsInTime =
    (limit : ℕ) (primary : Bool) (retries : ℕ) (x : PortMasterSide) (inputs : List MasterInput) → limit ≤ 255
    → port_master_starts primary retries ≡ accepted x.master → EachStarts (port_master_run limit x inputs)
