-- To be believed: what the engine must do, or what is claimed of it.
-- Document 02, item 4: "in every play each kind listed occurs, late answers as past T+STO". Each kind is stated on what a run shows: the calls of each tick, and what every party sends, is told and is answered in it.
use Rattle.std.specs.Prelude.{ℕ, zero, suc, ◌+◌, ◌-◌, ◌<◌, ◌≡◌, Bool, true, false, List, [], ◌∷◌, ◌++◌, length, take, drop}
use Rattle.base.specs.Choice.{when◌then◌else◌, ◌=?◌}
use Rattle.frame.specs.Frame.{frame_bytes}
use Rattle.line.specs.declared.Whole.{Whole}
use Rattle.turns.specs.Link.{MasterCall, no_request, requests, DeviceCall, no_call, gives_answer, DeviceSide, DeviceStep, Link, LinkStep, Calls}
use Rattle.turns.specs.Run.{All, senders}
use Rattle.turns.specs.Demand3.{master_in}
use Rattle.runs.specs.FirstStx.{call_in}
use Rattle.turns.specs.Attempts.{stx_header}
use Rattle.turns.specs.declared.CallResult.{CallResult}
use Rattle.turns.specs.declared.DeviceTold.{DeviceTold}
use Rattle.turns.specs.declared.MasterTold.{MasterTold}
use Rattle.turns.specs.declared.MasterTold.TheVariants.{GivenUp}
use Rattle.turns.specs.declared.Request.{Request}
use Rattle.turns.specs.declared.Sent.{Sent}
use Rattle.turns.specs.declared.Sent.TheVariants.{Silent, Character}
use Rattle.turns.specs.declared.Wish.{Wish}

-- ---- what a run shows

-- what is shown at a place of a list; `other` past its end
unfoldable pub shown_at : {A B : Type 0} → A → (B → A) → ℕ → List B → A
shown_at other show place [] = other
shown_at other show zero (x ∷ xs) = show x
shown_at other show (suc place) (x ∷ xs) = shown_at other show place xs

-- a master in a tick: what its host asks, what becomes of that, and what it tells its host
abbrev pub asked : Bool → ℕ → List Calls → MasterCall
asked primary tick calls = shown_at no_request (call_in primary) tick calls

abbrev pub asked_result : Bool → ℕ → List LinkStep → CallResult
asked_result primary tick steps = shown_at CallResult.Nothing (λ (s : LinkStep). (master_in primary s).result) tick steps

abbrev pub master_told : Bool → ℕ → List LinkStep → MasterTold
master_told primary tick steps = shown_at MasterTold.Nothing (λ (s : LinkStep). (master_in primary s).told) tick steps

-- a device in a tick, by its place among the devices: what its host gives, what becomes of that, what it tells its host, and whether it bursts after the tick
abbrev pub gave : ℕ → ℕ → List Calls → DeviceCall
gave device tick calls = shown_at no_call (λ (c : Calls). shown_at no_call (λ (d : DeviceCall). d) device c.for_devices) tick calls

abbrev pub result_in : ℕ → LinkStep → CallResult
result_in device s = shown_at CallResult.Nothing (λ (d : DeviceStep). d.result) device s.for_devices

abbrev pub gave_result : ℕ → ℕ → List LinkStep → CallResult
gave_result device tick steps = shown_at CallResult.Nothing (λ (s : LinkStep). result_in device s) tick steps

abbrev pub device_told : ℕ → ℕ → List LinkStep → DeviceTold
device_told device tick steps =
    shown_at DeviceTold.Nothing (λ (s : LinkStep). shown_at DeviceTold.Nothing (λ (d : DeviceStep). d.told) device s.for_devices) tick steps

abbrev pub bursts : ℕ → ℕ → List LinkStep → Bool
bursts device tick steps = shown_at false (λ (s : LinkStep). shown_at false (λ (d : DeviceStep). d.side.device.burst) device s.for_devices) tick steps

-- the ticks from one on and before another
abbrev pub between : ℕ → ℕ → List LinkStep → List LinkStep
between from to steps = take (to - from) (drop from steps)

-- ---- "masters' requests": one is taken

pub record Requests (primary : Bool) (steps : List LinkStep) : Type 0 where
  pub tick : ℕ
  pub was_taken : asked_result primary tick steps ≡ CallResult.Taken

-- ---- "late answers as past T+STO"

abbrev pub is_taken : CallResult → Bool
is_taken CallResult.Nothing = false
is_taken CallResult.Taken = true
is_taken (CallResult.Refused why) = false

-- in each of these ticks nobody sends, and no answer of the device is taken
unfoldable pub untouched : ℕ → List LinkStep → Bool
untouched device [] = true
untouched device (s ∷ ss) =
    when senders s =? 0 then (when is_taken (result_in device s) then false else untouched device ss) else false

-- a device is told a request, in T+1, the tick after its last character; since then nobody has sent and no answer was taken; its host answers past T+STO, and is refused with 8
pub record LateAnswer (sto : ℕ) (calls : List Calls) (steps : List LinkStep) : Type 0 where
  pub device : ℕ
  pub request : Whole
  pub t : ℕ
  pub is_told : device_told device (t + 1) steps ≡ DeviceTold.Request request
  pub tick : ℕ
  pub past : t + sto < tick
  pub since : untouched device (between (t + 1) tick steps) ≡ true
  pub wish : Wish
  pub bytes : List ℕ
  pub answers : gave device tick calls ≡ gives_answer wish bytes
  pub is_refused : gave_result device tick steps ≡ CallResult.Refused 8

-- ---- "absent devices"

-- the characters that a master sends in these ticks
abbrev pub with_sent : Sent → List ℕ → List ℕ
with_sent Silent cs = cs
with_sent (Character c) cs = c ∷ cs

unfoldable pub characters_sent : Bool → List LinkStep → List ℕ
characters_sent primary [] = []
characters_sent primary (s ∷ ss) = with_sent (master_in primary s).sent (characters_sent primary ss)

-- some bytes, so many times
unfoldable pub times : ℕ → List ℕ → List ℕ
times zero bytes = []
times (suc n) bytes = bytes ++ times n bytes

-- a master asks a unique address that no device of the link has and that is not broadcast; the master sends its STX R + 1 times, and nothing else; then the message is reported as given up, with R + 1 attempts
pub record AbsentDevice (l : Link) (retries : ℕ) (calls : List Calls) (steps : List LinkStep) : Type 0 where
  pub primary : Bool
  pub request : Request
  pub is_long : request.long ≡ true
  pub not_broadcast : request.address ≡ 0 → ⊥
  pub nobodys : All (λ (x : DeviceSide). x.device.unique ≡ request.address → ⊥) l.devices
  pub tick : ℕ
  pub asks : asked primary tick calls ≡ requests request []
  pub was_taken : asked_result primary tick steps ≡ CallResult.Taken
  pub last : ℕ
  pub attempts : characters_sent primary (between tick last steps) ≡ times (retries + 1) (frame_bytes request.preamble (stx_header primary request) [])
  pub given_up : master_told primary last steps ≡ GivenUp (retries + 1)

-- ---- "burst turned on and off"

-- a device does not burst after tick `on` and does after the next one; later it does after tick `off`, and does not after the next one
pub record BurstTurned (steps : List LinkStep) : Type 0 where
  pub device : ℕ
  pub on : ℕ
  pub off_before : bursts device on steps ≡ false
  pub is_on : bursts device (on + 1) steps ≡ true
  pub off : ℕ
  pub later : on < off
  pub within : off + 1 < length steps
  pub on_before : bursts device off steps ≡ true
  pub is_off : bursts device (off + 1) steps ≡ false

-- ---- every kind

pub record EachKind (l : Link) (sto retries : ℕ) (calls : List Calls) (steps : List LinkStep) : Type 0 where
  pub primary_asks : Requests true steps
  pub secondary_asks : Requests false steps
  pub late : LateAnswer sto calls steps
  pub absent : AbsentDevice l retries calls steps
  pub burst : BurstTurned steps
