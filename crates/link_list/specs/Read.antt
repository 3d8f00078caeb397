-- How the code stands for what is to be believed.
-- What is read of a list of ticks at a place of it: the calls of the tick that stands there, each with the part of the list that is its data, and the place after them. That these are the calls of Ticks.antt is proved in proofs/Readings.antt.
use Rattle.std.specs.Prelude.{ℕ, zero, suc, ◌+◌, ◌-◌, ◌≤◌, List, [], ◌∷◌, ◌≡◌, length, drop}
use Rattle.base.specs.Choice.{when◌then◌else◌, ◌<?◌, ◌=?◌}
use Rattle.link_parties.specs.declared.DeviceCallWithPart.{DeviceCallWithPart}
use Rattle.link_parties.specs.declared.MasterCallWithPart.{MasterCallWithPart}
use Rattle.link_parties.specs.declared.Part.{Part}
use Rattle.link_list.specs.Ticks.{kind_in, length_in, request_in, answer_in}
use Rattle.link_list.specs.declared.TickRead.{TickRead}

-- ---- a call

-- its data stand after its first ten bytes; where the list ends before that there are none
abbrev pub part_in : List ℕ → ℕ → Part
part_in ticks at = when length ticks - at <? 10 then record { from = at; count = 0 } else record { from = at + 10; count = length_in (drop at ticks) }

abbrev pub master_call_at : List ℕ → ℕ → MasterCallWithPart
master_call_at ticks at = record { call = request_in (drop at ticks); part = part_in ticks at }

abbrev pub device_call_at : List ℕ → ℕ → DeviceCallWithPart
device_call_at ticks at = record { call = answer_in (drop at ticks); part = part_in ticks at }

-- so many places further, or the end
abbrev pub forward : ℕ → ℕ → ℕ → ℕ
forward at n end = when end - at <? n then end else at + n

-- the place after a call
unfoldable pub next_in : List ℕ → ℕ → ℕ
next_in ticks at = when kind_in (drop at ticks) =? 0 then forward at 1 (length ticks) else forward at (10 + length_in (drop at ticks)) (length ticks)

-- ---- so many calls, one after the other

unfoldable pub calls_from : {A : Type 0} → (List ℕ → ℕ → A) → List ℕ → ℕ → ℕ → List A
calls_from call ticks zero at = []
calls_from call ticks (suc n) at = call ticks at ∷ calls_from call ticks n (next_in ticks at)

-- the place after them
unfoldable pub place_behind : List ℕ → ℕ → ℕ → ℕ
place_behind ticks zero at = at
place_behind ticks (suc n) at = place_behind ticks n (next_in ticks at)

-- what is promised of so many calls that were read from a place on
pub record CallsRead {A : Type 0} (call : List ℕ → ℕ → A) (ticks : List ℕ) (n at : ℕ) (calls : List A) (next : ℕ) : Type 0 where
  pub calls_are : calls ≡ calls_from call ticks n at
  pub next_is : next ≡ place_behind ticks n at
  pub inside : next ≤ length ticks

-- ---- a tick: two calls to the masters, then six to the slots

abbrev pub tick_from : List ℕ → ℕ → TickRead
tick_from ticks at = record {
  calls = record { masters = calls_from master_call_at ticks 2 at; devices = calls_from device_call_at ticks 6 (place_behind ticks 2 at) };
  next = place_behind ticks 8 at;
}

-- past the end of the list the same is read as at its end
abbrev pub tick_at : List ℕ → ℕ → TickRead
tick_at ticks at = tick_from ticks (when at <? length ticks then at else length ticks)
