-- Laws of the calls that a script wants: each call by what is wanted, equal parts make equal calls, and the code's calls stand for the script's.
use Rattle.std.specs.Prelude.{Option, Some, None}
use Prim.Native.Nat.{ℕ, zero, suc, ◌≤◌, ◌<◌}
use native.Mathlib.Omega.{arith}
use mathlib.Core.Bool.{Bool, true, false}
use mathlib.Core.Path.{◌≡◌, refl, sym, ap, ◌∙◌}
use mathlib.Core.List.{List, [], ◌∷◌}
use lib.ListN.{take, get_or, replicate}
use Rattle.base.specs.Choice.{when◌then◌else◌, ◌=?◌}
use Rattle.turns.specs.Link as L
use Rattle.turns.specs.declared.Wish.{Wish}
use Rattle.turns.specs.declared.Wish.TheVariants.{Same, On, Off}
use Rattle.turns.proofs.Bursting.{if_both}
use Rattle.device_tick.specs.declared.DeviceCall.{DeviceCall}
use Rattle.link_parties.specs.Stands.{master_call_of, device_call_of, device_calls_from, calls_of}
use Rattle.link_parties.specs.declared.Calls.{Calls}
use Rattle.link_parties.specs.declared.DeviceCallWithPart.{DeviceCallWithPart}
use Rattle.link_parties.specs.declared.MasterCallWithPart.{MasterCallWithPart}
use Rattle.link_parties.specs.declared.Part.{Part}
use Rattle.player_script.specs.declared.Form.{Form}
use Rattle.player_script.specs.declared.Form.TheVariants.{Old, New}
use Rattle.player_script.specs.Script.{entry_of, long_entry_of, records_of, long_records_of, records_in, is_of, call_of, wanted_at, master_call, device_call, device_call_at, calls_at, tick_of}
use Rattle.player_script.specs.declared.Entry.{Entry}
use Rattle.player_script.specs.declared.ScriptCall.{ScriptCall}
use Rattle.player_script.specs.declared.ScriptTick.{ScriptTick}
use Rattle.player_calls.specs.Calls.{zero_bytes, zeros, request_with, master_call_for, answer_with, device_call_for, device_call_in, calls_for}

-- ---- equal parts make equal calls

pub request_is : (part : Part) (long : Bool) (address command : ℕ) → part ≡ zeros 0
    → ◌≡◌ {A = MasterCallWithPart} (record { call = Some (record { preamble = 5; revision = 7; long = long; address = address; command = command }); part = part }) (request_with long address command)
request_is part long address command e = λ i. record { call = Some (record { preamble = 5; revision = 7; long = long; address = address; command = command }); part = e i }

pub answer_is : (part : Part) (wish : Wish) (count : ℕ) → part ≡ zeros count → ◌≡◌ {A = DeviceCallWithPart} (record { call = DeviceCall.Answers wish; part = part }) (answer_with wish count)
answer_is part wish count e = λ i. record { call = DeviceCall.Answers wish; part = e i }

pub content_is : (part : Part) (command n : ℕ) → part ≡ zeros n → ◌≡◌ {A = DeviceCallWithPart} (record { call = DeviceCall.Content command; part = part }) (record { call = DeviceCall.Content command; part = zeros n })
content_is part command n e = λ i. record { call = DeviceCall.Content command; part = e i }

pub calls_are : (tick : ℕ) (t : ScriptTick) (a b : MasterCallWithPart) (c d e f g h : DeviceCallWithPart) → a ≡ master_call_for (get_or t.calls 0 None) → b ≡ master_call_for (get_or t.calls 1 None)
    → c ≡ device_call_in tick (get_or t.calls 2 None) → d ≡ device_call_in tick (get_or t.calls 3 None) → e ≡ device_call_in tick (get_or t.calls 4 None)
    → f ≡ device_call_in tick (get_or t.calls 5 None) → g ≡ device_call_in tick (get_or t.calls 6 None) → h ≡ device_call_in tick (get_or t.calls 7 None)
    → ◌≡◌ {A = Calls} (record { masters = a ∷ b ∷ []; devices = c ∷ d ∷ e ∷ f ∷ g ∷ h ∷ [] }) (calls_for tick t)
calls_are tick t a b c d e f g h p q r s u v w x = λ i. record { masters = p i ∷ q i ∷ []; devices = r i ∷ s i ∷ u i ∷ v i ∷ w i ∷ x i ∷ [] }

-- by the case that a `match` has told
pub master_by : (x : MasterCallWithPart) (w v : Option ScriptCall) → w ≡ v → x ≡ master_call_for v → x ≡ master_call_for w
master_by x w v e p = p ∙ ap master_call_for (sym e)

pub device_by : (x : DeviceCallWithPart) (w v : Option ScriptCall) → w ≡ v → x ≡ device_call_for v → x ≡ device_call_for w
device_by x w v e p = p ∙ ap device_call_for (sym e)

pub ruleset wanteds = (refl, request_is, answer_is, content_is, master_by, device_by)

-- ---- the calls stand for the script's

-- so many zero bytes, in front of as many or more
take_zeros : (n m : ℕ) → n ≤ m → take {A = ℕ} n (replicate m 0) ≡ replicate n 0
take_zeros zero m h = refl
take_zeros (suc n) zero h = absurd (omega arith)
take_zeros (suc n) (suc m) h = ap (λ (l : List ℕ). 0 ∷ l) (take_zeros n m (omega arith))

zeros_are : (n : ℕ) → n < 256 → take n zero_bytes ≡ replicate {A = ℕ} n 0
unfolding zero_bytes
zeros_are n h = take_zeros n 255 (omega arith)

-- a call's argument is a byte
data Small : Option ScriptCall → Type 0 where
  wants_none : Small None
  wants_call : {w : ScriptCall} → w.argument < 256 → Small (Some w)

wanted_small : (script : List ℕ) (tick party : ℕ) → ((i : ℕ) → get_or script i 0 < 256) → Small (wanted_at tick party (records_of script))
unfolding records_of wanted_at
wanted_small [] tick party h = wants_none
wanted_small (a ∷ []) tick party h = wants_none
wanted_small (a ∷ b ∷ []) tick party h = wants_none
wanted_small (a ∷ b ∷ c ∷ []) tick party h = wants_none
wanted_small (a ∷ b ∷ c ∷ d ∷ rest) tick party h =
    if_both Small (is_of tick party (entry_of a b c d)) (Some (call_of (entry_of a b c d))) (wanted_at tick party (records_of rest))
    (wants_call {w = call_of (entry_of a b c d)} (h 3)) (wanted_small rest tick party (λ i. h (suc (suc (suc (suc i))))))

long_small : (script : List ℕ) (tick party : ℕ) → ((i : ℕ) → get_or script i 0 < 256) → Small (wanted_at tick party (long_records_of script))
unfolding long_records_of wanted_at
long_small [] tick party h = wants_none
long_small (a ∷ []) tick party h = wants_none
long_small (a ∷ b ∷ []) tick party h = wants_none
long_small (a ∷ b ∷ c ∷ []) tick party h = wants_none
long_small (a ∷ b ∷ c ∷ d ∷ []) tick party h = wants_none
long_small (a ∷ b ∷ c ∷ d ∷ e ∷ []) tick party h = wants_none
long_small (a ∷ b ∷ c ∷ d ∷ e ∷ f ∷ rest) tick party h =
    if_both Small (is_of tick party (long_entry_of a b c d e f)) (Some (call_of (long_entry_of a b c d e f))) (wanted_at tick party (long_records_of rest))
    (wants_call {w = call_of (long_entry_of a b c d e f)} (h 5)) (long_small rest tick party (λ i. h (suc (suc (suc (suc (suc (suc i))))))))

wanted_in : (form : Form) (script : List ℕ) (tick party : ℕ) → ((i : ℕ) → get_or script i 0 < 256) → Small (wanted_at tick party (records_in form script))
unfolding records_in
wanted_in Old script tick party h = wanted_small script tick party h
wanted_in New script tick party h = long_small script tick party h

master_stands : (w : Option ScriptCall) → master_call_of zero_bytes (master_call_for w) ≡ master_call w
unfolding when◌then◌else◌
master_stands None = refl
master_stands (Some w) = by (w.action =? 1)
  where
    by : (b : Bool) → master_call_of zero_bytes (when b then request_with false w.argument 0 else request_with true w.argument 3)
        ≡ (when b then L.requests (record { preamble = 5; revision = 7; long = false; address = w.argument; command = 0 }) []
        else L.requests (record { preamble = 5; revision = 7; long = true; address = w.argument; command = 3 }) [])
    by true = refl
    by false = refl

answer_stands : (w : Option ScriptCall) → Small w → device_call_of zero_bytes (device_call_for w) ≡ device_call w
unfolding when◌then◌else◌
answer_stands _ wants_none = refl
answer_stands _ (wants_call {w} h) = by (w.action =? 2) (w.action =? 4)
  where
    by : (a b : Bool) → device_call_of zero_bytes (when a then answer_with Same w.argument else when b then answer_with On w.argument else answer_with Off w.argument)
        ≡ (when a then L.gives_answer Same (replicate w.argument 0) else when b then L.gives_answer On (replicate w.argument 0) else L.gives_answer Off (replicate w.argument 0))
    by true b = ap (L.gives_answer Same) (zeros_are w.argument h)
    by false true = ap (L.gives_answer On) (zeros_are w.argument h)
    by false false = ap (L.gives_answer Off) (zeros_are w.argument h)

device_stands : (tick party : ℕ) (es : List Entry) → Small (wanted_at tick party es) → device_call_of zero_bytes (device_call_in tick (wanted_at tick party es)) ≡ device_call_at tick party es
unfolding when◌then◌else◌
device_stands tick party es s = by (tick =? 0)
  where
    by : (b : Bool) → device_call_of zero_bytes (when b then record { call = DeviceCall.Content 3; part = zeros 2 } else device_call_for (wanted_at tick party es))
        ≡ (when b then L.gives_content 3 (0 ∷ 0 ∷ []) else device_call (wanted_at tick party es))
    by true = ap (L.gives_content 3) (zeros_are 2 (omega arith))
    by false = answer_stands (wanted_at tick party es) s

pub calls_stand : (form : Form) (script : List ℕ) (tick next : ℕ) → ((i : ℕ) → get_or script i 0 < 256)
    → calls_of zero_bytes (replicate 6 true) (calls_for tick (tick_of tick (records_in form script) next)) ≡ calls_at tick (records_in form script)
unfolding device_calls_from
calls_stand form script tick next h =
    let es = records_in form script in
    let device : (party : ℕ) → device_call_of zero_bytes (device_call_in tick (wanted_at tick party es)) ≡ device_call_at tick party es = λ party. device_stands tick party es (wanted_in form script tick party h) in
    λ i. record {
      for_primary = master_stands (wanted_at tick 0 es) i;
      for_secondary = master_stands (wanted_at tick 1 es) i;
      for_devices = device 2 i ∷ device 3 i ∷ device 4 i ∷ device 5 i ∷ device 6 i ∷ device 7 i ∷ [];
    }
