-- What the parties sent in the ticks of a run of six devices: from the rows of numbers, and where nobody sends.
use Prim.Native.Nat.{ℕ, zero, suc, ◌+◌, ◌-◌, ◌%◌, ◌≤◌}
use native.Mathlib.Omega.{arith}
use mathlib.Core.Bool.{Bool, true, false}
use mathlib.Core.Path.{◌≡◌, refl, sym, ap, ◌∙◌}
use mathlib.Core.List.{List, [], ◌∷◌, ◌++◌, map}
use lib.ListN.{length, take, drop, replicate}
use lib.Seq.{take-append_seam}
use borrow.Author.Tests.{ltb-false}
use Rattle.std.specs.Prelude.{Option, Some, None}
use Rattle.base.specs.Choice.{when◌then◌else◌, ◌<?◌}
use Rattle.base.proofs.Choices.{true_false, if_below, if_not_below}
use Rattle.line.specs.declared.Heard.{Heard}
use Rattle.turns.specs.Link.{DeviceCall, DeviceSide, DeviceStep, Calls, LinkStep, device_tick, device_ticks, sides, link_tick, link_after, run}
use Rattle.turns.specs.Link as L
use Rattle.turns.specs.Run.{EachTick, no_tick, tick_and, count, device_senders, senders}
use Rattle.turns.specs.declared.Device.{Device}
use Rattle.turns.specs.declared.Sent.{Sent}
use Rattle.turns.specs.declared.Sent.TheVariants.{Silent, Character}
use Rattle.player_listing.specs.Sents.{devices_sent, sent_of, sent_in}
use Rattle.player_listing.specs.Rows.{sent_for, row_sent, rows_sent, lesser, rows_listed}
use Rattle.party.specs.Numbers.{sent_number}
use Rattle.link_parties.specs.Stands.{Rows, devices_from, heres, uncalled}
use Rattle.link_ticks.specs.Ticks.{on_here, device_code, codes, codes_of, SendsByte, sends_none, sends_byte, DevicesSendBytes, no_device, device_and, SendBytes}
use Rattle.link_rests.specs.Uncalled.{uncalled_tick, after_ticks}
use Rattle.player.proofs.Runs.{rests_later}

-- ---- how many devices

as_many_steps : (heard : Heard) (xs : List DeviceSide) (cs : List DeviceCall) → length (device_ticks 255 heard xs cs) ≡ length xs
unfolding device_ticks
as_many_steps heard [] cs = refl
as_many_steps heard (x ∷ xs) [] = ap suc (as_many_steps heard xs [])
as_many_steps heard (x ∷ xs) (c ∷ cs) = ap suc (as_many_steps heard xs cs)

as_many_sides : (ss : List DeviceStep) → length (sides ss) ≡ length ss
unfolding sides
as_many_sides [] = refl
as_many_sides (s ∷ ss) = ap suc (as_many_sides ss)

-- six devices tick
abbrev pub SixTick : LinkStep → Type 0
SixTick s = length s.for_devices ≡ 6

pub six_on : (l : L.Link) (c : Calls) → length l.devices ≡ 6 → SixTick (link_tick 255 l c)
unfolding link_tick
six_on l c e = as_many_steps l.line l.devices c.for_devices ∙ e

pub six_behind : (l : L.Link) (c : Calls) → length l.devices ≡ 6 → length (link_after (link_tick 255 l c)).devices ≡ 6
six_behind l c e = as_many_sides (link_tick 255 l c).for_devices ∙ six_on l c e

pub six_run : (cs : List Calls) (l : L.Link) → length l.devices ≡ 6 → EachTick SixTick (run 255 l cs)
unfolding run
six_run [] l e = no_tick
six_run (c ∷ cs) l e = tick_and (six_on l c e) (six_run cs (link_after (link_tick 255 l c)) (six_behind l c e))

all_here : (x : Rows) (i n : ℕ) (ss : List (Option Device)) → heres ss ≡ replicate n true → length (devices_from x i ss) ≡ n
unfolding devices_from
all_here x i zero [] e = refl
all_here x i (suc n) [] e = let k : ◌≡◌ {A = ℕ} 0 (suc (length {A = Bool} (replicate n true))) = ap length e in absurd (omega (arith, k))
all_here x i zero (s ∷ ss) e = let k : suc (length (heres ss)) ≡ 0 = ap length e in absurd (omega (arith, k))
all_here x i (suc n) (None ∷ ss) e = absurd (true_false (sym (ap first e)))
  where
    first : List Bool → Bool
    first [] = true
    first (b ∷ bs) = b
all_here x i (suc n) (Some d ∷ ss) e = ap suc (all_here x (suc i) n ss (ap others e))
  where
    others : List Bool → List Bool
    others [] = []
    others (b ∷ bs) = bs

pub six_here : (x : Rows) (ss : List (Option Device)) → heres ss ≡ replicate 6 true → length (devices_from x 0 ss) ≡ 6
six_here x ss e = all_here x 0 6 ss e

-- ---- the rows of numbers

sent_as : {s : Sent} → SendsByte s → sent_for (sent_number s) ≡ s
sent_as sends_none = sym (if_below 0 256 Silent Silent (Character 0) (omega arith) refl)
sent_as (sends_byte {c} h) =
    let byte : c ≡ (256 + c) % 256 = omega (arith, h) in
    sym (if_not_below (256 + c) 256 (Character c) Silent (Character ((256 + c) % 256)) (omega arith) (ap Character byte))

devices_as : (n : ℕ) {ss : List DeviceStep} → length ss ≡ n → DevicesSendBytes ss → map sent_for (on_here device_code (replicate n true) ss (replicate n 0)) ≡ devices_sent ss
unfolding on_here devices_sent
devices_as zero e no_device = refl
devices_as (suc n) e no_device = absurd (omega (arith, e))
devices_as zero e (device_and p ps) = absurd (omega (arith, e))
devices_as (suc n) e (device_and p ps) = λ i. sent_as p i ∷ devices_as n (omega (arith, e)) ps i

row_as : {s : LinkStep} → SixTick s → SendBytes s → row_sent (codes (replicate 6 true) s) ≡ sent_of s
unfolding row_sent
row_as e p = λ i. sent_as p.primary i ∷ sent_as p.secondary i ∷ devices_as 6 e p.devices i

rows_as : {ss : List LinkStep} → EachTick SixTick ss → EachTick SendBytes ss → rows_sent (codes_of (replicate 6 true) ss) ≡ sent_in ss
unfolding rows_sent codes_of sent_in
rows_as no_tick no_tick = refl
rows_as (tick_and e es) (tick_and p ps) = λ i. row_as e p i ∷ rows_as es ps i

codes_count : (hs : List Bool) (ss : List LinkStep) → length (codes_of hs ss) ≡ length ss
unfolding codes_of
codes_count hs [] = refl
codes_count hs (s ∷ ss) = ap suc (codes_count hs ss)

lesser_is : (m n : ℕ) → m ≤ n → lesser m n ≡ m
unfolding when◌then◌else◌
lesser_is m n h = by (m <? n) refl
  where
    by : (t : Bool) → (m <? n) ≡ t → (when t then m else n) ≡ m
    by true e = refl
    by false e = omega (arith, ltb-false m n e)

-- the rows that are listed are those of the ticks
pub listed_sent : (tick n : ℕ) (hs : List Bool) (ss : List LinkStep) (sent sent_after : List (List ℕ)) → hs ≡ replicate 6 true → EachTick SixTick ss → EachTick SendBytes ss
    → n ≡ length ss → n ≤ 64 → n ≤ 4294967295 - tick → sent_after ≡ codes_of hs ss ++ drop (length ss) sent → rows_sent (take (rows_listed tick n) sent_after) ≡ sent_in ss
listed_sent tick n hs ss sent sent_after all six bytes count few numbered e =
    let rows : rows_listed tick n ≡ length (codes_of hs ss) = ap (λ (m : ℕ). lesser m (4294967295 - tick)) (lesser_is n 64 few) ∙ lesser_is n (4294967295 - tick) numbered ∙ count ∙ sym (codes_count hs ss) in
    (λ i. rows_sent (take (rows i) (e i)))
    ∙ ap rows_sent (take-append_seam (codes_of hs ss) (drop (length ss) sent))
    ∙ ap (λ (bs : List Bool). rows_sent (codes_of bs ss)) all
    ∙ rows_as six bytes

-- ---- nobody sends

silent_is : (s : Sent) → count s ≡ 0 → s ≡ Silent
silent_is Silent e = refl
silent_is (Character c) e = absurd (omega (arith, e))

devices_silent : (n : ℕ) (ss : List DeviceStep) → length ss ≡ n → device_senders ss ≡ 0 → devices_sent ss ≡ replicate n Silent
unfolding device_senders devices_sent
devices_silent zero [] l e = refl
devices_silent (suc n) [] l e = absurd (omega (arith, l))
devices_silent zero (s ∷ ss) l e = absurd (omega (arith, l))
devices_silent (suc n) (s ∷ ss) l e = λ i. silent_is s.sent (omega (arith, e)) i ∷ devices_silent n ss (omega (arith, l)) (omega (arith, e)) i

tick_silent : (s : LinkStep) → SixTick s → senders s ≡ 0 → sent_of s ≡ replicate 8 Silent
tick_silent s l e = λ i.
    silent_is s.for_primary.sent (omega (arith, e)) i
    ∷ silent_is s.for_secondary.sent (omega (arith, e)) i
    ∷ devices_silent 6 s.for_devices l (omega (arith, e)) i

pub silent_run : (n : ℕ) (l : L.Link) → length l.devices ≡ 6 → ((i : ℕ) → senders (uncalled_tick (after_ticks i l)) ≡ 0) → sent_in (run 255 l (replicate n uncalled)) ≡ replicate n (replicate 8 Silent)
unfolding run sent_in after_ticks
silent_run zero l six h = refl
silent_run (suc n) l six h =
    (λ i. tick_silent (uncalled_tick l) (six_on l uncalled six) (h 0) i
    ∷ silent_run n (link_after (uncalled_tick l)) (six_behind l uncalled six) (rests_later (λ (z : L.Link). senders (uncalled_tick z) ≡ 0) l h) i)
