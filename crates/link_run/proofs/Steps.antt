-- Laws of one tick of a run: its number from what each party sent, and the calls that are read.
use Prim.Native.Nat.{ℕ, zero, suc, ◌+◌, ◌*◌, ◌≤◌, ◌<◌}
use native.Mathlib.Numerals.{add-one}
use native.Mathlib.Omega.{arith}
use mathlib.Core.Bool.{true, false}
use mathlib.Core.Path.{◌≡◌, refl, sym, ap, subst, ◌∙◌}
use mathlib.Core.List.{List, [], ◌∷◌}
use lib.ListN.{length, drop, get_or, replicate, drop_of_length-le}
use lib.Seq.{drop-cons}
use Rattle.std.specs.Prelude.{Option, Some, None}
use Rattle.base.specs.Choice.{when◌then◌else◌}
use Rattle.base.proofs.Choices.{if_not_below}
use Rattle.turns.specs.Link.{DeviceStep, LinkStep, link_tick}
use Rattle.turns.specs.Run.{count, device_senders}
use Rattle.turns.specs.declared.CallResult.{CallResult}
use Rattle.turns.specs.declared.Device.{Device}
use Rattle.turns.specs.declared.Sent.{Sent}
use Rattle.turns.specs.declared.Sent.TheVariants.{Silent, Character}
use Rattle.party.specs.Numbers.{sent_number}
use Rattle.link_parties.specs.Stands.{Rows, devices_from, heres, calls_of}
use Rattle.link_parties.specs.declared.Calls.{Calls}
use Rattle.link_parties.specs.declared.Link.{Link}
use Rattle.link_parties.specs.declared.MasterDid.{MasterDid}
use Rattle.link_parties.specs.declared.Ticked.{Ticked}
use Rattle.link_ticks.specs.Ticks.{on_here, device_code, codes, answer_kept, master_nothing, masters_do}
use Rattle.link_ticks.specs.Ticks as T
use Rattle.link_ticks.proofs.Lists.{any_default}
use Rattle.link_ticks.proofs.Answers.{ticked_each, step_with, one_row, one_masters}
use Rattle.link_list.specs.Ticks.{Here, behind, calls_in}
use Rattle.link_list.specs.Read.{tick_at}
use Rattle.link_list.specs.Nearest.{present}
use Rattle.link_list.proofs.Readings.{calls_are, rest_is}
use Rattle.link_list.specs.declared.TickRead.{TickRead}
use Rattle.link_run.specs.Run.{taken, tick_number}
use Rattle.link_run.specs.Step.{count_in, senders_in, taken_in, row_number}
use Rattle.link_run.proofs.Going.{heres_length}

-- ---- who sends, as a row of numbers tells it

-- the loop over a row: so many of the first n send
pub record Counting (row : List ℕ) (senders n : ℕ) : Type 0 where
  pub eight : length row ≡ 8
  pub within : n ≤ 8
  pub at_most : senders ≤ n
  pub left : senders + senders_in (drop n row) ≡ senders_in row

pub counting_none : (row : List ℕ) → length row ≡ 8 → Counting row 0 0
counting_none row h = record { eight = h; within = omega arith; at_most = omega arith; left = let k : 0 + senders_in row ≡ senders_in row = omega arith in k }

pub counting_more : (row : List ℕ) (senders n k d : ℕ) → Counting row senders n → n < 8 → k ≡ count_in (get_or row n d) → k ≤ 1 → Counting row (senders + k) (n + 1)
unfolding senders_in
counting_more row senders n k d v h e m =
    let first : senders_in (drop n row) ≡ count_in (get_or row n d) + senders_in (drop (n + 1) row) =
    ap senders_in (drop-cons row n d (omega (arith, v.eight, h))) ∙ ap (λ (j : ℕ). count_in (get_or row n d) + senders_in (drop j row)) (sym (add-one n)) in
    record { eight = v.eight; within = omega (arith, h); at_most = omega (arith, v.at_most, m); left = omega (arith, v.left, first, e) }

pub counting_all : (row : List ℕ) (senders n : ℕ) → Counting row senders n → 8 ≤ n → senders ≡ senders_in row
unfolding senders_in
counting_all row senders n v h =
    let none : senders_in (drop n row) ≡ 0 = ap senders_in (drop_of_length-le row {i = n} (omega (arith, v.eight, h))) in
    omega (arith, v.left, none)

pub number_made : (row : List ℕ) (dids : List MasterDid) (d e : MasterDid) (senders a b : ℕ) → length dids ≡ 2 → senders ≡ senders_in row
    → a ≡ taken_in (get_or dids 0 d).result + 4 * count_in (get_or row 0 0) → b ≡ taken_in (get_or dids 1 e).result + 4 * count_in (get_or row 1 0) → senders + 16 * a + 32 * b ≡ row_number row dids
number_made row dids d e senders a b two s p q =
    let first = ap (λ (x : MasterDid). taken_in x.result + 4 * count_in (get_or row 0 0)) (any_default dids 0 d master_nothing (omega (arith, two))) in
    let second = ap (λ (x : MasterDid). taken_in x.result + 4 * count_in (get_or row 1 0)) (any_default dids 1 e master_nothing (omega (arith, two))) in
    λ i. s i + 16 * (p ∙ first) i + 32 * (q ∙ second) i

pub ruleset counting = (refl, counting_none, counting_more, counting_all, number_made)

-- ---- a row of numbers, of a tick

count_is : (s : Sent) → count_in (sent_number s) ≡ count s
unfolding when◌then◌else◌
count_is Silent = refl
count_is (Character c) = sym (if_not_below (256 + c) 256 1 0 1 (omega arith) refl)

blank_senders : (n : ℕ) → senders_in (replicate n 0) ≡ 0
unfolding senders_in when◌then◌else◌
blank_senders zero = refl
blank_senders (suc n) = omega (arith, blank_senders n)

device_senders_lem : (hs : Here) (n : ℕ) (xs : List DeviceStep) → length xs ≡ present hs → length hs ≤ n → senders_in (on_here device_code hs xs (replicate n 0)) ≡ device_senders xs
unfolding on_here senders_in device_senders when◌then◌else◌
device_senders_lem [] zero [] e h = refl
device_senders_lem [] (suc n) [] e h = blank_senders (suc n)
device_senders_lem [] n (x ∷ xs) e h = absurd (omega (arith, e))
device_senders_lem (false ∷ hs) zero xs e h = absurd (omega arith)
device_senders_lem (false ∷ hs) (suc n) xs e h = omega (arith, device_senders_lem hs n xs e (omega (arith, h)))
device_senders_lem (true ∷ hs) zero xs e h = absurd (omega arith)
device_senders_lem (true ∷ hs) (suc n) [] e h = absurd (omega (arith, e))
device_senders_lem (true ∷ hs) (suc n) (x ∷ xs) e h = λ i. count_is x.sent i + device_senders_lem hs n xs (omega (arith, e)) (omega (arith, h)) i

taken_is : (r : CallResult) → taken_in (answer_kept CallResult.Nothing r) ≡ taken r
taken_is CallResult.Nothing = refl
taken_is CallResult.Taken = refl
taken_is (CallResult.Refused why) = refl

number_is : (hs : Here) (s : LinkStep) → length hs ≡ 6 → length s.for_devices ≡ present hs
    → row_number (codes hs s) (masters_do s (replicate 2 master_nothing)) ≡ tick_number s
unfolding senders_in
number_is hs s h e = λ i.
    (count_is s.for_primary.sent i + (count_is s.for_secondary.sent i + device_senders_lem hs 6 s.for_devices e (omega (arith, h)) i))
    + 16 * (taken_is s.for_primary.result i + 4 * count_is s.for_primary.sent i)
    + 32 * (taken_is s.for_secondary.result i + 4 * count_is s.for_secondary.sent i)

-- ---- the devices are those that are here

pub devices_here : (x : Rows) (i : ℕ) (ss : List (Option Device)) → length (devices_from x i ss) ≡ present (heres ss)
unfolding devices_from
devices_here x i [] = refl
devices_here x i (None ∷ ss) = devices_here x (suc i) ss
devices_here x i (Some d ∷ ss) = ap suc (devices_here x (suc i) ss)

-- ---- the tick: its number, whatever the calls were, and what is read of the list

module _ (limit : ℕ) (l : Link) (ticks : List ℕ) (at : ℕ) (x x_after : Rows) (sent sent_after : List (List ℕ)) (read : TickRead) (t : Ticked) where
  pub number_agrees : (c : Calls) → T.RunIs limit l c ticks 1 x sent t x_after sent_after → length l.devices ≡ 6 → row_number (get_or sent_after 0 []) t.masters ≡ tick_number (step_with limit l c ticks x)
  unfolding link_tick
  number_agrees c is six =
      let s = step_with limit l c ticks x in
      (λ i. row_number (one_row limit l c ticks x x_after sent sent_after t is i) (one_masters limit l c ticks x x_after sent sent_after t is i))
      ∙ number_is (heres l.devices) s (heres_length l.devices ∙ six)
      (ticked_each limit l.line (devices_from x 0 l.devices) _ ∙ devices_here x 0 l.devices)

  module _ (reads : read ≡ tick_at ticks at) (six : length l.devices ≡ 6) where
    pub calls_read : calls_of ticks (heres l.devices) read.calls ≡ calls_in (heres l.devices) (drop at ticks)
    calls_read = ap (λ (r : TickRead). calls_of ticks (heres l.devices) r.calls) reads ∙ calls_are ticks (heres l.devices) at (omega (arith, heres_length l.devices, six))

    pub next_read : drop read.next ticks ≡ behind 8 (drop at ticks)
    next_read = ap (λ (r : TickRead). drop r.next ticks) reads ∙ rest_is ticks at
