-- Theorems: the claims of specs/Listed. What a party of a run sends is what it sends by itself, given what the line carried and its host called; from its start on that has no gap.
use Prim.Native.Nat.{ℕ, zero, suc, ◌+◌, ◌-◌, ◌≤◌, ◌<◌}
use native.Mathlib.Omega.{arith}
use mathlib.Core.Path.{◌≡◌, refl, sym, ap, subst, ◌∙◌}
use mathlib.Core.Bool.{Bool, true, false}
use mathlib.Core.List.{List, [], ◌∷◌}
use lib.ListN.{length, get_or, replicate, length-replicate}
use Rattle.base.specs.Choice.{when◌then◌else◌}
use Rattle.base.specs.Refusal.{accepted}
use Rattle.line.specs.Profile.{profile_made, fsk_profile}
use Rattle.line.specs.declared.Heard.{Heard}
use Rattle.line.specs.declared.Profile.{Profile}
use Rattle.line.proofs.Profiles.{fsk_taken}
use Rattle.turns.specs.Device.{device_starts}
use Rattle.turns.specs.Bursts.{DeviceInput}
use Rattle.turns.specs.Gaps.{MasterInput, master_sents, device_sents, NoGap}
use Rattle.turns.specs.Link.{DeviceCall, no_call, DeviceSide, master_tick, device_tick, Link, Calls, device_ticks, sides, link_tick, link_after, run}
use Rattle.turns.specs.Run.{All, none, and, MasterStarts, DeviceStarts}
use Rattle.turns.specs.declared.Sent.{Sent}
use Rattle.turns.specs.declared.Sent.TheVariants.{Silent}
use Rattle.turns.proofs.NoGaps.{master_leaves_no_gap, device_leaves_no_gap}
use Rattle.player_script.specs.Script.{stop_of, calls_from}
use Rattle.player_listing.specs.Lines.{is_lone}
use Rattle.player_listing.specs.FrameLines.{sent_by, Ticks, no_more, one_more_tick}
use Rattle.player_listing.proofs.OutputLines.{output_listed}
use Rattle.player_listing.specs.Sents.{devices_sent, sent_of, sent_in}
use Rattle.player.specs.Play.{ready, ready_link}
use Rattle.player.specs.Listed.{lone_in, ListsFrames, RunListed, PlayListed}

module _ (limit : ℕ) where
  abbrev behind : Link → Calls → Link
  behind l c = link_after (link_tick limit l c)

  -- ---- what each party hears and what its host calls in the ticks of a run

  primary_inputs : Link → List Calls → List MasterInput
  primary_inputs l [] = []
  primary_inputs l (c ∷ cs) = record { heard = l.line; call = c.for_primary } ∷ primary_inputs (behind l c) cs

  secondary_inputs : Link → List Calls → List MasterInput
  secondary_inputs l [] = []
  secondary_inputs l (c ∷ cs) = record { heard = l.line; call = c.for_secondary } ∷ secondary_inputs (behind l c) cs

  device_inputs : ℕ → Link → List Calls → List DeviceInput
  device_inputs k l [] = []
  device_inputs k l (c ∷ cs) = record { heard = l.line; call = get_or c.for_devices k no_call } ∷ device_inputs k (behind l c) cs

  -- ---- what it sends

  primary_sends : (l : Link) (cs : List Calls) → sent_by 0 (sent_in (run limit l cs)) ≡ master_sents limit l.primary (primary_inputs l cs)
  unfolding run sent_in sent_by master_sents link_tick primary_inputs
  primary_sends l [] = refl
  primary_sends l (c ∷ cs) = ap (λ (ss : List Sent). (master_tick limit l.primary l.line c.for_primary).sent ∷ ss) (primary_sends (behind l c) cs)

  secondary_sends : (l : Link) (cs : List Calls) → sent_by 1 (sent_in (run limit l cs)) ≡ master_sents limit l.secondary (secondary_inputs l cs)
  unfolding run sent_in sent_by master_sents link_tick secondary_inputs
  secondary_sends l [] = refl
  secondary_sends l (c ∷ cs) = ap (λ (ss : List Sent). (master_tick limit l.secondary l.line c.for_secondary).sent ∷ ss) (secondary_sends (behind l c) cs)

  -- a device's part in a tick of all devices
  module _ (h : Heard) (d : DeviceSide) where
    sent_at : (xs : List DeviceSide) (cs : List DeviceCall) (k : ℕ) → k < length xs
        → get_or (devices_sent (device_ticks limit h xs cs)) k Silent ≡ (device_tick limit (get_or xs k d) h (get_or cs k no_call)).sent
    unfolding device_ticks devices_sent
    sent_at [] cs k below = absurd (omega arith)
    sent_at (x ∷ xs) [] zero below = refl
    sent_at (x ∷ xs) (c ∷ cs) zero below = refl
    sent_at (x ∷ xs) [] (suc k) below = sent_at xs [] k (omega arith)
    sent_at (x ∷ xs) (c ∷ cs) (suc k) below = sent_at xs cs k (omega arith)

    side_at : (xs : List DeviceSide) (cs : List DeviceCall) (k : ℕ) → k < length xs
        → get_or (sides (device_ticks limit h xs cs)) k d ≡ (device_tick limit (get_or xs k d) h (get_or cs k no_call)).side
    unfolding device_ticks sides
    side_at [] cs k below = absurd (omega arith)
    side_at (x ∷ xs) [] zero below = refl
    side_at (x ∷ xs) (c ∷ cs) zero below = refl
    side_at (x ∷ xs) [] (suc k) below = side_at xs [] k (omega arith)
    side_at (x ∷ xs) (c ∷ cs) (suc k) below = side_at xs cs k (omega arith)

  as_many_sides : (h : Heard) (xs : List DeviceSide) (cs : List DeviceCall) → length (sides (device_ticks limit h xs cs)) ≡ length xs
  unfolding device_ticks sides
  as_many_sides h [] cs = refl
  as_many_sides h (x ∷ xs) [] = ap suc (as_many_sides h xs [])
  as_many_sides h (x ∷ xs) (c ∷ cs) = ap suc (as_many_sides h xs cs)

  as_many_sents : (h : Heard) (xs : List DeviceSide) (cs : List DeviceCall) → length (devices_sent (device_ticks limit h xs cs)) ≡ length xs
  unfolding device_ticks devices_sent
  as_many_sents h [] cs = refl
  as_many_sents h (x ∷ xs) [] = ap suc (as_many_sents h xs [])
  as_many_sents h (x ∷ xs) (c ∷ cs) = ap suc (as_many_sents h xs cs)

  device_sends : (k : ℕ) (d : DeviceSide) (l : Link) (cs : List Calls) → k < length l.devices
      → sent_by (suc (suc k)) (sent_in (run limit l cs)) ≡ device_sents limit (get_or l.devices k d) (device_inputs k l cs)
  unfolding run sent_in sent_by device_sents link_tick device_inputs
  device_sends k d l [] below = refl
  device_sends k d l (c ∷ cs) below =
      let rest = device_inputs k (behind l c) cs in
      let there = device_sends k d (behind l c) cs (omega (arith, as_many_sides l.line l.devices c.for_devices)) in
      (λ i. sent_at l.line d l.devices c.for_devices k below i ∷ there i)
      ∙ ap (λ (x : DeviceSide). (device_tick limit (get_or l.devices k d) l.line (get_or c.for_devices k no_call)).sent ∷ device_sents limit x rest) (side_at l.line d l.devices c.for_devices k below)

  -- ---- the ticks of a run

  ticks_of : (lone : ℕ → Bool) (n tick : ℕ) (l : Link) (cs : List Calls) → n ≡ 2 + length l.devices
      → ((j : ℕ) → lone (tick + j) ≡ is_lone (get_or (sent_in (run limit l cs)) j [])) → Ticks lone n tick (sent_in (run limit l cs))
  unfolding run sent_in link_tick
  ticks_of lone n tick l [] e h = no_more
  ticks_of lone n tick l (c ∷ cs) e h =
      let here : tick + 0 ≡ tick = omega arith in
      let sized : length (sent_of (link_tick limit l c)) ≡ n = omega (arith, as_many_sents l.line l.devices c.for_devices, e) in
      one_more_tick sized (ap lone (sym here) ∙ h 0)
      (ticks_of lone n (tick + 1) (behind l c) cs (omega (arith, e, as_many_sides l.line l.devices c.for_devices)) (λ j. ap lone (onward j) ∙ h (suc j)))
    where
      onward : (j : ℕ) → tick + 1 + j ≡ tick + suc j
      onward j = omega arith

  -- ---- from a start

  all_at : (P : DeviceSide → Type 0) (xs : List DeviceSide) (k : ℕ) (d : DeviceSide) → All P xs → k < length xs → P (get_or xs k d)
  all_at P _ k d none below = absurd (omega arith)
  all_at P _ zero d (and p ps) below = p
  all_at P _ (suc k) d (and {xs = xs} p ps) below = all_at P xs k d ps (omega arith)

  first : (xs : List DeviceSide) (k : ℕ) → k < length xs → DeviceSide
  first [] k below = absurd (omega arith)
  first (x ∷ xs) k below = x

  module _ (low : 2 ≤ limit) (high : limit ≤ 255) (p : Profile) (retries : ℕ) (made : profile_made p ≡ accepted p) (l : Link) (cs : List Calls) where
    no_gap : (party : ℕ) → MasterStarts p true retries l.primary → MasterStarts p false retries l.secondary → All (DeviceStarts p) l.devices → party < 2 + length l.devices
        → NoGap [] (sent_by party (sent_in (run limit l cs)))
    no_gap zero a b ds below =
        subst (NoGap []) (sym (primary_sends l cs)) (master_leaves_no_gap limit high p true retries l.primary (primary_inputs l cs) made a)
    no_gap (suc zero) a b ds below =
        subst (NoGap []) (sym (secondary_sends l cs)) (master_leaves_no_gap limit high p false retries l.secondary (secondary_inputs l cs) made b)
    no_gap (suc (suc k)) a b ds below =
        let one : k < length l.devices = omega arith in
        let d = first l.devices k one in
        subst (NoGap []) (sym (device_sends k d l cs one))
        (device_leaves_no_gap limit low high p (get_or l.devices k d) (device_inputs k l cs) made (all_at (DeviceStarts p) l.devices k d ds one))

    listed : (party : ℕ) → MasterStarts p true retries l.primary → MasterStarts p false retries l.secondary → All (DeviceStarts p) l.devices → party < 2 + length l.devices
        → ListsFrames (2 + length l.devices) party (sent_in (run limit l cs))
    listed party a b ds below =
        output_listed (lone_in ticks) (2 + length l.devices) party 0 ticks
        (ticks_of (lone_in ticks) (2 + length l.devices) 0 l cs refl (λ j. ap (lone_in ticks) (from_none j))) below (no_gap party a b ds below)
      where
        ticks : List (List Sent)
        ticks = sent_in (run limit l cs)

        from_none : (j : ℕ) → 0 + j ≡ j
        from_none j = omega arith

pub run_listed : (limit : ℕ) → 2 ≤ limit → limit ≤ 255 → RunListed limit
run_listed limit low high p retries party l calls made s below = listed limit low high p retries made l calls party s.primary s.secondary s.devices below

-- ---- a play

zeros : (n : ℕ) → n ≤ length {A = ℕ} (replicate n 0)
zeros n = subst (λ (m : ℕ). n ≤ m) (sym (length-replicate {A = ℕ} n 0)) (omega arith)

ready_starts : (party : ℕ) → device_starts fsk_profile 5 (party - 2) party ≡ accepted (ready party).device → DeviceStarts fsk_profile (ready party)
ready_starts party e = record { preamble = 5; polling = party - 2; unique = party; starts = e; room = zeros 284; content_room = zeros 255 }

pub play_listed : PlayListed
unfolding ready_link when◌then◌else◌
play_listed party es below =
    listed 255 (omega arith) (omega arith) fsk_profile 3 fsk_taken ready_link (calls_from 0 (stop_of es) es) party
    (record { starts = refl; room = zeros 284 })
    (record { starts = refl; room = zeros 284 })
    (and (ready_starts 2 refl) (and (ready_starts 3 refl) (and (ready_starts 4 refl) (and (ready_starts 5 refl) (and (ready_starts 6 refl) (and (ready_starts 7 refl) none))))))
    below
