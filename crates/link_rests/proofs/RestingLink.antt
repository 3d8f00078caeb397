-- A link that rests: what it is behind any number of ticks, and that nobody sends in them.
use Prim.Native.Nat.{ℕ, zero, suc}
use native.Mathlib.Omega.{arith}
use mathlib.Core.Bool.{true, false}
use mathlib.Core.Path.{◌≡◌, refl, sym, ap, subst, ◌∙◌}
use mathlib.Core.List.{List, [], ◌∷◌, map}
use lib.ListN.{get_or}
use Rattle.std.specs.Prelude.{Option, Some, None}
use Rattle.base.specs.Choice.{when◌then◌else◌}
use Rattle.base.proofs.Choices.{true_false}
use Rattle.base.proofs.Tables.{chain_first, chain_second}
use Rattle.line.specs.declared.Heard.{Heard}
use Rattle.line.specs.declared.Heard.TheVariants.{Silence, Character, Damaged}
use Rattle.turns.specs.Link.{DeviceSide, DeviceStep, device_ticks, link_tick, sides, carried, link_after}
use Rattle.turns.specs.Link as L
use Rattle.turns.specs.Run.{All, none, and, device_senders, senders}
use Rattle.turns.specs.declared.Device.{Device}
use Rattle.party.specs.Hears.{is_silence}
use Rattle.link_parties.specs.Stands.{Rows, any_master, device_at, devices_from, link_of}
use Rattle.link_parties.specs.declared.Link.{Link}
use Rattle.link_parties.proofs.Ways.{quiet_device, quiet_master}
use Rattle.link_rests.specs.Uncalled.{uncalled_tick, after_ticks}
use Rattle.link_rests.specs.Rests.{device_rests, device_rested, master_rests, slot_rests, slots_rest, masters_rest, link_rests, timer_rested, slot_rested, link_rested}
use Rattle.link_rests.proofs.Resting.{counts_is, DeviceRests, device_side, device_tick_lem, device_rests_on, device_one_more, MasterRests, master_side, master_tick_lem, master_rests_on}

-- ---- the devices

abbrev SideRests : DeviceSide → Type 0
SideRests x = DeviceRests x.device

unfoldable sides_rested : ℕ → List DeviceSide → List DeviceSide
sides_rested n [] = []
sides_rested n (x ∷ xs) = device_side n x ∷ sides_rested n xs

unfoldable steps : List DeviceSide → List DeviceStep
steps [] = []
steps (x ∷ xs) = quiet_device (device_side 1 x) ∷ steps xs

ticks_rest : {xs : List DeviceSide} → All SideRests xs → device_ticks 255 Silence xs [] ≡ steps xs
unfolding device_ticks steps
ticks_rest none = refl
ticks_rest (and {x = x} p ps) = λ i. device_tick_lem x p i ∷ ticks_rest ps i

steps_sides : (xs : List DeviceSide) → sides (steps xs) ≡ sides_rested 1 xs
unfolding sides steps sides_rested
steps_sides [] = refl
steps_sides (x ∷ xs) = ap (λ (ys : List DeviceSide). device_side 1 x ∷ ys) (steps_sides xs)

steps_carried : (xs : List DeviceSide) → carried (steps xs) ≡ Silence
unfolding carried steps
steps_carried [] = refl
steps_carried (x ∷ xs) = steps_carried xs

steps_sent : (xs : List DeviceSide) → device_senders (steps xs) ≡ 0
unfolding device_senders steps
steps_sent [] = refl
steps_sent (x ∷ xs) = omega (arith, steps_sent xs)

all_rest_on : (n : ℕ) {xs : List DeviceSide} → All SideRests xs → All SideRests (sides_rested n xs)
unfolding sides_rested
all_rest_on n none = none
all_rest_on n (and {x = x} p ps) = and (device_rests_on n x.device p) (all_rest_on n ps)

all_one_more : (n : ℕ) (xs : List DeviceSide) → sides_rested 1 (sides_rested n xs) ≡ sides_rested (suc n) xs
unfolding sides_rested
all_one_more n [] = refl
all_one_more n (x ∷ xs) = λ i. record { device = device_one_more n x.device i; frame = x.frame; bytes = x.bytes; contents = x.contents } ∷ all_one_more n xs i

-- ---- the link

record LinkRests (l : L.Link) : Type 0 where
  pub primary : MasterRests l.primary.master
  pub secondary : MasterRests l.secondary.master
  pub devices : All SideRests l.devices
  pub line_is : l.line ≡ Silence

abbrev rested_link : ℕ → L.Link → L.Link
rested_link n l = record { primary = master_side n l.primary; secondary = master_side n l.secondary; devices = sides_rested n l.devices; line = Silence }

on_silent_line : (l : L.Link) → l.line ≡ Silence → l ≡ record { primary = l.primary; secondary = l.secondary; devices = l.devices; line = Silence }
on_silent_line l e = λ i. record { primary = l.primary; secondary = l.secondary; devices = l.devices; line = e i }

rest_step : (l : L.Link) → LinkRests l → uncalled_tick l ≡ record { for_primary = quiet_master (master_side 1 l.primary); for_secondary = quiet_master (master_side 1 l.secondary); for_devices = steps l.devices }
unfolding link_tick
rest_step l r =
    ap uncalled_tick (on_silent_line l r.line_is)
    ∙ (λ i. record { for_primary = master_tick_lem l.primary r.primary i; for_secondary = master_tick_lem l.secondary r.secondary i; for_devices = ticks_rest r.devices i })

rest_after : (l : L.Link) → LinkRests l → link_after (uncalled_tick l) ≡ rested_link 1 l
rest_after l r =
    ap link_after (rest_step l r)
    ∙ (λ i. record { primary = master_side 1 l.primary; secondary = master_side 1 l.secondary; devices = steps_sides l.devices i; line = steps_carried l.devices i })

-- nobody sends
rest_sent : (l : L.Link) → LinkRests l → senders (uncalled_tick l) ≡ 0
rest_sent l r = omega (arith, ap senders (rest_step l r), steps_sent l.devices)

rests_again : (n : ℕ) (l : L.Link) → LinkRests l → LinkRests (rested_link n l)
rests_again n l r = record { primary = master_rests_on n l.primary.master r.primary; secondary = master_rests_on n l.secondary.master r.secondary; devices = all_rest_on n r.devices; line_is = refl }

rests_for : (n : ℕ) (l : L.Link) → LinkRests l → after_ticks (suc n) l ≡ rested_link (suc n) l
unfolding after_ticks timer_rested
rests_for zero l r = rest_after l r
rests_for (suc n) l r =
    ap (λ (x : L.Link). link_after (uncalled_tick x)) (rests_for n l r)
    ∙ rest_after (rested_link (suc n) l) (rests_again (suc n) l r)
    ∙ (λ i. record { primary = master_side (suc (suc n)) l.primary; secondary = master_side (suc (suc n)) l.secondary; devices = all_one_more (suc n) l.devices i; line = Silence })

rests_on : (n : ℕ) (l : L.Link) → LinkRests l → LinkRests (after_ticks n l)
unfolding after_ticks
rests_on zero l r = r
rests_on (suc n) l r = subst LinkRests (sym (rests_for n l r)) (rests_again (suc n) l r)

-- ---- the code's link

slots_are : (x : Rows) (n i : ℕ) (ss : List (Option Device)) → devices_from x i (map (slot_rested n) ss) ≡ sides_rested n (devices_from x i ss)
unfolding devices_from sides_rested
slots_are x n i [] = refl
slots_are x n i (None ∷ ss) = slots_are x n (suc i) ss
slots_are x n i (Some d ∷ ss) = ap (λ (xs : List DeviceSide). device_at x i (device_rested n d) ∷ xs) (slots_are x n (suc i) ss)

slots_rest_lem : (x : Rows) (i : ℕ) (ss : List (Option Device)) → slots_rest ss ≡ true → All SideRests (devices_from x i ss)
unfolding devices_from slots_rest
slots_rest_lem x i [] e = none
slots_rest_lem x i (None ∷ ss) e = slots_rest_lem x (suc i) ss (chain_second (slot_rests None) (slots_rest ss) e)
slots_rest_lem x i (Some d ∷ ss) e = and (counts_is _ (chain_first (device_rests d) (slots_rest ss) e)) (slots_rest_lem x (suc i) ss (chain_second (device_rests d) (slots_rest ss) e))

module _ (l : Link) (x : Rows) where
  link_are : (n : ℕ) → link_of (link_rested n l) x ≡ rested_link n (link_of l x)
  link_are n = λ i. record { primary = (rested_link n (link_of l x)).primary; secondary = (rested_link n (link_of l x)).secondary; devices = slots_are x n 0 l.devices i; line = Silence }

  silent_is : (h : Heard) → is_silence h ≡ true → h ≡ Silence
  silent_is Silence e = refl
  silent_is (Character c) e = absurd (true_false (sym e))
  silent_is (Damaged c kind) e = absurd (true_false (sym e))

  link_rests_lem : link_rests l ≡ true → LinkRests (link_of l x)
  link_rests_lem e =
      let both = chain_second (is_silence l.line) (when masters_rest l.masters then slots_rest l.devices else false) e in
      let ms = chain_first (masters_rest l.masters) (slots_rest l.devices) both in
      let first = master_rests (get_or l.masters 0 any_master) in
      let second = master_rests (get_or l.masters 1 any_master) in
      record {
        primary = counts_is _ (chain_first first second ms);
        secondary = counts_is _ (chain_second first second ms);
        devices = slots_rest_lem x 0 l.devices (chain_second (masters_rest l.masters) (slots_rest l.devices) both);
        line_is = silent_is l.line (chain_first (is_silence l.line) (when masters_rest l.masters then slots_rest l.devices else false) e);
      }

  -- behind one tick or more
  pub rested_agrees : (n : ℕ) → link_rests l ≡ true → link_of (link_rested (suc n) l) x ≡ after_ticks (suc n) (link_of l x)
  rested_agrees n e = link_are (suc n) ∙ sym (rests_for n (link_of l x) (link_rests_lem e))

  -- nobody sends in any tick
  pub rested_sent : (n : ℕ) → link_rests l ≡ true → senders (uncalled_tick (after_ticks n (link_of l x))) ≡ 0
  rested_sent n e = rest_sent (after_ticks n (link_of l x)) (rests_on n (link_of l x) (link_rests_lem e))
