-- A silent tick of a master and of a device, by where the reader stands: outside a frame, inside one, and behind one silent tick inside it. In every tick what a party finds is what its reader tells.
use mathlib.Core.Path.{◌≡◌, refl, sym, ap, ◌∙◌}
use Prim.Native.Nat.{ℕ}
use native.Mathlib.Omega.{arith}
use mathlib.Core.Bool.{Bool, true, false}
use mathlib.Core.List.{List}
use Rattle.base.proofs.Choices.{true_false, if_is_true, if_is_false}
use Rattle.line.specs.Reader.{idle, gapped, inside_frame, tells, taken}
use Rattle.line.specs.declared.Event.{Event}
use Rattle.line.specs.declared.Event.TheVariants.{Nothing, PassedOver, Broken, Frame, Damaged}
use Rattle.line.specs.declared.Heard.{Heard}
use Rattle.line.specs.declared.Heard.TheVariants.{Silence, Character}
use Rattle.line.specs.declared.Receiver.{Receiver}
use Rattle.line.specs.declared.Taken.{Taken}
use Rattle.line.proofs.Ticks.{Inside, outside_idle, gap_passed, gap_breaks}
use Rattle.turns.specs.Master as M
use Rattle.turns.specs.Master.{with_reader, after_break, rt1_ends, master_takes}
use Rattle.turns.specs.Device as D
use Rattle.turns.specs.Device.{broken_due, device_takes}
use Rattle.turns.specs.declared.Master.{Master}
use Rattle.turns.specs.declared.MasterTaken.{MasterTaken}
use Rattle.turns.specs.declared.MasterTold.{MasterTold}
use Rattle.turns.specs.declared.Device.{Device}
use Rattle.turns.specs.declared.DeviceTaken.{DeviceTaken}
use Rattle.turns.specs.declared.DeviceTold.{DeviceTold}
use Rattle.turns.proofs.Bursting.{if_both}

-- a reader that a silent tick leads to idle, with nothing told, is outside a frame
pub ready_outside : (r : Receiver) → taken r Silence ≡ tells idle Nothing → inside_frame r.place ≡ false
ready_outside r e = go (inside_frame r.place) refl r.gap refl
  where
    broken_nothing : Broken ≡ Nothing → ⊥
    broken_nothing q = let z : ◌≡◌ {A = ℕ} 0 1 = cc in omega arith

    go : (inside : Bool) → inside_frame r.place ≡ inside → (gap : Bool) → r.gap ≡ gap → inside_frame r.place ≡ false
    go false o gap g = o
    go true i true g = absurd (broken_nothing (ap (λ (t : Taken). t.event) (sym (gap_breaks r i g) ∙ e)))
    go true i false g = absurd (true_false (ap (λ (t : Taken). t.receiver.gap) (sym (gap_passed r i g) ∙ e)))

module _ (m : Master) where
  as_taken : (t : Taken) → taken m.receiver Silence ≡ t → M.on_silence m (taken m.receiver Silence).receiver ≡ M.on_silence m t.receiver
  as_taken t e = ap (λ (u : Taken). M.on_silence m u.receiver) e

  pub master_outside : inside_frame m.receiver.place ≡ false → M.on_silence m (taken m.receiver Silence).receiver ≡ M.counts (with_reader m idle) MasterTold.Nothing Nothing
  master_outside o = as_taken _ (outside_idle m.receiver o) ∙ if_is_false (inside_frame m.receiver.place) _ _ o

  pub master_passed : Inside m.receiver.place → m.receiver.gap ≡ false → M.on_silence m (taken m.receiver Silence).receiver ≡ M.tells (with_reader m (gapped m.receiver)) MasterTold.Nothing Nothing
  master_passed i g = as_taken _ (gap_passed m.receiver i g) ∙ if_is_true (inside_frame m.receiver.place) _ _ i ∙ if_is_false m.receiver.gap _ _ g

  pub master_second : Inside m.receiver.place → m.receiver.gap ≡ true
      → M.on_silence m (taken m.receiver Silence).receiver ≡ M.counts_twice (after_break m idle Broken).master (after_break m idle Broken).told Broken
  master_second i g = as_taken _ (gap_breaks m.receiver i g) ∙ if_is_true (inside_frame m.receiver.place) _ _ i ∙ if_is_true m.receiver.gap _ _ g

module _ (d : Device) where
  device_taken : (t : Taken) → taken d.receiver Silence ≡ t → D.on_silence d (taken d.receiver Silence).receiver ≡ D.on_silence d t.receiver
  device_taken t e = ap (λ (u : Taken). D.on_silence d u.receiver) e

  pub device_outside : inside_frame d.receiver.place ≡ false → D.on_silence d (taken d.receiver Silence).receiver ≡ D.counts d idle d.due Nothing
  device_outside o = device_taken _ (outside_idle d.receiver o) ∙ if_is_false (inside_frame d.receiver.place) _ _ o

  pub device_passed : Inside d.receiver.place → d.receiver.gap ≡ false
      → D.on_silence d (taken d.receiver Silence).receiver ≡ D.tells (D.device_with d (gapped d.receiver) d.turn d.request d.wish d.length d.due) DeviceTold.Nothing Nothing
  device_passed i g = device_taken _ (gap_passed d.receiver i g) ∙ if_is_true (inside_frame d.receiver.place) _ _ i ∙ if_is_false d.receiver.gap _ _ g

  pub device_second : Inside d.receiver.place → d.receiver.gap ≡ true → D.on_silence d (taken d.receiver Silence).receiver ≡ D.counts d idle (broken_due d) Broken
  device_second i g = device_taken _ (gap_breaks d.receiver i g) ∙ if_is_true (inside_frame d.receiver.place) _ _ i ∙ if_is_true d.receiver.gap _ _ g

-- ---- what a party finds in a tick is what its reader tells

-- a count leaves the reader, and what was found
pub counts_reads : (m : Master) (told : MasterTold) (event : Event) → ((M.counts m told event).master.receiver ≡ m.receiver) × ((M.counts m told event).event ≡ event)
counts_reads m told event = if_both (λ (t : MasterTaken). (t.master.receiver ≡ m.receiver) × (t.event ≡ event)) (rt1_ends m.message.stage) _ _ (refl, refl) (refl, refl)

-- in a silent tick: nothing outside a frame and where the tick is passed over, and a break where it is the second in a row
finds : (r : Receiver) (found : Event) → (inside_frame r.place ≡ false → found ≡ Nothing) → (inside_frame r.place ≡ true → r.gap ≡ false → found ≡ Nothing)
    → (inside_frame r.place ≡ true → r.gap ≡ true → found ≡ Broken) → found ≡ (taken r Silence).event
finds r found outside passed second = go (inside_frame r.place) refl r.gap refl
  where
    told : Taken → Event
    told t = t.event

    go : (inside : Bool) → inside_frame r.place ≡ inside → (gap : Bool) → r.gap ≡ gap → found ≡ (taken r Silence).event
    go false o gap g = outside o ∙ sym (ap told (outside_idle r o))
    go true i false g = passed i g ∙ sym (ap told (gap_passed r i g))
    go true i true g = second i g ∙ sym (ap told (gap_breaks r i g))

master_silence : (m : Master) → (M.on_silence m (taken m.receiver Silence).receiver).event ≡ (taken m.receiver Silence).event
master_silence m =
    let once : MasterTaken = M.counts (after_break m idle Broken).master (after_break m idle Broken).told Broken in
    finds m.receiver (M.on_silence m (taken m.receiver Silence).receiver).event
    (λ o. ap (λ (t : MasterTaken). t.event) (master_outside m o) ∙ (counts_reads (with_reader m idle) MasterTold.Nothing Nothing).1)
    (λ i g. ap (λ (t : MasterTaken). t.event) (master_passed m i g))
    (λ i g. ap (λ (t : MasterTaken). t.event) (master_second m i g) ∙ (counts_reads once.master once.told Broken).1)

master_character_lem : (m : Master) (r : Receiver) (event : Event) (bytes : List ℕ) → (M.on_character m r event bytes).event ≡ event
master_character_lem m r Nothing bytes = refl
master_character_lem m r PassedOver bytes = refl
master_character_lem m r Broken bytes = refl
master_character_lem m r (Frame w) bytes = refl
master_character_lem m r (Damaged w h) bytes = refl

pub master_finds : (m : Master) (heard : Heard) (bytes : List ℕ) → m.deaf ≡ false → (master_takes m heard bytes).event ≡ (taken m.receiver heard).event
unfolding master_takes
master_finds m heard bytes hears = ap (λ (t : MasterTaken). t.event) (if_is_false m.deaf _ _ hears) ∙ by heard
  where
    by : (heard : Heard) → (M.on_heard m heard bytes).event ≡ (taken m.receiver heard).event
    by Silence = master_silence m
    by (Character c) = master_character_lem m (taken m.receiver (Character c)).receiver (taken m.receiver (Character c)).event bytes
    by (Heard.Damaged c kind) = master_character_lem m (taken m.receiver (Heard.Damaged c kind)).receiver (taken m.receiver (Heard.Damaged c kind)).event bytes

device_silence : (d : Device) → (D.on_silence d (taken d.receiver Silence).receiver).event ≡ (taken d.receiver Silence).event
device_silence d =
    finds d.receiver (D.on_silence d (taken d.receiver Silence).receiver).event
    (λ o. ap (λ (t : DeviceTaken). t.event) (device_outside d o))
    (λ i g. ap (λ (t : DeviceTaken). t.event) (device_passed d i g))
    (λ i g. ap (λ (t : DeviceTaken). t.event) (device_second d i g))

pub device_finds : (d : Device) (heard : Heard) → d.deaf ≡ false → (device_takes d heard).event ≡ (taken d.receiver heard).event
unfolding device_takes
device_finds d heard hears = ap (λ (t : DeviceTaken). t.event) (if_is_false d.deaf _ _ hears) ∙ by heard
  where
    by : (heard : Heard) → (D.on_heard d heard).event ≡ (taken d.receiver heard).event
    by Silence = device_silence d
    by (Character c) = refl
    by (Heard.Damaged c kind) = refl
