-- Laws of what a master makes of what it heard: the definitions' parts, from what each function answered.
use Prim.Native.Nat.{ℕ}
use mathlib.Core.Bool.{Bool, true, false}
use mathlib.Core.List.{List}
use mathlib.Core.Path.{◌≡◌, refl, sym, ap, subst, ◌∙◌}
use Rattle.base.specs.Choice.{when◌then◌else◌, ◌≤?◌}
use Rattle.base.proofs.Choices.{if_is_false, if_true, if_false, true_false}
use Rattle.line.specs.Reader.{idle, gapped, inside_frame, taken, taken_data}
use Rattle.line.specs.Reader as Reader
use Rattle.line.specs.declared.Event.{Event}
use Rattle.line.specs.declared.Heard.{Heard}
use Rattle.line.specs.declared.Heard.TheVariants.{Silence, Character, Damaged}
use Rattle.line.specs.declared.Receiver.{Receiver}
use Rattle.line.specs.declared.Taken.{Taken}
use Rattle.party.specs.Hears.{is_silence}
use Rattle.turns.specs.Party.{is_broadcast}
use Rattle.turns.specs.Master.{master_with, ends, message_at, burst_counted, timer_counted, if_awaiting, at_break, tells, after_break, on_character, waited, rt1_ends, counts, counts_twice, with_reader, on_silence, master_takes}
use Rattle.turns.proofs.Silent.{master_outside, master_passed, master_second}
use Rattle.turns.specs.declared.Stage.{Stage}
use Rattle.turns.specs.declared.Stage.TheVariants.{Free, Waiting, Sending, Awaiting}
use Rattle.turns.specs.declared.Master.{Master}
use Rattle.turns.specs.declared.MasterTold.{MasterTold}
use Rattle.turns.specs.declared.MasterTold.TheVariants.{GivenUp, BroadcastSent}
use Rattle.turns.specs.declared.MasterTaken.{MasterTaken}
use Rattle.master.specs.Takes.{timer_ticked, MasterTakeIs}

-- behind a break no ACK is awaited, so a count is the timer's alone
counted_free : (m : Master) (told : MasterTold) (event : Event) → rt1_ends m.message.stage ≡ false → waited m.message.stage ≡ m.message.stage → counts m told event ≡ tells (timer_ticked m) told event
counted_free m told event r w =
    if_is_false (rt1_ends m.message.stage) _ _ r
    ∙ ap (λ (s : Stage). tells (master_with m m.receiver (burst_counted m) m.noted (timer_counted m) (message_at m.message s)) told event) w

record Unawaited (s : Stage) : Type 0 where
  goes_on : rt1_ends s ≡ false
  same : waited s ≡ s

free_ends : (m : Master) → Unawaited (at_break m).message.stage
unfolding when◌then◌else◌
free_ends m = by (is_broadcast m.message.header) (m.message.attempts ≤? m.retries)
  where
    by : (a b : Bool) → Unawaited (when a then ends m.message BroadcastSent else (when b then record { message = message_at m.message Waiting; told = MasterTold.Nothing } else ends m.message (GivenUp m.message.attempts))).message.stage
    by true b = record { goes_on = refl; same = refl }
    by false true = record { goes_on = refl; same = refl }
    by false false = record { goes_on = refl; same = refl }

behind_break : (m : Master) → Unawaited (if_awaiting m.message.stage m.message (at_break m)).message.stage
behind_break m = go m.message.stage refl
  where
    on : (s : Stage) → m.message.stage ≡ s → Unawaited s → Unawaited m.message.stage
    on s e u = subst Unawaited (sym e) u

    go : (s : Stage) → m.message.stage ≡ s → Unawaited (if_awaiting s m.message (at_break m)).message.stage
    go Free e = on Free e (record { goes_on = refl; same = refl })
    go Waiting e = on Waiting e (record { goes_on = refl; same = refl })
    go (Sending n) e = on (Sending n) e (record { goes_on = refl; same = refl })
    go (Awaiting n) e = free_ends m

pub second_parts : (m once twice : Master) (r : Receiver) (b : MasterTaken) → r ≡ idle → b ≡ after_break m r Event.Broken → once ≡ timer_ticked b.master → twice ≡ timer_ticked once
    → ◌≡◌ {A = MasterTaken} (record { master = twice; told = b.told; event = Event.Broken }) (counts_twice (after_break m idle Event.Broken).master (after_break m idle Event.Broken).told Event.Broken)
second_parts m once twice r b p q u v =
    let f : Master = (after_break m idle Event.Broken).master in
    let told : MasterTold = (after_break m idle Event.Broken).told in
    let is = q ∙ ap (λ (x : Receiver). after_break m x Event.Broken) p in
    let w = behind_break m in
    let first = counted_free f told Event.Broken w.goes_on w.same in
    let second = counted_free (timer_ticked f) told Event.Broken w.goes_on w.same in
    (λ i. record { master = (v ∙ ap timer_ticked (u ∙ ap (λ (k : MasterTaken). timer_ticked k.master) is)) i; told = (is i).told; event = Event.Broken })
    ∙ sym second ∙ sym (ap (λ (k : MasterTaken). counts k.master k.told Event.Broken) first)

-- silence, by where the reader stands
module _ (m : Master) (t : MasterTaken) (inside : Bool) (is : inside ≡ inside_frame m.receiver.place) where
  pub hears_outside : inside ≡ false → t ≡ counts (with_reader m idle) MasterTold.Nothing Event.Nothing → t ≡ on_silence m (taken m.receiver Silence).receiver
  hears_outside o p = p ∙ sym (master_outside m (sym is ∙ o))

  pub hears_passed : inside ≡ true → m.receiver.gap ≡ false → t ≡ tells (with_reader m (gapped m.receiver)) MasterTold.Nothing Event.Nothing → t ≡ on_silence m (taken m.receiver Silence).receiver
  hears_passed i g p = p ∙ sym (master_passed m (sym is ∙ i) g)

  pub hears_second : inside ≡ true → m.receiver.gap ≡ true → t ≡ counts_twice (after_break m idle Event.Broken).master (after_break m idle Event.Broken).told Event.Broken → t ≡ on_silence m (taken m.receiver Silence).receiver
  hears_second i g p = p ∙ sym (master_second m (sym is ∙ i) g)

pub ruleset silences = (refl, hears_outside, hears_passed, hears_second)

-- a tick, by what was heard
module _ (m : Master) (heard : Heard) (bytes : List ℕ) (x : MasterTaken) where
  pub take_deaf : m.deaf ≡ true → x ≡ tells m MasterTold.Nothing Event.Nothing → MasterTakeIs m heard bytes x bytes
  unfolding master_takes
  take_deaf d p = record { takes = if_true m.deaf _ _ _ d p; buffer = if_true m.deaf _ _ _ d refl }

  module _ (d : m.deaf ≡ false) where
    pub take_silence : (s : Bool) → s ≡ is_silence heard → s ≡ true → x ≡ on_silence m (taken m.receiver Silence).receiver → MasterTakeIs m heard bytes x bytes
    unfolding master_takes taken taken_data
    take_silence s p e q = by heard (sym p ∙ e)
      where
        by : (h : Heard) → is_silence h ≡ true → MasterTakeIs m h bytes x bytes
        by Silence e = record { takes = if_false m.deaf _ _ _ d q; buffer = if_false m.deaf _ _ _ d refl }
        by (Character c) e = absurd (true_false (sym e))
        by (Damaged c k) e = absurd (true_false (sym e))

    pub take_character : (s : Bool) (t : Taken) (after : List ℕ) → s ≡ is_silence heard → s ≡ false → Reader.ReaderTakeIs m.receiver heard bytes t after
        → x ≡ on_character m t.receiver t.event after → MasterTakeIs m heard bytes x after
    unfolding master_takes
    take_character s t after p e is q = by heard (sym p ∙ e) is
      where
        hears : (h : Heard) → t ≡ taken m.receiver h → x ≡ on_character m (taken m.receiver h).receiver (taken m.receiver h).event after
        hears h r = q ∙ ap (λ (k : Taken). on_character m k.receiver k.event after) r

        by : (h : Heard) → is_silence h ≡ false → Reader.ReaderTakeIs m.receiver h bytes t after → MasterTakeIs m h bytes x after
        by Silence e is = absurd (true_false e)
        by (Character c) e is = record { takes = if_false m.deaf _ _ _ d (hears (Character c) is.reader); buffer = if_false m.deaf _ _ _ d is.buffer }
        by (Damaged c k) e is = record { takes = if_false m.deaf _ _ _ d (hears (Damaged c k) is.reader); buffer = if_false m.deaf _ _ _ d is.buffer }

pub ruleset ticks = (refl, take_deaf, take_silence, take_character)
