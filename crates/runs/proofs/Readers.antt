-- A master's own reader, whatever it hears and is called: it is the reader of specs/Late, which knows of the master only when it starts and when it sends.
use Prim.Native.Nat.{ℕ, zero, suc, ◌+◌, ◌-◌, ◌≤◌}
use native.Mathlib.Omega.{arith}
use mathlib.Core.Path.{◌≡◌, refl, sym, ap, subst, ◌∙◌}
use mathlib.Core.Bool.{Bool, true, false}
use mathlib.Core.List.{List, [], ◌∷◌}
use lib.ListN.{length}
use Rattle.base.specs.Refusal.{Called}
use Rattle.base.specs.Choice.{when◌then◌else◌, ◌<?◌}
use Rattle.base.specs.Store.{stored}
use Rattle.base.proofs.Choices.{if_is_true, if_is_false}
use Rattle.frame.specs.Frame.{frame_bytes}
use Rattle.line.specs.Reader.{passing, tells, taken, inside_frame}
use Rattle.line.specs.declared.Event.{Event}
use Rattle.line.specs.declared.Event.TheVariants.{Nothing, PassedOver, Broken, Frame, Damaged}
use Rattle.line.specs.declared.Heard.{Heard}
use Rattle.line.specs.declared.Heard.TheVariants.{Silence, Character}
use Rattle.line.specs.declared.Receiver.{Receiver}
use Rattle.line.specs.declared.Taken.{Taken}
use Rattle.turns.specs.Master.{any_stx, requested, request_header, counts, after_break, on_silence, on_character, on_heard, master_takes, master_sends, sends_at, sends_by, with_reader}
use Rattle.turns.specs.Link.{MasterCall, no_request, requests, MasterSide, MasterStep, master_sent, master_called, master_tick, master_data, Link, LinkStep, Calls, link_after}
use Rattle.turns.specs.Demand3.{master_in}
use Rattle.runs.specs.Late.{late_tick, late_run, hears, heard_in}
use Rattle.turns.specs.declared.CallResult.{CallResult}
use Rattle.turns.specs.declared.Sent.{Sent}
use Rattle.turns.specs.declared.Sent.TheVariants.{Silent}
use Rattle.turns.specs.declared.Stage.{Stage}
use Rattle.turns.specs.declared.Stage.TheVariants.{Free, Waiting, Sending, Awaiting}
use Rattle.turns.specs.declared.Master.{Master}
use Rattle.turns.specs.declared.MasterTold.{MasterTold}
use Rattle.turns.specs.declared.MasterTaken.{MasterTaken}
use Rattle.turns.specs.declared.MasterSent.{MasterSent}
use Rattle.turns.proofs.Masters.{Asks, is_refused, is_taken, asks, new_message, with_message}
use Rattle.turns.proofs.Bursting.{if_both}
use Rattle.turns.proofs.Listening.{timer_shut}
use Rattle.turns.proofs.Silent.{counts_reads}

-- what its reader makes of what it hears next
abbrev pub reading : MasterSide → Heard → Taken
reading x heard = when x.master.deaf then tells x.master.receiver Nothing else taken x.master.receiver heard

-- ---- a tick

abbrev HasReader : Receiver → MasterTaken → Type 0
HasReader r t = t.master.receiver ≡ r

on_silence_lem : (m : Master) (r : Receiver) → HasReader r (on_silence m r)
on_silence_lem m r =
    let once = counts (after_break m r Broken).master (after_break m r Broken).told Broken in
    if_both (HasReader r) (inside_frame m.receiver.place) _ _
    (if_both (HasReader r) m.receiver.gap _ _
    ((counts_reads once.master once.told Broken).0 ∙ (counts_reads (after_break m r Broken).master (after_break m r Broken).told Broken).0)
    refl)
    (counts_reads (with_reader m r) MasterTold.Nothing Nothing).0

on_character_lem : (m : Master) (r : Receiver) (e : Event) (bytes : List ℕ) → HasReader r (on_character m r e bytes)
on_character_lem m r Nothing bytes = refl
on_character_lem m r PassedOver bytes = refl
on_character_lem m r Broken bytes = refl
on_character_lem m r (Frame w) bytes = refl
on_character_lem m r (Damaged w h) bytes = refl

on_heard_lem : (m : Master) (heard : Heard) (bytes : List ℕ) → HasReader (taken m.receiver heard).receiver (on_heard m heard bytes)
on_heard_lem m Silence bytes = on_silence_lem m (taken m.receiver Silence).receiver
on_heard_lem m (Character c) bytes = on_character_lem m _ (taken m.receiver (Character c)).event bytes
on_heard_lem m (Heard.Damaged c kind) bytes = on_character_lem m _ (taken m.receiver (Heard.Damaged c kind)).event bytes

takes_reader : (x : MasterSide) (heard : Heard) (bytes : List ℕ) → HasReader (reading x heard).receiver (master_takes x.master heard bytes)
unfolding master_takes when◌then◌else◌
takes_reader x heard bytes = go x.master.deaf
  where
    go : (b : Bool) → (when b then Rattle.turns.specs.Master.tells x.master MasterTold.Nothing Nothing else on_heard x.master heard bytes).master.receiver ≡ (when b then tells x.master.receiver Nothing else taken x.master.receiver heard).receiver
    go true = refl
    go false = on_heard_lem x.master heard bytes

-- after a tick: where it sends, it is deaf and passes over what follows, and no window is open; where not, its reader is r
pub data Reads (step : MasterStep) (r : Receiver) : Type 0 where
  spoke : (c : ℕ) → step.sent ≡ Sent.Character c → step.side.master.deaf ≡ true → step.side.master.receiver ≡ passing → step.side.master.timer.window ≡ 0 → Reads step r
  listened : step.sent ≡ Silent → step.side.master.deaf ≡ false → step.side.master.receiver ≡ r → Reads step r

module _ (m : Master) (frame out bytes : List ℕ) (told : MasterTold) (result : CallResult) where
  abbrev Sends : MasterSent → Type 0
  Sends s = Reads (master_sent s out bytes told result) m.receiver

  one_character : (n attempts : ℕ) → Sends (sends_at m frame n attempts)
  one_character n attempts = if_both Sends (n + 1 <? m.message.length) _ _ (spoke _ refl refl refl refl) (spoke _ refl refl refl (timer_shut m.profile m.primary any_stx m.burst))

  by_stage : (s : Stage) → Sends (sends_by m frame s)
  by_stage Free = listened refl refl refl
  by_stage Waiting = if_both Sends (0 <? m.timer.window) _ _ (one_character 0 _) (listened refl refl refl)
  by_stage (Sending n) = one_character n _
  by_stage (Awaiting n) = listened refl refl refl

  sends_reads : Reads (master_sent (master_sends m frame) out bytes told result) m.receiver
  unfolding master_sends
  sends_reads = by_stage m.message.stage

pub tick_reads : (limit : ℕ) → limit ≤ 255 → (x : MasterSide) (heard : Heard) (call : MasterCall) → Reads (master_tick limit x heard call) (reading x heard).receiver
unfolding master_tick
tick_reads limit small x heard call = subst (Reads (master_tick limit x heard call)) (takes_reader x heard (master_data x heard)) (go call)
  where
    t : Master
    t = (master_takes x.master heard (master_data x heard)).master

    told : MasterTold
    told = (master_takes x.master heard (master_data x heard)).told

    go : (call : MasterCall) → Reads (master_tick limit x heard call) t.receiver
    go no_request = sends_reads t x.frame x.frame (master_data x heard) told CallResult.Nothing
    go (requests q put) = by (asks limit t q (length put) small)
      where
        put_in : List ℕ
        put_in = frame_bytes q.preamble (request_header t q) put

        P : Called Master → Type 0
        P c = Reads (master_called c t put_in x.frame (master_data x heard) told) t.receiver

        by : Asks limit t q (length put) → P (requested limit t q (length put))
        by (is_refused why e) = subst P (sym e) (sends_reads t x.frame x.frame (master_data x heard) told (CallResult.Refused why))
        by (is_taken fits few free e) = subst P (sym e) (sends_reads (with_message t (new_message t q (length put))) (stored x.frame 0 put_in) (stored x.frame 0 put_in) (master_data x heard) told CallResult.Taken)

pub reads_next : {step : MasterStep} {r : Receiver} → Reads step r → (heard : Heard) → reading step.side heard ≡ hears step.sent r heard
reads_next {step} {r} (spoke c s d e w) heard = if_is_true step.side.master.deaf _ _ d ∙ ap (λ (z : Receiver). tells z Nothing) e ∙ sym (ap (λ (z : Sent). hears z r heard) s)
reads_next {step} {r} (listened s d e) heard = if_is_false step.side.master.deaf _ _ d ∙ ap (λ (z : Receiver). taken z heard) e ∙ sym (ap (λ (z : Sent). hears z r heard) s)

-- ---- a run

-- what a master's own reader tells of tick t
unfoldable pub told_in : Bool → List LinkStep → ℕ → Event
told_in primary [] t = Nothing
told_in primary (s ∷ ss) zero = (reading (master_in primary s).side (link_after s).line).event
told_in primary (s ∷ ss) (suc t) = told_in primary ss t

-- a master that starts in n ticks, and the reader beside it
pub record Beside (n : ℕ) (x : MasterSide) (heard : Heard) (r : Receiver) : Type 0 where
  pub off : 1 ≤ n → x.master.deaf ≡ true
  pub is : (reading x heard).receiver ≡ r

-- while it is off, its reader hears nothing
still_beside : {n : ℕ} {x : MasterSide} {heard : Heard} {r : Receiver} (next : Heard) → Beside (suc n) x heard r → Beside n x next r
still_beside {n} {x} {heard} {r} next b =
    let d = b.off (omega arith) in
    record { off = λ z. d; is = ap (λ (t : Taken). t.receiver) (if_is_true x.master.deaf _ (taken x.master.receiver next) d) ∙ sym (ap (λ (t : Taken). t.receiver) (if_is_true x.master.deaf _ (taken x.master.receiver heard) d)) ∙ b.is }

off_told : {n : ℕ} {x : MasterSide} {heard : Heard} {r : Receiver} (next : Heard) → Beside (suc n) x heard r → Nothing ≡ (reading x next).event
off_told {x = x} next b = sym (ap (λ (t : Taken). t.event) (if_is_true x.master.deaf _ (taken x.master.receiver next) (b.off (omega arith))))

one_less : (n : ℕ) → n ≡ suc n - 1
one_less n = omega arith

module _ (limit : ℕ) (small : limit ≤ 255) where
  on_beside : {x : MasterSide} {heard : Heard} {r : Receiver} (call : MasterCall) → Beside 0 x heard r → Reads (master_tick limit x heard call) r
  on_beside {x} {heard} call b = subst (Reads (master_tick limit x heard call)) b.is (tick_reads limit small x heard call)

  next_beside : {step : MasterStep} {r : Receiver} (heard : Heard) → Reads step r → Beside 0 step.side heard (hears step.sent r heard).receiver
  next_beside heard q = record { off = λ z. absurd (omega arith); is = ap (λ (t : Taken). t.receiver) (reads_next q heard) }

  -- the reader beside a master tells what the master's own reader tells
  pub primary_heard : (a b : ℕ) (l : Link) (ticks : List Calls) (r : Receiver) → Beside a l.primary l.line r → (t : ℕ) → heard_in true a r (late_run limit a b l ticks) t ≡ told_in true (late_run limit a b l ticks) t
  unfolding heard_in told_in late_run late_tick
  primary_heard zero b l [] r q t = refl
  primary_heard (suc a) b l [] r q t = refl
  primary_heard zero b l (c ∷ cs) r q zero = sym (ap (λ (t : Taken). t.event) (reads_next (on_beside c.for_primary q) (link_after (late_tick limit 0 b l c)).line))
  primary_heard zero b l (c ∷ cs) r q (suc t) =
      primary_heard 0 (b - 1) (link_after (late_tick limit 0 b l c)) cs _ (next_beside (link_after (late_tick limit 0 b l c)).line (on_beside c.for_primary q)) t
  primary_heard (suc a) b l (c ∷ cs) r q zero = off_told (link_after (late_tick limit (suc a) b l c)).line q
  primary_heard (suc a) b l (c ∷ cs) r q (suc t) =
      subst (λ (n : ℕ). heard_in true a r (late_run limit n (b - 1) (link_after (late_tick limit (suc a) b l c)) cs) t ≡ told_in true (late_run limit n (b - 1) (link_after (late_tick limit (suc a) b l c)) cs) t) (one_less a)
      (primary_heard a (b - 1) (link_after (late_tick limit (suc a) b l c)) cs r (still_beside (link_after (late_tick limit (suc a) b l c)).line q) t)

  pub secondary_heard : (a b : ℕ) (l : Link) (ticks : List Calls) (r : Receiver) → Beside b l.secondary l.line r → (t : ℕ) → heard_in false b r (late_run limit a b l ticks) t ≡ told_in false (late_run limit a b l ticks) t
  unfolding heard_in told_in late_run late_tick
  secondary_heard a zero l [] r q t = refl
  secondary_heard a (suc b) l [] r q t = refl
  secondary_heard a zero l (c ∷ cs) r q zero = sym (ap (λ (t : Taken). t.event) (reads_next (on_beside c.for_secondary q) (link_after (late_tick limit a 0 l c)).line))
  secondary_heard a zero l (c ∷ cs) r q (suc t) =
      secondary_heard (a - 1) 0 (link_after (late_tick limit a 0 l c)) cs _ (next_beside (link_after (late_tick limit a 0 l c)).line (on_beside c.for_secondary q)) t
  secondary_heard a (suc b) l (c ∷ cs) r q zero = off_told (link_after (late_tick limit a (suc b) l c)).line q
  secondary_heard a (suc b) l (c ∷ cs) r q (suc t) =
      subst (λ (n : ℕ). heard_in false b r (late_run limit (a - 1) n (link_after (late_tick limit a (suc b) l c)) cs) t ≡ told_in false (late_run limit (a - 1) n (link_after (late_tick limit a (suc b) l c)) cs) t) (one_less b)
      (secondary_heard (a - 1) b (link_after (late_tick limit a (suc b) l c)) cs r (still_beside (link_after (late_tick limit a (suc b) l c)).line q) t)
