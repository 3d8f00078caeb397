-- In step, every frame that is followed by a silent tick is one that a master sent or heard whole and the other heard whole.
use Prim.Native.Nat.{ℕ, suc, ◌-◌, ◌≤◌}
use native.Mathlib.Omega.{arith}
use mathlib.Core.Path.{◌≡◌, sym, ap, subst, ◌∙◌}
use mathlib.Core.Bool.{Bool, true, false}
use mathlib.Core.List.{List, [], ◌∷◌}
use lib.ListN.{length, get_or, take}
use Rattle.base.proofs.Choices.{true_false, if_is_false}
use Rattle.line.specs.Reader.{idle, taken}
use Rattle.line.specs.declared.Event.TheVariants.{Frame}
use Rattle.line.specs.declared.Heard.{Heard}
use Rattle.line.specs.declared.Heard.TheVariants.{Character}
use Rattle.line.specs.declared.Profile.{Profile}
use Rattle.line.specs.declared.Receiver.{Receiver}
use Rattle.line.specs.declared.Taken.{Taken}
use Rattle.line.specs.declared.Whole.{Whole}
use Rattle.line.proofs.Leads.{reader_after}
use Rattle.turns.specs.Link.{MasterSide, MasterStep, DeviceStep, Link, LinkStep, Calls, link_tick, link_after, run, carried}
use Rattle.turns.specs.Run.{count, device_senders, senders, EachTick, tick_and}
use Rattle.runs.specs.Late.{in_tick, both_heard, primary_sent, secondary_sent}
use Rattle.turns.specs.declared.Noted.{Noted}
use Rattle.runs.proofs.Fair.{Fair}
use Rattle.turns.proofs.Spoken.{Spoken}
use Rattle.turns.proofs.Windows.{Valid}
use Rattle.turns.proofs.Sending.{MasterHears}
use Rattle.runs.proofs.Stx as X
use Rattle.runs.proofs.Stx.{StxTick, stx_tick}
use Rattle.runs.proofs.AckBack as A
use Rattle.runs.proofs.AckBack.{AckTick, BackTick, ack_tick, back_tick, spoken_of}
use Rattle.runs.proofs.NoTwoSend as N
use Rattle.turns.proofs.Senders.{silent_none, none_carried, most}
use Rattle.runs.proofs.NoTwoSend.{Phase, heard_tick, tick_is, phase_tick}
use Rattle.runs.proofs.Readers.{reading, Reads, spoke, listened, tick_reads}
use Rattle.runs.proofs.LateTicks.{SharedBy, Ends, no_end, end_and, Framed, no_frame, frame_and}

-- a device's character on the line has its sender
carried_some : (ss : List DeviceStep) {c : ℕ} → carried ss ≡ Character c → device_senders ss ≡ 0 → ⊥
carried_some ss e z = let n : ◌≡◌ {A = ℕ} 0 1 = ap most (sym (none_carried ss z) ∙ e) in omega (arith, n)

-- a master that is deaf behind a tick has sent in it
deaf_sent : {step : MasterStep} {r : Receiver} → Reads step r → step.side.master.deaf ≡ true → count step.sent ≡ 1
deaf_sent (spoke c e d r w) f = ap count e
deaf_sent (listened e d r) f = absurd (true_false (sym f ∙ d))

-- one that hears the frame hears it whole with its last character
hears_end : {p : Profile} {primary burst : Bool} {noted : Noted} {k : ℕ} {w : List ℕ} {message : Whole} {x : MasterSide} {heard : Heard} → Spoken w message → suc k ≡ length w → heard ≡ Character (get_or w k 0)
    → MasterHears p primary burst noted (reader_after idle (take k w)) x
    → (reading x heard).event ≡ Frame message
hears_end {k = k} {x = x} {heard} sp last q h =
    ap (λ (t : Taken). t.event) (if_is_false x.master.deaf _ (taken x.master.receiver heard) h.listens.hears ∙ (λ i. taken (h.receiver_is i) (q i)) ∙ sp.end k last)

-- where nobody sends in the next tick, the character was the frame's last
stx_last : {p : Profile} {primary other burst : Bool} {noted : Noted} {next : Bool} {k : ℕ} {w : List ℕ} {message : Whole} {x y : MasterSide} {s t : MasterStep} {ss : List DeviceStep}
    → StxTick p primary other burst noted next k w message x y s t ss → count s.sent ≡ 0 → suc k ≡ length w
stx_last (X.goes_on m a b c o n y) z = absurd (omega (arith, z, ap count a))
stx_last (X.ends m a b c x n y) z = m

ack_last : {p : Profile} {e : ℕ} {burst : Bool} {noted : Noted} {next : Bool} {k : ℕ} {w : List ℕ} {message : Whole} {u : ℕ} {on : Bool} {a b : MasterSide} {s t : MasterStep} {ss : List DeviceStep}
    → AckTick p e burst noted next k w message u on a b s t ss → device_senders ss ≡ 0 → suc k ≡ length w
ack_last {ss = ss} (A.ack_goes_on m a b c o x y) z = absurd (carried_some ss c z)
ack_last (A.ack_ends m f a b c x y y') z = m
ack_last {ss = ss} (A.back_follows_it m f who w' message' a b c o x y) z = absurd (carried_some ss c z)

back_last : {p : Profile} {burst : Bool} {noted : Noted} {next : Bool} {k : ℕ} {w : List ℕ} {message : Whole} {u : ℕ} {a b : MasterSide} {s t : MasterStep} {ss : List DeviceStep}
    → BackTick p burst noted next k w message u a b s t ss → device_senders ss ≡ 0 → suc k ≡ length w
back_last {ss = ss} (A.back_goes_on m a b c o x y) z = absurd (carried_some ss c z)
back_last (A.back_ends m a b c x ta tb n y y') z = m

module _ (limit : ℕ) (low : 2 ≤ limit) (high : limit ≤ 255) (p : Profile) (v : Valid p) where
  -- a tick in which one sends, and a silent one
  phase_shared : (e : ℕ) (l : Link) (c d : Calls) → Phase p e (link_after (link_tick limit l c)) → senders (link_tick limit l c) ≡ 1 → senders (link_tick limit (link_after (link_tick limit l c)) d) ≡ 0 → SharedBy (link_tick limit l c)
  unfolding link_tick heard_tick
  phase_shared e l c d ph one z = go ph (λ heard q. subst (λ (s : LinkStep). senders s ≡ 0) (tick_is limit after heard d q) z)
    where
      after : Link
      after = link_after (link_tick limit l c)

      go : Phase p e (link_after (link_tick limit l c)) → ((heard : Heard) → (link_after (link_tick limit l c)).line ≡ heard → senders (heard_tick limit (link_after (link_tick limit l c)) heard d) ≡ 0) → SharedBy (link_tick limit l c)
      go (N.silent q o) none = absurd (omega (arith, one, silent_none (link_tick limit l c) q))
      go (N.primary_sends burst noted next k w message q o) none =
          let last = stx_last (stx_tick limit low high p v true false burst noted next k w message after.primary after.secondary after.devices d.for_primary d.for_secondary d.for_devices o) (omega (arith, none _ q)) in
          primary_sent message (deaf_sent (tick_reads limit high l.primary l.line c.for_primary) o.speaks.deaf_is) (hears_end o.speaks.held.speaks last q o.hears)
      go (N.secondary_sends burst noted next k w message q o) none =
          let last = stx_last (stx_tick limit low high p v false true burst noted next k w message after.secondary after.primary after.devices d.for_secondary d.for_primary d.for_devices o) (omega (arith, none _ q)) in
          secondary_sent message (deaf_sent (tick_reads limit high l.secondary l.line c.for_secondary) o.speaks.deaf_is) (hears_end o.speaks.held.speaks last q o.hears)
      go (N.ack_sent burst noted next k w message u on q o) none =
          let last = ack_last (ack_tick limit low high p v burst noted next k w message u after.primary after.secondary after.devices d.for_primary d.for_secondary d.for_devices e on o) (omega (arith, none _ q)) in
          both_heard message (hears_end (spoken_of o.devices) last q o.primary) (hears_end (spoken_of o.devices) last q o.secondary)
      go (N.back_sent burst noted next k w message u q o) none =
          let last = back_last (back_tick limit low high p v burst noted next k w message u after.primary after.secondary after.devices d.for_primary d.for_secondary d.for_devices o) (omega (arith, none _ q)) in
          both_heard message (hears_end (spoken_of o.devices) last q o.primary) (hears_end (spoken_of o.devices) last q o.secondary)

  -- from a tick on behind which the link is in step
  pub ends_from : (e : ℕ) (l : Link) (c : Calls) (cs : List Calls) → Phase p e (link_after (link_tick limit l c)) → EachTick Fair (run limit (link_after (link_tick limit l c)) cs)
      → Ends (link_tick limit l c ∷ run limit (link_after (link_tick limit l c)) cs)
  unfolding run in_tick
  ends_from e l c [] ph fs = end_and {ss = []} (λ one some. absurd (omega (arith, some))) no_end
  ends_from e l c (d ∷ cs) ph (tick_and f fs) =
      end_and (λ one some z. phase_shared e l c d ph one z) (ends_from (e - 1) (link_after (link_tick limit l c)) d cs (phase_tick limit low high p v e (link_after (link_tick limit l c)) d ph f) fs)

  pub ends_run : (e : ℕ) (l : Link) (ticks : List Calls) → Phase p e l → EachTick Fair (run limit l ticks) → Ends (run limit l ticks)
  unfolding run
  ends_run e l [] ph fs = no_end
  ends_run e l (c ∷ cs) ph (tick_and f fs) = ends_from (e - 1) l c cs (phase_tick limit low high p v e l c ph f) fs

  pub framed_run : (e : ℕ) (l : Link) (ticks : List Calls) → Phase p e l → EachTick Fair (run limit l ticks) → Framed (run limit l ticks)
  unfolding run
  framed_run e l [] ph fs = no_frame
  framed_run e l (c ∷ cs) ph (tick_and f fs) =
      let next = phase_tick limit low high p v e l c ph f in
      frame_and (λ z o. ends_run (e - 1) (link_after (link_tick limit l c)) cs next fs) (framed_run (e - 1) (link_after (link_tick limit l c)) cs next fs)
