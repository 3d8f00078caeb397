-- Demand 3, its second half: every accepted message's first character goes out in time, for every list of ticks, whatever the hosts give in them. And the whole of demand 3.
use Prim.Native.Nat.{ℕ, zero, suc, ◌+◌, ◌-◌, ◌*◌, ◌≤◌, ◌<◌}
use native.Mathlib.Omega.{arith}
use mathlib.Core.Path.{◌≡◌, refl, sym, ap, subst, ◌∙◌}
use mathlib.Core.Bool.{Bool, true, false}
use mathlib.Core.List.{List, [], ◌∷◌}
use mathlib.Core.Logic.{◌⊎◌, inl, inr}
use lib.ListN.{length, drop, get_or}
use Rattle.base.specs.Choice.{when◌then◌else◌}
use Rattle.base.proofs.Choices.{true_false}
use Rattle.line.specs.declared.Heard.TheVariants.{Silence, Character}
use Rattle.line.specs.declared.Profile.{Profile}
use Rattle.line.specs.declared.Whole.{Whole}
use Rattle.turns.specs.Master.{burst_after}
use Rattle.turns.specs.Link.{MasterSide, DeviceSide, Link, LinkStep, Calls, link_tick, link_after, run}
use Rattle.turns.specs.Run.{All, and, EachTick, tick_and}
use Rattle.turns.specs.Demand3.{master_in, AcceptedIn, BeginsWithin, NoneBurstsIn, NoneBursts, until_it_begins, and_on, longest_wait, longer_with_burst, WaitInARun, Demand3}
use Rattle.turns.specs.Demand3 as S
use Rattle.turns.specs.declared.Sent.{Sent}
use Rattle.turns.specs.declared.Noted.{Noted}
use Rattle.turns.specs.declared.Stage.TheVariants.{Waiting, Sending}
use Rattle.runs.proofs.Fair.{Fair}
use Rattle.runs.proofs.Tags.{fair_run}
use Rattle.turns.proofs.Masters.{left}
use Rattle.turns.proofs.DeviceSpeaking.{an_ack, a_back}
use Rattle.turns.proofs.Windows as W
use Rattle.turns.proofs.Windows.{Valid}
use Rattle.turns.proofs.Phases.{Some, this, later, Bursting, ClearWindows, primary_first, secondary_first}
use Rattle.turns.proofs.Sending.{MasterPlace, inside, finished}
use Rattle.turns.proofs.Quiet.{ClearLine, SetLine, clear, set}
use Rattle.runs.proofs.Stx.{OneMasterSends, own_is}
use Rattle.runs.proofs.SilentTick.{OneDeviceSends}
use Rattle.runs.proofs.AckBack.{place_of}
use Rattle.runs.proofs.NoTwoSend as N
use Rattle.runs.proofs.NoTwoSend.{Phase, tick_is, heard_tick, phase_tick, phase_first, no_two_send}
use Rattle.turns.proofs.Fresh.{valid}
use Rattle.runs.proofs.Kept as M
use Rattle.runs.proofs.Kept.{Accepted, accepts}
use Rattle.runs.proofs.KeptLink.{LinkKept, LinkSettled, link_kept, settled_kept, starts_kept}
use Rattle.runs.proofs.Rank as K
use Rattle.runs.proofs.Rank.{Pending, pending_left}
use Rattle.runs.proofs.Waits as Ways
use Rattle.runs.proofs.Waits.{waiter, other, waiter_step, not, is_own, clear_of, set_of, answer_for, frame_length, Soon, Burst, Clear, Next}
use Rattle.runs.proofs.WaitSides.{burst_gain, off_is, stx_length, some_rt1}
use Rattle.runs.proofs.WaitSoon.{first_step, ack_step}
use Rattle.runs.proofs.WaitBurst.{set_step}
use Rattle.runs.proofs.WaitFrames.{stx_step, ack_burst_step, back_step}
use Rattle.runs.proofs.WaitClear.{clear_step, stx_clear_step}

-- ---- a tick, in each of the three ways to wait

module _ (limit : ℕ) (low : 2 ≤ limit) (high : limit ≤ 255) (p : Profile) (v : Valid p) (retries : ℕ) (bit : Bool) (l : Link) (c : Calls) (sole : Fair (link_tick limit l c)) where
  -- the tick of the link is the one that hears what the line carries
  as_heard : {W : Link → Type 0} (heard : _) → l.line ≡ heard → (Fair (heard_tick limit l heard c) → LinkSettled limit retries (link_after (heard_tick limit l heard c)) → Next bit (heard_tick limit l heard c) W)
      → LinkSettled limit retries (link_after (link_tick limit l c)) → Next bit (link_tick limit l c) W
  as_heard {W} heard e f k =
      subst (λ (s : LinkStep). Fair s → LinkSettled limit retries (link_after s) → Next bit s W) (sym (tick_is limit l heard c e)) f sole k

  soon_tick : (d : ℕ) → LinkSettled limit retries (link_after (link_tick limit l c)) → Soon p bit d l → Next bit (link_tick limit l c) (Soon p bit (d - 1))
  soon_tick d k (Ways.first_window e line m q r) = as_heard Silence line (λ one s. first_step limit low high p v retries bit l c e d one m q r) k
  soon_tick d k (Ways.behind_ack_lem burst noted next j w message u line o off for q r) =
      as_heard (Character (get_or w j 0)) line (λ one s. ack_step limit low high p v retries bit l c burst noted next j w message u d o off for q r) k

  burst_tick : (d : ℕ) → LinkSettled limit retries (link_after (link_tick limit l c)) → Burst p (limit + 29) bit d l → Next bit (link_tick limit l c) (λ (m : Link). Soon p bit (d - 1) m ⊎ Burst p (limit + 29) bit (d - 1) m)
  burst_tick d k (Ways.Burst.on_silence_lem n next line m q r) = as_heard Silence line (λ one s. set_step limit low high p v retries bit l c n next d one s m q r) k
  burst_tick d k (Ways.Burst.on_stx noted next j w message line o q r) = as_heard (Character (get_or w j 0)) line (λ one s. stx_step limit low high p v retries bit l c noted next j w message d o q r) k
  burst_tick d k (Ways.Burst.on_ack burst noted next j w message u on line o now q r any) =
      as_heard (Character (get_or w j 0)) line (λ one s. ack_burst_step limit low high p v retries bit l c burst noted next j w message u on d s o now q r any) k
  burst_tick d k (Ways.Burst.on_back burst noted next j w message u line o q r any) =
      as_heard (Character (get_or w j 0)) line (λ one s. back_step limit low high p v retries bit l c burst noted next j w message u d o q r any) k

  clear_tick : (d : ℕ) → LinkKept limit retries l → LinkSettled limit retries (link_after (link_tick limit l c)) → Clear p (limit + 29) retries bit d l
      → Next bit (link_tick limit l c) (λ (m : Link). (Soon p bit (d - 1) m ⊎ Clear p (limit + 29) retries bit (d - 1) m) ⊎ Burst p (limit + 29) bit (d - 1 + burst_gain p (limit + 29)) m)
  clear_tick d was k (Ways.Clear.on_silence_lem e line m q r) = as_heard Silence line (λ one s. clear_step limit low high p v retries bit l c e d one was s m q r) k
  clear_tick d was k (Ways.Clear.on_stx noted next j w message line o q n tries r) =
      as_heard (Character (get_or w j 0)) line (λ one s. stx_clear_step limit low high p v retries bit l c noted next j w message d o q n tries r) k

-- ---- there is a tick left while a message waits

ahead : (p : Profile) → Valid p → (a b : _) → ClearWindows p a b → (1 ≤ a.next) × (1 ≤ b.next)
ahead p v a b (primary_first gap g (W.waiting e f h i)) = (e, omega arith)
ahead p v a b (primary_first gap g (W.first_open e f h i j)) = (omega (arith, g.most, v.hold_short), e)
ahead p v a b (primary_first gap g (W.first_shut e f h i j)) = (omega (arith, g.most, v.hold_short), e)
ahead p v a b (primary_first gap g (W.second_open e f h i j)) = (e, omega arith)
ahead p v a b (primary_first gap g (W.second_shut e f h i j)) = (e, omega arith)
ahead p v a b (secondary_first gap g (W.waiting e f h i)) = (omega arith, e)
ahead p v a b (secondary_first gap g (W.first_open e f h i j)) = (e, omega (arith, g.most, v.hold_short))
ahead p v a b (secondary_first gap g (W.first_shut e f h i j)) = (e, omega (arith, g.most, v.hold_short))
ahead p v a b (secondary_first gap g (W.second_open e f h i j)) = (omega arith, e)
ahead p v a b (secondary_first gap g (W.second_shut e f h i j)) = (omega arith, e)

place_most : {k n : ℕ} → (suc k < n) ⊎ (suc k ≡ n) → suc k ≤ n
place_most (inl z) = omega arith
place_most (inr z) = omega arith

stx_place : {p : Profile} {primary other burst : Bool} {noted : Noted} {next : Bool} {k : ℕ} {w : List ℕ} {message : Whole} {x y : MasterSide} {xs : List DeviceSide} → OneMasterSends p primary other burst noted next k w message x y xs → suc k ≤ length w
stx_place {k = k} {w = w} {x = x} o = go o.speaks.place
  where
    go : MasterPlace k w x → suc k ≤ length w
    go (inside below e) = omega arith
    go (finished last t s e) = omega arith

module _ (p : Profile) (v : Valid p) (bit : Bool) (d : ℕ) (l : Link) where
  soon_left : Soon p bit d l → 1 ≤ d
  soon_left (Ways.first_window e line m q r) = omega (arith, (ahead p v _ _ (clear_of p e bit l m).windows).1, r.soon)
  soon_left (Ways.behind_ack_lem burst noted next k w message u line o off for q r) = omega (arith, place_most (place_of o.devices))

  burst_left : (f : ℕ) → Burst p f bit d l → 1 ≤ d
  burst_left f (Ways.Burst.on_silence_lem n next line m q (K.SetRank.slot_now e g)) = g
  burst_left f (Ways.Burst.on_silence_lem n next line m q (K.SetRank.next_other own e y g h i j)) = omega arith
  burst_left f (Ways.Burst.on_silence_lem n next line m q (K.SetRank.next_own own e g h)) = omega arith
  burst_left f (Ways.Burst.on_silence_lem n next line m q (K.SetRank.awaits own e g h i j)) = omega arith
  burst_left f (Ways.Burst.on_stx noted next k w message line o q r) = omega (arith, stx_place o)
  burst_left f (Ways.Burst.on_ack burst noted next k w message u on line o now q r any) = omega (arith, place_most (place_of o.devices))
  burst_left f (Ways.Burst.on_back burst noted next k w message u line o q r any) = omega (arith, place_most (place_of o.devices))

  clear_left : (f retries : ℕ) → Clear p f retries bit d l → 1 ≤ d
  clear_left f retries (Ways.Clear.on_silence_lem e line m q (K.ClearRank.may_begin z g)) = omega (arith, (ahead p v _ _ (clear_of p e bit l m).windows).1)
  clear_left f retries (Ways.Clear.on_silence_lem e line m q (K.ClearRank.awaits n z g h i)) = omega arith
  clear_left f retries (Ways.Clear.on_stx noted next k w message line o q n tries r) = omega (arith, stx_place o)

  -- where the message waits for burst, a device bursts
  burst_some : (f : ℕ) → Burst p f bit d l → Some Bursting l.devices
  burst_some f (Ways.Burst.on_silence_lem n next line m q r) = m.agreed.one_bursts refl
  burst_some f (Ways.Burst.on_stx noted next k w message line o q r) = o.agreed.one_bursts refl
  burst_some f (Ways.Burst.on_ack burst noted next k w message u on line o now q r any) = o.agreed.one_bursts now
  burst_some f (Ways.Burst.on_back burst noted next k w message u line o q r any) = back_some o
    where
      back_some : OneDeviceSends p a_back burst noted next k w message u true l.primary l.secondary l.devices → Some Bursting l.devices
      back_some o = go o.devices
        where
          go : {Q : DeviceSide → Type 0} {xs : List DeviceSide} → Rattle.turns.proofs.Phases.OneOf (Rattle.runs.proofs.Beginning.DeviceSpeaks p a_back k w message u true) Q xs → Some Bursting xs
          go (Rattle.turns.proofs.Phases.here s a) = this s.burst_is
          go (Rattle.turns.proofs.Phases.further s a) = later (go a)

none_some : {xs : List DeviceSide} → All (λ (x : DeviceSide). x.device.burst ≡ true → ⊥) xs → Some Bursting xs → ⊥
none_some (and f fs) (this e) = f e
none_some (and f fs) (later m) = none_some fs m
none_some All.none x3 = elim x3 [ ]

-- ---- a list of ticks

waiter_is : (bit : Bool) (s : LinkStep) → waiter_step bit s ≡ master_in bit s
waiter_is true s = refl
waiter_is false s = refl

-- a longer time is a weaker claim
pub later_too : {bit : Bool} {n m : ℕ} {ss : List LinkStep} → n ≤ m → BeginsWithin bit n ss → BeginsWithin bit m ss
later_too {m = m} z (S.begins n c e) = S.begins m c e
later_too {m = zero} z (S.waits {n = n} e b) = absurd (omega arith)
later_too {m = suc m} z (S.waits {n = n} e b) = let less : n ≤ m = omega arith in S.waits e (later_too less b)

module _ (limit : ℕ) (low : 2 ≤ limit) (high : limit ≤ 255) (p : Profile) (v : Valid p) (retries : ℕ) (bit : Bool) where
  -- the first character goes out in this tick
  pub now : (n : ℕ) {s : LinkStep} {ss : List LinkStep} (c : ℕ) → (waiter_step bit s).sent ≡ Sent.Character c → BeginsWithin bit n (s ∷ ss)
  now n {s} c e = S.begins n c (ap (λ (m : _). m.sent) (sym (waiter_is bit s)) ∙ e)

  -- or in a later one
  pub behind : (d : ℕ) {s : LinkStep} {ss : List LinkStep} → 1 ≤ d - 1 → (waiter_step bit s).sent ≡ Sent.Silent → BeginsWithin bit (d - 1 - 1) ss → BeginsWithin bit (d - 1) (s ∷ ss)
  behind d {s} {ss} some e b =
      subst (λ (n : ℕ). BeginsWithin bit n (s ∷ ss)) (omega arith) (S.waits (ap (λ (m : _). m.sent) (sym (waiter_is bit s)) ∙ e) b)

  soon_run : (d : ℕ) (l : Link) (ticks : List Calls) → LinkKept limit retries l → EachTick Fair (run limit l ticks) → d ≤ length ticks → Soon p bit d l → BeginsWithin bit (d - 1) (run limit l ticks)
  unfolding run
  soon_run d l [] k b m w = absurd (omega (arith, soon_left p v bit d l w))
  soon_run d l (c ∷ cs) k (tick_and one b) m w =
      go (soon_tick limit low high p v retries bit l c one d (link_kept limit retries low high l c k) w)
      (λ w'. soon_run (d - 1) (link_after (link_tick limit l c)) cs (settled_kept (link_kept limit retries low high l c k)) b (omega arith) w')
    where
      go : Next bit (link_tick limit l c) (Soon p bit (d - 1)) → (Soon p bit (d - 1) (link_after (link_tick limit l c)) → BeginsWithin bit (d - 1 - 1) (run limit (link_after (link_tick limit l c)) cs)) → BeginsWithin bit (d - 1) (run limit l (c ∷ cs))
      go (Ways.began ch e) f = now (d - 1) ch e
      go (Ways.waits e w') f = behind d (soon_left p v bit (d - 1) _ w') e (f w')

  burst_run : (d : ℕ) (l : Link) (ticks : List Calls) → LinkKept limit retries l → EachTick Fair (run limit l ticks) → d ≤ length ticks → Burst p (limit + 29) bit d l → BeginsWithin bit (d - 1) (run limit l ticks)
  unfolding run
  burst_run d l [] k b m w = absurd (omega (arith, burst_left p v bit d l (limit + 29) w))
  burst_run d l (c ∷ cs) k (tick_and one b) m w =
      go (burst_tick limit low high p v retries bit l c one d (link_kept limit retries low high l c k) w)
      (λ w'. burst_run (d - 1) (link_after (link_tick limit l c)) cs (settled_kept (link_kept limit retries low high l c k)) b (omega arith) w')
    where
      after : Link
      after = link_after (link_tick limit l c)

      kept : LinkKept limit retries (link_after (link_tick limit l c))
      kept = settled_kept (link_kept limit retries low high l c k)

      go : Next bit (link_tick limit l c) (λ (m : Link). Soon p bit (d - 1) m ⊎ Burst p (limit + 29) bit (d - 1) m) → (Burst p (limit + 29) bit (d - 1) (link_after (link_tick limit l c)) → BeginsWithin bit (d - 1 - 1) (run limit (link_after (link_tick limit l c)) cs))
          → BeginsWithin bit (d - 1) (run limit l (c ∷ cs))
      go (Ways.began ch e) f = now (d - 1) ch e
      go (Ways.waits e (inl w')) f = behind d (soon_left p v bit (d - 1) _ w') e (soon_run (d - 1) after cs kept b (omega arith) w')
      go (Ways.waits e (inr w')) f = behind d (burst_left p v bit (d - 1) _ (limit + 29) w') e (f w')

  -- no device bursts meanwhile
  pub clear_run : (d : ℕ) (l : Link) (ticks : List Calls) → LinkKept limit retries l → EachTick Fair (run limit l ticks) → d ≤ length ticks → NoneBursts bit (run limit l ticks) → Clear p (limit + 29) retries bit d l → BeginsWithin bit (d - 1) (run limit l ticks)
  unfolding run
  clear_run d l [] k b m off w = absurd (omega (arith, clear_left p v bit d l (limit + 29) retries w))
  clear_run d l (c ∷ cs) k (tick_and one b) m (until_it_begins ch off e) w = S.begins (d - 1) ch e
  clear_run d l (c ∷ cs) k (tick_and one b) m (and_on off more) w =
      go (clear_tick limit low high p v retries bit l c one d k (link_kept limit retries low high l c k) w)
      (λ w'. clear_run (d - 1) (link_after (link_tick limit l c)) cs (settled_kept (link_kept limit retries low high l c k)) b (omega arith) more w')
    where
      after : Link
      after = link_after (link_tick limit l c)

      kept : LinkKept limit retries (link_after (link_tick limit l c))
      kept = settled_kept (link_kept limit retries low high l c k)

      go : Next bit (link_tick limit l c) (λ (m : Link). (Soon p bit (d - 1) m ⊎ Clear p (limit + 29) retries bit (d - 1) m) ⊎ Burst p (limit + 29) bit (d - 1 + burst_gain p (limit + 29)) m)
          → (Clear p (limit + 29) retries bit (d - 1) (link_after (link_tick limit l c)) → BeginsWithin bit (d - 1 - 1) (run limit (link_after (link_tick limit l c)) cs)) → BeginsWithin bit (d - 1) (run limit l (c ∷ cs))
      go (Ways.began ch e) f = now (d - 1) ch e
      go (Ways.waits e (inl (inl w'))) f = behind d (soon_left p v bit (d - 1) _ w') e (soon_run (d - 1) after cs kept b (omega arith) w')
      go (Ways.waits e (inl (inr w'))) f = behind d (clear_left p v bit (d - 1) _ (limit + 29) retries w') e (f w')
      go (Ways.waits e (inr w')) f = absurd (none_some off (burst_some p v bit _ _ (limit + 29) w'))

  -- a device may begin to burst meanwhile
  any_run : (d : ℕ) (l : Link) (ticks : List Calls) → LinkKept limit retries l → EachTick Fair (run limit l ticks) → d + burst_gain p (limit + 29) ≤ length ticks → Clear p (limit + 29) retries bit d l
      → BeginsWithin bit (d + burst_gain p (limit + 29) - 1) (run limit l ticks)
  unfolding run
  any_run d l [] k b m w = absurd (omega (arith, clear_left p v bit d l (limit + 29) retries w))
  any_run d l (c ∷ cs) k (tick_and one b) m w =
      let some = clear_left p v bit d l (limit + 29) retries w in
      go (clear_tick limit low high p v retries bit l c one d k (link_kept limit retries low high l c k) w)
      (λ w'. any_run (d - 1) (link_after (link_tick limit l c)) cs (settled_kept (link_kept limit retries low high l c k)) b (omega (arith, some)) w')
    where
      after : Link
      after = link_after (link_tick limit l c)

      kept : LinkKept limit retries (link_after (link_tick limit l c))
      kept = settled_kept (link_kept limit retries low high l c k)

      some : 1 ≤ d
      some = clear_left p v bit d l (limit + 29) retries w

      go : Next bit (link_tick limit l c) (λ (m : Link). (Soon p bit (d - 1) m ⊎ Clear p (limit + 29) retries bit (d - 1) m) ⊎ Burst p (limit + 29) bit (d - 1 + burst_gain p (limit + 29)) m)
          → (Clear p (limit + 29) retries bit (d - 1) (link_after (link_tick limit l c)) → BeginsWithin bit (d - 1 + burst_gain p (limit + 29) - 1) (run limit (link_after (link_tick limit l c)) cs))
          → BeginsWithin bit (d + burst_gain p (limit + 29) - 1) (run limit l (c ∷ cs))
      go (Ways.began ch e) f = now (d + burst_gain p (limit + 29) - 1) ch e
      go (Ways.waits e (inl (inl w'))) f =
          behind (d + burst_gain p (limit + 29)) (omega (arith, some)) e (later_too (omega (arith, some)) (soon_run (d - 1) after cs kept b (omega arith) w'))
      go (Ways.waits e (inl (inr w'))) f = behind (d + burst_gain p (limit + 29)) (omega (arith, some)) e (later_too (omega (arith, some)) (f w'))
      go (Ways.waits e (inr w')) f =
          behind (d + burst_gain p (limit + 29)) (omega (arith, some)) e (later_too (omega (arith, some)) (burst_run (d - 1 + burst_gain p (limit + 29)) after cs kept b (omega (arith, some)) w'))

-- ---- a message that was accepted

begun_left : (s : _) → 1 ≤ left s → M.begun s ≡ true
begun_left Rattle.turns.specs.declared.Stage.TheVariants.Free z = absurd (omega arith)
begun_left Waiting z = absurd (omega arith)
begun_left (Sending n) z = refl
begun_left (Rattle.turns.specs.declared.Stage.TheVariants.Awaiting n) z = refl

waiting_sending : (n : ℕ) → Waiting ≡ Sending n → ⊥
waiting_sending n e = let z : ◌≡◌ {A = ℕ} 0 1 = cc in omega arith

-- the windows of the two masters are no farther apart than two times RT2
not_far : (p : Profile) → Valid p → (a b : _) → ClearWindows p a b → b.next ≤ a.next + 2 * p.rt2
not_far p v a b (primary_first gap g (W.waiting e f h i)) = omega (arith, g.most)
not_far p v a b (primary_first gap g (W.first_open e f h i j)) = omega (arith, g.most)
not_far p v a b (primary_first gap g (W.first_shut e f h i j)) = omega (arith, g.most)
not_far p v a b (primary_first gap g (W.second_open e f h i j)) = omega (arith, g.most)
not_far p v a b (primary_first gap g (W.second_shut e f h i j)) = omega (arith, g.most)
not_far p v a b (secondary_first gap g (W.waiting e f h i)) = omega (arith, g.most)
not_far p v a b (secondary_first gap g (W.first_open e f h i j)) = omega (arith, g.most)
not_far p v a b (secondary_first gap g (W.first_shut e f h i j)) = omega (arith, g.most)
not_far p v a b (secondary_first gap g (W.second_open e f h i j)) = omega (arith, g.most)
not_far p v a b (secondary_first gap g (W.second_shut e f h i j)) = omega (arith, g.most)

module _ (limit : ℕ) (low : 2 ≤ limit) (high : limit ≤ 255) (p : Profile) (v : Valid p) (retries : ℕ) (bit : Bool) where
  -- how a message waits, with the ticks that demand 3 allows it
  Entered : ℕ → Link → Type 0
  Entered e l = (Soon p bit (e + longest_wait limit p retries) l ⊎ Clear p (limit + 29) retries bit (e + longest_wait limit p retries) l) ⊎ Burst p (limit + 29) bit (e + longest_wait limit p retries + burst_gain p (limit + 29)) l

  module _ (e : ℕ) (l : Link) (kept : LinkSettled limit retries l) (q : Pending (waiter bit l)) where
    counted : (z : Bool) → 1 ≤ left (other z l).master.message.stage → 1 ≤ (other z l).master.message.attempts
    counted true k = kept.secondary.kept.counted (begun_left l.secondary.master.message.stage k)
    counted false k = kept.primary.kept.counted (begun_left l.primary.master.message.stage k)

    on_clear : l.line ≡ Silence → ClearLine p e l.primary l.secondary l.devices → Entered e l
    unfolding Entered
    on_clear line m = inl (inr (Ways.Clear.on_silence_lem e line m q (by (native.Mathlib.Decide.dec_le 1 (left (other bit l).master.message.stage)))))
      where
        co : Ways.ClearOf p e bit (waiter bit l) (other bit l)
        co = clear_of p e bit l m

        by : Dec (1 ≤ left (other bit l).master.message.stage)
            → K.ClearRank p (limit + 29) retries (waiter bit l).master.timer (other bit l).master.timer (left (other bit l).master.message.stage) (other bit l).master.message.attempts (e + longest_wait limit p retries)
        by (yes z) =
            K.ClearRank.awaits retries (omega (arith, counted bit z)) z (omega (arith, not_far p v _ _ co.windows, co.awaits z, co.most)) (omega (arith, co.most))
        by (no z) = K.ClearRank.may_begin (omega arith) (omega (arith, co.near (pending_left q) (omega arith)))

    on_set : (n : ℕ) (next : Bool) → l.line ≡ Silence → SetLine p n next l.primary l.secondary l.devices → Entered e l
    unfolding Entered
    on_set n next line m =
        inr (Ways.Burst.on_silence_lem n next line m q
        (by (native.Mathlib.Decide.dec_le 1 (waiter bit l).master.timer.next) (native.Mathlib.Decide.dec_le 1 (left (other bit l).master.message.stage)) (is_own bit next) refl))
      where
        so : Ways.SetOf p n next bit (waiter bit l) (other bit l)
        so = set_of p n next bit l m

        by : Dec (1 ≤ (waiter bit l).master.timer.next) → Dec (1 ≤ left (other bit l).master.message.stage) → (own : Bool) → is_own bit next ≡ own
            → K.SetRank p (limit + 29) (is_own bit next) n (waiter bit l).master.timer (other bit l).master.timer (left (other bit l).master.message.stage) (e + longest_wait limit p retries + burst_gain p (limit + 29))
        by (yes x) y own o = K.SetRank.slot_now (omega (arith, so.waiter_next)) (omega (arith, v.some_hold))
        by (no x) (yes y) true o = absurd (true_false (sym o ∙ (so.awaits y).0))
        by (no x) (no y) true o = K.SetRank.next_own o (omega arith) (omega arith) (omega (arith, so.most, v.secondary, v.hold_short))
        by (no x) (yes y) false o = K.SetRank.awaits o (omega arith) y (so.awaits y).1.no_next (so.awaits y).1.no_window (omega (arith, so.most, v.secondary))
        by (no x) (no y) false o =
            K.SetRank.next_other o (omega arith) so.other_next (omega arith) (omega (arith, so.most, v.secondary))
            (λ z. omega (arith, v.secondary, v.hold_short)) (λ z. omega (arith, so.other_window, so.most, v.secondary, v.hold_short))

    on_stx : (burst : Bool) (noted : Noted) (next : Bool) (k : ℕ) (w : List ℕ) (message : Whole) → l.line ≡ Character (get_or w k 0) → OneMasterSends p (not bit) bit burst noted next k w message (other bit l) (waiter bit l) l.devices → Entered e l
    unfolding Entered
    on_stx true noted next k w message line o = inr (Ways.Burst.on_stx noted next k w message line o q (omega (arith, stx_length limit retries p bit l kept o, v.secondary)))
    on_stx false noted next k w message line o =
        inl (inr (Ways.Clear.on_stx noted next k w message line o q retries (omega (arith, tried bit o)) (omega (arith, stx_length limit retries p bit l kept o, v.hold_short))))
      where
        sent : {x : MasterSide} (primary : Bool) → x.master.profile ≡ p → x.master.primary ≡ primary → MasterPlace k w x → M.begun x.master.message.stage ≡ true
        sent primary a b (inside below z) = ap M.begun z
        sent {x} primary a b (finished last t y z) = begun_left x.master.message.stage (omega (arith, z, own_is p primary x.master a b, (some_rt1 p v primary).0))

        tried : (z : Bool) → OneMasterSends p (not z) z false noted next k w message (other z l) (waiter z l) l.devices → 1 ≤ (other z l).master.message.attempts
        tried true o = kept.secondary.kept.counted (sent (not true) o.speaks.is_it.profile_is o.speaks.is_it.primary_is o.speaks.place)
        tried false o = kept.primary.kept.counted (sent (not false) o.speaks.is_it.profile_is o.speaks.is_it.primary_is o.speaks.place)

    on_ack : (burst : Bool) (noted : Noted) (next : Bool) (k : ℕ) (w : List ℕ) (message : Whole) (u : ℕ) (on : Bool) → l.line ≡ Character (get_or w k 0)
        → OneDeviceSends p an_ack burst noted next k w message u on l.primary l.secondary l.devices → Entered e l
    unfolding Entered
    on_ack burst noted next k w message u on line o = by (burst_after burst noted message.header) refl
      where
        short : length w ≤ limit + 29
        short = frame_length o.devices kept.devices

        by : (z : Bool) → burst_after burst noted message.header ≡ z → Entered e l
        by true z = inr (Ways.Burst.on_ack burst noted next k w message u on line o z q (λ y. omega (arith, short, v.secondary, v.hold_short)) (omega (arith, short)))
        by false z =
            inl (inl (Ways.behind_ack_lem burst noted next k w message u line
            (subst (λ (y : Bool). OneDeviceSends p an_ack burst noted next k w message u y l.primary l.secondary l.devices) (off_is on o z) o)
            z (answer_for bit l o.frame_is q).0 q (omega (arith, short, v.hold_short))))

    on_back : (burst : Bool) (noted : Noted) (next : Bool) (k : ℕ) (w : List ℕ) (message : Whole) (u : ℕ) → l.line ≡ Character (get_or w k 0)
        → OneDeviceSends p a_back burst noted next k w message u true l.primary l.secondary l.devices → Entered e l
    unfolding Entered
    on_back burst noted next k w message u line o =
        let short = frame_length o.devices kept.devices in
        inr (Ways.Burst.on_back burst noted next k w message u line o q (λ y. omega (arith, short, v.secondary, v.hold_short)) (omega (arith, short)))

    -- a master that waits does not send
    not_sending : {primary other burst : Bool} {noted : Noted} {next : Bool} {k : ℕ} {w : List ℕ} {message : Whole} {y : MasterSide} → OneMasterSends p primary other burst noted next k w message (waiter bit l) y l.devices → ⊥
    not_sending {primary} {k = k} {w = w} o = go o.speaks.place
      where
        go : MasterPlace k w (waiter bit l) → ⊥
        go (inside below z) = waiting_sending (suc k) (sym q.stage_is ∙ z)
        go (finished last t y z) = omega (arith, pending_left q, z, own_is p primary (waiter bit l).master o.speaks.is_it.profile_is o.speaks.is_it.primary_is, (some_rt1 p v primary).0)

enter : (limit : ℕ) (low : 2 ≤ limit) (high : limit ≤ 255) (p : Profile) (v : Valid p) (retries : ℕ) (bit : Bool) (e : ℕ) (l : Link) → LinkSettled limit retries l → Pending (waiter bit l) → Phase p e l → Entered limit low high p v retries bit e l
unfolding when◌then◌else◌
enter limit low high p v retries bit e l kept q (N.silent line (clear m)) = on_clear limit low high p v retries bit e l kept q line m
enter limit low high p v retries bit e l kept q (N.silent line (set n next m)) = on_set limit low high p v retries bit e l kept q n next line m
enter limit low high p v retries true e l kept q (N.primary_sends burst noted next k w message line o) = absurd (not_sending limit low high p v retries true e l kept q o)
enter limit low high p v retries false e l kept q (N.primary_sends burst noted next k w message line o) = on_stx limit low high p v retries false e l kept q burst noted next k w message line o
enter limit low high p v retries true e l kept q (N.secondary_sends burst noted next k w message line o) = on_stx limit low high p v retries true e l kept q burst noted next k w message line o
enter limit low high p v retries false e l kept q (N.secondary_sends burst noted next k w message line o) = absurd (not_sending limit low high p v retries false e l kept q o)
enter limit low high p v retries bit e l kept q (N.ack_sent burst noted next k w message u on line o) = on_ack limit low high p v retries bit e l kept q burst noted next k w message u on line o
enter limit low high p v retries bit e l kept q (N.back_sent burst noted next k w message u line o) = on_back limit low high p v retries bit e l kept q burst noted next k w message u line o

-- ---- the theorem

-- what is claimed of a message that was accepted in the first tick of this list
abbrev pub Claim : ℕ → Profile → ℕ → Bool → ℕ → List LinkStep → Type 0
Claim limit p retries bit e ss =
    (NoneBursts bit ss → e + longest_wait limit p retries < length ss → BeginsWithin bit (e + longest_wait limit p retries) ss)
    × (e + longest_wait limit p retries + longer_with_burst limit p < length ss → BeginsWithin bit (e + longest_wait limit p retries + longer_with_burst limit p) ss)

pub run_length : (limit : ℕ) (l : Link) (ticks : List Calls) → length (run limit l ticks) ≡ length ticks
unfolding run
run_length limit l [] = refl
run_length limit l (c ∷ cs) = ap suc (run_length limit (link_after (link_tick limit l c)) cs)

pub one_more : {bit : Bool} (d : ℕ) {s : LinkStep} {ss : List LinkStep} → 1 ≤ d → (master_in bit s).sent ≡ Sent.Silent → BeginsWithin bit (d - 1) ss → BeginsWithin bit d (s ∷ ss)
one_more {bit} d {s} {ss} some e b = subst (λ (n : ℕ). BeginsWithin bit n (s ∷ ss)) (omega arith) (S.waits e b)

pub pending_in : (bit : Bool) (s : LinkStep) → (master_in bit s).side.master.message.stage ≡ Waiting → (master_in bit s).side.master.message.attempts ≡ 0 → Pending (waiter bit (link_after s))
pending_in true s a b = record { stage_is = a; attempts_is = b }
pending_in false s a b = record { stage_is = a; attempts_is = b }

pub accepted_in : (limit : ℕ) → limit ≤ 255 → (bit : Bool) (l : Link) (c : Calls) → AcceptedIn bit (link_tick limit l c) → Accepted (master_in bit (link_tick limit l c))
unfolding link_tick
accepted_in limit high true l c e = accepts limit high l.primary l.line c.for_primary e
accepted_in limit high false l c e = accepts limit high l.secondary l.line c.for_secondary e

module _ (limit : ℕ) (low : 2 ≤ limit) (high : limit ≤ 255) (p : Profile) (v : Valid p) (retries : ℕ) (bit : Bool) where
  -- the tick of acceptance, and those behind it
  pub at_tick : (e : ℕ) (l : Link) (c : Calls) (cs : List Calls) → LinkKept limit retries l → Phase p e (link_after (link_tick limit l c)) → EachTick Fair (run limit (link_after (link_tick limit l c)) cs) → AcceptedIn bit (link_tick limit l c)
      → Claim limit p retries bit e (link_tick limit l c ∷ run limit (link_after (link_tick limit l c)) cs)
  unfolding Entered
  at_tick e l c cs k ph b acc = go (accepted_in limit high bit l c acc)
    where
      s : LinkStep
      s = link_tick limit l c

      settled : LinkSettled limit retries (link_after (link_tick limit l c))
      settled = link_kept limit retries low high l c k

      after : List LinkStep
      after = run limit (link_after (link_tick limit l c)) cs

      long : length (run limit (link_after (link_tick limit l c)) cs) ≡ length cs
      long = run_length limit (link_after (link_tick limit l c)) cs

      W : ℕ
      W = e + longest_wait limit p retries

      behind : {s : LinkStep} {ss : List LinkStep} → NoneBursts bit (s ∷ ss) → (master_in bit s).sent ≡ Sent.Silent → NoneBurstsIn s × NoneBursts bit ss
      behind (until_it_begins ch off z) y = absurd (silent_character (sym y ∙ z))
        where
          silent_character : {c : ℕ} → Sent.Silent ≡ Sent.Character c → ⊥
          silent_character e = let z : ◌≡◌ {A = ℕ} 0 1 = cc in omega arith
      behind (and_on off more) y = (off, more)

      enters : (master_in bit s).sent ≡ Sent.Silent → (Soon p bit (e + longest_wait limit p retries) (link_after s) ⊎ Clear p (limit + 29) retries bit (e + longest_wait limit p retries) (link_after s)) ⊎ Burst p (limit + 29) bit (e + longest_wait limit p retries + burst_gain p (limit + 29)) (link_after s)
          → Claim limit p retries bit e (link_tick limit l c ∷ run limit (link_after (link_tick limit l c)) cs)
      enters z (inl (inl w)) =
          let some = soon_left p v bit _ _ w in (
            λ none due. one_more _ some z (soon_run limit low high p v retries bit _ (link_after s) cs (settled_kept settled) b (omega (arith, long)) w),
            λ due. later_too (omega arith) (one_more _ some z (soon_run limit low high p v retries bit _ (link_after s) cs (settled_kept settled) b (omega (arith, long)) w)),
          )
      enters z (inl (inr w)) =
          let some = clear_left p v bit _ _ (limit + 29) retries w in (
            λ none due. one_more _ some z (clear_run limit low high p v retries bit _ (link_after s) cs (settled_kept settled) b (omega (arith, long)) (behind none z).1 w),
            λ due. one_more _ (omega (arith, some)) z (any_run limit low high p v retries bit _ (link_after s) cs (settled_kept settled) b (omega (arith, long)) w),
          )
      enters z (inr w) = (
        λ none due. absurd (none_some (behind none z).0 (burst_some p v bit _ _ (limit + 29) w)),
        λ due. one_more _ (burst_left p v bit _ _ (limit + 29) w) z (burst_run limit low high p v retries bit _ (link_after s) cs (settled_kept settled) b (omega (arith, long)) w),
      )

      go : Accepted (master_in bit s) → Claim limit p retries bit e (link_tick limit l c ∷ run limit (link_after (link_tick limit l c)) cs)
      go (M.begins_now ch z) = (λ none due. S.begins _ ch z, λ due. S.begins _ ch z)
      go (M.waits_now z a y) = enters z (enter limit low high p v retries bit e (link_after s) settled (pending_in bit s a y) ph)

  head_is : {x y : LinkStep} {xs ys : List LinkStep} → x ∷ xs ≡ y ∷ ys → x ≡ y
  head_is e = cc

  none_more : {y : LinkStep} {ys : List LinkStep} → [] ≡ y ∷ ys → ⊥
  none_more e = let z : ◌≡◌ {A = ℕ} 0 1 = cc in omega arith

  pub found : (e t : ℕ) (l : Link) (ticks : List Calls) (s : LinkStep) (after : List LinkStep) → LinkKept limit retries l → Phase p e l → EachTick Fair (run limit l ticks) → drop t (run limit l ticks) ≡ s ∷ after → AcceptedIn bit s
      → Claim limit p retries bit (e - 1 - t) (s ∷ after)
  unfolding run
  found e zero l [] s after k ph b q acc = absurd (none_more q)
  found e (suc t) l [] s after k ph b q acc = absurd (none_more q)
  found e zero l (c ∷ cs) s after k ph (tick_and one b) q acc =
      subst (λ (ss : List LinkStep). Claim limit p retries bit (e - 1 - 0) ss) q
      (subst (λ (n : ℕ). Claim limit p retries bit n (link_tick limit l c ∷ run limit (link_after (link_tick limit l c)) cs)) (omega arith)
      (at_tick (e - 1) l c cs k (phase_tick limit low high p v e l c ph one) b (subst (AcceptedIn bit) (sym (head_is q)) acc)))
  found e (suc t) l (c ∷ cs) s after k ph (tick_and one b) q acc =
      subst (λ (n : ℕ). Claim limit p retries bit n (s ∷ after)) (omega arith)
      (found (e - 1) t (link_after (link_tick limit l c)) cs s after (settled_kept (link_kept limit retries low high l c k)) (phase_tick limit low high p v e l c ph one) b q acc)

pub wait : (limit : ℕ) → 2 ≤ limit → limit ≤ 255 → WaitInARun limit
unfolding run
wait limit low high p retries l [] k bit zero s after q acc = absurd (none_more limit low high p (valid p k.made) retries bit q)
wait limit low high p retries l [] k bit (suc t) s after q acc = absurd (none_more limit low high p (valid p k.made) retries bit q)
wait limit low high p retries l (c ∷ cs) k bit t s after q acc = go (fair_run limit p retries l (c ∷ cs) k) t q
  where
    v : Valid p
    v = valid p k.made

    kept : LinkKept limit retries l
    kept = starts_kept limit k.starts

    first : Phase p p.rt1s (link_after (link_tick limit l c))
    first = phase_first limit low high p (valid p k.made) retries l c k.starts

    go : EachTick Fair (run limit l (c ∷ cs)) → (t : ℕ) → drop t (run limit l (c ∷ cs)) ≡ s ∷ after → Claim limit p retries bit (p.rt1s - t) (s ∷ after)
    go (tick_and one b) zero q =
        subst (λ (ss : List LinkStep). Claim limit p retries bit (p.rt1s - 0) ss) q
        (subst (λ (n : ℕ). Claim limit p retries bit n (link_tick limit l c ∷ run limit (link_after (link_tick limit l c)) cs)) (omega arith)
        (at_tick limit low high p v retries bit p.rt1s l c cs kept first b (subst (AcceptedIn bit) (sym (head_is limit low high p v retries bit q)) acc)))
    go (tick_and one b) (suc t) q =
        subst (λ (n : ℕ). Claim limit p retries bit n (s ∷ after)) (omega arith)
        (found limit low high p v retries bit p.rt1s t (link_after (link_tick limit l c)) cs s after (settled_kept (link_kept limit retries low high l c kept)) first b q acc)

-- demand 3, for any data limit that leaves room for an answer's two bytes and fits a byte count
pub demand_3 : (limit : ℕ) → 2 ≤ limit → limit ≤ 255 → Demand3 limit
demand_3 limit low high = (no_two_send limit low high, wait limit low high)
