-- Every load is within demand 3's premises: only party 2 is ever told to burst, so at most one device bursts; and no master asks a command 11. So demand 3 holds of its play.
use Rattle.std.specs.Prelude.{Option, Some, None}
use Prim.Native.Nat.{ℕ, zero, suc, ◌+◌, ◌-◌, ◌%◌, ◌≤◌, ◌<◌}
use native.Mathlib.Omega.{arith}
use mathlib.Core.Path.{◌≡◌, refl, sym, subst, ◌∙◌}
use mathlib.Core.Bool.{Bool, true, false}
use mathlib.Core.List.{List, [], ◌∷◌}
use lib.ListN.{length, replicate, length-replicate}
use borrow.Author.Tests.{eqb-true, eq-eqb, ne_eqb}
use Rattle.base.specs.Choice.{when◌then◌else◌, ◌=?◌}
use Rattle.base.specs.Refusal.{accepted}
use Rattle.base.proofs.Choices.{if_is_true, if_is_false, true_false}
use Rattle.base.proofs.Tables.{chain_second}
use Rattle.frame.specs.Limits.{most_data}
use Rattle.line.specs.Profile.{fsk_profile}
use Rattle.line.proofs.Profiles.{fsk_taken}
use Rattle.turns.specs.Device.{device_starts}
use Rattle.turns.specs.Link.{gives_answer, run}
use Rattle.turns.specs.Run.{Distinct, Differ, DeviceStarts, Starts, EachTick, OneBursts}
use Rattle.turns.specs.Run as R
use Rattle.turns.specs.declared.Wish.TheVariants.{On, Off}
use Rattle.turns.proofs.Bursting.{if_both}
use Rattle.turns.proofs.Masters.{if_cases}
use Rattle.turns.proofs.Fresh.{valid}
use Rattle.runs.proofs.NoTwoSend.{no_two_send}
use Rattle.runs.proofs.Wait.{wait}
use Rattle.player_script.specs.Script.{is_of, call_of, wanted_at, master_call, device_call, device_call_at, stop_of, calls_from}
use Rattle.player_script.specs.declared.Entry.{Entry}
use Rattle.player_script.specs.declared.ScriptCall.{ScriptCall}
use Rattle.player.specs.Play.{ready, ready_link}
use Rattle.load_writer.specs.Load.{call, opening, mark, pair_tick, length_of, lower, upper_party, upper, stop_at, draw, load}
use Rattle.load_writer.proofs.Records.{lower_either, Each, and, tests, each_front, each_load}
use Rattle.load_plays.specs.Plays.{calls_of, play_of, WithinPremises, NoTwoSendInAPlay, WaitInAPlay}
use Rattle.runs.proofs.OtherCommands.{OtherCall, asks_nothing, asks_other, OtherCalls, other_and, other_finds}
use Rattle.runs.proofs.OtherCommands as O
use Rattle.runs.proofs.OneWishes.{same, off, NotOnCall, no_one, replies, given, SideStaysOff, OneWishes, one_wishes}
use Rattle.runs.proofs.OneWishes as W

-- ---- records that turn burst on are for party 2

abbrev OwnWish : Entry → Type 0
OwnWish e = e.action ≡ 4 → e.party ≡ 2

abbrev Wishes : List Entry → Type 0
Wishes es = Each OwnWish es

-- the opening's, computed
abbrev wish_test : Entry → Bool
wish_test e = when e.action =? 4 then e.party =? 2 else true

tested : (e : Entry) → wish_test e ≡ true → OwnWish e
tested e t four = eqb-true e.party 2 (sym (if_is_true (e.action =? 4) (e.party =? 2) true (eq-eqb e.action 4 four)) ∙ t)

opening_tested : tests wish_test opening ≡ true
unfolding tests opening when◌then◌else◌
opening_tested = refl

-- another action
no_wish : (t p a g : ℕ) → (a =? 4) ≡ false → OwnWish (call t p a g)
no_wish t p a g h e = absurd (true_false (sym (eq-eqb a 4 e) ∙ h))

lower_wish : (t x : ℕ) → OwnWish (lower t x)
lower_wish t x = lower_either OwnWish t x (no_wish t (x % 2) 1 0 refl) (no_wish t (x % 2) 3 0 refl) (λ e. refl) (no_wish t 3 2 0 refl)

upper_wish : (t x : ℕ) → OwnWish (upper t x)
unfolding upper
upper_wish t x = no_wish t (upper_party (x % 16)) 2 (length_of x) refl

stop_wish : (t : ℕ) → OwnWish (stop_at t)
stop_wish t = no_wish t 0 0 0 refl

mark_wish : (x q : ℕ) → OwnWish (mark x q)
mark_wish x q = no_wish 400 (4 + q) 2 0 refl

load_wishes : (seed n : ℕ) → Wishes (load seed n)
load_wishes seed n =
    each_load OwnWish n (λ k x h. lower_wish (pair_tick k) x) (λ k x h. upper_wish (pair_tick k) x) (λ e h. stop_wish e.tick) seed n (omega arith)
    (each_front OwnWish wish_test tested (λ x q h. mark_wish x q) opening_tested (draw seed))

-- ---- so are the calls

data OtherWanted : Option ScriptCall → Type 0 where
  nothing : OtherWanted None
  other : {w : ScriptCall} → (w.action ≡ 4 → ⊥) → OtherWanted (Some w)

-- a record of this tick and party is this party's
outer : (c x : Bool) → (when c then false else x) ≡ true → x ≡ true
unfolding when◌then◌else◌
outer true x h = absurd (true_false (sym h))
outer false x h = h

party_is : (t p : ℕ) (e : Entry) → is_of t p e ≡ true → e.party ≡ p
party_is t p e h = eqb-true e.party p (outer (e.action =? 0) _ (chain_second (e.tick =? t) _ h))

wanted_other : (t p : ℕ) (es : List Entry) → (p ≡ 2 → ⊥) → Wishes es → OtherWanted (wanted_at t p es)
unfolding wanted_at
wanted_other t p [] h w = nothing
wanted_other t p (e ∷ es) h (and own w) = if_cases OtherWanted (is_of t p e) _ _ (λ q. other {w = call_of e} (λ four. h (sym (party_is t p e q) ∙ own four))) (λ q. wanted_other t p es h w)

other_not_on : (w : Option ScriptCall) → OtherWanted w → NotOnCall (device_call w)
other_not_on None nothing = no_one
other_not_on (Some w) (other h) =
    if_both NotOnCall (w.action =? 2) _ _ (replies same)
    (subst NotOnCall (sym (if_is_false (w.action =? 4) (gives_answer On (replicate w.argument 0)) (gives_answer Off (replicate w.argument 0)) (ne_eqb w.action 4 h))) (replies off))

call_not_on : (t p : ℕ) (es : List Entry) → (p ≡ 2 → ⊥) → Wishes es → NotOnCall (device_call_at t p es)
call_not_on t p es h w = if_both NotOnCall (t =? 0) _ _ given (other_not_on (wanted_at t p es) (wanted_other t p es h w))

calls_wish : (n t : ℕ) (es : List Entry) → Wishes es → OneWishes (calls_from t n es)
unfolding calls_from
calls_wish zero t es w = W.none
calls_wish (suc n) t es w =
    W.and (device_call_at t 2 es) _ refl
    (W.and (call_not_on t 3 es (λ e. omega (arith, e)) w)
    (W.and (call_not_on t 4 es (λ e. omega (arith, e)) w)
    (W.and (call_not_on t 5 es (λ e. omega (arith, e)) w)
    (W.and (call_not_on t 6 es (λ e. omega (arith, e)) w)
    (W.and (call_not_on t 7 es (λ e. omega (arith, e)) w) W.none)))))
    (calls_wish n (t + 1) es w)

-- ---- a script's masters ask commands 0 and 3

asks_0_or_3 : (w : Option ScriptCall) → OtherCall (master_call w)
asks_0_or_3 None = asks_nothing
asks_0_or_3 (Some w) = if_both OtherCall (w.action =? 1) _ _ (asks_other (λ e. omega (arith, e))) (asks_other (λ e. omega (arith, e)))

calls_other : (n t : ℕ) (es : List Entry) → OtherCalls (calls_from t n es)
unfolding calls_from
calls_other zero t es = O.no_more
calls_other (suc n) t es = other_and (asks_0_or_3 (wanted_at t 0 es)) (asks_0_or_3 (wanted_at t 1 es)) (calls_other n (t + 1) es)

-- ---- the start

apart : (p q : ℕ) → 2 ≤ p → p < q → Differ (ready p) (ready q)
apart p q h k = record { polling_differs = λ e. omega (arith, h, k, e); unique_differs = λ e. omega (arith, k, e) }

zeros : (n : ℕ) → n ≤ length {A = ℕ} (replicate n 0)
zeros n = subst (λ (m : ℕ). n ≤ m) (sym (length-replicate {A = ℕ} n 0)) (omega arith)

device_starts_lem : (party : ℕ) → device_starts fsk_profile 5 (party - 2) party ≡ accepted (ready party).device → DeviceStarts fsk_profile (ready party)
device_starts_lem party e = record { preamble = 5; polling = party - 2; unique = party; starts = e; room = zeros 284; content_room = zeros 255 }

ready_starts : Starts fsk_profile 3 ready_link
unfolding ready_link when◌then◌else◌
ready_starts = record {
  primary = record { starts = refl; room = zeros 284 };
  secondary = record { starts = refl; room = zeros 284 };
  devices = R.and (device_starts_lem 2 refl) (R.and (device_starts_lem 3 refl) (R.and (device_starts_lem 4 refl) (R.and (device_starts_lem 5 refl) (R.and (device_starts_lem 6 refl) (R.and (device_starts_lem 7 refl) R.none)))));
  distinct =
      Distinct.and (R.and (apart 2 3 (omega arith) (omega arith)) (R.and (apart 2 4 (omega arith) (omega arith)) (R.and (apart 2 5 (omega arith) (omega arith)) (R.and (apart 2 6 (omega arith) (omega arith)) (R.and (apart 2 7 (omega arith) (omega arith)) R.none)))))
      (Distinct.and (R.and (apart 3 4 (omega arith) (omega arith)) (R.and (apart 3 5 (omega arith) (omega arith)) (R.and (apart 3 6 (omega arith) (omega arith)) (R.and (apart 3 7 (omega arith) (omega arith)) R.none))))
      (Distinct.and (R.and (apart 4 5 (omega arith) (omega arith)) (R.and (apart 4 6 (omega arith) (omega arith)) (R.and (apart 4 7 (omega arith) (omega arith)) R.none)))
      (Distinct.and (R.and (apart 5 6 (omega arith) (omega arith)) (R.and (apart 5 7 (omega arith) (omega arith)) R.none))
      (Distinct.and (R.and (apart 6 7 (omega arith) (omega arith)) R.none)
      (Distinct.and R.none Distinct.none)))));
}

stays_off : (p : ℕ) → SideStaysOff (ready p)
stays_off p = record { off = refl; not_on = same }

-- ---- the premises, and demand 3

bursts_once : (seed n : ℕ) → EachTick OneBursts (run most_data ready_link (calls_of seed n))
unfolding ready_link
bursts_once seed n =
    one_wishes most_data ready_link (ready 2) (ready 3 ∷ ready 4 ∷ ready 5 ∷ ready 6 ∷ ready 7 ∷ []) (calls_of seed n) refl
    (R.and (stays_off 3) (R.and (stays_off 4) (R.and (stays_off 5) (R.and (stays_off 6) (R.and (stays_off 7) R.none))))) (calls_wish (stop_of (load seed n)) 0 (load seed n) (load_wishes seed n))

pub within_premises : WithinPremises
unfolding ready_link when◌then◌else◌
within_premises seed n = record {
  made = fsk_taken;
  starts = ready_starts;
  one_bursts = bursts_once seed n;
  one_finds = other_finds most_data (omega arith) (omega arith) fsk_profile (valid fsk_profile fsk_taken) 3 ready_link (calls_of seed n) ready_starts refl refl refl (calls_other (stop_of (load seed n)) 0 (load seed n)) (bursts_once seed n);
}

pub load_alone : NoTwoSendInAPlay
unfolding play_of
load_alone seed n = no_two_send most_data (omega arith) (omega arith) fsk_profile 3 ready_link (calls_of seed n) (within_premises seed n)

pub load_waits : WaitInAPlay
unfolding play_of
load_waits seed n = wait most_data (omega arith) (omega arith) fsk_profile 3 ready_link (calls_of seed n) (within_premises seed n)
