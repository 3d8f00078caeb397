-- Laws of one tick in which a master may not have started: what a fresh master does that is ticked without a call, and that the tick of the code is `late_tick` of runs.
use Rattle.std.specs.Prelude.{None}
use Prim.Native.Nat.{ℕ, zero, suc, ◌+◌, ◌-◌, ◌*◌, ◌<◌}
use native.Mathlib.Omega.{arith}
use mathlib.Core.Path.{◌≡◌, refl, sym, ap, subst, ◌∙◌}
use mathlib.Core.Bool.{false}
use mathlib.Core.List.{List, []}
use lib.ListN.{length, get_or}
use borrow.Author.Tests.{ne_eqb}
use Rattle.base.specs.Choice.{when◌then◌else◌, ◌=?◌}
use Rattle.base.proofs.Choices.{if_is_true, if_is_false}
use Rattle.line.specs.declared.Event.TheVariants.{Nothing}
use Rattle.line.specs.declared.Heard.{Heard}
use Rattle.turns.specs.Master.{tells, sends, sends_by, master_takes, master_sends}
use Rattle.turns.specs.Link.{no_request, MasterSide, MasterStep, LinkStep, joins, sides, carried, master_data, master_sent, master_tick, link_tick, link_after}
use Rattle.turns.specs.Link as L
use Rattle.runs.specs.Late.{late_master, late_tick}
use Rattle.turns.specs.Run.{count, device_senders}
use Rattle.turns.specs.declared.CallResult.{CallResult}
use Rattle.turns.specs.declared.Master.{Master}
use Rattle.turns.specs.declared.MasterTold.{MasterTold}
use Rattle.turns.specs.declared.Sent.TheVariants.{Silent}
use Rattle.turns.specs.declared.Stage.{Stage}
use Rattle.master.specs.Tick as M
use Rattle.link_parties.specs.Stands.{Rows, any_master, link_of, heres, no_master_call, master_call_of, calls_of}
use Rattle.link_parties.specs.declared.Calls.{Calls}
use Rattle.link_parties.specs.declared.Link.{Link}
use Rattle.link_parties.specs.declared.MasterCallWithPart.{MasterCallWithPart}
use Rattle.link_parties.specs.declared.Ticked.{Ticked}
use Rattle.link_ticks.specs.Ticks as T
use Rattle.link_ticks.proofs.Answers.{step_with, one_link}
use Rattle.link_list.specs.Read.{tick_at}
use Rattle.link_list.specs.declared.TickRead.{TickRead}
use Rattle.link_run.specs.Run.{taken, tick_number}
use Rattle.link_run.specs.Step.{row_number, starts_left, call_taken, calls_taken, ticked_master, ticked_link, Fresh, LateReady, step_at, LateStepping}
use Rattle.link_run.specs.declared.StartTicks.{StartTicks}
use Rattle.link_run.proofs.Going.{heres_length}
use Rattle.link_run.proofs.Steps.{number_agrees, calls_read, next_read}

-- ---- a master

-- a fresh master that has no call sends nothing, and its buffers stay
fresh_ticked : (limit : ℕ) (x : MasterSide) (heard : Heard) → Fresh x.master
    → master_tick limit x heard no_request ≡ master_sent (sends x.master false x.master.timer x.master.message x.master.receiver Silent) x.frame x.bytes MasterTold.Nothing CallResult.Nothing
unfolding master_tick master_takes master_sends
fresh_ticked limit x heard f =
    let takes : master_takes x.master heard (master_data x heard) ≡ tells x.master MasterTold.Nothing Nothing = if_is_true x.master.deaf _ _ f.hears_nothing in
    let bytes : master_data x heard ≡ x.bytes = if_is_true x.master.deaf _ _ f.hears_nothing in
    (λ i. master_sent (master_sends (takes i).master x.frame) x.frame (bytes i) (takes i).told CallResult.Nothing)
    ∙ ap (λ (g : Stage). master_sent (sends_by x.master x.frame g) x.frame x.bytes MasterTold.Nothing CallResult.Nothing) f.no_message

-- what the code makes of a master in a tick is what lateMaster gives
pub record AsLate (limit start : ℕ) (x : MasterSide) (heard : Heard) (call : L.MasterCall) (t : MasterStep) : Type 0 where
  pub sent_is : t.sent ≡ (late_master limit start x heard call).sent
  pub answer_is : t.result ≡ (late_master limit start x heard call).result
  pub side_is : M.side_of (ticked_master start x.master t.side.master) t.side.frame t.side.bytes ≡ (late_master limit start x heard call).side

not_started : (n : ℕ) → (suc n =? 0) ≡ false
not_started n = ne_eqb (suc n) 0 (λ e. omega (arith, e))

none_taken : (n : ℕ) (c : MasterCallWithPart) → call_taken (suc n) c ≡ record { call = None; part = c.part }
none_taken n c = if_is_false (suc n =? 0) _ _ (not_started n)

put_back : (n : ℕ) (before ticked : Master) → ticked_master (suc n) before ticked ≡ before
put_back n before ticked = if_is_false (suc n =? 0) _ _ (not_started n)

as_late : (limit start : ℕ) (x : MasterSide) (heard : Heard) (c : MasterCallWithPart) (put : List ℕ) (t : MasterStep) → (0 < start → Fresh x.master)
    → t ≡ master_tick limit x heard (master_call_of put (call_taken start c)) → AsLate limit start x heard (master_call_of put c) t
unfolding when◌then◌else◌
as_late limit zero x heard c put t f e = record {
  sent_is = ap (λ (u : MasterStep). u.sent) e;
  answer_is = ap (λ (u : MasterStep). u.result) e;
  side_is = ap (λ (u : MasterStep). u.side) e;
}
as_late limit (suc n) x heard c put t f e =
    let q = e ∙ ap (λ (k : MasterCallWithPart). master_tick limit x heard (master_call_of put k)) (none_taken n c) ∙ fresh_ticked limit x heard (f (omega arith)) in
    record {
      sent_is = ap (λ (u : MasterStep). u.sent) q;
      answer_is = ap (λ (u : MasterStep). u.result) q;
      side_is = λ i. M.side_of (put_back n x.master t.side.master i) (q i).side.frame (q i).side.bytes;
    }

still_fresh : (start : ℕ) (before ticked : Master) → (0 < start → Fresh before) → 0 < start - 1 → Fresh (ticked_master start before ticked)
still_fresh zero before ticked f h = absurd (omega arith)
still_fresh (suc n) before ticked f h = subst Fresh (sym (put_back n before ticked)) (f (omega arith))

-- ---- the tick

module _ (limit : ℕ) (l : Link) (starts : StartTicks) (ticks : List ℕ) (at : ℕ) (x x_after : Rows) (sent sent_after : List (List ℕ)) (read : TickRead) (t : Ticked)
    (is : T.RunIs limit l (calls_taken starts read.calls) ticks 1 x sent t x_after sent_after) where
  -- what the code did, and what turns gives for the calls that were read
  abbrev did : LinkStep
  did = step_with limit l (calls_taken starts read.calls) ticks x

  abbrev given : LinkStep
  given = late_tick limit starts.primary starts.secondary (link_of l x) (calls_of ticks (heres l.devices) read.calls)

  abbrev calls : ℕ → MasterCallWithPart
  calls i = get_or read.calls.masters i no_master_call

  behind : link_of t.link x_after ≡ link_after did
  behind = one_link limit l (calls_taken starts read.calls) ticks x x_after sent sent_after t is

  module _ (k : LateReady starts l) where
    for_primary : AsLate limit starts.primary (link_of l x).primary l.line (master_call_of ticks (calls 0)) did.for_primary
    unfolding link_tick
    for_primary = as_late limit starts.primary (link_of l x).primary l.line (calls 0) ticks did.for_primary k.primary refl

    for_secondary : AsLate limit starts.secondary (link_of l x).secondary l.line (master_call_of ticks (calls 1)) did.for_secondary
    unfolding link_tick
    for_secondary = as_late limit starts.secondary (link_of l x).secondary l.line (calls 1) ticks did.for_secondary k.secondary refl

    for_devices : did.for_devices ≡ given.for_devices
    unfolding late_tick link_tick
    for_devices = refl

    number_given : tick_number did ≡ tick_number given
    unfolding late_tick
    number_given = λ i.
        (count (for_primary.sent_is i) + (count (for_secondary.sent_is i) + device_senders (for_devices i)))
        + 16 * (taken (for_primary.answer_is i) + 4 * count (for_primary.sent_is i))
        + 32 * (taken (for_secondary.answer_is i) + 4 * count (for_secondary.sent_is i))

    -- a master's side, where it is put back if it has not started
    abbrev put_into : ℕ → Master → MasterSide → MasterSide
    put_into start m y = M.side_of (ticked_master start m y.master) y.frame y.bytes

    link_given : link_of (ticked_link starts l t.link) x_after ≡ link_after given
    unfolding late_tick
    link_given = λ i. record {
      primary = (ap (λ (y : L.Link). put_into starts.primary (get_or l.masters 0 any_master) y.primary) behind ∙ for_primary.side_is) i;
      secondary = (ap (λ (y : L.Link). put_into starts.secondary (get_or l.masters 1 any_master) y.secondary) behind ∙ for_secondary.side_is) i;
      devices = (ap (λ (y : L.Link). y.devices) behind ∙ ap sides for_devices) i;
      line = (ap (λ (y : L.Link). y.line) behind ∙ (λ j. joins (for_primary.sent_is j) (joins (for_secondary.sent_is j) (carried (for_devices j))))) i;
    }

    ready_behind : LateReady (starts_left starts) (ticked_link starts l t.link)
    ready_behind = record {
      six = sym (heres_length t.link.devices) ∙ ap length is.slots ∙ heres_length l.devices ∙ k.six;
      primary = still_fresh starts.primary (get_or l.masters 0 any_master) (get_or t.link.masters 0 any_master) k.primary;
      secondary = still_fresh starts.secondary (get_or l.masters 1 any_master) (get_or t.link.masters 1 any_master) k.secondary;
    }

  step_is : (link : Link) (number : ℕ) → read ≡ tick_at ticks at → link ≡ ticked_link starts l t.link → number ≡ row_number (get_or sent_after 0 []) t.masters
      → LateReady starts l → LateStepping limit l starts ticks at x (record { link = link; number = number; next = read.next }) x_after
  step_is link number reads e n k =
      let here : given ≡ step_at limit l starts x ticks at = ap (late_tick limit starts.primary starts.secondary (link_of l x)) (calls_read limit l ticks at x x_after sent sent_after read t reads k.six) in
      record {
        behind_is = ap (λ (y : Link). link_of y x_after) e ∙ link_given k ∙ ap link_after here;
        number_is = n ∙ number_agrees limit l ticks at x x_after sent sent_after read t (calls_taken starts read.calls) is k.six ∙ number_given k ∙ ap tick_number here;
        ready = subst (λ (y : Link). LateReady (starts_left starts) y) (sym e) (ready_behind k);
        slots = ap (λ (y : Link). heres y.devices) e ∙ is.slots;
        next = next_read limit l ticks at x x_after sent sent_after read t reads k.six;
      }

-- with the calls as the code has them
pub step_taken : (limit : ℕ) (l : Link) (starts : StartTicks) (ticks : List ℕ) (at : ℕ) (x x_after : Rows) (sent sent_after : List (List ℕ)) (read : TickRead) (t : Ticked) (calls : Calls) (link : Link) (number : ℕ)
    → read ≡ tick_at ticks at → calls ≡ calls_taken starts read.calls → T.RunIs limit l calls ticks 1 x sent t x_after sent_after → link ≡ ticked_link starts l t.link → number ≡ row_number (get_or sent_after 0 []) t.masters
    → LateReady starts l → LateStepping limit l starts ticks at x (record { link = link; number = number; next = read.next }) x_after
step_taken limit l starts ticks at x x_after sent sent_after read t calls link number reads e is f n k =
    step_is limit l starts ticks at x x_after sent sent_after read t (subst (λ (c : Calls). T.RunIs limit l c ticks 1 x sent t x_after sent_after) e is) link number reads f n k
