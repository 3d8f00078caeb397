-- Demand 3, its first half: "no two send in one tick", for every list of ticks, whatever the hosts give in them.
use Prim.Native.Nat.{ℕ, suc, ◌-◌, ◌≤◌}
use native.Mathlib.Omega.{arith}
use mathlib.Core.Path.{◌≡◌, sym, ap, subst, ◌∙◌}
use mathlib.Core.Bool.{Bool, true, false}
use mathlib.Core.List.{List, [], ◌∷◌}
use lib.ListN.{get_or}
use Rattle.base.specs.Choice.{when◌then◌else◌}
use Rattle.base.proofs.Choices.{true_false}
use Rattle.frame.specs.declared.Header.{Header}
use Rattle.line.specs.declared.Heard.{Heard}
use Rattle.line.specs.declared.Heard.TheVariants.{Silence, Character}
use Rattle.line.specs.declared.Profile.{Profile}
use Rattle.line.specs.declared.Whole.{Whole}
use Rattle.turns.specs.Link.{MasterSide, DeviceSide, Link, LinkStep, Calls, master_tick, device_ticks, link_tick, link_after, run, sides}
use Rattle.turns.specs.Run.{Starts, EachTick, no_tick, tick_and, NoTwoSend}
use Rattle.turns.specs.Demand3.{NoTwoSendInARun}
use Rattle.turns.specs.declared.Noted.{Noted}
use Rattle.runs.proofs.Fair.{Fair}
use Rattle.runs.proofs.Tags.{fair_run}
use Rattle.turns.proofs.DeviceSpeaking.{an_ack, a_back}
use Rattle.turns.proofs.Senders.{carries, Plain, plain_silence, plain_character, one_sender}
use Rattle.turns.proofs.Windows.{Valid}
use Rattle.runs.proofs.Begun.{next_after}
use Rattle.turns.proofs.Quiet.{ClearLine, SetLine, SilentLine, clear, set, Awaits, behind_break_set, behind_break_clear}
use Rattle.runs.proofs.Stx as X
use Rattle.runs.proofs.Stx.{OneMasterSends, StxEnded, StxTick, stx_tick}
use Rattle.runs.proofs.SilentTick as T
use Rattle.runs.proofs.SilentTick.{OneDeviceSends, SilentTick}
use Rattle.runs.proofs.Silences.{clear_tick, set_tick}
use Rattle.runs.proofs.AckBack as A
use Rattle.runs.proofs.AckBack.{AckEnded, AckTick, BackTick, ack_tick, back_tick}
use Rattle.turns.proofs.Fresh.{first_tick, valid}

-- ---- the invariant: the line is silent, or carries a frame of one party

-- e ticks are left until tick RT1 secondary
pub data Phase (p : Profile) (e : ℕ) (l : Link) : Type 0 where
  silent : l.line ≡ Silence → SilentLine p e l.primary l.secondary l.devices → Phase p e l
  primary_sends : (burst : Bool) (noted : Noted) (next : Bool) (k : ℕ) (w : List ℕ) (message : Whole) → l.line ≡ Character (get_or w k 0)
      → OneMasterSends p true false burst noted next k w message l.primary l.secondary l.devices → Phase p e l
  secondary_sends : (burst : Bool) (noted : Noted) (next : Bool) (k : ℕ) (w : List ℕ) (message : Whole) → l.line ≡ Character (get_or w k 0)
      → OneMasterSends p false true burst noted next k w message l.secondary l.primary l.devices → Phase p e l
  ack_sent : (burst : Bool) (noted : Noted) (next : Bool) (k : ℕ) (w : List ℕ) (message : Whole) (u : ℕ) (on : Bool) → l.line ≡ Character (get_or w k 0)
      → OneDeviceSends p an_ack burst noted next k w message u on l.primary l.secondary l.devices → Phase p e l
  back_sent : (burst : Bool) (noted : Noted) (next : Bool) (k : ℕ) (w : List ℕ) (message : Whole) (u : ℕ) → l.line ≡ Character (get_or w k 0)
      → OneDeviceSends p a_back burst noted next k w message u true l.primary l.secondary l.devices → Phase p e l

-- behind an STX its sender awaits the ACK
primary_awaits : (p : Profile) → Valid p → (e : ℕ) {burst : Bool} {noted : Noted} {next : Bool} {h : Header} {a b : MasterSide} {xs : List DeviceSide} → StxEnded p true false burst noted next h a b xs → Awaits p e burst next h p.sto a b
unfolding when◌then◌else◌
primary_awaits p v e x = record {
  asked = record {
    by_primary = λ z q. omega (arith, x.sender_left, v.sto_short);
    by_secondary = λ z q. absurd (true_false (sym x.bit_is ∙ q));
    primary_header = λ z q. x.header_is;
    secondary_header = λ z q. absurd (true_false (sym x.bit_is ∙ q));
  };
  primary_left = λ z. x.sender_left;
  secondary_left = λ z. absurd (omega (arith, x.listener_left));
  primary_next = λ z q. x.turn_is z;
  secondary_next = λ z q. absurd (omega (arith, x.listener_left));
  nobody = λ y z. absurd (omega (arith, x.sender_left, v.rt2_short));
}

secondary_awaits : (p : Profile) → Valid p → (e : ℕ) {burst : Bool} {noted : Noted} {next : Bool} {h : Header} {a b : MasterSide} {xs : List DeviceSide} → StxEnded p false true burst noted next h b a xs → Awaits p e burst next h p.sto a b
unfolding when◌then◌else◌
secondary_awaits p v e x = record {
  asked = record {
    by_primary = λ z q. absurd (true_false (sym q ∙ x.bit_is));
    by_secondary = λ z q. omega (arith, x.sender_left, v.sto_short, v.secondary);
    primary_header = λ z q. absurd (true_false (sym q ∙ x.bit_is));
    secondary_header = λ z q. x.header_is;
  };
  primary_left = λ z. absurd (omega (arith, x.listener_left));
  secondary_left = λ z. x.sender_left;
  primary_next = λ z q. absurd (omega (arith, x.listener_left));
  secondary_next = λ z q. x.turn_is z;
  nobody = λ y z. absurd (omega (arith, x.sender_left, v.rt2_short, v.secondary));
}

module _ (p : Profile) (v : Valid p) (e : ℕ) {noted : Noted} {next : Bool} {h : Header} {a b : MasterSide} {xs : List DeviceSide} where
  pub primary_set : StxEnded p true false true noted next h a b xs → SetLine p p.rt1p next a b xs
  primary_set x = behind_break_set p v e noted next h p.sto a b xs (omega arith) x.sender x.listener x.sender_timer x.listener_timer (primary_awaits p v e x) x.devices x.distinct x.agreed

  pub primary_clear : StxEnded p true false false noted next h a b xs → ClearLine p e a b xs
  primary_clear x = behind_break_clear p v e noted next h p.sto a b xs (omega arith) x.sender x.listener x.sender_timer x.listener_timer (primary_awaits p v e x) x.devices x.distinct x.agreed

  pub secondary_set : StxEnded p false true true noted next h b a xs → SetLine p p.rt1p next a b xs
  secondary_set x = behind_break_set p v e noted next h p.sto a b xs (omega arith) x.listener x.sender x.listener_timer x.sender_timer (secondary_awaits p v e x) x.devices x.distinct x.agreed

  pub secondary_clear : StxEnded p false true false noted next h b a xs → ClearLine p e a b xs
  secondary_clear x = behind_break_clear p v e noted next h p.sto a b xs (omega arith) x.listener x.sender x.listener_timer x.sender_timer (secondary_awaits p v e x) x.devices x.distinct x.agreed

pub stx_line : (p : Profile) → Valid p → (e : ℕ) (burst : Bool) {noted : Noted} {next : Bool} {h : Header} {a b : MasterSide} {xs : List DeviceSide} → StxEnded p true false burst noted next h a b xs → SilentLine p e a b xs
stx_line p v e true {next = next} x = set p.rt1p next (primary_set p v e x)
stx_line p v e false x = clear (primary_clear p v e x)

pub stx_line_secondary : (p : Profile) → Valid p → (e : ℕ) (burst : Bool) {noted : Noted} {next : Bool} {h : Header} {a b : MasterSide} {xs : List DeviceSide} → StxEnded p false true burst noted next h b a xs → SilentLine p e a b xs
stx_line_secondary p v e true {next = next} x = set p.rt1p next (secondary_set p v e x)
stx_line_secondary p v e false x = clear (secondary_clear p v e x)

module _ (p : Profile) (v : Valid p) (e : ℕ) (s : LinkStep) where
  behind_clear : {burst : Bool} {noted : Noted} {next : Bool} {a b : MasterSide} → SilentTick p 0 burst noted next a b s.for_primary s.for_secondary s.for_devices (ClearLine p e s.for_primary.side s.for_secondary.side (sides s.for_devices)) → Phase p e (link_after s)
  behind_clear (T.still_silent a b c l ra rb) = silent (carries s a b c) (clear l)
  behind_clear {burst} {noted} {next} (T.primary_begins w message a b c o ra rb) = primary_sends burst noted next 0 w message (carries s a b c) o
  behind_clear {burst} {noted} {next} (T.secondary_begins w message a b c o ra rb) = secondary_sends burst noted next 0 w message (carries s a b c) o
  behind_clear {burst} {noted} {next} (T.ack_begins w message u on a b c o ra rb) = ack_sent burst noted (next_after burst next) 0 w message u on (carries s a b c) o
  behind_clear {burst} {noted} {next} (T.back_begins z w message u a b c o ra rb) = absurd (omega (arith, z))

  behind_set : {n : ℕ} {burst : Bool} {noted : Noted} {next : Bool} {a b : MasterSide} → SilentTick p n burst noted next a b s.for_primary s.for_secondary s.for_devices (SetLine p (n - 1) next s.for_primary.side s.for_secondary.side (sides s.for_devices)) → Phase p e (link_after s)
  behind_set {n} {burst} {noted} {next} (T.still_silent a b c l ra rb) = silent (carries s a b c) (set (n - 1) next l)
  behind_set {n} {burst} {noted} {next} (T.primary_begins w message a b c o ra rb) = primary_sends burst noted next 0 w message (carries s a b c) o
  behind_set {n} {burst} {noted} {next} (T.secondary_begins w message a b c o ra rb) = secondary_sends burst noted next 0 w message (carries s a b c) o
  behind_set {n} {burst} {noted} {next} (T.ack_begins w message u on a b c o ra rb) = ack_sent burst noted (next_after burst next) 0 w message u on (carries s a b c) o
  behind_set {n} {burst} {noted} {next} (T.back_begins z w message u a b c o ra rb) = back_sent burst noted (when next then false else true) 0 w message u (carries s a b c) o

  behind_primary : {burst : Bool} {noted : Noted} {next : Bool} {k : ℕ} {w : List ℕ} {message : Whole} {a b : MasterSide} → StxTick p true false burst noted next k w message a b s.for_primary s.for_secondary s.for_devices → Phase p e (link_after s)
  behind_primary {burst} {noted} {next} {k} {w} {message} (X.goes_on m a b c o n y) = primary_sends burst noted next (suc k) w message (carries s a b c) o
  behind_primary {burst} (X.ends m a b c x n y) = silent (carries s a b c) (stx_line p v e burst x)

  behind_secondary : {burst : Bool} {noted : Noted} {next : Bool} {k : ℕ} {w : List ℕ} {message : Whole} {a b : MasterSide} → StxTick p false true burst noted next k w message b a s.for_secondary s.for_primary s.for_devices → Phase p e (link_after s)
  behind_secondary {burst} {noted} {next} {k} {w} {message} (X.goes_on m a b c o n y) = secondary_sends burst noted next (suc k) w message (carries s b a c) o
  behind_secondary {burst} (X.ends m a b c x n y) = silent (carries s b a c) (stx_line_secondary p v e burst x)

  behind_ended : {burst next : Bool} {h : Header} → (link_after s).line ≡ Silence → AckEnded p e burst next h s.for_primary.side s.for_secondary.side (sides s.for_devices) → Phase p e (link_after s)
  behind_ended q (A.ended_clear z n l ta tb) = silent q (clear l)
  behind_ended {next = next} q (A.ended_set z n l ta tb) = silent q (set 1 next l)

  behind_ack_lem : {burst : Bool} {noted : Noted} {next : Bool} {k : ℕ} {w : List ℕ} {message : Whole} {u : ℕ} {on : Bool} {a b : MasterSide} → AckTick p e burst noted next k w message u on a b s.for_primary s.for_secondary s.for_devices → Phase p e (link_after s)
  behind_ack_lem {burst} {noted} {next} {k} {w} {message} {u} {on} (A.ack_goes_on m a b c o x y) = ack_sent burst noted next (suc k) w message u on (carries s a b c) o
  behind_ack_lem (A.ack_ends m f a b c l x y) = behind_ended (carries s a b c) l
  behind_ack_lem {next = next} {u = u} (A.back_follows_it m f who w message a b c o x y) = back_sent true who (when next then false else true) 0 w message u (carries s a b c) o

  behind_back : {burst : Bool} {noted : Noted} {next : Bool} {k : ℕ} {w : List ℕ} {message : Whole} {u : ℕ} {a b : MasterSide} → BackTick p burst noted next k w message u a b s.for_primary s.for_secondary s.for_devices → Phase p e (link_after s)
  behind_back {burst} {noted} {next} {k} {w} {message} {u} (A.back_goes_on m a b c o x y) = back_sent burst noted next (suc k) w message u (carries s a b c) o
  behind_back {next = next} (A.back_ends m a b c l ta tb n x y) = silent (carries s a b c) (set p.rt2 next l)

-- a tick of the link that heard this
unfoldable pub heard_tick : ℕ → Link → Heard → Calls → LinkStep
heard_tick limit l heard c = record {
  for_primary = master_tick limit l.primary heard c.for_primary;
  for_secondary = master_tick limit l.secondary heard c.for_secondary;
  for_devices = device_ticks limit heard l.devices c.for_devices;
}

pub tick_is : (limit : ℕ) (l : Link) (heard : Heard) (c : Calls) → l.line ≡ heard → link_tick limit l c ≡ heard_tick limit l heard c
unfolding link_tick heard_tick
tick_is limit l heard c e = ap (λ (h : Heard). heard_tick limit l h c) e

-- every tick keeps it
pub phase_tick : (limit : ℕ) → 2 ≤ limit → limit ≤ 255 → (p : Profile) → Valid p → (e : ℕ) (l : Link) (c : Calls) → Phase p e l → Fair (link_tick limit l c) → Phase p (e - 1) (link_after (link_tick limit l c))
unfolding heard_tick
phase_tick limit low high p v e l c (silent q (clear o)) sole =
    let z = tick_is limit l Silence c q in
    subst (λ (s : LinkStep). Phase p (e - 1) (link_after s)) (sym z)
    (behind_clear p v (e - 1) (heard_tick limit l Silence c) (clear_tick limit low high p v l.primary l.secondary l.devices c.for_primary c.for_secondary c.for_devices e o (subst Fair z sole)))
phase_tick limit low high p v e l c (silent q (set n next o)) sole =
    let z = tick_is limit l Silence c q in
    subst (λ (s : LinkStep). Phase p (e - 1) (link_after s)) (sym z)
    (behind_set p v (e - 1) (heard_tick limit l Silence c) (set_tick limit low high p v l.primary l.secondary l.devices c.for_primary c.for_secondary c.for_devices n next o (subst Fair z sole)))
phase_tick limit low high p v e l c (primary_sends burst noted next k w message q o) sole =
    subst (λ (s : LinkStep). Phase p (e - 1) (link_after s)) (sym (tick_is limit l (Character (get_or w k 0)) c q))
    (behind_primary p v (e - 1) (heard_tick limit l (Character (get_or w k 0)) c)
    (stx_tick limit low high p v true false burst noted next k w message l.primary l.secondary l.devices c.for_primary c.for_secondary c.for_devices o))
phase_tick limit low high p v e l c (secondary_sends burst noted next k w message q o) sole =
    subst (λ (s : LinkStep). Phase p (e - 1) (link_after s)) (sym (tick_is limit l (Character (get_or w k 0)) c q))
    (behind_secondary p v (e - 1) (heard_tick limit l (Character (get_or w k 0)) c)
    (stx_tick limit low high p v false true burst noted next k w message l.secondary l.primary l.devices c.for_secondary c.for_primary c.for_devices o))
phase_tick limit low high p v e l c (ack_sent burst noted next k w message u on q o) sole =
    subst (λ (s : LinkStep). Phase p (e - 1) (link_after s)) (sym (tick_is limit l (Character (get_or w k 0)) c q))
    (behind_ack_lem p v (e - 1) (heard_tick limit l (Character (get_or w k 0)) c)
    (ack_tick limit low high p v burst noted next k w message u l.primary l.secondary l.devices c.for_primary c.for_secondary c.for_devices (e - 1) on o))
phase_tick limit low high p v e l c (back_sent burst noted next k w message u q o) sole =
    subst (λ (s : LinkStep). Phase p (e - 1) (link_after s)) (sym (tick_is limit l (Character (get_or w k 0)) c q))
    (behind_back p v (e - 1) (heard_tick limit l (Character (get_or w k 0)) c)
    (back_tick limit low high p v burst noted next k w message u l.primary l.secondary l.devices c.for_primary c.for_secondary c.for_devices o))

-- and the first tick begins it
pub phase_first : (limit : ℕ) → 2 ≤ limit → limit ≤ 255 → (p : Profile) → Valid p → (retries : ℕ) (l : Link) (c : Calls) → Starts p retries l → Phase p p.rt1s (link_after (link_tick limit l c))
unfolding link_tick
phase_first limit low high p v retries l c s =
    let f = first_tick limit low high p v retries l.primary l.secondary l.devices l.line c.for_primary c.for_secondary c.for_devices s.primary s.secondary s.devices s.distinct in
    silent (carries (link_tick limit l c) f.primary_silent f.secondary_silent f.devices_silent) (clear f.silent_line)

-- ---- the theorem

pub phase_plain : {p : Profile} {e : ℕ} {l : Link} → Phase p e l → Plain l.line
phase_plain (silent q o) = subst Plain (sym q) plain_silence
phase_plain (primary_sends burst noted next k w message q o) = subst Plain (sym q) (plain_character (get_or w k 0))
phase_plain (secondary_sends burst noted next k w message q o) = subst Plain (sym q) (plain_character (get_or w k 0))
phase_plain (ack_sent burst noted next k w message u on q o) = subst Plain (sym q) (plain_character (get_or w k 0))
phase_plain (back_sent burst noted next k w message u q o) = subst Plain (sym q) (plain_character (get_or w k 0))

pub phases_run : (limit : ℕ) → 2 ≤ limit → limit ≤ 255 → (p : Profile) → Valid p → (e : ℕ) (l : Link) (ticks : List Calls) → Phase p e l → EachTick Fair (run limit l ticks) → EachTick NoTwoSend (run limit l ticks)
unfolding run
phases_run limit low high p v e l [] q b = no_tick
phases_run limit low high p v e l (c ∷ cs) q (tick_and b bs) =
    let next = phase_tick limit low high p v e l c q b in
    tick_and (one_sender (link_tick limit l c) (phase_plain next)) (phases_run limit low high p v (e - 1) (link_after (link_tick limit l c)) cs next bs)

-- the data limit may be any that leaves room for an answer's two bytes and fits a byte count
pub no_two_send : (limit : ℕ) → 2 ≤ limit → limit ≤ 255 → NoTwoSendInARun limit
unfolding run
no_two_send limit low high p retries l [] k = no_tick
no_two_send limit low high p retries l (c ∷ cs) k = go (fair_run limit p retries l (c ∷ cs) k)
  where
    go : EachTick Fair (run limit l (c ∷ cs)) → EachTick NoTwoSend (run limit l (c ∷ cs))
    go (tick_and b bs) =
        let v = valid p k.made in
        let next = phase_first limit low high p v retries l c k.starts in
        tick_and (one_sender (link_tick limit l c) (phase_plain next)) (phases_run limit low high p v p.rt1s (link_after (link_tick limit l c)) cs next bs)
