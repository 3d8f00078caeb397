-- Laws of a tick's lines: for one party, and for several one behind the other.
use Prim.Native.Nat.{ℕ, zero, suc, ◌+◌, ◌≤◌, ◌<◌}
use native.Mathlib.Numerals.{add-one}
use native.Mathlib.Omega.{arith}
use mathlib.Core.Bool.{Bool, true, false}
use mathlib.Core.Path.{◌≡◌, refl, sym, ap, subst, ◌∙◌}
use mathlib.Core.List.{List, [], ◌∷◌, ◌++◌, append-nil, append_assoc}
use lib.ListN.{length, take, drop, get_or, set, replicate, length-set, drop_of_length-le}
use lib.Seq.{drop-cons, drop-set-lt, take_all}
use Rattle.base.specs.Choice.{when◌then◌else◌, ◌≤?◌}
use Rattle.base.proofs.Choices.{if_is_true, if_is_false}
use Rattle.base.proofs.Lists.{front_more}
use Rattle.texts.specs.Put.{Out, out_of, put, PutIs}
use Rattle.texts.proofs.Puts.{put_append, put_none, put_same, put_then, put_length}
use Rattle.line.specs.Reader.{idle, character, taken}
use Rattle.line.specs.declared.Event.{Event}
use Rattle.line.specs.declared.Event.TheVariants.{Nothing, PassedOver, Broken, Frame, Damaged}
use Rattle.line.specs.declared.Receiver.{Receiver}
use Rattle.line.specs.declared.Taken.{Taken}
use Rattle.line.specs.declared.Whole.{Whole}
use Rattle.turns.specs.Run.{count}
use Rattle.turns.specs.declared.Sent.{Sent}
use Rattle.turns.specs.declared.Sent.TheVariants.{Silent}
use Rattle.player_listing.specs.Lines.{Line, line_of, quiet_monitor, PartyLines, goes_on, frame_ends, ends_by, ends_with, one_more, listens, TickLines, besides, lines_of, senders, tick_lines, lines_from, monitors_from}
use Rattle.player_listing.specs.Text.{line_text, lines_text}
use Rattle.player_listing.specs.Promises.{SendsIs, PartyIs, TickLinesAre}
use Rattle.player_listing.specs.Rows.{ticks_lines}
use Rattle.player_listing.specs.declared.Monitor.{Monitor}

-- quiet monitors
pub quiet_reader : (r : Receiver) → r ≡ idle → record { receiver = r; count = 0; alone = true } ≡ quiet_monitor
quiet_reader r p = ap (λ (x : Receiver). record { receiver = x; count = 0; alone = true }) p

pub quiet_all : (e : Monitor) → e ≡ quiet_monitor → replicate 8 e ≡ replicate 8 quiet_monitor
quiet_all e p = ap (λ (x : Monitor). replicate 8 x) p

pub ruleset quiet = (quiet_reader, quiet_all)

-- no line
party_none : (e f : Monitor) (before : List ℕ) (at : ℕ) → f ≡ e → PartyIs (record { monitor = e; lines = [] }) before at f at before
unfolding lines_text
party_none e f before at p = record { monitor_is = p; text = put_none before at }

-- a frame that ended
one_line : (l : Line) → line_text l ≡ lines_text (l ∷ [])
unfolding lines_text
one_line l = sym (append-nil (line_text l))

pub ends_alone : (l : Line) (alone : Bool) (e : Monitor) (before after : List ℕ) (at r : ℕ) → alone ≡ true → e ≡ quiet_monitor → PutIs (line_text l) before at r after → PartyIs (frame_ends l alone) before at e r after
unfolding frame_ends
ends_alone l alone e before after at r a p q = record {
  monitor_is = p;
  text = put_same (line_text l) (lines_text (when alone then l ∷ [] else [])) before at r after q (one_line l ∙ ap lines_text (sym (if_is_true alone (l ∷ []) [] a)));
}

pub ends_with_others : (l : Line) (alone : Bool) (e : Monitor) (before : List ℕ) (at : ℕ) → alone ≡ false → e ≡ quiet_monitor → PartyIs (frame_ends l alone) before at e at before
unfolding frame_ends lines_text
ends_with_others l alone e before at a p = record {
  monitor_is = p;
  text = put_same [] (lines_text (when alone then l ∷ [] else [])) before at at before (put_none before at) (ap lines_text (sym (if_is_false alone (l ∷ []) [] a)));
}

pub ruleset ends = (refl, ends_alone, ends_with_others)

-- behind a character, by what the reader tells
module _ (tick party count : ℕ) (alone : Bool) (t : Taken) (before : List ℕ) (at : ℕ) where
  by_event : (e : Event) (f : Monitor) (r : ℕ) (after : List ℕ) → t.event ≡ e → PartyIs (ends_by tick party count alone t.receiver e) before at f r after → PartyIs (ends_with tick party count alone t) before at f r after
  unfolding ends_with
  by_event e f r after p q = subst (λ (x : Event). PartyIs (ends_by tick party count alone t.receiver x) before at f r after) (sym p) q

  abbrev GoesOn : Type 0
  GoesOn = PartyIs (ends_with tick party count alone t) before at (goes_on t.receiver count alone).monitor at before

  goes : (e : Event) → t.event ≡ e → ends_by tick party count alone t.receiver e ≡ goes_on t.receiver count alone → GoesOn
  goes e p q = by_event e (goes_on t.receiver count alone).monitor at before p
      (subst (λ (x : PartyLines). PartyIs x before at (goes_on t.receiver count alone).monitor at before) (sym q)
      (party_none (goes_on t.receiver count alone).monitor (goes_on t.receiver count alone).monitor before at refl))

  pub told_frame : (w : Whole) (f : Monitor) (r : ℕ) (after : List ℕ) → t.event ≡ Frame w → PartyIs (frame_ends (line_of tick party w.header count) alone) before at f r after → PartyIs (ends_with tick party count alone t) before at f r after
  told_frame w f r after p q = by_event (Frame w) f r after p q

  -- whatever is no frame
  pub told_other : ((w : Whole) → t.event ≡ Frame w → ⊥) → GoesOn
  told_other n = go t.event refl
    where
      go : (e : Event) → t.event ≡ e → GoesOn
      go Nothing p = goes Nothing p refl
      go PassedOver p = goes PassedOver p refl
      go Broken p = goes Broken p refl
      go (Damaged w m) p = goes (Damaged w m) p refl
      go (Frame w) p = absurd (n w p)

pub ruleset tells = (refl, told_frame)

-- a character
pub hears : (tick party : ℕ) (lone : Bool) (e : Monitor) (c : ℕ) (n : ℕ) (alone : Bool) (t : Taken) (before after : List ℕ) (at : ℕ) (f : Monitor) (r : ℕ)
    → t ≡ character e.receiver.place e.receiver c → n ≡ one_more e.count → alone ≡ (when e.alone then lone else false) → PartyIs (ends_with tick party n alone t) before at f r after
    → PartyIs (listens tick party lone e (Sent.Character c)) before at f r after
unfolding listens taken
hears tick party lone e c n alone t before after at f r p q s v =
    subst (λ (x : PartyLines). PartyIs x before at f r after) (λ i. ends_with tick party (q i) (s i) (p i)) v

-- a party, by what it sends
pub listens_silent : (tick party : ℕ) (lone : Bool) (e : Monitor) (s : Sent) (before : List ℕ) (at : ℕ) (f : Monitor) → s ≡ Silent → f ≡ quiet_monitor → PartyIs (listens tick party lone e s) before at f at before
unfolding listens
listens_silent tick party lone e s before at f p q = subst (λ (x : Sent). PartyIs (listens tick party lone e x) before at f at before) (sym p) (party_none quiet_monitor f before at q)

pub listens_character : (tick party : ℕ) (lone : Bool) (e : Monitor) (s : Sent) (c : ℕ) (before after : List ℕ) (at : ℕ) (f : Monitor) (r : ℕ) → s ≡ Sent.Character c
    → PartyIs (listens tick party lone e (Sent.Character c)) before at f r after → PartyIs (listens tick party lone e s) before at f r after
listens_character tick party lone e s c before after at f r p v = subst (λ (x : Sent). PartyIs (listens tick party lone e x) before at f r after) (sym p) v

pub ruleset listening = (refl, hears)

-- ---- how many send

senders_nobody : (ss : List Sent) (i : ℕ) → length ss ≤ i → senders (drop i ss) ≡ 0
unfolding senders
senders_nobody ss i h = ap senders (drop_of_length-le ss h)

-- a loop that counts them: of the first i parties n send
pub record Counting (ss : List Sent) (n i : ℕ) : Type 0 where
  pub eight : length ss ≡ 8
  pub within : i ≤ 8
  pub bound : n ≤ i
  pub left : n + senders (drop i ss) ≡ senders ss

pub counting_none : (ss : List Sent) → length ss ≡ 8 → Counting ss 0 0
counting_none ss e = record { eight = e; within = omega arith; bound = omega arith; left = omega arith }

pub counting_more : (ss : List Sent) (n i m : ℕ) (d : Sent) → Counting ss n i → i < 8 → SendsIs (get_or ss i d) m → Counting ss (n + m) (i + 1)
unfolding senders
counting_more ss n i m d v h e =
    let next : senders (drop i ss) ≡ count (get_or ss i d) + senders (drop (i + 1) ss) = simp add-one (ap senders (drop-cons ss i d (omega arith))) in
    record { eight = v.eight; within = omega arith; bound = omega arith; left = omega arith }

pub counting_all : (ss : List Sent) (n i : ℕ) → Counting ss n i → 8 ≤ i → n ≡ senders ss
counting_all ss n i v h = omega (arith, senders_nobody ss i (omega arith))

-- ---- parties one behind the other

lines_append : (ls ks : List Line) → lines_text ls ++ lines_text ks ≡ lines_text (ls ++ ks)
unfolding lines_text
lines_append [] ks = refl
lines_append (l ∷ ls) ks = append_assoc (line_text l) (lines_text ls) (lines_text ks) ∙ ap (λ (x : List ℕ). line_text l ++ x) (lines_append ls ks)

-- a party, and those behind it
tick_besides : (x : PartyLines) (y : TickLines) (before between after : List ℕ) (at m r : ℕ) (e : Monitor) (es : List Monitor)
    → PartyIs x before at e m between → TickLinesAre y between m es r after → TickLinesAre (besides x y) before at (e ∷ es) r after
tick_besides x y before between after at m r e es p q = record {
  monitors_are = λ i. p.monitor_is i ∷ q.monitors_are i;
  text = put_same (lines_text x.lines ++ lines_text y.lines) (lines_text (x.lines ++ y.lines)) before at r after
      (put_then (lines_text x.lines) (lines_text y.lines) before between after at m r p.text q.text)
      (lines_append x.lines y.lines);
}

tick_none : (before : List ℕ) (at : ℕ) → TickLinesAre (record { monitors = []; lines = [] }) before at [] at before
unfolding lines_text
tick_none before at = record { monitors_are = refl; text = put_none before at }

-- a loop over eight parties: what is left gives what the whole gives
pub record Listening (whole : TickLines) (tick : ℕ) (lone : Bool) (ss : List Sent) (before : List ℕ) (at : ℕ) (es : List Monitor) (bytes : List ℕ) (place i : ℕ) : Type 0 where
  pub monitors : length es ≡ 8
  pub parties : length ss ≡ 8
  pub within : i ≤ 8
  pub same_length : length bytes ≡ length before
  pub left : (fs : List Monitor) (r : ℕ) (after : List ℕ) → TickLinesAre (lines_of tick i lone (drop i es) (drop i ss)) bytes place fs r after → TickLinesAre whole before at (take i es ++ fs) r after

pub listening_none : (tick : ℕ) (lone : Bool) (es : List Monitor) (ss : List Sent) (before : List ℕ) (at : ℕ) → length es ≡ 8 → length ss ≡ 8 → Listening (lines_of tick 0 lone es ss) tick lone ss before at es before at 0
listening_none tick lone es ss before at e f = record { monitors = e; parties = f; within = omega arith; same_length = refl; left = λ fs r after p. p }

next_party : (tick i : ℕ) (lone : Bool) (es : List Monitor) (ss : List Sent) (d : Monitor) (o : Sent) → i < length es → i < length ss
    → lines_of tick i lone (drop i es) (drop i ss) ≡ besides (listens tick i lone (get_or es i d) (get_or ss i o)) (lines_of tick (i + 1) lone (drop (i + 1) es) (drop (i + 1) ss))
unfolding lines_of
next_party tick i lone es ss d o h k =
    (λ j. lines_of tick i lone (drop-cons es i d h j) (drop-cons ss i o k j))
    ∙ ap (λ (n : ℕ). besides (listens tick i lone (get_or es i d) (get_or ss i o)) (lines_of tick (i + 1) lone (drop n es) (drop n ss))) (sym (add-one i))

pub listening_more : {whole : TickLines} {tick : ℕ} {lone : Bool} {ss : List Sent} {before : List ℕ} {at : ℕ} {es : List Monitor} {bytes : List ℕ} {place i : ℕ} {e : Monitor} {k : ℕ} {after : List ℕ} (d : Monitor) (o : Sent)
    → Listening whole tick lone ss before at es bytes place i → i < 8 → PartyIs (listens tick i lone (get_or es i d) (get_or ss i o)) bytes place e k after
    → Listening whole tick lone ss before at (set es i e) after k (i + 1)
listening_more {whole} {tick} {lone} {ss} {before} {at} {es} {bytes} {place} {i} {e} {k} {after} d o v h p = record {
  monitors = length-set es i e ∙ v.monitors;
  parties = v.parties;
  within = omega arith;
  same_length = put_length (lines_text (listens tick i lone (get_or es i d) (get_or ss i o)).lines) bytes place k after p.text ∙ v.same_length;
  left = λ fs r behind q.
      let rest = subst (λ (l : List Monitor). TickLinesAre (lines_of tick (i + 1) lone l (drop (i + 1) ss)) after k fs r behind) (drop-set-lt (i + 1) es i e (omega arith)) q in
      let both = tick_besides (listens tick i lone (get_or es i d) (get_or ss i o)) (lines_of tick (i + 1) lone (drop (i + 1) es) (drop (i + 1) ss)) bytes after behind place k r e fs p rest in
      let front : take i es ++ (e ∷ fs) ≡ take (i + 1) (set es i e) ++ fs = front_more es fs i e (omega arith) in
      subst (λ (l : List Monitor). TickLinesAre whole before at l r behind) front
      (v.left (e ∷ fs) r behind (subst (λ (x : TickLines). TickLinesAre x bytes place (e ∷ fs) r behind) (sym (next_party tick i lone es ss d o (omega arith) (omega arith))) both));
}

pub listening_all : (whole : TickLines) (tick : ℕ) (lone : Bool) (ss : List Sent) (before : List ℕ) (at : ℕ) (es : List Monitor) (bytes : List ℕ) (place i : ℕ)
    → Listening whole tick lone ss before at es bytes place i → 8 ≤ i → TickLinesAre whole before at es place bytes
unfolding lines_of
listening_all whole tick lone ss before at es bytes place i v h =
    let over : length es ≤ i = omega arith in
    let none = subst (λ (l : List Monitor). TickLinesAre (lines_of tick i lone l (drop i ss)) bytes place [] place bytes) (sym (drop_of_length-le es over)) (tick_none bytes place) in
    subst (λ (l : List Monitor). TickLinesAre whole before at l place bytes) (append-nil (take i es) ∙ take_all i es (omega arith)) (v.left [] place bytes none)

-- nobody sends
nobody : (tick party : ℕ) (lone : Bool) (es : List Monitor) (ss : List Sent) (before : List ℕ) (at : ℕ) → length es ≡ length ss → senders ss ≡ 0
    → TickLinesAre (lines_of tick party lone es ss) before at (replicate (length ss) quiet_monitor) at before
unfolding lines_of senders
nobody tick party lone [] [] before at e h = tick_none before at
nobody tick party lone [] (s ∷ ss) before at e h = absurd (omega arith)
nobody tick party lone (f ∷ es) [] before at e h = absurd (omega arith)
nobody tick party lone (f ∷ es) (Silent ∷ ss) before at e h =
    tick_besides (listens tick party lone f Silent) (lines_of tick (party + 1) lone es ss) before before before at at at quiet_monitor (replicate (length ss) quiet_monitor)
    (listens_silent tick party lone f Silent before at quiet_monitor refl refl)
    (nobody tick (party + 1) lone es ss before at (omega arith) (omega arith))
nobody tick party lone (f ∷ es) (Sent.Character c ∷ ss) before at e h = absurd (omega arith)

pub tick_silent : (tick n : ℕ) (es fs : List Monitor) (ss : List Sent) (before : List ℕ) (at : ℕ)
    → n ≡ senders ss → n ≡ 0 → length es ≡ 8 → length ss ≡ 8 → fs ≡ replicate 8 quiet_monitor → TickLinesAre (tick_lines tick es ss) before at fs at before
unfolding tick_lines
tick_silent tick n es fs ss before at e z h k q =
    subst (λ (l : List Monitor). TickLinesAre (lines_of tick 0 (senders ss ≤? 1) es ss) before at l at before) (ap (λ (m : ℕ). replicate m quiet_monitor) k ∙ sym q)
    (nobody tick 0 (senders ss ≤? 1) es ss before at (h ∙ sym k) (sym e ∙ z))

-- a loop over ticks: behind one of them, what is left gives what the whole gives
pub tick_goes_on : (tick : ℕ) (es fs : List Monitor) (ss : List Sent) (ticks : List (List Sent)) (before after : List ℕ) (at r : ℕ) → TickLinesAre (tick_lines tick es ss) before at fs r after
    → put (out_of before at) (lines_text (lines_from tick es (ss ∷ ticks))) ≡ put (out_of after r) (lines_text (lines_from (tick + 1) fs ticks))
unfolding lines_from
tick_goes_on tick es fs ss ticks before after at r p =
    let now = tick_lines tick es ss in
    let rest = lines_from (tick + 1) now.monitors ticks in
    ap (put (out_of before at)) (sym (lines_append now.lines rest))
    ∙ put_append (lines_text now.lines) (lines_text rest) (out_of before at)
    ∙ ap (λ (o : Out). put o (lines_text rest)) (sym p.text.out)
    ∙ ap (λ (l : List Monitor). put (out_of after r) (lines_text (lines_from (tick + 1) l ticks))) (sym p.monitors_are)

-- several ticks: the lines of those in front, then of those behind
lines_behind : (tick : ℕ) (es : List Monitor) (ts rest : List (List Sent)) → lines_from tick es (ts ++ rest) ≡ lines_from tick es ts ++ lines_from (tick + length ts) (monitors_from tick es ts) rest
unfolding lines_from monitors_from
lines_behind tick es [] rest = let here : tick ≡ tick + 0 = omega arith in ap (λ (n : ℕ). lines_from n es rest) here
lines_behind tick es (ss ∷ ts) rest =
    let now = tick_lines tick es ss in
    let onward : tick + 1 + length ts ≡ tick + suc (length ts) = omega arith in
    ap (λ (ls : List Line). now.lines ++ ls) (lines_behind (tick + 1) now.monitors ts rest)
    ∙ sym (append_assoc now.lines (lines_from (tick + 1) now.monitors ts) _)
    ∙ ap (λ (n : ℕ). (now.lines ++ lines_from (tick + 1) now.monitors ts) ++ lines_from n (monitors_from (tick + 1) now.monitors ts) rest) onward

pub ticks_text : (tick : ℕ) (es : List Monitor) (ts rest : List (List Sent))
    → lines_text (lines_from tick es (ts ++ rest)) ≡ lines_text (lines_from tick es ts) ++ lines_text (lines_from (tick + length ts) (monitors_from tick es ts) rest)
ticks_text tick es ts rest =
    ap lines_text (lines_behind tick es ts rest) ∙ sym (lines_append (lines_from tick es ts) (lines_from (tick + length ts) (monitors_from tick es ts) rest))

-- some ticks in which nobody sends
pub ticks_silent : (n tick : ℕ) (es : List Monitor) (before : List ℕ) (at : ℕ) → length es ≡ 8
    → TickLinesAre (ticks_lines tick es (replicate (suc n) (replicate 8 Silent))) before at (replicate 8 quiet_monitor) at before
unfolding lines_from monitors_from senders
ticks_silent zero tick es before at h =
    let one = tick_silent tick 0 es (replicate 8 quiet_monitor) (replicate 8 Silent) before at refl refl h refl refl in
    record {
      monitors_are = one.monitors_are;
      text = put_same _ _ before at at before one.text (ap lines_text (sym (append-nil (tick_lines tick es (replicate 8 Silent)).lines)));
    }
ticks_silent (suc n) tick es before at h =
    let now = tick_lines tick es (replicate 8 Silent) in
    let one = tick_silent tick 0 es (replicate 8 quiet_monitor) (replicate 8 Silent) before at refl refl h refl refl in
    let others = ticks_silent n (tick + 1) now.monitors before at (ap length (sym one.monitors_are)) in
    record {
      monitors_are = others.monitors_are;
      text = put_same _ _ before at at before (put_then _ _ before before before at at at one.text others.text) (lines_append now.lines (lines_from (tick + 1) now.monitors (replicate (suc n) (replicate 8 Silent))));
    }
