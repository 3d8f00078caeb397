-- Some ticks of a play print what they would print one by one: those of a link that rests, and those that `link_ticks` takes.
use Prim.Native.Nat.{ℕ, suc, ◌+◌, ◌-◌, ◌≤◌, ◌<◌}
use native.Mathlib.Omega.{arith}
use borrow.Author.Tests.{ltb-false, ltb-true}
use mathlib.Core.Bool.{Bool, true, false}
use mathlib.Core.Path.{◌≡◌, refl, sym, ap, subst, ◌∙◌}
use mathlib.Core.List.{List, [], ◌∷◌, map}
use lib.ListN.{length, take, get_or, replicate, length-map}
use Rattle.std.specs.Prelude.{Option, Some, None}
use Rattle.base.specs.Choice.{when◌then◌else◌, ◌<?◌}
use Rattle.turns.specs.Link.{LinkStep, run}
use Rattle.turns.specs.Link as L
use Rattle.turns.specs.Run.{EachTick}
use Rattle.turns.specs.declared.Device.{Device}
use Rattle.turns.specs.declared.Sent.{Sent}
use Rattle.turns.specs.declared.Sent.TheVariants.{Silent}
use Rattle.player_script.specs.declared.Form.{Form}
use Rattle.player_script.specs.Script.{records_in, calls_at, calls_from, tick_at}
use Rattle.player_script.specs.Reads.{Reads}
use Rattle.player_script.specs.Walk.{free_ticks}
use Rattle.player_script.specs.declared.Entry.{Entry}
use Rattle.player_script.specs.declared.ScriptTick.{ScriptTick}
use Rattle.player_script.proofs.Free.{Free, free_is, free_most}
use Rattle.player_script.proofs.Ticks.{reads_tick, reads_next}
use Rattle.player_listing.specs.Sents.{sent_in}
use Rattle.player_listing.specs.Lines.{quiet_monitor, lines_from}
use Rattle.player_listing.specs.Text.{lines_text}
use Rattle.player_listing.specs.Promises.{TickLinesAre}
use Rattle.player_listing.specs.Rows.{rows_sent, rows_listed, heard_so_far, all_heard, ticks_lines, rows_lines}
use Rattle.player_listing.specs.declared.Monitor.{Monitor}
use Rattle.player_listing.proofs.Listens.{ticks_silent}
use Rattle.player_listing.proofs.Lengths.{text_most}
use Rattle.texts.specs.Put.{Out, PutIs}
use Rattle.texts.proofs.Puts.{put_length, put_front}
use Rattle.link_parties.specs.Stands.{Rows, link_of, heres, calls_of, uncalled}
use Rattle.link_parties.specs.declared.Calls.{Calls}
use Rattle.link_parties.specs.declared.Link.{Link}
use Rattle.link_parties.specs.declared.Ticked.{Ticked}
use Rattle.link_ticks.specs.Ticks.{up_to_told, calls_first, at_most, steps_of, link_behind, RunIs}
use Rattle.link_rests.specs.Rests.{slot_rested, link_rests, link_rested}
use Rattle.link_rests.proofs.RestingLink.{rested_agrees, rested_sent}
use Rattle.player_calls.specs.Calls.{zero_bytes, calls_for}
use Rattle.player_calls.proofs.Wanteds.{calls_stand}
use Rattle.player.specs.Ticks.{Stands, rested_for, PlaysOn, Onward}
use Rattle.player.specs.declared.Playing.{Playing}
use Rattle.player.specs.declared.Told.{Told}
use Rattle.player.proofs.Runs.{WantsNone, uncalled_run, first_run, run_count, sent_count, Front, front, told_most, told_some, first_length, after_run}
use Rattle.player.proofs.Sent.{SixTick, six_run, six_here, listed_sent, silent_run}

-- ---- a link that rests

here_still : (n : ℕ) (ss : List (Option Device)) → heres (map (slot_rested n) ss) ≡ heres ss
here_still n [] = refl
here_still n (None ∷ ss) = ap (λ (hs : List Bool). false ∷ hs) (here_still n ss)
here_still n (Some d ∷ ss) = ap (λ (hs : List Bool). true ∷ hs) (here_still n ss)

pub quiet_heard : all_heard (replicate 8 quiet_monitor) ≡ replicate 8 quiet_monitor
unfolding all_heard heard_so_far when◌then◌else◌
quiet_heard = refl

heard_eight : (ms : List Monitor) → length ms ≡ 8 → length (all_heard ms) ≡ 8
unfolding all_heard
heard_eight ms e = length-map ms heard_so_far ∙ e

-- what is put nowhere is no text
nothing_put : (text : List ℕ) → ((before : List ℕ) → PutIs text before 0 0 before) → length text ≡ 0
nothing_put text h = sym (ap (λ (o : Out). o.at) ((h text).out ∙ put_front text text (omega arith)))

module _ (form : Form) (script : List ℕ) (stop ticks : ℕ) (p : Playing) (x : Rows) (out : List ℕ) (k : Stands form script p) (free : Free form script p.next p.tick stop ticks) (rests : link_rests p.link ≡ true) (eight : length p.monitors ≡ 8) where
  abbrev start : L.Link
  start = link_of p.link x

  abbrev es : List Entry
  es = records_in form script

  rest_on_by : (n : ℕ) → ticks ≡ suc n → PlaysOn form script stop p x out (rested_for (suc n) p) x out
  rest_on_by n e =
      let some : 0 < ticks = omega (arith, e) in
      let fits : p.tick + suc n ≤ stop = omega (arith, free.before_it some, e) in
      let wants : WantsNone es p.tick (suc n) = λ i party h. free.wants_none i party (omega (arith, e, h)) in
      let same : run 255 start (replicate (suc n) uncalled) ≡ run 255 start (calls_from p.tick (suc n) es) = uncalled_run es (suc n) p.tick start (free.some_tick some) wants in
      let sent : sent_in (run 255 start (calls_from p.tick (suc n) es)) ≡ replicate (suc n) (replicate 8 Silent) =
      ap sent_in (sym same) ∙ silent_run (suc n) start (six_here x p.link.devices k.there) (λ i. rested_sent p.link x i rests) in
      let behind : link_of (link_rested (suc n) p.link) x ≡ link_behind start (run 255 start (calls_from p.tick (suc n) es)) =
      rested_agrees p.link x n rests ∙ after_run (suc n) start ∙ ap (link_behind start) same in
      let lines : TickLinesAre (ticks_lines p.tick (all_heard p.monitors) (sent_in (run 255 start (calls_from p.tick (suc n) es)))) out p.at (all_heard (replicate 8 quiet_monitor)) p.at out =
      subst (λ (ms : List Monitor). TickLinesAre (ticks_lines p.tick (all_heard p.monitors) (sent_in (run 255 start (calls_from p.tick (suc n) es)))) out p.at ms p.at out) (sym quiet_heard)
      (subst (λ (ts : List (List Sent)). TickLinesAre (ticks_lines p.tick (all_heard p.monitors) ts) out p.at (replicate 8 quiet_monitor) p.at out) (sym sent)
      (ticks_silent n p.tick (all_heard p.monitors) out p.at (heard_eight p.monitors eight))) in
      let none_printed : length (lines_text (lines_from p.tick (all_heard p.monitors) (sent_in (run 255 start (calls_from p.tick (suc n) es))))) ≡ 0 =
      nothing_put _ (λ before. subst (λ (ts : List (List Sent)). PutIs (lines_text (lines_from p.tick (all_heard p.monitors) ts)) before 0 0 before) (sym sent)
      (ticks_silent n p.tick (all_heard p.monitors) before 0 (heard_eight p.monitors eight)).text) in
      record {
        ticks = suc n;
        some = omega arith;
        within = fits;
        tick_is = refl;
        stands = record {
          reads = free.reads_on (suc n) (omega (arith, e));
          there = here_still (suc n) p.link.devices ∙ k.there;
        };
        link_is = behind;
        lines_are = lines;
        short = omega (arith, none_printed);
      }

rests_on : (form : Form) (script : List ℕ) (stop ticks : ℕ) (p : Playing) (x : Rows) (out : List ℕ) (b : Bool) (r : Playing) → Stands form script p → ticks ≡ free_ticks form script p.next p.tick stop → 0 < ticks
    → b ≡ link_rests p.link → b ≡ true → r ≡ rested_for ticks p → length p.monitors ≡ 8 → PlaysOn form script stop p x out r x out
rests_on form script stop ticks p x out b r k f h q e g l =
    let free = free_is form script p.next p.tick stop ticks k.reads f in
    let one : ticks ≡ suc (ticks - 1) = omega arith in
    subst (λ (z : Playing). PlaysOn form script stop p x out z x out) (sym (g ∙ ap (λ (n : ℕ). rested_for n p) one))
    (rest_on_by form script stop ticks p x out k free (sym q ∙ e) l (ticks - 1) one)

pub rested_is : (n : ℕ) (p : Playing) (l : Link) (ms : List Monitor) → l ≡ link_rested n p.link → ms ≡ replicate 8 quiet_monitor
    → ◌≡◌ {A = Playing} (record { link = l; monitors = ms; tick = p.tick + n; next = p.next; at = p.at }) (rested_for n p)
rested_is n p l ms e f = λ i. record { link = e i; monitors = f i; tick = p.tick + n; next = p.next; at = p.at }

pub rests_onward : (told : Told) (script : List ℕ) (ticks : ℕ) (p : Playing) (x : Rows) (out : List ℕ) (b : Bool) (r : Playing) → p.tick < told.stop
    → ticks ≡ free_ticks told.form script p.next p.tick told.stop → 0 < ticks → b ≡ link_rests p.link → b ≡ true → r ≡ rested_for ticks p → length p.monitors ≡ 8
    → Onward told script p x out r x out
rests_onward told script ticks p x out b r s f h q e g l = record {
  later = omega (arith, ap (λ (z : Playing). z.tick) g, h);
  before_stop = omega (arith, ap (λ (z : Playing). z.tick) g, f, free_most told.form script p.next p.tick told.stop, s);
  same_length = refl;
  on = λ k. rests_on told.form script told.stop ticks p x out b r k f h q e g l;
}

-- the ticks of a play are 32-bit numbers
pub rest_room : (told : Told) (script : List ℕ) (ticks : ℕ) (p : Playing) → p.tick < told.stop → ticks ≡ free_ticks told.form script p.next p.tick told.stop
    → told.stop < 4294967296 → p.tick + ticks < 4294967296
rest_room told script ticks p s f h = omega (arith, f, free_most told.form script p.next p.tick told.stop, s, h)

-- ---- some ticks of a link

at_most_64 : (most : ℕ) → at_most most ≤ 64
unfolding when◌then◌else◌
at_most_64 most = by (most <? 64) refl
  where
    by : (t : Bool) → (most <? 64) ≡ t → (when t then most else 64) ≤ 64
    by true e = omega (arith, ltb-true most 64 e)
    by false e = omega arith

at_most_most : (most : ℕ) → at_most most ≤ most
unfolding when◌then◌else◌
at_most_most most = by (most <? 64) refl
  where
    by : (t : Bool) → (most <? 64) ≡ t → (when t then most else 64) ≤ most
    by true e = omega arith
    by false e = ltb-false most 64 e

at_most_some : (most : ℕ) → 1 ≤ most → 1 ≤ at_most most
unfolding when◌then◌else◌
at_most_some most h = by (most <? 64)
  where
    by : (t : Bool) → 1 ≤ (when t then most else 64)
    by true = h
    by false = omega arith

module _ (told : Told) (script : List ℕ) (p : Playing) (x : Rows) (h : p.tick < told.stop)
    (w : ScriptTick) (m : ℕ) (f : m ≡ free_ticks told.form script w.next (p.tick + 1) told.stop) (n : ℕ) (fewer : n ≤ m)
    (c : Calls) (sent sent_after : List (List ℕ)) (t : Ticked) (x_after : Rows) (is : RunIs 255 p.link c zero_bytes (n + 1) x sent t x_after sent_after) where
  ticks_fit : p.tick + (n + 1) ≤ told.stop
  ticks_fit = omega (arith, h, f, fewer, free_most told.form script w.next (p.tick + 1) told.stop)

  abbrev taken : List LinkStep
  taken = run 255 (link_of p.link x) (calls_first (at_most (n + 1)) (calls_of zero_bytes (heres p.link.devices) c))

  taken_count : length taken ≡ at_most (n + 1)
  taken_count = first_length (at_most (n + 1)) (link_of p.link x) (calls_of zero_bytes (heres p.link.devices) c)

  pub count_fits : p.tick + t.count ≤ told.stop
  count_fits = omega (arith, is.count_is, told_most taken, taken_count, at_most_most (n + 1), ticks_fit)

  pub count_some : 1 ≤ t.count
  count_some = omega (arith, is.count_is, told_some taken (omega (arith, taken_count, at_most_some (n + 1) (omega arith))))

  few : t.count ≤ 64
  few = omega (arith, is.count_is, told_most taken, taken_count, at_most_64 (n + 1))

  module _ (wanted : w ≡ tick_at told.form script p.next p.tick) (called : c ≡ calls_for p.tick w) (bytes : (i : ℕ) → get_or script i 0 < 256) (k : Stands told.form script p) where
    abbrev link : L.Link
    link = link_of p.link x

    abbrev entries : List Entry
    entries = records_in told.form script

    free : Free told.form script w.next (p.tick + 1) told.stop m
    free = free_is told.form script w.next (p.tick + 1) told.stop m (reads_next told.form script p.next p.tick w k.reads wanted) f

    calls_are : calls_of zero_bytes (heres p.link.devices) c ≡ calls_at p.tick entries
    calls_are =
        (λ i. calls_of zero_bytes (k.there i) (called i))
        ∙ ap (λ (v : ScriptTick). calls_of zero_bytes (replicate 6 true) (calls_for p.tick v)) (reads_tick told.form script p.next p.tick w k.reads wanted)
        ∙ calls_stand told.form script p.tick w.next bytes

    first : Front entries link p.tick (at_most (n + 1))
    first = front entries (at_most (n + 1)) p.tick link

    steps_are : steps_of 255 p.link c zero_bytes (n + 1) x ≡ run 255 link (calls_from p.tick first.count entries)
    steps_are =
        ap (λ (z : L.Calls). up_to_told (run 255 link (calls_first (at_most (n + 1)) z))) calls_are
        ∙ ap up_to_told (first_run entries (at_most (n + 1)) p.tick link (λ i party g. free.wants_none i party (omega (arith, g, at_most_most (n + 1), fewer))))
        ∙ first.is

    count_is : t.count ≡ first.count
    count_is = is.count_is ∙ ap length steps_are ∙ run_count entries first.count p.tick link

    abbrev ran : List LinkStep
    ran = run 255 link (calls_from p.tick t.count entries)

    ran_is : steps_of 255 p.link c zero_bytes (n + 1) x ≡ ran
    ran_is = steps_are ∙ ap (λ (m : ℕ). run 255 link (calls_from p.tick m entries)) (sym count_is)

    rows_are : told.stop < 4294967296 → rows_sent (take (rows_listed p.tick t.count) sent_after) ≡ sent_in ran
    rows_are s =
        listed_sent p.tick t.count (heres p.link.devices) (steps_of 255 p.link c zero_bytes (n + 1) x) sent sent_after k.there
        (subst (EachTick SixTick) (sym ran_is) (six_run (calls_from p.tick t.count entries) link (six_here x p.link.devices k.there)))
        is.bytes_sent is.count_is few (omega (arith, count_fits, s)) is.sent_is
        ∙ ap sent_in ran_is

    ran_count : length (sent_in ran) ≡ t.count
    ran_count = sent_count entries ran ∙ run_count entries t.count p.tick link

    ticks_on : (monitors : List Monitor) (at : ℕ) (out out_after : List ℕ) → told.stop < 4294967296
        → TickLinesAre (rows_lines p.tick (all_heard p.monitors) (take (rows_listed p.tick t.count) sent_after)) out p.at (all_heard monitors) at out_after
        → PlaysOn told.form script told.stop p x out (record { link = t.link; monitors = monitors; tick = p.tick + t.count; next = w.next; at = at }) x_after out_after
    ticks_on monitors at out out_after s lines =
        let before : p.tick + 1 + (t.count - 1) ≡ p.tick + t.count = omega (arith, count_some) in
        record {
          ticks = t.count;
          some = count_some;
          within = count_fits;
          tick_is = refl;
          stands = record {
            reads = subst (Reads told.form script w.next) before (free.reads_on (t.count - 1) (omega (arith, count_is, first.most, at_most_most (n + 1), fewer)));
            there = is.slots ∙ k.there;
          };
          link_is = is.link_is ∙ ap (link_behind link) ran_is;
          lines_are = subst (λ (ts : List (List Sent)). TickLinesAre (ticks_lines p.tick (all_heard p.monitors) ts) out p.at (all_heard monitors) at out_after) (rows_are s) lines;
          short = omega (arith, text_most p.tick (all_heard p.monitors) (sent_in ran), ran_count, few);
        }

  pub ticks_onward : (monitors : List Monitor) (at : ℕ) (out out_after : List ℕ) → w ≡ tick_at told.form script p.next p.tick → c ≡ calls_for p.tick w
      → ((i : ℕ) → get_or script i 0 < 256) → told.stop < 4294967296
      → TickLinesAre (rows_lines p.tick (all_heard p.monitors) (take (rows_listed p.tick t.count) sent_after)) out p.at (all_heard monitors) at out_after
      → Onward told script p x out (record { link = t.link; monitors = monitors; tick = p.tick + t.count; next = w.next; at = at }) x_after out_after
  ticks_onward monitors at out out_after wanted called bytes s lines = record {
    later = omega (arith, count_some);
    before_stop = count_fits;
    same_length = put_length _ _ _ _ _ lines.text;
    on = λ k. ticks_on wanted called bytes k monitors at out out_after s lines;
  }
