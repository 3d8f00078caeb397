-- Laws of several ticks at once: of a row's numbers, of the monitors, and of the two loops over rows and parties.
use Prim.Native.Nat.{ℕ, zero, suc, ◌+◌, ◌-◌, ◌%◌, ◌≤◌, ◌<◌}
use native.Mathlib.Numerals.{add-one}
use native.Mathlib.Omega.{arith}
use borrow.Author.Tests.{ltb-true, ltb-false}
use mathlib.Core.Bool.{Bool, true, false}
use mathlib.Core.Path.{◌≡◌, refl, sym, ap, subst, ◌∙◌}
use mathlib.Core.List.{List, [], ◌∷◌, map}
use lib.ListN.{length, take, drop, get_or, set, length-set, length-map, get_or-map}
use lib.Seq.{drop-cons, map-set_same}
use Rattle.base.specs.Choice.{when◌then◌else◌, ◌<?◌, ◌≤?◌}
use Rattle.base.proofs.Choices.{if_below, if_not_below, if_equal, if_unequal}
use Rattle.texts.specs.Put.{out_of, put}
use Rattle.texts.proofs.Puts.{put_length}
use Rattle.line.specs.Reader.{taken}
use Rattle.line.specs.declared.Event.{Event}
use Rattle.line.specs.declared.Event.TheVariants.{Nothing, PassedOver, Broken, Frame, Damaged}
use Rattle.line.specs.declared.Heard.TheVariants.{Character}
use Rattle.line.specs.declared.Receiver.{Receiver}
use Rattle.line.specs.declared.Taken.{Taken}
use Rattle.turns.specs.declared.Sent.{Sent}
use Rattle.turns.specs.declared.Sent.TheVariants.{Silent}
use Rattle.player_listing.specs.Lines.{quiet_monitor, goes_on, frame_ends, ends_by, ends_with, one_more, listens, lines_of, senders, tick_lines, lines_from, monitors_from}
use Rattle.player_listing.specs.Text.{lines_text}
use Rattle.player_listing.specs.Promises.{SendsIs, PartyIs, TickLinesAre}
use Rattle.player_listing.specs.Rows.{sent_for, row_sent, rows_sent, lesser, rows_listed, heard_so_far, all_heard, rows_lines, RowIs}
use Rattle.player_listing.specs.declared.Monitor.{Monitor}
use Rattle.player_listing.proofs.Listens.{Counting, counting_none, counting_more, counting_all, Listening, listening_none, listening_more, listening_all, listens_silent, listens_character, tick_goes_on}

-- ---- how many rows

pub listed_of : (tick count n r : ℕ) → n ≡ lesser count 64 → r ≡ lesser n (4294967295 - tick) → r ≡ rows_listed tick count
listed_of tick count n r p q = q ∙ ap (λ (m : ℕ). lesser m (4294967295 - tick)) p

-- ---- a row

row_at : (row : List ℕ) (i d : ℕ) → get_or (row_sent row) i (sent_for d) ≡ sent_for (get_or row i d)
unfolding row_sent
row_at row i d = get_or-map sent_for row i d

row_length : (row : List ℕ) → length (row_sent row) ≡ length row
unfolding row_sent
row_length row = length-map row sent_for

is_character : (n : ℕ) → 256 ≤ n → sent_for n ≡ Sent.Character (n % 256)
is_character n h = sym (if_not_below n 256 (Sent.Character (n % 256)) Silent (Sent.Character (n % 256)) h refl)

is_silent : (n : ℕ) → n < 256 → sent_for n ≡ Silent
is_silent n h = sym (if_below n 256 Silent Silent (Sent.Character (n % 256)) h refl)

-- a loop that counts who sends
pub row_none : (row : List ℕ) → length row ≡ 8 → Counting (row_sent row) 0 0
row_none row e = counting_none (row_sent row) (row_length row ∙ e)

sends_as : (s : Sent) (c : ℕ) → s ≡ Sent.Character c → SendsIs s 1
sends_as s c p = subst (λ (x : Sent). SendsIs x 1) (sym p) (record { number = refl; most = omega arith })

silent_as : (s : Sent) → s ≡ Silent → SendsIs s 0
silent_as s p = subst (λ (x : Sent). SendsIs x 0) (sym p) (record { number = refl; most = omega arith })

pub row_sends : (row : List ℕ) (n i d : ℕ) → Counting (row_sent row) n i → i < 8 → 256 ≤ get_or row i d → Counting (row_sent row) (n + 1) (i + 1)
row_sends row n i d v h k = counting_more (row_sent row) n i 1 (sent_for d) v h (sends_as _ (get_or row i d % 256) (row_at row i d ∙ is_character (get_or row i d) k))

pub row_silent : (row : List ℕ) (n i d : ℕ) → Counting (row_sent row) n i → i < 8 → get_or row i d < 256 → Counting (row_sent row) n (i + 1)
row_silent row n i d v h k =
    let same : n + 0 ≡ n = omega arith in
    subst (λ (m : ℕ). Counting (row_sent row) m (i + 1)) same
    (counting_more (row_sent row) n i 0 (sent_for d) v h (silent_as _ (row_at row i d ∙ is_silent (get_or row i d) k)))

pub row_lone : (row : List ℕ) (n i : ℕ) → Counting (row_sent row) n i → 8 ≤ i → RowIs row (n ≤? 1)
row_lone row n i v h = record {
  alone = ap (λ (m : ℕ). m ≤? 1) (counting_all (row_sent row) n i v h);
  eight = sym (row_length row) ∙ v.eight;
}

pub ruleset counted = (row_none, row_sends, row_silent, row_lone)

-- ---- the monitors

pub heard_nothing : (m r : Monitor) → m.count ≡ 0 → r ≡ quiet_monitor → r ≡ heard_so_far m
unfolding heard_so_far
heard_nothing m r h p = if_equal m.count 0 r quiet_monitor m h p

pub heard_some : (m : Monitor) → (m.count ≡ 0 → ⊥) → m ≡ heard_so_far m
unfolding heard_so_far
heard_some m h = if_unequal m.count 0 m quiet_monitor m h refl

pub ruleset so_far = (refl, heard_nothing, heard_some)

heard_quiet : quiet_monitor ≡ heard_so_far quiet_monitor
heard_quiet = heard_nothing quiet_monitor quiet_monitor refl refl

one_at_least : (n : ℕ) → one_more n ≡ 0 → ⊥
unfolding when◌then◌else◌
one_at_least n = go (n <? 65535)
  where
    go : (t : Bool) → (when t then n + 1 else 65535) ≡ 0 → ⊥
    go true e = absurd (omega (arith, e))
    go false e = absurd (omega (arith, e))

-- behind a character, a monitor that has counted none is the quiet one
module _ (tick party n : ℕ) (alone : Bool) where
  heard_by : (r : Receiver) (e : Event) → (ends_by tick party (one_more n) alone r e).monitor ≡ heard_so_far (ends_by tick party (one_more n) alone r e).monitor
  unfolding frame_ends
  heard_by r Nothing = heard_some (goes_on r (one_more n) alone).monitor (one_at_least n)
  heard_by r PassedOver = heard_some (goes_on r (one_more n) alone).monitor (one_at_least n)
  heard_by r Broken = heard_some (goes_on r (one_more n) alone).monitor (one_at_least n)
  heard_by r (Frame w) = heard_quiet
  heard_by r (Damaged w m) = heard_some (goes_on r (one_more n) alone).monitor (one_at_least n)

heard_character : (tick party : ℕ) (lone : Bool) (m : Monitor) (c : ℕ) → (listens tick party lone m (Sent.Character c)).monitor ≡ heard_so_far (listens tick party lone m (Sent.Character c)).monitor
unfolding listens ends_with
heard_character tick party lone m c =
    let t : Taken = taken m.receiver (Character c) in
    heard_by tick party m.count (when m.alone then lone else false) t.receiver t.event

-- ---- the loop over eight parties

map_set : (ms : List Monitor) (i : ℕ) (e : Monitor) → map heard_so_far (set ms i e) ≡ set (map heard_so_far ms) i (heard_so_far e)
map_set [] i e = refl
map_set (m ∷ ms) zero e = refl
map_set (m ∷ ms) (suc i) e = ap (λ (l : List Monitor). heard_so_far m ∷ l) (map_set ms i e)

pub record RowHeard (tick : ℕ) (lone : Bool) (row : List ℕ) (ms₀ : List Monitor) (before : List ℕ) (at : ℕ) (ms : List Monitor) (bytes : List ℕ) (place i : ℕ) : Type 0 where
  pub eight : length ms ≡ 8
  pub within : i ≤ 8
  pub same_length : length bytes ≡ length before
  pub parties : Listening (lines_of tick 0 lone (all_heard ms₀) (row_sent row)) tick lone (row_sent row) before at (all_heard ms) bytes place i

all_length : (ms : List Monitor) → length (all_heard ms) ≡ length ms
unfolding all_heard
all_length ms = length-map ms heard_so_far

pub parties_none : (tick : ℕ) (lone : Bool) (row : List ℕ) (ms : List Monitor) (before : List ℕ) (at : ℕ) → length ms ≡ 8 → RowIs row lone → RowHeard tick lone row ms before at ms before at 0
parties_none tick lone row ms before at e r = record {
  eight = e;
  within = omega arith;
  same_length = refl;
  parties = listening_none tick lone (all_heard ms) (row_sent row) before at (all_length ms ∙ e) (row_length row ∙ r.eight);
}

module _ {tick : ℕ} {lone : Bool} {row : List ℕ} {ms₀ : List Monitor} {before : List ℕ} {at : ℕ} {ms : List Monitor} {bytes : List ℕ} {place i : ℕ} (m : Monitor) (d : ℕ) (v : RowHeard tick lone row ms₀ before at ms bytes place i) (h : i < 8) where
  party_heard : (e : Monitor) (k : ℕ) (after : List ℕ) → e ≡ heard_so_far e → PartyIs (listens tick i lone (heard_so_far (get_or ms i m)) (sent_for (get_or row i d))) bytes place e k after
      → RowHeard tick lone row ms₀ before at (set ms i e) after k (i + 1)
  unfolding all_heard
  party_heard e k after q p = record {
    eight = length-set ms i e ∙ v.eight;
    within = omega arith;
    same_length = put_length (lines_text (listens tick i lone (heard_so_far (get_or ms i m)) (sent_for (get_or row i d))).lines) bytes place k after p.text ∙ v.same_length;
    parties =
        let here : PartyIs (listens tick i lone (get_or (all_heard ms) i (heard_so_far m)) (get_or (row_sent row) i (sent_for d))) bytes place e k after =
        subst (λ (s : Sent). PartyIs (listens tick i lone (get_or (all_heard ms) i (heard_so_far m)) s) bytes place e k after) (sym (row_at row i d))
        (subst (λ (x : Monitor). PartyIs (listens tick i lone x (sent_for (get_or row i d))) bytes place e k after) (sym (get_or-map heard_so_far ms i m)) p) in
        let stored : set (all_heard ms) i e ≡ all_heard (set ms i e) = ap (set (all_heard ms) i) q ∙ sym (map_set ms i e) in
        subst (λ (l : List Monitor). Listening (lines_of tick 0 lone (all_heard ms₀) (row_sent row)) tick lone (row_sent row) before at l after k (i + 1)) stored
        (listening_more (heard_so_far m) (sent_for d) v.parties h here);
  }

  pub party_sends : {b e : Monitor} {k : ℕ} {after : List ℕ} → 256 ≤ get_or row i d → b ≡ heard_so_far (get_or ms i m) → PartyIs (listens tick i lone b (Sent.Character (get_or row i d % 256))) bytes place e k after
      → RowHeard tick lone row ms₀ before at (set ms i e) after k (i + 1)
  party_sends {b} {e} {k} {after} c q p =
      party_heard e k after (subst (λ (x : Monitor). x ≡ heard_so_far x) (sym p.monitor_is) (heard_character tick i lone b (get_or row i d % 256)))
      (subst (λ (x : Monitor). PartyIs (listens tick i lone x (sent_for (get_or row i d))) bytes place e k after) q
      (listens_character tick i lone b (sent_for (get_or row i d)) (get_or row i d % 256) bytes after place e k (is_character (get_or row i d) c) p))

  pub party_falls_silent : {e : Monitor} → get_or row i d < 256 → e ≡ quiet_monitor → RowHeard tick lone row ms₀ before at (set ms i e) bytes place (i + 1)
  party_falls_silent {e} c q =
      party_heard e place bytes (subst (λ (x : Monitor). x ≡ heard_so_far x) (sym q) heard_quiet)
      (listens_silent tick i lone (heard_so_far (get_or ms i m)) (sent_for (get_or row i d)) bytes place e (is_silent (get_or row i d) c) q)

  pub party_stays_silent : get_or row i d < 256 → (get_or ms i m).count ≤ 0 → RowHeard tick lone row ms₀ before at ms bytes place (i + 1)
  unfolding all_heard
  party_stays_silent c z =
      let w = party_falls_silent {e = quiet_monitor} c refl in
      let none : quiet_monitor ≡ heard_so_far (get_or ms i m) = heard_nothing (get_or ms i m) quiet_monitor (omega (arith, z)) refl in
      let same : all_heard (set ms i quiet_monitor) ≡ all_heard ms = map-set_same heard_so_far ms i quiet_monitor m (sym heard_quiet ∙ none) in
      record {
        eight = v.eight;
        within = omega arith;
        same_length = v.same_length;
        parties = subst (λ (l : List Monitor). Listening (lines_of tick 0 lone (all_heard ms₀) (row_sent row)) tick lone (row_sent row) before at l bytes place (i + 1)) same w.parties;
      }

parties_all : (tick : ℕ) (lone : Bool) (row : List ℕ) (ms₀ : List Monitor) (before : List ℕ) (at : ℕ) (ms : List Monitor) (bytes : List ℕ) (place i : ℕ)
    → RowHeard tick lone row ms₀ before at ms bytes place i → 8 ≤ i → lone ≡ (senders (row_sent row) ≤? 1) → TickLinesAre (tick_lines tick (all_heard ms₀) (row_sent row)) before at (all_heard ms) place bytes
unfolding tick_lines
parties_all tick lone row ms₀ before at ms bytes place i v h e =
    subst (λ (b : Bool). TickLinesAre (lines_of tick 0 b (all_heard ms₀) (row_sent row)) before at (all_heard ms) place bytes) e
    (listening_all (lines_of tick 0 lone (all_heard ms₀) (row_sent row)) tick lone (row_sent row) before at (all_heard ms) bytes place i v.parties h)

-- ---- the loop over rows

-- the first k of n rows are listed: what is left gives what the whole gives
pub record RowsListed (tick n : ℕ) (rows : List (List ℕ)) (ms₀ : List Monitor) (before : List ℕ) (at : ℕ) (ms : List Monitor) (bytes : List ℕ) (place k : ℕ) : Type 0 where
  pub eight : length ms ≡ 8
  pub few : n ≤ 64
  pub numbered : n ≤ 4294967295 - tick
  pub there : length rows ≡ 64
  pub within : k ≤ n
  pub same_length : length bytes ≡ length before
  pub monitors_left : monitors_from (tick + k) (all_heard ms) (rows_sent (take (n - k) (drop k rows))) ≡ monitors_from tick (all_heard ms₀) (rows_sent (take n rows))
  pub text_left : put (out_of bytes place) (lines_text (lines_from (tick + k) (all_heard ms) (rows_sent (take (n - k) (drop k rows)))))
      ≡ put (out_of before at) (lines_text (lines_from tick (all_heard ms₀) (rows_sent (take n rows))))

lesser_first : (m n : ℕ) → lesser m n ≤ m
unfolding when◌then◌else◌
lesser_first m n = go (m <? n) (λ e. ltb-false m n e)
  where
    go : (t : Bool) → (t ≡ false → n ≤ m) → (when t then m else n) ≤ m
    go true h = omega arith
    go false h = h refl

lesser_second : (m n : ℕ) → lesser m n ≤ n
unfolding when◌then◌else◌
lesser_second m n = go (m <? n) (λ e. ltb-true m n e)
  where
    go : (t : Bool) → (t ≡ true → m < n) → (when t then m else n) ≤ n
    go true h = omega (arith, h refl)
    go false h = omega arith

pub rows_none : (tick count n : ℕ) (rows : List (List ℕ)) (ms : List Monitor) (before : List ℕ) (at : ℕ) → n ≡ rows_listed tick count → length rows ≡ 64 → length ms ≡ 8 → RowsListed tick n rows ms before at ms before at 0
rows_none tick count n rows ms before at e l eight =
    let most : ℕ = lesser count 64 in
    let here : tick + 0 ≡ tick = omega arith in
    let all : n - 0 ≡ n = omega arith in
    record {
      eight = eight;
      few = omega (arith, e, lesser_first most (4294967295 - tick), lesser_second count 64);
      numbered = omega (arith, e, lesser_second most (4294967295 - tick));
      there = l;
      within = omega arith;
      same_length = refl;
      monitors_left = λ i. monitors_from (here i) (all_heard ms) (rows_sent (take (all i) rows));
      text_left = λ i. put (out_of before at) (lines_text (lines_from (here i) (all_heard ms) (rows_sent (take (all i) rows))));
    }

-- the next row of those that are left
next_row : (n k : ℕ) (rows : List (List ℕ)) (d : List ℕ) → k < n → k < length rows → rows_sent (take (n - k) (drop k rows)) ≡ row_sent (get_or rows k d) ∷ rows_sent (take (n - (k + 1)) (drop (k + 1) rows))
unfolding rows_sent
next_row n k rows d h l =
    let one : n - k ≡ suc (n - (k + 1)) = omega arith in
    (λ i. rows_sent (take (one i) (drop-cons rows k d l i)))
    ∙ ap (λ (m : ℕ). row_sent (get_or rows k d) ∷ rows_sent (take (n - (k + 1)) (drop m rows))) (sym (add-one k))

pub rows_more : {tick n : ℕ} {rows : List (List ℕ)} {ms₀ : List Monitor} {start : List ℕ} {at : ℕ} {ms : List Monitor} {before : List ℕ} {place k : ℕ} {ns : List Monitor} {after : List ℕ} {behind i : ℕ} {lone : Bool} (d : List ℕ)
    → RowsListed tick n rows ms₀ start at ms before place k → k < n → RowIs (get_or rows k d) lone → RowHeard (tick + k) lone (get_or rows k d) ms before place ns after behind i → 8 ≤ i
    → RowsListed tick n rows ms₀ start at ns after behind (k + 1)
unfolding monitors_from
rows_more {tick} {n} {rows} {ms₀} {start} {at} {ms} {before} {place} {k} {ns} {after} {behind} {i} {lone} d v h r w o =
    let row : List ℕ = get_or rows k d in
    let rest : List (List Sent) = rows_sent (take (n - (k + 1)) (drop (k + 1) rows)) in
    let left = next_row n k rows d h (omega (arith, v.few, v.there)) in
    let listed = parties_all (tick + k) lone row ms before place ns after behind i w o r.alone in
    let onward : tick + (k + 1) ≡ tick + k + 1 = omega arith in
    record {
      eight = w.eight;
      few = v.few;
      numbered = v.numbered;
      there = v.there;
      within = omega arith;
      same_length = w.same_length ∙ v.same_length;
      monitors_left =
          (λ j. monitors_from (onward j) (listed.monitors_are j) rest)
          ∙ ap (monitors_from (tick + k) (all_heard ms)) (sym left)
          ∙ v.monitors_left;
      text_left =
          ap (λ (t : ℕ). put (out_of after behind) (lines_text (lines_from t (all_heard ns) rest))) onward
          ∙ sym (tick_goes_on (tick + k) (all_heard ms) (all_heard ns) (row_sent row) rest before after place behind listed)
          ∙ ap (λ (l : List (List Sent)). put (out_of before place) (lines_text (lines_from (tick + k) (all_heard ms) l))) (sym left)
          ∙ v.text_left;
    }

pub rows_all : (tick count n : ℕ) (rows : List (List ℕ)) (ms₀ : List Monitor) (before : List ℕ) (at : ℕ) (ms : List Monitor) (bytes : List ℕ) (place k : ℕ)
    → n ≡ rows_listed tick count → RowsListed tick n rows ms₀ before at ms bytes place k → n ≤ k → TickLinesAre (rows_lines tick (all_heard ms₀) (take (rows_listed tick count) rows)) before at (all_heard ms) place bytes
unfolding monitors_from lines_from lines_text rows_sent put
rows_all tick count n rows ms₀ before at ms bytes place k e v h =
    let none : 0 ≡ n - k = omega arith in
    subst (λ (m : ℕ). TickLinesAre (rows_lines tick (all_heard ms₀) (take m rows)) before at (all_heard ms) place bytes) e
    (record {
      monitors_are = ap (λ (m : ℕ). monitors_from (tick + k) (all_heard ms) (rows_sent (take m (drop k rows)))) none ∙ v.monitors_left;
      text = record { out = ap (λ (m : ℕ). put (out_of bytes place) (lines_text (lines_from (tick + k) (all_heard ms) (rows_sent (take m (drop k rows)))))) none ∙ v.text_left };
    })
