-- Laws of the runs that a script gives: ticks without a call, the first ticks of a run, and their lines.
use Rattle.std.specs.Prelude.{None}
use Prim.Native.Nat.{ℕ, zero, suc, ◌+◌, ◌-◌, ◌≤◌, ◌<◌}
use native.Mathlib.Omega.{arith}
use mathlib.Core.Bool.{Bool, true, false}
use mathlib.Core.Path.{◌≡◌, refl, sym, ap, subst, ◌∙◌}
use mathlib.Core.List.{List, [], ◌∷◌, ◌++◌}
use lib.ListN.{length, replicate, length-replicate}
use borrow.Author.Tests.{ne_eqb}
use Rattle.base.specs.Choice.{when◌then◌else◌, ◌=?◌}
use Rattle.base.proofs.Choices.{if_is_true, if_is_false}
use Rattle.line.specs.declared.Heard.{Heard}
use Rattle.turns.specs.Link.{no_call, DeviceSide, DeviceStep, Calls, LinkStep, device_tick, device_ticks, link_tick, link_after, run}
use Rattle.turns.specs.Link as L
use Rattle.turns.specs.declared.Sent.{Sent}
use Rattle.player_script.specs.Script.{wanted_at, master_call, device_call, device_call_at, calls_at, calls_from}
use Rattle.player_script.specs.declared.Entry.{Entry}
use Rattle.player_listing.specs.Sents.{sent_of, sent_in}
use Rattle.player_listing.specs.Lines.{lines_from, monitors_from}
use Rattle.player_listing.specs.Text.{lines_text}
use Rattle.player_listing.specs.declared.Monitor.{Monitor}
use Rattle.player_listing.proofs.Listens.{ticks_text}
use Rattle.link_parties.specs.Stands.{uncalled}
use Rattle.link_ticks.specs.Ticks.{a_host_told, up_to_told, calls_first, link_behind}
use Rattle.link_rests.specs.Uncalled.{uncalled_tick, after_ticks}
use Rattle.player.specs.Ticks.{text_from}

-- ---- ticks without calls

unnamed : (heard : Heard) (xs : List DeviceSide) (n : ℕ) → device_ticks 255 heard xs (replicate n no_call) ≡ device_ticks 255 heard xs []
unfolding device_ticks
unnamed heard [] n = refl
unnamed heard (x ∷ xs) zero = refl
unnamed heard (x ∷ xs) (suc n) = ap (λ (ss : List DeviceStep). device_tick 255 x heard no_call ∷ ss) (unnamed heard xs n)

-- nothing is wanted in so many ticks from this one on
abbrev pub WantsNone : List Entry → ℕ → ℕ → Type 0
WantsNone es tick n = (i party : ℕ) → i < n → wanted_at (tick + i) party es ≡ None

module _ (es : List Entry) where
  module _ (tick : ℕ) (later : 0 < tick) (wants_none : (party : ℕ) → wanted_at tick party es ≡ None) where
    not_called : (party : ℕ) → device_call_at tick party es ≡ no_call
    not_called party = if_is_false (tick =? 0) _ (device_call (wanted_at tick party es)) (ne_eqb tick 0 (λ z. omega (arith, z, later))) ∙ ap device_call (wants_none party)

    none_called : (l : L.Link) → link_tick 255 l (calls_at tick es) ≡ uncalled_tick l
    unfolding link_tick
    none_called l =
        ap (link_tick 255 l) (λ i. record {
          for_primary = master_call (wants_none 0 i);
          for_secondary = master_call (wants_none 1 i);
          for_devices = not_called 2 i ∷ not_called 3 i ∷ not_called 4 i ∷ not_called 5 i ∷ not_called 6 i ∷ not_called 7 i ∷ [];
        })
        ∙ (λ i. record { for_primary = L.master_tick 255 l.primary l.line L.no_request; for_secondary = L.master_tick 255 l.secondary l.line L.no_request; for_devices = unnamed l.line l.devices 6 i })

  pub uncalled_run : (n tick : ℕ) (l : L.Link) → 0 < tick → WantsNone es tick n → run 255 l (replicate n uncalled) ≡ run 255 l (calls_from tick n es)
  unfolding run calls_from
  uncalled_run zero tick l h w = refl
  uncalled_run (suc n) tick l h w =
      let here : tick + 0 ≡ tick = omega arith in
      let now = none_called tick h (λ party. subst (λ (t : ℕ). wanted_at t party es ≡ None) here (w 0 party (omega arith))) l in
      (λ i. sym now i ∷ run 255 (link_after (sym now i)) (replicate n uncalled))
      ∙ ap (λ (ss : List LinkStep). link_tick 255 l (calls_at tick es) ∷ ss)
      (uncalled_run n (tick + 1) (link_after (link_tick 255 l (calls_at tick es))) (omega arith)
      (λ i party k. let next : tick + suc i ≡ tick + 1 + i = omega arith in subst (λ (t : ℕ). wanted_at t party es ≡ None) next (w (suc i) party (omega arith))))

  -- a tick with its calls, and those behind it
  pub first_run : (n tick : ℕ) (l : L.Link) → WantsNone es (tick + 1) (n - 1) → run 255 l (calls_first n (calls_at tick es)) ≡ run 255 l (calls_from tick n es)
  unfolding run calls_from calls_first
  first_run zero tick l w = refl
  first_run (suc n) tick l w =
      let fewer : suc n - 1 ≡ n = omega arith in
      ap (λ (ss : List LinkStep). link_tick 255 l (calls_at tick es) ∷ ss)
      (uncalled_run n (tick + 1) (link_after (link_tick 255 l (calls_at tick es))) (omega arith) (subst (WantsNone es (tick + 1)) fewer w))

  -- ---- the first ticks of a run

  pub run_count : (n tick : ℕ) (l : L.Link) → length (run 255 l (calls_from tick n es)) ≡ n
  unfolding run calls_from
  run_count zero tick l = refl
  run_count (suc n) tick l = ap suc (run_count n (tick + 1) (link_after (link_tick 255 l (calls_at tick es))))

  pub record Front (l : L.Link) (tick n : ℕ) : Type 0 where
    pub count : ℕ
    pub most : count ≤ n
    pub some : 1 ≤ n → 1 ≤ count
    pub is : up_to_told (run 255 l (calls_from tick n es)) ≡ run 255 l (calls_from tick count es)

  pub front : (n tick : ℕ) (l : L.Link) → Front l tick n
  unfolding run calls_from up_to_told
  front zero tick l = record { count = zero; most = omega arith; some = λ h. h; is = refl }
  front (suc n) tick l = by (a_host_told now) refl (front n (tick + 1) (link_after now))
    where
      now : LinkStep
      now = link_tick 255 l (calls_at tick es)

      by : (t : Bool) → a_host_told now ≡ t → Front (link_after now) (tick + 1) n → Front l tick (suc n)
      by true e f = record {
        count = suc zero;
        most = omega arith;
        some = λ h. omega arith;
        is = ap (λ (ss : List LinkStep). now ∷ ss) (if_is_true (a_host_told now) [] (up_to_told (run 255 (link_after now) (calls_from (tick + 1) n es))) e);
      }
      by false e f = record {
        count = suc f.count;
        most = omega (arith, f.most);
        some = λ h. omega arith;
        is = ap (λ (ss : List LinkStep). now ∷ ss) (if_is_false (a_host_told now) [] (up_to_told (run 255 (link_after now) (calls_from (tick + 1) n es))) e ∙ f.is);
      }

  -- a run is its first ticks, and a run from the link behind them
  run_split : (k m tick : ℕ) (l : L.Link)
      → run 255 l (calls_from tick (k + m) es) ≡ run 255 l (calls_from tick k es) ++ run 255 (link_behind l (run 255 l (calls_from tick k es))) (calls_from (tick + k) m es)
  unfolding run calls_from link_behind
  run_split zero m tick l =
      let here : tick ≡ tick + 0 = omega arith in
      let all : 0 + m ≡ m = omega arith in
      λ i. run 255 l (calls_from (here i) (all i) es)
  run_split (suc k) m tick l =
      let now = link_tick 255 l (calls_at tick es) in
      let one : suc k + m ≡ suc (k + m) = omega arith in
      let onward : tick + 1 + k ≡ tick + suc k = omega arith in
      ap (λ (n : ℕ). run 255 l (calls_from tick n es)) one
      ∙ ap (λ (ss : List LinkStep). now ∷ ss) (run_split k m (tick + 1) (link_after now))
      ∙ ap (λ (t : ℕ). now ∷ (run 255 (link_after now) (calls_from (tick + 1) k es) ++ run 255 (link_behind (link_after now) (run 255 (link_after now) (calls_from (tick + 1) k es))) (calls_from t m es))) onward

  sent_split : (xs ys : List LinkStep) → sent_in (xs ++ ys) ≡ sent_in xs ++ sent_in ys
  unfolding sent_in
  sent_split [] ys = refl
  sent_split (x ∷ xs) ys = ap (λ (ts : List (List Sent)). sent_of x ∷ ts) (sent_split xs ys)

  pub sent_count : (ss : List LinkStep) → length (sent_in ss) ≡ length ss
  unfolding sent_in
  sent_count [] = refl
  sent_count (s ∷ ss) = ap suc (sent_count ss)

  -- the text of what is left: that of the first k ticks, then that of what is left behind them
  pub left_text : (k tick stop : ℕ) (l l-after : L.Link) (ms ms-after : List Monitor) → tick + k ≤ stop
      → l-after ≡ link_behind l (run 255 l (calls_from tick k es)) → ms-after ≡ monitors_from tick ms (sent_in (run 255 l (calls_from tick k es)))
      → text_from tick (stop - tick) ms l es
      ≡ lines_text (lines_from tick ms (sent_in (run 255 l (calls_from tick k es)))) ++ text_from (tick + k) (stop - (tick + k)) ms-after l-after es
  left_text k tick stop l l-after ms ms-after h e g =
      let ss = run 255 l (calls_from tick k es) in
      let rest = run 255 (link_behind l ss) (calls_from (tick + k) (stop - (tick + k)) es) in
      let first = lines_text (lines_from tick ms (sent_in ss)) in
      let all : stop - tick ≡ k + (stop - (tick + k)) = omega arith in
      ap (λ (n : ℕ). text_from tick n ms l es) all
      ∙ ap (λ (ts : List (List Sent)). lines_text (lines_from tick ms ts)) (ap sent_in (run_split k (stop - (tick + k)) tick l) ∙ sent_split ss rest)
      ∙ ticks_text tick ms (sent_in ss) (sent_in rest)
      ∙ ap (λ (n : ℕ). first ++ lines_text (lines_from (tick + n) (monitors_from tick ms (sent_in ss)) (sent_in rest))) (sent_count ss ∙ run_count k tick l)
      ∙ (λ i. first ++ text_from (tick + k) (stop - (tick + k)) (sym g i) (sym e i) es)

-- how many ticks are taken at once
pub told_most : (ss : List LinkStep) → length (up_to_told ss) ≤ length ss
unfolding up_to_told when◌then◌else◌
told_most [] = omega arith
told_most (s ∷ ss) = by (a_host_told s) (told_most ss)
  where
    by : (t : Bool) → length (up_to_told ss) ≤ length ss → suc (length (when t then [] else up_to_told ss)) ≤ suc (length ss)
    by true h = omega arith
    by false h = omega (arith, h)

pub told_some : (ss : List LinkStep) → 1 ≤ length ss → 1 ≤ length (up_to_told ss)
unfolding up_to_told
told_some [] h = h
told_some (s ∷ ss) h = omega arith

run_length : (l : L.Link) (cs : List Calls) → length (run 255 l cs) ≡ length cs
unfolding run
run_length l [] = refl
run_length l (c ∷ cs) = ap suc (run_length (link_after (link_tick 255 l c)) cs)

pub first_length : (n : ℕ) (l : L.Link) (c : Calls) → length (run 255 l (calls_first n c)) ≡ n
unfolding calls_first
first_length zero l c = run_length l []
first_length (suc n) l c = run_length l (c ∷ replicate n uncalled) ∙ ap suc (length-replicate n uncalled)

-- ---- the link behind ticks without a call

after_first : (n : ℕ) (l : L.Link) → after_ticks n (link_after (uncalled_tick l)) ≡ after_ticks (suc n) l
unfolding after_ticks
after_first zero l = refl
after_first (suc n) l = ap (λ (z : L.Link). link_after (uncalled_tick z)) (after_first n l)

pub after_run : (n : ℕ) (l : L.Link) → after_ticks n l ≡ link_behind l (run 255 l (replicate n uncalled))
unfolding after_ticks run link_behind
after_run zero l = refl
after_run (suc n) l = sym (after_first n l) ∙ after_run n (link_after (uncalled_tick l))

pub rests_later : (P : L.Link → Type 0) (l : L.Link) → ((i : ℕ) → P (after_ticks i l)) → (i : ℕ) → P (after_ticks i (link_after (uncalled_tick l)))
rests_later P l h i = subst P (sym (after_first i l)) (h (suc i))
