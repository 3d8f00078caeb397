-- Laws of the list: an entry and what follows it, put or counted.
use Rattle.std.specs.Prelude.{Option, Some, None, Result, Ok, Err}
use Prim.Native.Nat.{ℕ, ◌+◌, ◌-◌, ◌*◌, ◌/◌, ◌%◌, ◌≤◌, ◌<◌}
use native.Mathlib.Omega.{arith}
use mathlib.Core.Path.{◌≡◌, refl, sym, ap, ap₂, subst, ◌∙◌}
use mathlib.Core.Bool.{Bool, true, false}
use mathlib.Core.List.{List, [], ◌++◌}
use lib.ListN.{length, take, drop, set, length-append, length-take, length-drop}
use borrow.Author.Tests.{le-leb, lt-leb, leb-true, leb-false}
use borrow.Rule.Slice.PartMut.{put_mid}
use mir.Syntax.{w64}
use mir.Val.{Fits}
use Rattle.base.specs.Choice.{when◌then◌else◌, ◌≤?◌}
use Rattle.base.specs.Store.{stored}
use Rattle.base.specs.declared.Refusal.{Refusal}
use Rattle.base.proofs.Choices.{true_false, if_is_true, if_is_false, if_below, if_not_below, if_answer_true, if_answer_false}
use Rattle.base.proofs.Stores.{join, stored_none, stored_part, room_behind, length_stored}
use Rattle.line.specs.Reader.{idle, passing, tells}
use Rattle.line.specs.declared.Event.TheVariants.{Nothing, PassedOver}
use Rattle.line.specs.declared.Heard.TheVariants.{Silence}
use Rattle.line.specs.declared.Receiver.{Receiver}
use Rattle.line.proofs.Ticks.{outside_idle}
use Rattle.recording.specs.Form.{bad_recording}
use Rattle.recording.specs.Recording.{TickIs}
use Rattle.recording_list.specs.Listing.{entry, listing_of, buffer_after, ListIs}
use Rattle.recording_list.specs.Reading.{found_from, SilentTick, SoundTick, EndsAt, OutcomeIs, FrameIs, ToldAt, ItemIs, LeftOut, SoundFrom, HasRoom, EntriesAre, RoomIs}
use Rattle.recording_list.specs.declared.Item.{Item}
use Rattle.recording_list.specs.declared.Outcome.{Outcome}
use Rattle.recording_list.specs.declared.Outcome.TheVariants as O
use Rattle.recording_list.specs.declared.Stop.{Stop}
use Rattle.recording_list.specs.declared.Stop.TheVariants.{Broke, Over}
use Rattle.recording_list.proofs.Readers.{found_at, found_over, silent_left, SoundView, sound_view}
use Rattle.recording_list.proofs.Short.{entry_nine, listing_short}
use Rattle.recording_list.proofs.Sentences.{start_adds}
use Rattle.recording_list.proofs.Skips.{passed_over}
use Rattle.recording_list.proofs.Walks.{silent_tick, sound_tick}

-- ---- an entry

pub item_ends : (recording : List ℕ) (t u verdict : ℕ) (o : Result Outcome Stop) (item : Option Item) → FrameIs recording t idle o → o ≡ Ok (O.Ends u verdict) → item ≡ Some (record { tick = u; verdict = verdict; next = u + 1 }) → ItemIs recording t item
item_ends recording t u verdict o item f e k =
    let v : EndsAt recording t (found_from recording t idle) u verdict idle = subst (OutcomeIs recording t (found_from recording t idle)) e f.this in
    subst (ItemIs recording t) (sym k) (record { onward = omega (arith, v.from); within = omega (arith, v.within); told = v.told })

pub item_broke : (recording : List ℕ) (t u : ℕ) (o : Result Outcome Stop) (item : Option Item) → FrameIs recording t idle o → o ≡ Err (Broke u) → item ≡ Some (record { tick = u; verdict = 0; next = u + 1 }) → ItemIs recording t item
item_broke recording t u o item f e k =
    let v : EndsAt recording t (found_from recording t idle) u 0 idle = subst (OutcomeIs recording t (found_from recording t idle)) e f.this in
    subst (ItemIs recording t) (sym k) (record { onward = omega (arith, v.from); within = omega (arith, v.within); told = v.told })

pub item_breaks : (recording : List ℕ) (t u w : ℕ) (o : Result Outcome Stop) (item : Option Item) → FrameIs recording t idle o → o ≡ Ok (O.Breaks u) → LeftOut recording (u + 1) passing w idle → item ≡ Some (record { tick = u; verdict = 0; next = w }) → ItemIs recording t item
item_breaks recording t u w o item f e l k =
    let v : EndsAt recording t (found_from recording t idle) u 0 passing = subst (OutcomeIs recording t (found_from recording t idle)) e f.this in
    subst (ItemIs recording t) (sym k)
    (record { onward = omega (arith, v.from, l.from); within = l.within; told = v.told ∙ ap (λ (b : List ℕ). entry u 0 ++ b) l.same })

pub item_done : (recording : List ℕ) (t : ℕ) (o : Result Outcome Stop) (item : Option Item) → FrameIs recording t idle o → o ≡ Err Over → item ≡ None → ItemIs recording t item
item_done recording t o item f e k = subst (ItemIs recording t) (sym k) (subst (OutcomeIs recording t (found_from recording t idle)) e f.this)

pub breaks_within : (recording : List ℕ) (t u : ℕ) (o : Result Outcome Stop) → FrameIs recording t idle o → o ≡ Ok (O.Breaks u) → 2 * (u + 1) ≤ length recording
breaks_within recording t u o f e =
    let v : EndsAt recording t (found_from recording t idle) u 0 passing = subst (OutcomeIs recording t (found_from recording t idle)) e f.this in
    omega (arith, v.within)

pub breaks_fits : (recording : List ℕ) (t u : ℕ) (o : Result Outcome Stop) → FrameIs recording t idle o → o ≡ Ok (O.Breaks u) → Fits w64 (length recording) → Fits w64 (u + 1)
breaks_fits recording t u o f e h = omega (arith, h, breaks_within recording t u o f e)

pub ends_fits : (recording : List ℕ) (t u verdict : ℕ) (o : Result Outcome Stop) → FrameIs recording t idle o → o ≡ Ok (O.Ends u verdict) → Fits w64 (length recording) → Fits w64 (u + 1)
ends_fits recording t u verdict o f e h =
    let v : EndsAt recording t (found_from recording t idle) u verdict idle = subst (OutcomeIs recording t (found_from recording t idle)) e f.this in
    omega (arith, h, v.within)

pub broke_fits : (recording : List ℕ) (t u : ℕ) (o : Result Outcome Stop) → FrameIs recording t idle o → o ≡ Err (Broke u) → Fits w64 (length recording) → Fits w64 (u + 1)
broke_fits recording t u o f e h =
    let v : EndsAt recording t (found_from recording t idle) u 0 idle = subst (OutcomeIs recording t (found_from recording t idle)) e f.this in
    omega (arith, h, v.within)

pub ruleset items = (refl, item_ends, item_broke, item_breaks, item_done, breaks_within, breaks_fits, ends_fits, broke_fits)

-- ---- entries put or counted

pub put_entry_is : (xs : List ℕ) (t verdict : ℕ) (ys : List ℕ)
    → ys ≡ set (set (set (set (set (set (set (set (set xs 0 (t / 72057594037927936 % 256)) 1 (t / 281474976710656 % 256)) 2 (t / 1099511627776 % 256)) 3 (t / 4294967296 % 256))
    4 (t / 16777216 % 256)) 5 (t / 65536 % 256)) 6 (t / 256 % 256)) 7 (t % 256)) 8 verdict
    → ys ≡ stored xs 0 (entry t verdict)
unfolding stored entry
put_entry_is xs t verdict ys e = e

pub put_place : (put : Bool) (n : ℕ) (out : List ℕ) → HasRoom put (9 * n + 9) out → put ≡ true → 9 * n ≤ length out
put_place put n out h e = omega (arith, h.room e)

pub put_fits : (put : Bool) (n : ℕ) (out : List ℕ) → HasRoom put (9 * n + 9) out → put ≡ true → Fits w64 (length out) → Fits w64 (9 * n)
put_fits put n out h e f = omega (arith, h.room e, f)

pub put_part : (put : Bool) (n : ℕ) (out : List ℕ) → HasRoom put (9 * n + 9) out → put ≡ true → 9 ≤ length (take (length out - 9 * n) (drop (9 * n) out))
put_part put n out h e = simp (length-take, length-drop) (omega (arith, h.room e))

pub put_is : (put : Bool) (n u verdict : ℕ) (out zs ys : List ℕ) → put ≡ true → zs ≡ stored (take (length out - 9 * n) (drop (9 * n) out)) 0 (entry u verdict)
    → ys ≡ put_mid (9 * n) (length out - 9 * n) out zs → ys ≡ (when put then stored out (9 * n) (entry u verdict) else out)
put_is put n u verdict out zs ys e q f =
    f ∙ stored_part (9 * n) (length out - 9 * n) out zs (entry u verdict) q (room_behind (9 * n) (length out)) ∙ sym (if_is_true put (stored out (9 * n) (entry u verdict)) out e)

pub put_not : (put : Bool) (out vs : List ℕ) → put ≡ false → out ≡ (when put then vs else out)
put_not put out vs e = sym (if_is_false put vs out e)

pub ruleset put_ifs = (refl, put_place, put_fits, put_part, put_is, put_not)

-- ---- the loop

pub record Going (recording : List ℕ) (from before : ℕ) (put : Bool) (lent : List ℕ) (ticks : ℕ) (out : List ℕ) (t n : ℕ) : Type 0 where
  pub count : ticks ≡ length recording / 2
  pub within : 2 * t ≤ length recording
  pub few : n ≤ t
  pub long : length out ≡ length lent
  pub left : 9 * n + length (found_from recording t idle) ≡ 9 * before + length (found_from recording from idle)
  pub room : put ≡ true → 9 * n + length (found_from recording t idle) ≤ length out
  pub stores : put ≡ true → stored out (9 * n) (found_from recording t idle) ≡ stored lent (9 * before) (found_from recording from idle)
  pub kept : put ≡ false → out ≡ lent

pub going_none : (recording : List ℕ) (from before : ℕ) (put : Bool) (lent : List ℕ) (ticks : ℕ) → 2 * from ≤ length recording → before ≤ from
    → HasRoom put (9 * before + length (found_from recording from idle)) lent → ticks ≡ length recording / 2 → Going recording from before put lent ticks lent from before
going_none recording from before put lent ticks h k r e = record { count = e; within = h; few = k; long = refl; left = refl; room = r.room; stores = λ p. refl; kept = λ p. refl }

-- at the list's end
go_end : (recording : List ℕ) (from before : ℕ) (put : Bool) (lent : List ℕ) (ticks : ℕ) (out : List ℕ) (t n r : ℕ) → Going recording from before put lent ticks out t n
    → found_from recording t idle ≡ [] → r ≡ n → EntriesAre put (found_from recording from idle) before lent r out
unfolding stored
go_end recording from before put lent ticks out t n r g e k = record { number = omega (arith, k, g.left, ap length e); buffer = go put refl }
  where
    go : (b : Bool) → put ≡ b → out ≡ (when put then stored lent (9 * before) (found_from recording from idle) else lent)
    go true p = sym (ap (stored out (9 * n)) e) ∙ g.stores p ∙ sym (if_is_true put (stored lent (9 * before) (found_from recording from idle)) lent p)
    go false p = g.kept p ∙ sym (if_is_false put (stored lent (9 * before) (found_from recording from idle)) lent p)

pub going_over : (recording : List ℕ) (from before : ℕ) (put : Bool) (lent : List ℕ) (ticks : ℕ) (out : List ℕ) (t n r : ℕ) → Going recording from before put lent ticks out t n → ticks ≤ t → r ≡ n
    → EntriesAre put (found_from recording from idle) before lent r out
going_over recording from before put lent ticks out t n r g h k = go_end recording from before put lent ticks out t n r g (found_over recording t idle (omega (arith, g.count))) k

module _ (recording : List ℕ) (from before : ℕ) (put : Bool) (lent : List ℕ) (ticks : ℕ) (out : List ℕ) (t n s : ℕ) (g : Going recording from before put lent ticks out t n) (l : SoundFrom recording t s) where
  -- what the search of a start says
  pub going_sound : s < ticks → SoundTick recording s
  going_sound h = l.first (omega (arith, g.count))

  ended_list : (r : ℕ) → found_from recording t idle ≡ [] → r ≡ n → EntriesAre put (found_from recording from idle) before lent r out
  ended_list r e k = go_end recording from before put lent ticks out t n r g e k

  pub going_silent : (r : ℕ) → ticks ≤ s → r ≡ n → EntriesAre put (found_from recording from idle) before lent r out
  going_silent r h k = ended_list r (l.left_out.same ∙ found_over recording s idle (omega (arith, g.count))) k

  pub going_done : (item : Option Item) (r : ℕ) → ItemIs recording s item → item ≡ None → r ≡ n → EntriesAre put (found_from recording from idle) before lent r out
  going_done item r i e k = ended_list r (l.left_out.same ∙ subst (ItemIs recording s) e i) k

  module _ (it : Item) (item : Option Item) (i : ItemIs recording s item) (e : item ≡ Some it) where
    told : ToldAt recording s it.tick it.verdict it.next
    told = subst (ItemIs recording s) e i

    -- what is found is an entry and what is found behind it
    found_told : found_from recording t idle ≡ entry it.tick it.verdict ++ found_from recording it.next idle
    found_told = l.left_out.same ∙ told.told

    told_length : length (found_from recording t idle) ≡ 9 + length (found_from recording it.next idle)
    told_length = omega (arith, ap length found_told, length-append (entry it.tick it.verdict) (found_from recording it.next idle), entry_nine it.tick it.verdict)

    pub going_less : t < ticks → ticks - it.next < ticks - t
    going_less h = omega (arith, l.left_out.from, told.onward)

    pub going_room : HasRoom put (9 * n + 9) out
    going_room = record { room = λ p. omega (arith, g.room p, told_length) }

    pub going_more : (zs : List ℕ) → zs ≡ (when put then stored out (9 * n) (entry it.tick it.verdict) else out) → Going recording from before put lent ticks zs it.next (n + 1)
    going_more zs q = record {
      count = g.count;
      within = told.within;
      few = omega (arith, g.few, l.left_out.from, told.onward);
      long = long put refl ∙ g.long;
      left = omega (arith, g.left, told_length);
      room = λ p. omega (arith, g.room p, long put refl, told_length);
      stores = stores;
      kept = λ p. q ∙ if_is_false put (stored out (9 * n) (entry it.tick it.verdict)) out p ∙ g.kept p;
    }
      where
        here : put ≡ true → zs ≡ stored out (9 * n) (entry it.tick it.verdict)
        here p = q ∙ if_is_true put (stored out (9 * n) (entry it.tick it.verdict)) out p

        long : (b : Bool) → put ≡ b → length zs ≡ length out
        long true p = ap length (here p) ∙ length_stored out (9 * n) (entry it.tick it.verdict)
        long false p = ap length (q ∙ if_is_false put (stored out (9 * n) (entry it.tick it.verdict)) out p)

        place : 9 * (n + 1) ≡ 9 * n + length (entry it.tick it.verdict)
        place = omega (arith, entry_nine it.tick it.verdict)

        stores : put ≡ true → stored zs (9 * (n + 1)) (found_from recording it.next idle) ≡ stored lent (9 * before) (found_from recording from idle)
        stores p =
            ap₂ (λ (b : List ℕ) (k : ℕ). stored b k (found_from recording it.next idle)) (here p) place
            ∙ join (entry it.tick it.verdict) (found_from recording it.next idle) out (9 * n)
            ∙ ap (stored out (9 * n)) (sym found_told)
            ∙ g.stores p

pub ruleset goings = (refl, going_none, going_sound, going_silent, going_done, going_over, going_less, going_room, going_more)

-- ---- from the reader's start on

silent_zero : (recording : List ℕ) (v : ℕ) → TickIs recording 0 v → v ≡ 0 → 2 ≤ length recording → listing_of recording ≡ found_from recording 0 idle
silent_zero recording v k e h =
    let tick : SilentTick recording 0 = silent_tick recording 0 v k e (omega arith) in
    found_at recording 0 passing Silence (tells idle Nothing) (silent_left recording 0 tick) (outside_idle passing refl)
    ∙ sym (found_at recording 0 idle Silence (tells idle Nothing) (silent_left recording 0 tick) (outside_idle idle refl))

sound_begins : (recording : List ℕ) (v : ℕ) → bad_recording recording ≡ false → TickIs recording 0 v → (v ≡ 0 → ⊥) → 2 ≤ length recording → listing_of recording ≡ entry 0 0 ++ found_from recording 1 passing
sound_begins recording v g k n h =
    let tick : SoundTick recording 0 = sound_tick recording 0 v k n (omega arith) in
    let view : SoundView recording 0 v = sound_view recording 0 g tick in
    found_at recording 0 passing view.heard (tells passing PassedOver) view.left (passed_over v view.heard view.sounding)
    ∙ ap (λ (b : List ℕ). b ++ found_from recording 1 passing) start_adds

sound_zero : (recording : List ℕ) (v w : ℕ) → bad_recording recording ≡ false → TickIs recording 0 v → (v ≡ 0 → ⊥) → 2 ≤ length recording → LeftOut recording 1 passing w idle → listing_of recording ≡ entry 0 0 ++ found_from recording w idle
sound_zero recording v w g k n h l = sound_begins recording v g k n h ∙ ap (λ (b : List ℕ). entry 0 0 ++ b) l.same

no_tick_zero : (recording : List ℕ) → length recording < 2 → listing_of recording ≡ []
no_tick_zero recording h = found_over recording 0 passing (omega arith)

-- a list that is the same, and one behind a first entry
same_list : (put : Bool) (l m : List ℕ) (n : ℕ) (before : List ℕ) (r : ℕ) (after : List ℕ) → m ≡ l → EntriesAre put l n before r after → EntriesAre put m n before r after
same_list put l m n before r after e v = subst (λ (k : List ℕ). EntriesAre put k n before r after) (sym e) v

pub all_none : (recording before : List ℕ) (put : Bool) (r : ℕ) → length recording < 2 → r ≡ 0 → EntriesAre put (listing_of recording) 0 before r before
all_none recording before put r h e = same_list put [] (listing_of recording) 0 before r before (no_tick_zero recording h) (record { number = omega arith; buffer = go put refl })
  where
    go : (b : Bool) → put ≡ b → before ≡ (when put then stored before 0 [] else before)
    go true p = stored_none before 0 ∙ sym (if_is_true put (stored before 0 []) before p)
    go false p = sym (if_is_false put (stored before 0 []) before p)

pub all_silent : (recording before : List ℕ) (put : Bool) (v r : ℕ) (after : List ℕ) → TickIs recording 0 v → v ≡ 0 → 2 ≤ length recording → EntriesAre put (found_from recording 0 idle) 0 before r after
    → EntriesAre put (listing_of recording) 0 before r after
all_silent recording before put v r after k e h p = same_list put (found_from recording 0 idle) (listing_of recording) 0 before r after (silent_zero recording v k e h) p

pub room_silent : (recording out : List ℕ) (put : Bool) (v : ℕ) → TickIs recording 0 v → v ≡ 0 → 2 ≤ length recording → HasRoom put (length (listing_of recording)) out
    → HasRoom put (9 * 0 + length (found_from recording 0 idle)) out
room_silent recording out put v k e h r = record { room = λ p. omega (arith, r.room p, ap length (silent_zero recording v k e h)) }

pub room_first : (recording out : List ℕ) (put : Bool) (v : ℕ) → bad_recording recording ≡ false → TickIs recording 0 v → (v ≡ 0 → ⊥) → 2 ≤ length recording → HasRoom put (length (listing_of recording)) out
    → HasRoom put (9 * 0 + 9) out
room_first recording out put v g k n h r = record {
  room = λ p. omega (arith, r.room p, ap length (sound_begins recording v g k n h), length-append (entry 0 0) (found_from recording 1 passing), entry_nine 0 0);
}

module _ (recording before middle : List ℕ) (put : Bool) (v w : ℕ) (g : bad_recording recording ≡ false) (k : TickIs recording 0 v) (n : v ≡ 0 → ⊥) (h : 2 ≤ length recording) (l : LeftOut recording 1 passing w idle)
    (e : middle ≡ (when put then stored before (9 * 0) (entry 0 0) else before)) where
  two_parts : length (listing_of recording) ≡ 9 + length (found_from recording w idle)
  two_parts = omega (arith, ap length (sound_zero recording v w g k n h l), length-append (entry 0 0) (found_from recording w idle), entry_nine 0 0)

  put_first : put ≡ true → middle ≡ stored before 0 (entry 0 0)
  put_first p = e ∙ if_is_true put (stored before (9 * 0) (entry 0 0)) before p

  pub room_sound : HasRoom put (length (listing_of recording)) before → HasRoom put (9 * 1 + length (found_from recording w idle)) middle
  room_sound r = record { room = λ p. omega (arith, r.room p, two_parts, ap length (put_first p), length_stored before 0 (entry 0 0)) }

  pub all_sound : (r : ℕ) (after : List ℕ) → EntriesAre put (found_from recording w idle) 1 middle r after → EntriesAre put (listing_of recording) 0 before r after
  all_sound r after x = record { number = omega (arith, x.number, two_parts); buffer = go put refl }
    where
      nine : 9 * 1 ≡ 0 + length (entry 0 0)
      nine = omega (arith, entry_nine 0 0)

      go : (b : Bool) → put ≡ b → after ≡ (when put then stored before (9 * 0) (listing_of recording) else before)
      go true p =
          x.buffer ∙ if_is_true put (stored middle (9 * 1) (found_from recording w idle)) middle p
          ∙ ap₂ (λ (b : List ℕ) (i : ℕ). stored b i (found_from recording w idle)) (put_first p) nine
          ∙ join (entry 0 0) (found_from recording w idle) before 0
          ∙ ap (stored before 0) (sym (sound_zero recording v w g k n h l))
          ∙ sym (if_is_true put (stored before (9 * 0) (listing_of recording)) before p)
      go false p =
          x.buffer ∙ if_is_false put (stored middle (9 * 1) (found_from recording w idle)) middle p
          ∙ e ∙ if_is_false put (stored before (9 * 0) (entry 0 0)) before p
          ∙ sym (if_is_false put (stored before (9 * 0) (listing_of recording)) before p)

pub left_within : (recording : List ℕ) (t u : ℕ) (r s : Receiver) → LeftOut recording t r u s → 2 * u ≤ length recording
left_within recording t u r s l = l.within

pub left_from : (recording : List ℕ) (t u : ℕ) (r s : Receiver) → LeftOut recording t r u s → t ≤ u
left_from recording t u r s l = l.from

pub ruleset starts = (refl, left_within, left_from, all_none, all_silent, all_sound, room_silent, room_first, room_sound)

-- ---- the answer

pub good_said : (recording : List ℕ) (r : Bool) → r ≡ bad_recording recording → r ≡ false → bad_recording recording ≡ false
good_said recording r e f = sym e ∙ f

pub list_bad : (recording buffer : List ℕ) (bad : Bool) (r : Result ℕ Refusal) → bad ≡ bad_recording recording → bad ≡ true → r ≡ Err Refusal.BadRecording → ListIs recording buffer r buffer
list_bad recording buffer bad r e f k = record {
  answer = if_answer_true bad (bad_recording recording) r _ _ e f k;
  listed = ap (λ (x : Result ℕ Refusal). buffer_after x recording buffer) (sym k);
}

module _ (recording buffer : List ℕ) (bad room : Bool) (mid : List ℕ) (r : Result ℕ Refusal) (e : bad ≡ bad_recording recording) (f : bad ≡ false) (c : RoomIs recording buffer room mid) where
  pub list_short : room ≡ false → r ≡ Err Refusal.BufferShort → ListIs recording buffer r mid
  list_short h k = record {
    answer = if_answer_false bad (bad_recording recording) r _ _ e f
        (if_below (length buffer) (length (listing_of recording)) r _ _ (leb-false (length (listing_of recording)) (length buffer) (sym c.answer ∙ h)) k);
    listed = c.stays ∙ ap (λ (x : Result ℕ Refusal). buffer_after x recording buffer) (sym k);
  }

  pub list_done : (after : List ℕ) (n : ℕ) → room ≡ true → EntriesAre true (listing_of recording) 0 mid n after → r ≡ Ok n → ListIs recording buffer r after
  list_done after n h p k = record {
    answer = if_answer_false bad (bad_recording recording) r _ _ e f
        (if_not_below (length buffer) (length (listing_of recording)) r _ _ (leb-true (length (listing_of recording)) (length buffer) (sym c.answer ∙ h)) (k ∙ ap Ok (omega (arith, p.number))));
    listed = p.buffer ∙ if_is_true true (stored mid (9 * 0) (listing_of recording)) mid refl ∙ ap (λ (l : List ℕ). stored l 0 (listing_of recording)) c.stays
        ∙ ap (λ (x : Result ℕ Refusal). buffer_after x recording buffer) (sym k);
  }

pub list_room : (recording buffer mid : List ℕ) (room put : Bool) → RoomIs recording buffer room mid → room ≡ true → HasRoom put (length (listing_of recording)) mid
list_room recording buffer mid room put c h = record {
  room = λ p. omega (arith, ap length c.stays, leb-true (length (listing_of recording)) (length buffer) (sym c.answer ∙ h));
}

pub ruleset lists = (refl, good_said, list_bad, list_short, list_done, list_room)

-- ---- the room

pub room_enough : (recording out : List ℕ) (n : ℕ) (r : Bool) → n ≡ length out / 9 → length recording / 2 < n * 2 → r ≡ true → RoomIs recording out r out
room_enough recording out n r d h e = record { answer = e ∙ sym (le-leb (length (listing_of recording)) (length out) (omega (arith, listing_short recording))); stays = refl }

pub room_counted : (recording out after : List ℕ) (n : ℕ) (r : Bool) → EntriesAre false (listing_of recording) 0 out n after → r ≡ (n ≤? length out / 9) → RoomIs recording out r after
room_counted recording out after n r c e = record { answer = e ∙ go (n ≤? length out / 9) refl; stays = c.buffer ∙ if_is_false false (stored out (9 * 0) (listing_of recording)) out refl }
  where
    go : (t : Bool) → (n ≤? length out / 9) ≡ t → t ≡ (length (listing_of recording) ≤? length out)
    go true h = sym (le-leb (length (listing_of recording)) (length out) (omega (arith, c.number, leb-true n (length out / 9) h)))
    go false h = sym (lt-leb (length (listing_of recording)) (length out) (omega (arith, c.number, leb-false n (length out / 9) h)))

pub count_room : (need : ℕ) (out : List ℕ) → HasRoom false need out
count_room need out = record { room = λ p. absurd (true_false (sym p)) }

pub ruleset rooms = (refl, room_enough, room_counted, count_room)
