-- Laws of a frame: what the tick reader finds from its parts on.
use Rattle.std.specs.Prelude.{Result, Ok, Err, Option, Some, None}
use Prim.Native.Nat.{ℕ, suc, ◌+◌, ◌-◌, ◌*◌, ◌/◌, ◌%◌, ◌≤◌, ◌<◌}
use native.Mathlib.Omega.{arith}
use mathlib.Core.Path.{◌≡◌, refl, sym, ap, ap₂, subst, ◌∙◌}
use mathlib.Core.Bool.{Bool, true, false}
use mathlib.Core.List.{List, ◌++◌}
use lib.Bits.{bit_xor}
use lib.ListN.{length}
use borrow.Author.Tests.{eq-eqb, ne_eqb, eqb-true, eqb-false, lt-ltb, le-ltb}
use Rattle.base.specs.Choice.{when◌then◌else◌, ◌=?◌, ◌<?◌}
use Rattle.base.proofs.Choices.{if_is_true, if_is_false}
use Rattle.frame.specs.Delimiter.{delimiter_of, delimiter_with}
use Rattle.frame.specs.Frame.{too_few}
use Rattle.frame.specs.declared.Delimiter.{Delimiter}
use Rattle.line.specs.Gaps.{IsCharacter, is_sound, is_with_damage}
use Rattle.line.specs.Reader.{idle, passing, blank, tells, breaks, begins, at_idle, at_preamble, at_count, at_check, counted, character, damaged, marked, kind_damaged, is_damaged, with_check, whole_of, ended, inside_frame, taken}
use Rattle.line.specs.declared.Event.{Event}
use Rattle.line.specs.declared.Event.TheVariants.{Nothing, Frame}
use Rattle.line.specs.declared.FrameDamage.{FrameDamage}
use Rattle.line.specs.declared.Heard.{Heard}
use Rattle.line.specs.declared.Heard.TheVariants.{Character, Damaged}
use Rattle.line.specs.declared.Place.{Place}
use Rattle.line.specs.declared.Place.TheVariants.{Preamble, Count, Data, Check}
use Rattle.line.specs.declared.Receiver.{Receiver}
use Rattle.line.specs.declared.Taken.{Taken}
use Rattle.line.specs.declared.Whole.{Whole}
use Rattle.line.proofs.Gaps.{Within}
use Rattle.recording.specs.Form.{bad_recording}
use Rattle.recording.specs.Recording.{TickIs}
use Rattle.recording_list.specs.Claims.{summed_by, hurt_by}
use Rattle.recording_list.specs.Listing.{entry, adds}
use Rattle.recording_list.specs.Reading.{found_from, SoundTick, Reaches, at_once, behind_silence, NextAt, NextIs, harmed_by, Walk, no_character, one_more, WalkTo, WalkOver, RunIs, verdict_of, HeadPlace, at_first_place, at_address_place, at_expansion_place, at_command_place, at_count_place, TailPlace, at_data_place, at_check_place, InHead, InTail, EndsAt, OutcomeIs, TailIs, CountIs, HeadIs, FrameIs, in_preamble}
use Rattle.recording_list.specs.declared.Outcome.{Outcome}
use Rattle.recording_list.specs.declared.Outcome.TheVariants.{Breaks}
use Rattle.recording_list.specs.declared.Outcome.TheVariants as O
use Rattle.recording_list.specs.declared.Run.{Run}
use Rattle.recording_list.specs.declared.Stop.{Stop}
use Rattle.recording_list.specs.declared.Stop.TheVariants.{Broke, Over}
use Rattle.recording_list.proofs.Walks.{sound_tick}
use Rattle.recording_list.proofs.Readers.{found_at, found_over, SoundAs, as_character, as_damaged, SoundView, sound_view, reach_found, silent_found, over_found, HeadStep, head_step, TailStep, tail_step, tail_marked, harm_none, harm_some}

-- ---- a walk, by a reader that is inside

pub head_within : (frame n s : ℕ) (b : Bool) (r : Receiver) → InHead frame n s b r → Within r
head_within frame n s b r v = record { inside = go v.place; no_gap = v.inside.no_gap }
  where
    go : HeadPlace r n → inside_frame r.place ≡ true
    go (at_first_place e k) = ap inside_frame e
    go (at_address_place j e h k) = ap inside_frame e
    go (at_expansion_place j e h k) = ap inside_frame e
    go (at_command_place e k) = ap inside_frame e
    go (at_count_place e k) = ap inside_frame e

pub tail_within : (n s : ℕ) (b : Bool) (r : Receiver) → InTail n s b r → Within r
tail_within n s b r v = record { inside = go v.place; no_gap = v.inside.no_gap }
  where
    go : TailPlace r n → inside_frame r.place ≡ true
    go (at_data_place j e h k) = ap inside_frame e
    go (at_check_place e k) = ap inside_frame e

record HeadWalked (recording : List ℕ) (t u frame n s : ℕ) (b : Bool) (r : Receiver) : Type 0 where
  reader : Receiver
  still : InHead frame n s b reader
  same : found_from recording t r ≡ found_from recording u reader

head_on : (recording : List ℕ) (t u w frame n s : ℕ) (b : Bool) (r : Receiver) → bad_recording recording ≡ false → HeadWalked recording t u frame (suc n) s b r → Reaches recording u w → (k : SoundTick recording w)
    → HeadWalked recording t (w + 1) frame n (bit_xor s (k.number / 256)) (harmed_by b k.number) r
head_on recording t u w frame n s b r g v reach k =
    let view : SoundView recording w k.number = sound_view recording w g k in
    let step : HeadStep frame n (bit_xor s (k.number / 256)) (harmed_by b k.number) (taken v.reader view.heard) = head_step frame n s k.number b v.reader view.heard v.still view.sounding in
    record {
      reader = step.reader;
      still = step.still;
      same = v.same ∙ reach_found recording u w v.reader g (head_within frame (suc n) s b v.reader v.still) reach k
          ∙ found_at recording w v.reader view.heard (tells step.reader Nothing) view.left step.is;
    }

head_walk : (recording : List ℕ) (t frame all s : ℕ) (b : Bool) (r : Receiver) {u n sum : ℕ} {harm : Bool} → bad_recording recording ≡ false → InHead frame all s b r → Walk recording t s b u n sum harm → n ≤ all → HeadWalked recording t u frame (all - n) sum harm r
head_walk recording t frame all s b r g i no_character h = record { reader = r; still = subst (λ (m : ℕ). InHead frame m s b r) (whole all) i; same = refl }
  where
    whole : (m : ℕ) → m ≡ m - 0
    whole m = omega arith
head_walk recording t frame all s b r g i (one_more {u} {w} {n} {sum} {harm} walk reach k) h =
    head_on recording t u w frame (all - (n + 1)) sum harm r g
    (subst (λ (m : ℕ). HeadWalked recording t u frame m sum harm r) (less all n h) (head_walk recording t frame all s b r g i walk (omega arith)))
    reach k
  where
    less : (all n : ℕ) → n + 1 ≤ all → all - n ≡ suc (all - (n + 1))
    less all n h = omega arith

record TailWalked (recording : List ℕ) (t u n s : ℕ) (b : Bool) (r : Receiver) : Type 0 where
  reader : Receiver
  still : InTail n s b reader
  same : found_from recording t r ≡ found_from recording u reader

tail_on : (recording : List ℕ) (t u w n s : ℕ) (b : Bool) (r : Receiver) → bad_recording recording ≡ false → TailWalked recording t u (suc n) s b r → Reaches recording u w → (k : SoundTick recording w)
    → TailWalked recording t (w + 1) n (bit_xor s (k.number / 256)) (harmed_by b k.number) r
tail_on recording t u w n s b r g v reach k =
    let view : SoundView recording w k.number = sound_view recording w g k in
    let step : TailStep n (bit_xor s (k.number / 256)) (harmed_by b k.number) (taken v.reader view.heard) = tail_step n s k.number b v.reader view.heard v.still view.sounding in
    record {
      reader = step.reader;
      still = step.still;
      same = v.same ∙ reach_found recording u w v.reader g (tail_within (suc n) s b v.reader v.still) reach k
          ∙ found_at recording w v.reader view.heard (tells step.reader Nothing) view.left step.is;
    }

tail_walk : (recording : List ℕ) (t all s : ℕ) (b : Bool) (r : Receiver) {u n sum : ℕ} {harm : Bool} → bad_recording recording ≡ false → InTail all s b r → Walk recording t s b u n sum harm → n ≤ all → TailWalked recording t u (all - n) sum harm r
tail_walk recording t all s b r g i no_character h = record { reader = r; still = subst (λ (m : ℕ). InTail m s b r) (whole all) i; same = refl }
  where
    whole : (m : ℕ) → m ≡ m - 0
    whole m = omega arith
tail_walk recording t all s b r g i (one_more {u} {w} {n} {sum} {harm} walk reach k) h =
    tail_on recording t u w (all - (n + 1)) sum harm r g
    (subst (λ (m : ℕ). TailWalked recording t u m sum harm r) (less all n h) (tail_walk recording t all s b r g i walk (omega arith)))
    reach k
  where
    less : (all n : ℕ) → n + 1 ≤ all → all - n ≡ suc (all - (n + 1))
    less all n h = omega arith

-- a walk goes on
reach_from : (recording : List ℕ) (t u : ℕ) → Reaches recording t u → t ≤ u
reach_from recording t u at_once = omega arith
reach_from recording t u (behind_silence s) = omega arith

walk_from : (recording : List ℕ) (t s : ℕ) (b : Bool) {u n sum : ℕ} {harm : Bool} → Walk recording t s b u n sum harm → t + n ≤ u
walk_from recording t s b no_character = omega arith
walk_from recording t s b (one_more {u} {w} walk reach k) = omega (arith, walk_from recording t s b walk, reach_from recording u w reach)

walk_within : (recording : List ℕ) (t s : ℕ) (b : Bool) {u n sum : ℕ} {harm : Bool} → Walk recording t s b u n sum harm → 2 * t ≤ length recording → 2 * u ≤ length recording
walk_within recording t s b no_character h = h
walk_within recording t s b (one_more walk reach k) h = omega (arith, k.within)

-- ---- what an outcome says of an earlier tick

earlier : (recording : List ℕ) (t u : ℕ) (l m : List ℕ) (o : Result Outcome Stop) → t ≤ u → l ≡ m → OutcomeIs recording u m o → OutcomeIs recording t l o
earlier recording t u l m (Ok (O.Ends w verdict)) h e v = record { from = omega (arith, v.from); within = v.within; told = e ∙ v.told }
earlier recording t u l m (Ok (Breaks w)) h e v = record { from = omega (arith, v.from); within = v.within; told = e ∙ v.told }
earlier recording t u l m (Err (Broke w)) h e v = record { from = omega (arith, v.from); within = v.within; told = e ∙ v.told }
earlier recording t u l m (Err Over) h e v = e ∙ v

-- ---- the check byte

checked : (m : FrameDamage) (wrong : Bool) → m.check ≡ false → is_damaged (with_check m wrong) ≡ (when is_damaged m then true else wrong)
unfolding when◌then◌else◌
checked m wrong e = go m.parity m.overrun m.framing m.check e m.address wrong
  where
    go : (p o f c : Bool) → c ≡ false → (a w : Bool) → (when p then true else when o then true else when f then true else when w then true else a) ≡ (when (when p then true else when o then true else when f then true else when c then true else a) then true else w)
    go true o f c z a w = refl
    go false true f c z a w = refl
    go false false true c z a w = refl
    go false false false true z a true = refl
    go false false false true z a false = let k : ◌≡◌ {A = ℕ} 0 1 = cc in absurd (omega arith)
    go false false false false z true true = refl
    go false false false false z true false = refl
    go false false false false z false true = refl
    go false false false false z false false = refl

adds_ended : (t : ℕ) (w : Whole) (m : FrameDamage) → adds t (ended w m) ≡ entry t (when is_damaged m then 2 else 1)
unfolding when◌then◌else◌
adds_ended t w m = go (is_damaged m)
  where
    go : (d : Bool) → adds t (when d then Event.Damaged w m else Frame w) ≡ entry t (when d then 2 else 1)
    go true = refl
    go false = refl

verdict_is : (d h : Bool) (sum : ℕ) → d ≡ (when h then true else (when sum =? 0 then false else true)) → ◌≡◌ {A = ℕ} (when d then 2 else 1) (verdict_of sum h)
unfolding when◌then◌else◌
verdict_is d true sum e = ap (λ (x : Bool). when x then 2 else 1) e
verdict_is d false sum e = ap (λ (x : Bool). when x then 2 else 1) e ∙ go (sum =? 0)
  where
    go : (z : Bool) → ◌≡◌ {A = ℕ} (when (when z then false else true) then 2 else 1) (when z then 1 else 2)
    go true = refl
    go false = refl

-- the last character of a frame
check_character : (t s c : ℕ) (b : Bool) (r : Receiver) → InTail 0 s b r → (x : Taken) → x ≡ character Check r c → (adds t x.event ≡ entry t (verdict_of (bit_xor s c) b)) × (x.receiver ≡ idle)
unfolding at_check
check_character t s c b r i x e = (
  ap (λ (y : Taken). adds t y.event) e
      ∙ adds_ended t (whole_of r) (with_check r.damage (when bit_xor r.sum c =? 0 then false else true))
      ∙ ap (entry t) (verdict_is (is_damaged (with_check r.damage (when bit_xor r.sum c =? 0 then false else true))) b (bit_xor s c)
      (checked r.damage (when bit_xor r.sum c =? 0 then false else true) i.inside.unchecked
      ∙ ap₂ (λ (h : Bool) (n : ℕ). when h then true else (when bit_xor n c =? 0 then false else true)) i.inside.harmed i.inside.summed)),
  ap (λ (y : Taken). y.receiver) e,
)

at_check_place_lem : (s : ℕ) (b : Bool) (r : Receiver) → InTail 0 s b r → r.place ≡ Check
at_check_place_lem s b r i = go i.place
  where
    go : TailPlace r 0 → r.place ≡ Check
    go (at_data_place j e h k) = absurd (omega arith)
    go (at_check_place e k) = e

pub check_any : (t s : ℕ) (b : Bool) (r : Receiver) {h : Heard} → IsCharacter h → InTail 0 s b r
    → (adds t (taken r h).event ≡ entry t (verdict_of (summed_by s h) (hurt_by b h))) × ((taken r h).receiver ≡ idle)
unfolding taken
check_any t s b r (is_sound {c}) i = check_character t s c b r i (character r.place r c) (ap (λ (p : Place). character p r c) (at_check_place_lem s b r i))
check_any t s b r (is_with_damage {c} {kind}) i =
    check_character t s c true (marked r (kind_damaged kind r.damage)) (tail_marked 0 s b r kind i) (damaged r.place r c kind) (ap (λ (p : Place). damaged p r c kind) (at_check_place_lem s b r i))

checks : (t s v : ℕ) (b : Bool) (r : Receiver) (h : Heard) → InTail 0 s b r → SoundAs v h → (adds t (taken r h).event ≡ entry t (verdict_of (bit_xor s (v / 256)) (harmed_by b v))) × ((taken r h).receiver ≡ idle)
checks t s v b r h i (as_character e) =
    let told : (adds t (taken r (Character (v / 256))).event ≡ entry t (verdict_of (bit_xor s (v / 256)) b)) × ((taken r (Character (v / 256))).receiver ≡ idle) = check_any t s b r is_sound i in
    (told.0 ∙ ap (λ (x : Bool). entry t (verdict_of (bit_xor s (v / 256)) x)) (sym (harm_none b v e)), told.1)
checks t s v b r h i (as_damaged kind e) =
    let told : (adds t (taken r (Damaged (v / 256) kind)).event ≡ entry t (verdict_of (bit_xor s (v / 256)) true)) × ((taken r (Damaged (v / 256) kind)).receiver ≡ idle) = check_any t s b r is_with_damage i in
    (told.0 ∙ ap (λ (x : Bool). entry t (verdict_of (bit_xor s (v / 256)) x)) (sym (harm_some b v e)), told.1)

found_last : (recording : List ℕ) (t s : ℕ) (b : Bool) (r : Receiver) → bad_recording recording ≡ false → InTail 0 s b r → (k : SoundTick recording t)
    → found_from recording t r ≡ entry t (verdict_of (bit_xor s (k.number / 256)) (harmed_by b k.number)) ++ found_from recording (t + 1) idle
found_last recording t s b r g i k =
    let view : SoundView recording t k.number = sound_view recording t g k in
    let told : (adds t (taken r view.heard).event ≡ entry t (verdict_of (bit_xor s (k.number / 256)) (harmed_by b k.number))) × ((taken r view.heard).receiver ≡ idle) = checks t s k.number b r view.heard i view.sounding in
    found_at recording t r view.heard (taken r view.heard) view.left refl
    ∙ ap₂ (λ (l : List ℕ) (x : Receiver). l ++ found_from recording (t + 1) x) told.0 told.1

-- ---- data and check byte

-- the last step of a walk
record LastStep (recording : List ℕ) (t s : ℕ) (b : Bool) (u count sum : ℕ) (harm : Bool) : Type 0 where
  place : ℕ
  tick : ℕ
  so_far : ℕ
  hurt : Bool
  walk : Walk recording t s b place count so_far hurt
  reach : Reaches recording place tick
  sounds : SoundTick recording tick
  behind : u ≡ tick + 1
  sum_is : sum ≡ bit_xor so_far (sounds.number / 256)
  harm_is : harm ≡ harmed_by hurt sounds.number

last_step : (recording : List ℕ) (t s : ℕ) (b : Bool) (count : ℕ) {u n sum : ℕ} {harm : Bool} → Walk recording t s b u n sum harm → n ≡ count + 1 → LastStep recording t s b u count sum harm
last_step recording t s b count no_character e = absurd (omega arith)
last_step recording t s b count (one_more {u} {w} {n} {sum} {harm} walk reach k) e = record {
  place = u;
  tick = w;
  so_far = sum;
  hurt = harm;
  walk = subst (λ (m : ℕ). Walk recording t s b u m sum harm) (same n count e) walk;
  reach = reach;
  sounds = k;
  behind = refl;
  sum_is = refl;
  harm_is = refl;
}
  where
    same : (n count : ℕ) → n + 1 ≡ count + 1 → n ≡ count
    same n count e = omega arith

pub tail_to : (recording : List ℕ) (t count s : ℕ) (b : Bool) (run : Result Run Stop) (q : Run) (verdict : ℕ) (o : Result Outcome Stop)
    → bad_recording recording ≡ false → RunIs recording t (count + 1) s b run → run ≡ Ok q → verdict ≡ verdict_of q.sum q.harm → o ≡ Ok (O.Ends (q.end - 1) verdict) → TailIs recording t count s b o
tail_to recording t count s b run q verdict o g v e f k = record { each = each }
  where
    walk : Walk recording t s b q.end (count + 1) q.sum q.harm
    walk = subst (RunIs recording t (count + 1) s b) e v

    none : (m : ℕ) → m - m ≡ 0
    none m = omega arith

    each : (r : Receiver) → InTail count s b r → OutcomeIs recording t (found_from recording t r) o
    each r i =
        let last : LastStep recording t s b q.end count q.sum q.harm = last_step recording t s b count walk refl in
        let w : TailWalked recording t last.place (count - count) last.so_far last.hurt r = tail_walk recording t count s b r g i last.walk (omega arith) in
        let at : InTail 0 last.so_far last.hurt w.reader = subst (λ (m : ℕ). InTail m last.so_far last.hurt w.reader) (none count) w.still in
        let here : q.end - 1 ≡ last.tick = omega (arith, last.behind) in
        subst (OutcomeIs recording t (found_from recording t r)) (sym k)
        (record {
          from = omega (arith, here, walk_from recording t s b last.walk, reach_from recording last.place last.tick last.reach);
          within = omega (arith, here, last.sounds.within);
          told = w.same
              ∙ reach_found recording last.place last.tick w.reader g (tail_within 0 last.so_far last.hurt w.reader at) last.reach last.sounds
              ∙ found_last recording last.tick last.so_far last.hurt w.reader g at last.sounds
              ∙ ap₂ (λ (x : ℕ) (h : Bool). entry last.tick (verdict_of x h) ++ found_from recording (last.tick + 1) idle) (sym last.sum_is) (sym last.harm_is)
              ∙ ap (λ (x : ℕ). entry last.tick x ++ found_from recording (last.tick + 1) idle) (sym f)
              ∙ ap (λ (x : ℕ). entry x verdict ++ found_from recording (x + 1) idle) (sym here);
        })

tail_broke : (recording : List ℕ) (t count s : ℕ) (b : Bool) (u : ℕ) → bad_recording recording ≡ false → WalkTo recording t s b (count + 1) u → TailIs recording t count s b (Err (Broke u))
tail_broke recording t count s b u g to = record { each = each }
  where
    each : (r : Receiver) → InTail count s b r → OutcomeIs recording t (found_from recording t r) (Err (Broke u))
    each r i =
        let w : TailWalked recording t to.place (count - to.count) to.sum to.harm r = tail_walk recording t count s b r g i to.walk (omega (arith, to.fewer)) in
        record {
          from = omega (arith, walk_from recording t s b to.walk, to.two.next);
          within = to.two.second.within;
          told = w.same ∙ silent_found recording to.place u w.reader (tail_within (count - to.count) to.sum to.harm w.reader w.still) to.two;
        }

tail_over : (recording : List ℕ) (t count s : ℕ) (b : Bool) → bad_recording recording ≡ false → WalkOver recording t s b (count + 1) → TailIs recording t count s b (Err Over)
tail_over recording t count s b g to = record { each = each }
  where
    each : (r : Receiver) → InTail count s b r → OutcomeIs recording t (found_from recording t r) (Err Over)
    each r i =
        let w : TailWalked recording t to.place (count - to.count) to.sum to.harm r = tail_walk recording t count s b r g i to.walk (omega (arith, to.fewer)) in
        w.same ∙ over_found recording to.place w.reader (tail_within (count - to.count) to.sum to.harm w.reader w.still) to.none

tail_by : (recording : List ℕ) (t count s : ℕ) (b : Bool) (stop : Stop) → bad_recording recording ≡ false → RunIs recording t (count + 1) s b (Err stop) → TailIs recording t count s b (Err stop)
tail_by recording t count s b (Broke u) g v = tail_broke recording t count s b u g v
tail_by recording t count s b Over g v = tail_over recording t count s b g v

pub tail_stop : (recording : List ℕ) (t count s : ℕ) (b : Bool) (run : Result Run Stop) (stop : Stop) (o : Result Outcome Stop)
    → bad_recording recording ≡ false → RunIs recording t (count + 1) s b run → run ≡ Err stop → o ≡ Err stop → TailIs recording t count s b o
tail_stop recording t count s b run stop o g v e k = subst (TailIs recording t count s b) (sym k) (tail_by recording t count s b stop g (subst (RunIs recording t (count + 1) s b) e v))

-- a run of some characters goes on
pub run_positive : (recording : List ℕ) (t count s : ℕ) (b : Bool) (run : Result Run Stop) (q : Run) → RunIs recording t (count + 1) s b run → run ≡ Ok q → 1 ≤ q.end
run_positive recording t count s b run q v e =
    let walk : Walk recording t s b q.end (count + 1) q.sum q.harm = subst (RunIs recording t (count + 1) s b) e v in
    omega (arith, walk_from recording t s b walk)

pub ruleset tails = (refl, tail_to, tail_stop, run_positive)

-- ---- the byte count

at_least_two : (t : Bool) → 2 ≤ (when t then 6 else 2)
unfolding when◌then◌else◌
at_least_two true = omega arith
at_least_two false = omega arith

count_place : (frame s : ℕ) (b : Bool) (r : Receiver) → InHead frame 0 s b r → r.place ≡ Count
count_place frame s b r i = go i.place
  where
    go : HeadPlace r 0 → r.place ≡ Count
    go (at_first_place e k) = absurd (omega (arith, at_least_two r.header.long))
    go (at_address_place j e h k) = absurd (omega arith)
    go (at_expansion_place j e h k) = absurd (omega arith)
    go (at_command_place e k) = absurd (omega arith)
    go (at_count_place e k) = e

-- a character that breaks the frame
found_broken : (recording : List ℕ) (t : ℕ) (r : Receiver) → bad_recording recording ≡ false → (k : SoundTick recording t) → ((h : Heard) → SoundAs k.number h → taken r h ≡ breaks) → EndsAt recording t (found_from recording t r) t 0 passing
found_broken recording t r g k broken =
    let view : SoundView recording t k.number = sound_view recording t g k in
    record {
      from = omega arith;
      within = k.within;
      told = found_at recording t r view.heard breaks view.left (broken view.heard view.sounding);
    }

-- one that goes on
found_on : (recording : List ℕ) (t : ℕ) (r s : Receiver) → bad_recording recording ≡ false → (k : SoundTick recording t) → ((h : Heard) → SoundAs k.number h → taken r h ≡ tells s Nothing) → found_from recording t r ≡ found_from recording (t + 1) s
found_on recording t r s g k on =
    let view : SoundView recording t k.number = sound_view recording t g k in
    found_at recording t r view.heard (tells s Nothing) view.left (on view.heard view.sounding)

-- a damaged byte count
count_damaged : (frame s v : ℕ) (b : Bool) (r : Receiver) → InHead frame 0 s b r → (v % 256 ≡ 32 → ⊥) → (h : Heard) → SoundAs v h → taken r h ≡ breaks
unfolding taken
count_damaged frame s v b r i n h (as_character e) = absurd (n e)
count_damaged frame s v b r i n h (as_damaged kind e) = ap (λ (p : Place). damaged p r (v / 256) kind) (count_place frame s b r i)

pub count_hurt : (recording : List ℕ) (u v frame s : ℕ) (b : Bool) (o : Result Outcome Stop) → bad_recording recording ≡ false → TickIs recording u v → (v ≡ 0 → ⊥) → 2 * u + 2 ≤ length recording → (v % 256 ≡ 32 → ⊥) → o ≡ Ok (Breaks u) → CountIs recording u frame s b o
count_hurt recording u v frame s b o g k n h d e = record {
  each = λ r i. subst (OutcomeIs recording u (found_from recording u r)) (sym e) (found_broken recording u r g (sound_tick recording u v k n h) (count_damaged frame s v b r i d));
}

-- a byte count that is too small for an ACK or a BACK
count_small : (frame s v : ℕ) (b : Bool) (r : Receiver) → InHead frame 0 s b r → v % 256 ≡ 32 → too_few frame (v / 256) ≡ true → (h : Heard) → SoundAs v h → taken r h ≡ breaks
unfolding taken at_count
count_small frame s v b r i z f h (as_character e) =
    ap (λ (p : Place). character p r (v / 256)) (count_place frame s b r i)
    ∙ if_is_true (too_few r.header.kind (v / 256)) _ _ (ap (λ (x : ℕ). too_few x (v / 256)) i.of_frame ∙ f)
count_small frame s v b r i z f h (as_damaged kind e) = absurd (e z)

pub count_few : (recording : List ℕ) (u v frame s c : ℕ) (b few : Bool) (o : Result Outcome Stop) → bad_recording recording ≡ false → TickIs recording u v → (v ≡ 0 → ⊥) → 2 * u + 2 ≤ length recording → v % 256 ≡ 32
    → c ≡ v / 256 → few ≡ too_few frame c → few ≡ true → o ≡ Ok (Breaks u) → CountIs recording u frame s b o
count_few recording u v frame s c b few o g k n h d q f z e = record {
  each = λ r i. subst (OutcomeIs recording u (found_from recording u r)) (sym e) (found_broken recording u r g (sound_tick recording u v k n h) (count_small frame s v b r i d (ap (too_few frame) (sym q) ∙ sym f ∙ z)));
}

-- a byte count that is taken
abbrev pub counted_place : ℕ → Place
counted_place c = when c =? 0 then Check else Data 0

counted_choice : (r : Receiver) (c : ℕ) (t : Bool) → (when t then counted r c Check else counted r c (Data 0)) ≡ counted r c (when t then Check else Data 0)
unfolding when◌then◌else◌
counted_choice r c true = refl
counted_choice r c false = refl

pub count_on : (frame s c : ℕ) (b : Bool) (r : Receiver) → InHead frame 0 s b r → too_few frame c ≡ false → taken r (Character c) ≡ counted r c (counted_place c)
unfolding taken at_count
count_on frame s c b r i f =
    ap (λ (p : Place). character p r c) (count_place frame s b r i)
    ∙ if_is_false (too_few r.header.kind c) _ _ (ap (λ (x : ℕ). too_few x c) i.of_frame ∙ f)
    ∙ counted_choice r c (c =? 0)

count_taken : (frame s v : ℕ) (b : Bool) (r : Receiver) → InHead frame 0 s b r → v % 256 ≡ 32 → too_few frame (v / 256) ≡ false → (h : Heard) → SoundAs v h → taken r h ≡ counted r (v / 256) (counted_place (v / 256))
count_taken frame s v b r i z f h (as_character e) = count_on frame s (v / 256) b r i f
count_taken frame s v b r i z f h (as_damaged kind e) = absurd (e z)

pub in_tail : (frame s c : ℕ) (b : Bool) (r : Receiver) → InHead frame 0 s b r → InTail c (bit_xor s c) b (counted r c (counted_place c)).receiver
in_tail frame s c b r i = record { place = go (c =? 0) refl; inside = record { summed = ap (λ (x : ℕ). bit_xor x c) i.inside.summed; harmed = i.inside.harmed; unchecked = i.inside.unchecked; no_gap = refl } }
  where
    go : (t : Bool) → (c =? 0) ≡ t → TailPlace (counted r c (counted_place c)).receiver c
    go true z = at_check_place (if_is_true (c =? 0) Check (Data 0) z) (eqb-true c 0 z)
    go false z = at_data_place 0 (if_is_false (c =? 0) Check (Data 0) z) (omega (arith, eqb-false c 0 z)) (omega arith)

pub count_goes : (recording : List ℕ) (u v frame s c x : ℕ) (b few : Bool) (o : Result Outcome Stop) → bad_recording recording ≡ false → TickIs recording u v → (v ≡ 0 → ⊥) → 2 * u + 2 ≤ length recording → v % 256 ≡ 32
    → c ≡ v / 256 → few ≡ too_few frame c → few ≡ false → x ≡ bit_xor s c → TailIs recording (u + 1) c x b o → CountIs recording u frame s b o
count_goes recording u v frame s c x b few o g k n h d q f z y w = record { each = each }
  where
    each : (r : Receiver) → InHead frame 0 s b r → OutcomeIs recording u (found_from recording u r) o
    each r i =
        earlier recording u (u + 1) (found_from recording u r) (found_from recording (u + 1) (counted r (v / 256) (counted_place (v / 256))).receiver) o (omega arith)
        (found_on recording u r (counted r (v / 256) (counted_place (v / 256))).receiver g (sound_tick recording u v k n h) (count_taken frame s v b r i d (ap (too_few frame) (sym q) ∙ sym f ∙ z)))
        (w.each (counted r (v / 256) (counted_place (v / 256))).receiver
        (subst (λ (e : ℕ). InTail e x b (counted r (v / 256) (counted_place (v / 256))).receiver) (sym q)
        (subst (λ (e : ℕ). InTail (v / 256) e b (counted r (v / 256) (counted_place (v / 256))).receiver) (sym (y ∙ ap (bit_xor s) q)) (in_tail frame s (v / 256) b r i))))

pub ruleset counts = (refl, count_hurt, count_few, count_goes)

-- the tick of the byte count
pub count_next : (recording : List ℕ) (t u frame s : ℕ) (b : Bool) (n : Result ℕ Stop) (o : Result Outcome Stop) → bad_recording recording ≡ false → NextIs recording t n → n ≡ Ok u → CountIs recording u frame s b o → CountIs recording t frame s b o
count_next recording t u frame s b n o g v e w =
    let next : NextAt recording t u = subst (NextIs recording t) e v in
    record {
      each = λ r i. earlier recording t u (found_from recording t r) (found_from recording u r) o (reach_from recording t u next.reaches) (reach_found recording t u r g (head_within frame 0 s b r i) next.reaches next.sound) (w.each r i);
    }

count_by : (recording : List ℕ) (t frame s : ℕ) (b : Bool) (stop : Stop) → NextIs recording t (Err stop) → CountIs recording t frame s b (Err stop)
count_by recording t frame s b (Broke u) two = record {
  each = λ r i. record { from = omega (arith, two.next); within = two.second.within; told = silent_found recording t u r (head_within frame 0 s b r i) two };
}
count_by recording t frame s b Over none = record { each = λ r i. over_found recording t r (head_within frame 0 s b r i) none }

pub count_stop : (recording : List ℕ) (t frame s : ℕ) (b : Bool) (n : Result ℕ Stop) (stop : Stop) (o : Result Outcome Stop) → NextIs recording t n → n ≡ Err stop → o ≡ Err stop → CountIs recording t frame s b o
count_stop recording t frame s b n stop o v e k = subst (CountIs recording t frame s b) (sym k) (count_by recording t frame s b stop (subst (NextIs recording t) e v))

-- what a call asks of the tick that was found
pub next_sounds : (recording : List ℕ) (t u v : ℕ) (n : Result ℕ Stop) → NextIs recording t n → n ≡ Ok u → TickIs recording u v → v ≡ 0 → ⊥
next_sounds recording t u v n w e k z =
    let next : NextAt recording t u = subst (NextIs recording t) e w in
    next.sound.sounds (omega (arith, next.sound.tick.first, next.sound.tick.character, k.first, k.character))

pub ruleset next_counts = (refl, count_next, count_stop, next_sounds)

-- ---- from the delimiter on

pub head_to : (recording : List ℕ) (t frame need s : ℕ) (run : Result Run Stop) (q : Run) (o : Result Outcome Stop) → bad_recording recording ≡ false → RunIs recording t need s false run → run ≡ Ok q
    → CountIs recording q.end frame q.sum q.harm o → HeadIs recording t frame need s o
head_to recording t frame need s run q o g v e c = record { each = each }
  where
    walk : Walk recording t s false q.end need q.sum q.harm
    walk = subst (RunIs recording t need s false) e v

    none : (m : ℕ) → m - m ≡ 0
    none m = omega arith

    each : (r : Receiver) → InHead frame need s false r → OutcomeIs recording t (found_from recording t r) o
    each r i =
        let w : HeadWalked recording t q.end frame (need - need) q.sum q.harm r = head_walk recording t frame need s false r g i walk (omega arith) in
        earlier recording t q.end (found_from recording t r) (found_from recording q.end w.reader) o (omega (arith, walk_from recording t s false walk)) w.same
        (c.each w.reader (subst (λ (m : ℕ). InHead frame m q.sum q.harm w.reader) (none need) w.still))

head_broke : (recording : List ℕ) (t frame need s u : ℕ) → bad_recording recording ≡ false → WalkTo recording t s false need u → HeadIs recording t frame need s (Err (Broke u))
head_broke recording t frame need s u g to = record { each = each }
  where
    each : (r : Receiver) → InHead frame need s false r → OutcomeIs recording t (found_from recording t r) (Err (Broke u))
    each r i =
        let w : HeadWalked recording t to.place frame (need - to.count) to.sum to.harm r = head_walk recording t frame need s false r g i to.walk (omega (arith, to.fewer)) in
        record {
          from = omega (arith, walk_from recording t s false to.walk, to.two.next);
          within = to.two.second.within;
          told = w.same ∙ silent_found recording to.place u w.reader (head_within frame (need - to.count) to.sum to.harm w.reader w.still) to.two;
        }

head_over : (recording : List ℕ) (t frame need s : ℕ) → bad_recording recording ≡ false → WalkOver recording t s false need → HeadIs recording t frame need s (Err Over)
head_over recording t frame need s g to = record { each = each }
  where
    each : (r : Receiver) → InHead frame need s false r → OutcomeIs recording t (found_from recording t r) (Err Over)
    each r i =
        let w : HeadWalked recording t to.place frame (need - to.count) to.sum to.harm r = head_walk recording t frame need s false r g i to.walk (omega (arith, to.fewer)) in
        w.same ∙ over_found recording to.place w.reader (head_within frame (need - to.count) to.sum to.harm w.reader w.still) to.none

head_by : (recording : List ℕ) (t frame need s : ℕ) (stop : Stop) → bad_recording recording ≡ false → RunIs recording t need s false (Err stop) → HeadIs recording t frame need s (Err stop)
head_by recording t frame need s (Broke u) g v = head_broke recording t frame need s u g v
head_by recording t frame need s Over g v = head_over recording t frame need s g v

pub head_stop : (recording : List ℕ) (t frame need s : ℕ) (run : Result Run Stop) (stop : Stop) (o : Result Outcome Stop) → bad_recording recording ≡ false → RunIs recording t need s false run → run ≡ Err stop → o ≡ Err stop → HeadIs recording t frame need s o
head_stop recording t frame need s run stop o g v e k = subst (HeadIs recording t frame need s) (sym k) (head_by recording t frame need s stop g (subst (RunIs recording t need s false) e v))

pub ruleset heads = (refl, head_to, head_stop)

-- ---- the delimiter

-- the reader behind a delimiter
abbrev pub begun_by : ℕ → ℕ → Bool → ℕ → Receiver
begun_by c frame long expansion = (begins c (delimiter_with frame long expansion)).receiver

pub begun_head : (c frame expansion n : ℕ) (long : Bool) → n ≡ (when long then 6 else 2) + expansion → InHead frame n c false (begun_by c frame long expansion)
unfolding when◌then◌else◌
begun_head c frame expansion n long e = record { place = at_first_place refl e; of_frame = refl; inside = record { summed = refl; harmed = refl; unchecked = refl; no_gap = refl } }

begins_by : (c : ℕ) (d : Option Delimiter) → (c ≡ 255 → ⊥) → d ≡ delimiter_of c → taken (blank (Preamble 2)) (Character c) ≡ begins c d
unfolding taken at_preamble
begins_by c d n e = if_is_false (c =? 0xFF) _ _ (ne_eqb c 255 n) ∙ if_is_false (2 <? 2) _ _ (le-ltb 2 2 (omega arith)) ∙ ap (begins c) (sym e)

-- 0xFF is no delimiter
no_delimiter : delimiter_of 255 ≡ None
unfolding delimiter_of when◌then◌else◌
no_delimiter = refl

pub delimiter_on : (c frame expansion : ℕ) (long : Bool) → delimiter_of c ≡ delimiter_with frame long expansion → taken (blank (Preamble 2)) (Character c) ≡ tells (begun_by c frame long expansion) Nothing
delimiter_on c frame expansion long e = begins_by c (delimiter_with frame long expansion) (λ z. let k : ◌≡◌ {A = ℕ} 0 1 = cc (no_delimiter, ap delimiter_of z, e) in omega arith) (sym e)

delimiter_taken : (v : ℕ) (d : Option Delimiter) → v % 256 ≡ 32 → (v / 256 ≡ 255 → ⊥) → d ≡ delimiter_of (v / 256) → (h : Heard) → SoundAs v h → taken (blank (Preamble 2)) h ≡ begins (v / 256) d
delimiter_taken v d z n e h (as_character k) = begins_by (v / 256) d n e
delimiter_taken v d z n e h (as_damaged kind k) = absurd (k z)

one_preamble : (v : ℕ) → v % 256 ≡ 32 → (v / 256 ≡ 255 → ⊥) → (h : Heard) → SoundAs v h → taken (blank (Preamble 1)) h ≡ breaks
unfolding taken at_preamble
one_preamble v z n h (as_character k) = if_is_false (v / 256 =? 0xFF) _ _ (ne_eqb (v / 256) 255 n) ∙ if_is_true (1 <? 2) _ _ (lt-ltb 1 2 (omega arith))
one_preamble v z n h (as_damaged kind k) = absurd (k z)

two_preambles : (two : Bool) → two ≡ true → in_preamble two ≡ blank (Preamble 2)
two_preambles two e = if_is_true two (blank (Preamble 2)) (blank (Preamble 1)) e

not_two : (two : Bool) → two ≡ false → in_preamble two ≡ blank (Preamble 1)
not_two two e = if_is_false two (blank (Preamble 2)) (blank (Preamble 1)) e

abbrev sound_number : (recording : List ℕ) (u v : ℕ) → TickIs recording u v → v % 256 ≡ 32 → 2 * u + 2 ≤ length recording → SoundTick recording u
sound_number recording u v k z h = record { number = v; tick = k; sounds = λ e. absurd (omega arith); within = h }

pub delimiter_is : (recording : List ℕ) (u v c n : ℕ) (two : Bool) (d : Option Delimiter) (x : Delimiter) (o : Result Outcome Stop) → bad_recording recording ≡ false → TickIs recording u v → 2 * u + 2 ≤ length recording → v % 256 ≡ 32 → (v / 256 ≡ 255 → ⊥)
    → two ≡ true → c ≡ v / 256 → d ≡ delimiter_of c → d ≡ Some x → n ≡ (when x.long then 6 else 2) + x.expansion → HeadIs recording (u + 1) x.kind n c o → FrameIs recording u (in_preamble two) o
delimiter_is recording u v c n two d x o g k h z m t q e f l w = record {
  this = subst (λ (r : Receiver). OutcomeIs recording u (found_from recording u r) o) (sym (two_preambles two t))
      (earlier recording u (u + 1) (found_from recording u (blank (Preamble 2))) (found_from recording (u + 1) (begun_by (v / 256) x.kind x.long x.expansion)) o (omega arith)
      (found_on recording u (blank (Preamble 2)) (begun_by (v / 256) x.kind x.long x.expansion) g (sound_number recording u v k z h)
      (delimiter_taken v (Some x) z m (sym f ∙ e ∙ ap delimiter_of q)))
      (w.each (begun_by (v / 256) x.kind x.long x.expansion) (subst (λ (y : ℕ). InHead x.kind n y false (begun_by (v / 256) x.kind x.long x.expansion)) (sym q) (begun_head (v / 256) x.kind x.expansion n x.long l))));
}

pub delimiter_not : (recording : List ℕ) (u v c : ℕ) (two : Bool) (d : Option Delimiter) (o : Result Outcome Stop) → bad_recording recording ≡ false → TickIs recording u v → 2 * u + 2 ≤ length recording → v % 256 ≡ 32 → (v / 256 ≡ 255 → ⊥)
    → two ≡ true → c ≡ v / 256 → d ≡ delimiter_of c → d ≡ None → o ≡ Ok (Breaks u) → FrameIs recording u (in_preamble two) o
delimiter_not recording u v c two d o g k h z m t q e f w = record {
  this = subst (λ (r : Receiver). OutcomeIs recording u (found_from recording u r) o) (sym (two_preambles two t))
      (subst (OutcomeIs recording u (found_from recording u (blank (Preamble 2)))) (sym w)
      (found_broken recording u (blank (Preamble 2)) g (sound_number recording u v k z h) (delimiter_taken v None z m (sym f ∙ e ∙ ap delimiter_of q))));
}

pub delimiter_early : (recording : List ℕ) (u v : ℕ) (two : Bool) (o : Result Outcome Stop) → bad_recording recording ≡ false → TickIs recording u v → 2 * u + 2 ≤ length recording → v % 256 ≡ 32 → (v / 256 ≡ 255 → ⊥)
    → two ≡ false → o ≡ Ok (Breaks u) → FrameIs recording u (in_preamble two) o
delimiter_early recording u v two o g k h z m t w = record {
  this = subst (λ (r : Receiver). OutcomeIs recording u (found_from recording u r) o) (sym (not_two two t))
      (subst (OutcomeIs recording u (found_from recording u (blank (Preamble 1)))) (sym w)
      (found_broken recording u (blank (Preamble 1)) g (sound_number recording u v k z h) (one_preamble v z m)));
}

pub ruleset delimiters = (refl, delimiter_is, delimiter_not, delimiter_early)

-- ---- the preamble

pub record Preambling (recording : List ℕ) (from : ℕ) (r : Receiver) (ticks t : ℕ) (two : Bool) : Type 0 where
  pub count : ticks ≡ length recording / 2
  pub onward : from ≤ t
  pub within : 2 * t ≤ length recording
  pub same : found_from recording from r ≡ found_from recording t (in_preamble two)

preamble_within : (two : Bool) → Within (in_preamble two)
unfolding when◌then◌else◌
preamble_within true = record { inside = refl; no_gap = refl }
preamble_within false = record { inside = refl; no_gap = refl }

pub preamble_begun : (recording : List ℕ) (from ticks : ℕ) → 2 * from ≤ length recording → ticks ≡ length recording / 2 → Preambling recording from (blank (Preamble 1)) ticks from false
unfolding when◌then◌else◌
preamble_begun recording from ticks h e = record { count = e; onward = omega arith; within = h; same = refl }

pub preamble_resumed : (recording : List ℕ) (from ticks : ℕ) (before : Bool) → 2 * from ≤ length recording → ticks ≡ length recording / 2 → Preambling recording from (in_preamble before) ticks from before
preamble_resumed recording from ticks before h e = record { count = e; onward = omega arith; within = h; same = refl }

-- another 0xFF
pub more_on : (n : ℕ) → taken (blank (Preamble n)) (Character 0xFF) ≡ tells (blank (Preamble 2)) Nothing
unfolding taken at_preamble
more_on n = if_is_true (255 =? 0xFF) _ _ (eq-eqb 255 255 refl)

more_preamble : (v : ℕ) (two : Bool) → v % 256 ≡ 32 → v / 256 ≡ 255 → (h : Heard) → SoundAs v h → taken (in_preamble two) h ≡ tells (blank (Preamble 2)) Nothing
unfolding when◌then◌else◌
more_preamble v true z n h (as_character k) = ap (λ (c : ℕ). taken (blank (Preamble 2)) (Character c)) n ∙ more_on 2
more_preamble v false z n h (as_character k) = ap (λ (c : ℕ). taken (blank (Preamble 1)) (Character c)) n ∙ more_on 1
more_preamble v two z n h (as_damaged kind k) = absurd (k z)

preamble_hurt : (v : ℕ) (two : Bool) → (v % 256 ≡ 32 → ⊥) → (h : Heard) → SoundAs v h → taken (in_preamble two) h ≡ breaks
unfolding taken when◌then◌else◌
preamble_hurt v two n h (as_character k) = absurd (n k)
preamble_hurt v true n h (as_damaged kind k) = refl
preamble_hurt v false n h (as_damaged kind k) = refl

-- the next character of the preamble
preamble_reach : (recording : List ℕ) (t u : ℕ) (two : Bool) → bad_recording recording ≡ false → NextAt recording t u → found_from recording t (in_preamble two) ≡ found_from recording u (in_preamble two)
preamble_reach recording t u two g n = reach_found recording t u (in_preamble two) g (preamble_within two) n.reaches n.sound

-- another character
pub other_hurt : (recording : List ℕ) (u v : ℕ) (two : Bool) (o : Result Outcome Stop) → bad_recording recording ≡ false → TickIs recording u v → (v ≡ 0 → ⊥) → 2 * u + 2 ≤ length recording → (v % 256 ≡ 32 → ⊥) → o ≡ Ok (Breaks u) → FrameIs recording u (in_preamble two) o
other_hurt recording u v two o g k n h d f = record {
  this = subst (OutcomeIs recording u (found_from recording u (in_preamble two))) (sym f) (found_broken recording u (in_preamble two) g (sound_tick recording u v k n h) (preamble_hurt v two d));
}

pub other_sound : (v : ℕ) → (v ≡ 65312 → ⊥) → v % 256 ≡ 32 → v / 256 ≡ 255 → ⊥
other_sound v n e f = n (omega arith)

pub ruleset others = (refl, other_hurt, other_sound)

-- the loop: its next character
pub loop_sound : (recording : List ℕ) (t u : ℕ) (n : Result ℕ Stop) → NextIs recording t n → n ≡ Ok u → SoundTick recording u
loop_sound recording t u n w e =
    let next : NextAt recording t u = subst (NextIs recording t) e w in
    next.sound

pub preamble_more : (recording : List ℕ) (r : Receiver) (from ticks t u v : ℕ) (two now : Bool) (n : Result ℕ Stop) → Preambling recording from r ticks t two → bad_recording recording ≡ false → NextIs recording t n → n ≡ Ok u
    → TickIs recording u v → v ≡ 65312 → now ≡ true → Preambling recording from r ticks (u + 1) now
preamble_more recording r from ticks t u v two now n p g w e k f y =
    let next : NextAt recording t u = subst (NextIs recording t) e w in
    record {
      count = p.count;
      onward = omega (arith, p.onward, reach_from recording t u next.reaches);
      within = omega (arith, next.sound.within);
      same = p.same
          ∙ preamble_reach recording t u two g next
          ∙ found_on recording u (in_preamble two) (blank (Preamble 2)) g (sound_number recording u v k (omega arith) next.sound.within) (more_preamble v two (omega arith) (omega arith))
          ∙ ap (found_from recording (u + 1)) (sym (two_preambles now y));
    }

pub preamble_less : (recording : List ℕ) (ticks t u : ℕ) (n : Result ℕ Stop) → NextIs recording t n → n ≡ Ok u → t < ticks → ticks - (u + 1) < ticks - t
preamble_less recording ticks t u n w e h =
    let next : NextAt recording t u = subst (NextIs recording t) e w in
    omega (arith, reach_from recording t u next.reaches)

-- another character than 0xFF
pub preamble_other : (recording : List ℕ) (r : Receiver) (from ticks t u : ℕ) (two : Bool) (n : Result ℕ Stop) (o : Result Outcome Stop) → Preambling recording from r ticks t two → bad_recording recording ≡ false → NextIs recording t n → n ≡ Ok u
    → FrameIs recording u (in_preamble two) o → FrameIs recording from r o
preamble_other recording r from ticks t u two n o p g w e f =
    let next : NextAt recording t u = subst (NextIs recording t) e w in
    record {
      this = earlier recording from u _ (found_from recording u (in_preamble two)) o (omega (arith, p.onward, reach_from recording t u next.reaches)) (p.same ∙ preamble_reach recording t u two g next) f.this;
    }

-- no character
preamble_by : (recording : List ℕ) (t : ℕ) (two : Bool) (stop : Stop) → NextIs recording t (Err stop) → FrameIs recording t (in_preamble two) (Err stop)
preamble_by recording t two (Broke u) silent = record {
  this = record { from = omega (arith, silent.next); within = silent.second.within; told = silent_found recording t u (in_preamble two) (preamble_within two) silent };
}
preamble_by recording t two Over none = record { this = over_found recording t (in_preamble two) (preamble_within two) none }

pub preamble_stop : (recording : List ℕ) (r : Receiver) (from ticks t : ℕ) (two : Bool) (n : Result ℕ Stop) (stop : Stop) (o : Result Outcome Stop) → Preambling recording from r ticks t two → NextIs recording t n → n ≡ Err stop → o ≡ Err stop → FrameIs recording from r o
preamble_stop recording r from ticks t two n stop o p w e f =
    let frame : FrameIs recording t (in_preamble two) (Err stop) = preamble_by recording t two stop (subst (NextIs recording t) e w) in
    subst (FrameIs recording from r) (sym f) (record { this = earlier recording from t _ (found_from recording t (in_preamble two)) (Err stop) p.onward p.same frame.this })

pub preamble_cut : (recording : List ℕ) (r : Receiver) (from ticks t : ℕ) (two : Bool) (o : Result Outcome Stop) → Preambling recording from r ticks t two → ticks ≤ t → o ≡ Err Over → FrameIs recording from r o
preamble_cut recording r from ticks t two o p h f = record {
  this = subst (OutcomeIs recording from (found_from recording from r)) (sym f) (p.same ∙ found_over recording t (in_preamble two) (omega (arith, p.count)));
}

-- a 0xFF at once
pub preamble_fast : (recording : List ℕ) (r : Receiver) (from ticks t v : ℕ) (two now : Bool) → Preambling recording from r ticks t two → bad_recording recording ≡ false → t < ticks → TickIs recording t v → v ≡ 65312 → now ≡ true → Preambling recording from r ticks (t + 1) now
preamble_fast recording r from ticks t v two now p g h k e y = record {
  count = p.count;
  onward = omega (arith, p.onward);
  within = omega (arith, p.count);
  same = p.same
      ∙ found_on recording t (in_preamble two) (blank (Preamble 2)) g (sound_number recording t v k (omega arith) (omega (arith, p.count))) (more_preamble v two (omega arith) (omega arith))
      ∙ ap (found_from recording (t + 1)) (sym (two_preambles now y));
}

pub preamble_handed : (recording : List ℕ) (r : Receiver) (from ticks t : ℕ) (two : Bool) (o : Result Outcome Stop) → Preambling recording from r ticks t two → FrameIs recording t (in_preamble two) o → FrameIs recording from r o
preamble_handed recording r from ticks t two o p f = record { this = earlier recording from t _ (found_from recording t (in_preamble two)) o p.onward p.same f.this }

pub ruleset fast_preambles = (refl, preamble_begun, preamble_fast, preamble_handed, preamble_cut)

pub ruleset preambles = (refl, preamble_less, preamble_resumed, preamble_more, preamble_other, preamble_stop, preamble_cut, loop_sound, next_sounds)

-- ---- a frame's first character

pub first_on : taken idle (Character 0xFF) ≡ tells (blank (Preamble 1)) Nothing
unfolding taken at_idle
first_on = if_is_true (255 =? 0xFF) _ _ (eq-eqb 255 255 refl)

first_taken : (v : ℕ) → v % 256 ≡ 32 → v / 256 ≡ 255 → (h : Heard) → SoundAs v h → taken idle h ≡ tells (blank (Preamble 1)) Nothing
first_taken v z n h (as_character k) = ap (λ (c : ℕ). taken idle (Character c)) n ∙ first_on
first_taken v z n h (as_damaged kind k) = absurd (k z)

first_other : (v : ℕ) → v % 256 ≡ 32 → (v / 256 ≡ 255 → ⊥) → (h : Heard) → SoundAs v h → taken idle h ≡ breaks
unfolding taken at_idle
first_other v z n h (as_character k) = if_is_false (v / 256 =? 0xFF) _ _ (ne_eqb (v / 256) 255 n)
first_other v z n h (as_damaged kind k) = absurd (k z)

first_hurt : (v : ℕ) → (v % 256 ≡ 32 → ⊥) → (h : Heard) → SoundAs v h → taken idle h ≡ breaks
unfolding taken
first_hurt v n h (as_character k) = absurd (n k)
first_hurt v n h (as_damaged kind k) = refl

pub frame_begins : (recording : List ℕ) (t v : ℕ) (o : Result Outcome Stop) → bad_recording recording ≡ false → SoundTick recording t → TickIs recording t v → v ≡ 65312 → FrameIs recording (t + 1) (blank (Preamble 1)) o → FrameIs recording t idle o
frame_begins recording t v o g s k z f = record {
  this = earlier recording t (t + 1) _ (found_from recording (t + 1) (blank (Preamble 1))) o (omega arith)
      (found_on recording t idle (blank (Preamble 1)) g (sound_number recording t v k (omega arith) s.within) (first_taken v (omega arith) (omega arith))) f.this;
}

frame_sound : (recording : List ℕ) (t v : ℕ) (o : Result Outcome Stop) → bad_recording recording ≡ false → SoundTick recording t → TickIs recording t v → v % 256 ≡ 32 → (v / 256 ≡ 255 → ⊥) → o ≡ Ok (Breaks t) → FrameIs recording t idle o
frame_sound recording t v o g s k z n f = record {
  this = subst (OutcomeIs recording t (found_from recording t idle)) (sym f) (found_broken recording t idle g (sound_number recording t v k z s.within) (first_other v z n));
}

same_tick : (recording : List ℕ) (t v : ℕ) (s : SoundTick recording t) → TickIs recording t v → v ≡ s.number
same_tick recording t v s k = omega (arith, k.first, k.character, s.tick.first, s.tick.character)

frame_hurt : (recording : List ℕ) (t v : ℕ) (o : Result Outcome Stop) → bad_recording recording ≡ false → SoundTick recording t → TickIs recording t v → (v % 256 ≡ 32 → ⊥) → o ≡ Ok (Breaks t) → FrameIs recording t idle o
frame_hurt recording t v o g s k n f = record {
  this = subst (OutcomeIs recording t (found_from recording t idle)) (sym f)
      (found_broken recording t idle g s (first_hurt s.number (λ e. n (ap (λ (x : ℕ). x % 256) (same_tick recording t v s k) ∙ e))));
}

pub frame_other : (recording : List ℕ) (t v : ℕ) (o : Result Outcome Stop) → bad_recording recording ≡ false → SoundTick recording t → TickIs recording t v → (v ≡ 65312 → ⊥) → o ≡ Ok (Breaks t) → FrameIs recording t idle o
frame_other recording t v o g s k n f = go (v % 256 =? 32) refl
  where
    go : (b : Bool) → (v % 256 =? 32) ≡ b → FrameIs recording t idle o
    go true e =
        let z : v % 256 ≡ 32 = eqb-true (v % 256) 32 e in
        frame_sound recording t v o g s k z (λ q. n (omega arith)) f
    go false e = frame_hurt recording t v o g s k (eqb-false (v % 256) 32 e) f

pub frame_within : (recording : List ℕ) (t : ℕ) → SoundTick recording t → 2 * t + 2 ≤ length recording
frame_within recording t s = s.within

pub ruleset frames = (refl, frame_begins, frame_other, frame_within)
