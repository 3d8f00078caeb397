-- Laws of the tick reader over a recording: what it finds from a tick on, by what that tick has.
use Prim.Native.Nat.{ℕ, suc, ◌+◌, ◌-◌, ◌*◌, ◌/◌, ◌%◌, ◌≤◌}
use native.Mathlib.Omega.{arith}
use mathlib.Core.Path.{◌≡◌, refl, sym, ap, ap₂, subst, ◌∙◌}
use mathlib.Core.Bool.{Bool, true, false}
use mathlib.Core.List.{List, [], ◌∷◌, ◌++◌}
use lib.Bits.{bit_xor}
use lib.ListN.{length, drop, get_or}
use borrow.Author.Tests.{eq-eqb, ne_eqb, eqb-true, eqb-false, ltb-true, ltb-false}
use Rattle.base.specs.Choice.{when◌then◌else◌, ◌=?◌, ◌<?◌}
use Rattle.base.proofs.Choices.{if_is_true, if_is_false}
use Rattle.frame.specs.declared.Header.{Header}
use Rattle.line.specs.Gaps.{IsCharacter, is_sound, is_with_damage}
use Rattle.line.specs.Heard.{damage_number, heard_of}
use Rattle.line.specs.Reader.{idle, tells, gapped, next, behind_address, first_header, address_header, command_header, at_first, at_address, at_expansion, at_command, at_data, character, damaged, marked, address_damaged, kind_damaged, is_damaged, taken}
use Rattle.line.specs.declared.Damage.{Damage}
use Rattle.line.specs.declared.Damage.TheVariants.{Parity, Overrun, Framing}
use Rattle.line.specs.declared.Event.TheVariants.{Nothing, Broken}
use Rattle.line.specs.declared.FrameDamage.{FrameDamage}
use Rattle.line.specs.declared.Heard.{Heard}
use Rattle.line.specs.declared.Heard.TheVariants.{Silence, Character, Damaged}
use Rattle.line.specs.declared.Place.{Place}
use Rattle.line.specs.declared.Place.TheVariants.{Address, Expansion, Command, Count, Data, Check}
use Rattle.line.specs.declared.Receiver.{Receiver}
use Rattle.line.specs.declared.Taken.{Taken}
use Rattle.line.proofs.Gaps.{Within}
use Rattle.line.proofs.Ticks.{gap_passed, gap_breaks, gapped_takes}
use Rattle.recording.specs.Form.{ticks_of, bad_recording}
use Rattle.recording.proofs.Forms.{ticks_on, ticks_over, good_at}
use Rattle.recording.proofs.Ticks.{Good, silent, sound, hurt, good_tick, heard_as, heard_as_lem}
use Rattle.recording_list.specs.Claims.{summed_by, hurt_by}
use Rattle.recording_list.specs.Listing.{entry, adds, found}
use Rattle.recording_list.specs.Reading.{found_from, SilentTick, SoundTick, Reaches, at_once, behind_silence, TwoSilent, NoMore, no_tick, last_silent, harmed_by, HeadPlace, at_first_place, at_address_place, at_expansion_place, at_command_place, at_count_place, TailPlace, at_data_place, at_check_place, Inside, InHead, InTail}

-- ---- one tick more

-- the ticks of a recording from t on
abbrev pub left_from : List ℕ → ℕ → List Heard
left_from recording t = ticks_of (drop (2 * t) recording)

pub found_tick : (t : ℕ) (r : Receiver) (h : Heard) (hs : List Heard) (u : Taken) → taken r h ≡ u → found t r (h ∷ hs) ≡ adds t u.event ++ found (t + 1) u.receiver hs
unfolding found
found_tick t r h hs u e = ap (λ (x : Taken). adds t x.event ++ found (t + 1) x.receiver hs) e

pub found_none : (t : ℕ) (r : Receiver) → found t r [] ≡ []
unfolding found
found_none t r = refl

-- from a tick of a recording on
pub found_at : (recording : List ℕ) (t : ℕ) (r : Receiver) (h : Heard) (u : Taken) → left_from recording t ≡ h ∷ left_from recording (t + 1) → taken r h ≡ u → found_from recording t r ≡ adds t u.event ++ found_from recording (t + 1) u.receiver
found_at recording t r h u l e = ap (found t r) l ∙ found_tick t r h (left_from recording (t + 1)) u e

pub found_over : (recording : List ℕ) (t : ℕ) (r : Receiver) → length recording / 2 ≤ t → found_from recording t r ≡ []
found_over recording t r h = ap (found t r) (ticks_over recording t h) ∙ found_none t r

-- ---- what a tick has

heard_none : (c : ℕ) → heard_of (0 % 256 / 32) c ≡ Silence
unfolding when◌then◌else◌
heard_none c = refl

pub silent_left : (recording : List ℕ) (t : ℕ) → SilentTick recording t → left_from recording t ≡ Silence ∷ left_from recording (t + 1)
silent_left recording t k =
    ticks_on recording t k.within
    ∙ ap (λ (h : Heard). h ∷ left_from recording (t + 1)) (ap₂ (λ (x c : ℕ). heard_of (x / 32) c) (sym k.tick.first ∙ ap (λ (v : ℕ). v % 256) k.is_silent) refl ∙ heard_none (get_or recording (2 * t + 1) 0))

-- a character by its number: undamaged or not
pub data SoundAs (v : ℕ) : Heard → Type 0 where
  as_character : v % 256 ≡ 32 → SoundAs v (Character (v / 256))
  as_damaged : (kind : Damage) → (v % 256 ≡ 32 → ⊥) → SoundAs v (Damaged (v / 256) kind)

pub record SoundView (recording : List ℕ) (t v : ℕ) : Type 0 where
  pub heard : Heard
  pub sounding : SoundAs v heard
  pub left : left_from recording t ≡ heard ∷ left_from recording (t + 1)

kind_positive : (kind : Damage) → 1 ≤ damage_number kind
kind_positive Parity = omega arith
kind_positive Overrun = omega arith
kind_positive Framing = omega arith

sound_as : (v x c : ℕ) → v % 256 ≡ x → v / 256 ≡ c → (v ≡ 0 → ⊥) → (g : Good x c) → SoundAs v (heard_as g)
sound_as v x c p q n (silent e f) = absurd (n (omega arith))
sound_as v x c p q n (sound e) = subst (λ (d : ℕ). SoundAs v (Character d)) q (as_character (p ∙ e))
sound_as v x c p q n (hurt kind e) = subst (λ (d : ℕ). SoundAs v (Damaged d kind)) q (as_damaged kind (λ k. absurd (omega (arith, kind_positive kind))))

pub sound_view : (recording : List ℕ) (t : ℕ) → bad_recording recording ≡ false → (k : SoundTick recording t) → SoundView recording t k.number
sound_view recording t g k =
    let good : Good (get_or recording (2 * t) 0) (get_or recording (2 * t + 1) 0) = good_tick (get_or recording (2 * t) 0) (get_or recording (2 * t + 1) 0) (good_at recording t g k.within) in
    record {
      heard = heard_as good;
      sounding = sound_as k.number (get_or recording (2 * t) 0) (get_or recording (2 * t + 1) 0) k.tick.first k.tick.character k.sounds good;
      left = ticks_on recording t k.within ∙ ap (λ (h : Heard). h ∷ left_from recording (t + 1)) (heard_as_lem good);
    }

is_character : {v : ℕ} {h : Heard} → SoundAs v h → IsCharacter h
is_character (as_character e) = is_sound
is_character (as_damaged kind e) = is_with_damage

-- ---- silence inside a frame

-- one silent tick before a character
pub reach_found : (recording : List ℕ) (t u : ℕ) (r : Receiver) → bad_recording recording ≡ false → Within r → Reaches recording t u → SoundTick recording u → found_from recording t r ≡ found_from recording u r
reach_found recording t u r g w at_once k = refl
reach_found recording t u r g w (behind_silence s) k =
    let v : SoundView recording (t + 1) k.number = sound_view recording (t + 1) g k in
    found_at recording t r Silence (tells (gapped r) Nothing) (silent_left recording t s) (gap_passed r w.inside w.no_gap)
    ∙ found_at recording (t + 1) (gapped r) v.heard (taken r v.heard) v.left (gapped_takes r (is_character v.sounding))
    ∙ sym (found_at recording (t + 1) r v.heard (taken r v.heard) v.left refl)

-- two in a row break it
pub silent_found : (recording : List ℕ) (t u : ℕ) (r : Receiver) → Within r → TwoSilent recording t u → found_from recording t r ≡ entry u 0 ++ found_from recording (u + 1) idle
silent_found recording t u r w two =
    found_at recording t r Silence (tells (gapped r) Nothing) (silent_left recording t two.first) (gap_passed r w.inside w.no_gap)
    ∙ ap (λ (k : ℕ). found_from recording k (gapped r)) (sym two.next)
    ∙ found_at recording u (gapped r) Silence (tells idle Broken) (silent_left recording u two.second) (gap_breaks (gapped r) w.inside refl)

-- at the recording's end nothing is told
pub over_found : (recording : List ℕ) (t : ℕ) (r : Receiver) → Within r → NoMore recording t → found_from recording t r ≡ []
over_found recording t r w (no_tick h) = found_over recording t r h
over_found recording t r w (last_silent s h) =
    found_at recording t r Silence (tells (gapped r) Nothing) (silent_left recording t s) (gap_passed r w.inside w.no_gap)
    ∙ found_over recording (t + 1) (gapped r) h

-- ---- a character in a frame

-- whether one was damaged, by its number
pub harm_none : (b : Bool) (v : ℕ) → v % 256 ≡ 32 → harmed_by b v ≡ b
harm_none b v e = if_is_true (v % 256 =? 32) b true (eq-eqb (v % 256) 32 e)

pub harm_some : (b : Bool) (v : ℕ) → (v % 256 ≡ 32 → ⊥) → harmed_by b v ≡ true
harm_some b v e = if_is_false (v % 256 =? 32) b true (ne_eqb (v % 256) 32 e)

-- damage marks the reader, and the character is then taken as another
harmed_address : (m : FrameDamage) → is_damaged (address_damaged m) ≡ true
unfolding when◌then◌else◌
harmed_address m = go m.parity m.overrun m.framing m.check
  where
    go : (p o f c : Bool) → (when p then true else when o then true else when f then true else when c then true else true) ≡ true
    go true o f c = refl
    go false true f c = refl
    go false false true c = refl
    go false false false true = refl
    go false false false false = refl

harmed_kind : (kind : Damage) (m : FrameDamage) → is_damaged (kind_damaged kind m) ≡ true
unfolding when◌then◌else◌
harmed_kind Parity m = refl
harmed_kind Overrun m = go m.parity
  where
    go : (p : Bool) → (when p then true else true) ≡ true
    go true = refl
    go false = refl
harmed_kind Framing m = go m.parity m.overrun
  where
    go : (p o : Bool) → (when p then true else when o then true else true) ≡ true
    go true o = refl
    go false true = refl
    go false false = refl

unchecked_kind : (kind : Damage) (m : FrameDamage) → m.check ≡ false → (kind_damaged kind m).check ≡ false
unchecked_kind Parity m e = e
unchecked_kind Overrun m e = e
unchecked_kind Framing m e = e

inside_marked : (s : ℕ) (b : Bool) (r : Receiver) (m : FrameDamage) → Inside s b r → is_damaged m ≡ true → m.check ≡ false → Inside s true (marked r m)
inside_marked s b r m v h c = record { summed = v.summed; harmed = h; unchecked = c; no_gap = v.no_gap }

inside_next : (s c : ℕ) (b : Bool) (r : Receiver) (h : Header) (place : Place) → Inside s b r → Inside (bit_xor s c) b (next r h place c).receiver
inside_next s c b r h place v = record { summed = ap (λ (x : ℕ). bit_xor x c) v.summed; harmed = v.harmed; unchecked = v.unchecked; no_gap = refl }

-- ---- from the delimiter to the byte count

pub record HeadStep (frame n s : ℕ) (b : Bool) (t : Taken) : Type 0 where
  pub reader : Receiver
  pub is : t ≡ tells reader Nothing
  pub still : InHead frame n s b reader

head_next : (frame n s c : ℕ) (b : Bool) (r : Receiver) (h : Header) (place : Place) → Inside s b r → h.kind ≡ frame → HeadPlace (next r h place c).receiver n → HeadStep frame n (bit_xor s c) b (next r h place c)
head_next frame n s c b r h place v f p = record { reader = (next r h place c).receiver; is = refl; still = record { place = p; of_frame = f; inside = inside_next s c b r h place v } }

-- behind the address: expansion bytes, or the command
head_behind : (frame n s c : ℕ) (b : Bool) (r : Receiver) (h : Header) → Inside s b r → h.kind ≡ frame → n ≡ r.expansion + 1 → HeadStep frame n (bit_xor s c) b (next r h (behind_address r) c)
head_behind frame n s c b r h v f e = go (r.expansion =? 0) refl
  where
    go : (t : Bool) → (r.expansion =? 0) ≡ t → HeadStep frame n (bit_xor s c) b (next r h (behind_address r) c)
    go true z =
        let none : r.expansion ≡ 0 = eqb-true r.expansion 0 z in
        head_next frame n s c b r h (behind_address r) v f (at_command_place (if_is_true (r.expansion =? 0) Command (Expansion r.expansion) z) (omega arith))
    go false z =
        let some : r.expansion ≡ 0 → ⊥ = eqb-false r.expansion 0 z in
        head_next frame n s c b r h (behind_address r) v f (at_expansion_place r.expansion (if_is_false (r.expansion =? 0) Command (Expansion r.expansion) z) (omega arith) (omega arith))

by_choice : (frame n s : ℕ) (b : Bool) (t : Bool) (x y : Taken) → (t ≡ true → HeadStep frame n s b x) → (t ≡ false → HeadStep frame n s b y) → HeadStep frame n s b (when t then x else y)
unfolding when◌then◌else◌
by_choice frame n s b true x y p q = p refl
by_choice frame n s b false x y p q = q refl

head_character : (frame n s c : ℕ) (b : Bool) (r : Receiver) → InHead frame (suc n) s b r → HeadStep frame n (bit_xor s c) b (character r.place r c)
unfolding at_first at_address at_expansion at_command
head_character frame n s c b r v = go v.place
  where
    go : HeadPlace r (suc n) → HeadStep frame n (bit_xor s c) b (character r.place r c)
    go (at_first_place e k) =
        subst (λ (p : Place). HeadStep frame n (bit_xor s c) b (character p r c)) (sym e)
        (by_choice frame n (bit_xor s c) b r.header.long _ _
        (λ l. head_next frame n s c b r (first_header r.header c) (Address 4) v.inside v.of_frame (at_address_place 4 refl (omega arith) (omega (arith, k, if_is_true {A = ℕ} r.header.long 6 2 l))))
        (λ l. head_behind frame n s c b r (first_header r.header c) v.inside v.of_frame (omega (arith, k, if_is_false {A = ℕ} r.header.long 6 2 l))))
    go (at_address_place j e h k) =
        subst (λ (p : Place). HeadStep frame n (bit_xor s c) b (character p r c)) (sym e)
        (by_choice frame n (bit_xor s c) b (1 <? j) _ _
        (λ l. head_next frame n s c b r (address_header r.header c) (Address (j - 1)) v.inside v.of_frame (at_address_place (j - 1) refl (omega (arith, ltb-true 1 j l)) (omega (arith, ltb-true 1 j l))))
        (λ l. head_behind frame n s c b r (address_header r.header c) v.inside v.of_frame (omega (arith, ltb-false 1 j l))))
    go (at_expansion_place j e h k) =
        subst (λ (p : Place). HeadStep frame n (bit_xor s c) b (character p r c)) (sym e)
        (by_choice frame n (bit_xor s c) b (1 <? j) _ _
        (λ l. head_next frame n s c b r r.header (Expansion (j - 1)) v.inside v.of_frame (at_expansion_place (j - 1) refl (omega (arith, ltb-true 1 j l)) (omega (arith, ltb-true 1 j l))))
        (λ l. head_next frame n s c b r r.header Command v.inside v.of_frame (at_command_place refl (omega (arith, ltb-false 1 j l)))))
    go (at_command_place e k) =
        subst (λ (p : Place). HeadStep frame n (bit_xor s c) b (character p r c)) (sym e)
        (head_next frame n s c b r (command_header r.header c) Count v.inside v.of_frame (at_count_place refl (omega arith)))
    go (at_count_place e k) = absurd (omega arith)

-- a damaged one: the same from the reader that is marked
record Marks (frame n s c : ℕ) (r : Receiver) (kind : Damage) : Type 0 where
  reader : Receiver
  same : damaged r.place r c kind ≡ character reader.place reader c
  still : InHead frame n s true reader

marked_place : (r : Receiver) (m : FrameDamage) (n : ℕ) → HeadPlace r n → HeadPlace (marked r m) n
marked_place r m n (at_first_place e k) = at_first_place e k
marked_place r m n (at_address_place j e h k) = at_address_place j e h k
marked_place r m n (at_expansion_place j e h k) = at_expansion_place j e h k
marked_place r m n (at_command_place e k) = at_command_place e k
marked_place r m n (at_count_place e k) = at_count_place e k

head_marked : (frame n s : ℕ) (b : Bool) (r : Receiver) (m : FrameDamage) → InHead frame n s b r → is_damaged m ≡ true → m.check ≡ false → InHead frame n s true (marked r m)
head_marked frame n s b r m v h c = record { place = marked_place r m n v.place; of_frame = v.of_frame; inside = inside_marked s b r m v.inside h c }

head_marks : (frame n s c : ℕ) (b : Bool) (r : Receiver) (kind : Damage) → InHead frame (suc n) s b r → Marks frame (suc n) s c r kind
head_marks frame n s c b r kind v = go v.place
  where
    in_address : InHead frame (suc n) s true (marked r (address_damaged r.damage))
    in_address = head_marked frame (suc n) s b r (address_damaged r.damage) v (harmed_address r.damage) v.inside.unchecked

    in_contents : InHead frame (suc n) s true (marked r (kind_damaged kind r.damage))
    in_contents = head_marked frame (suc n) s b r (kind_damaged kind r.damage) v (harmed_kind kind r.damage) (unchecked_kind kind r.damage v.inside.unchecked)

    go : HeadPlace r (suc n) → Marks frame (suc n) s c r kind
    go (at_first_place e k) = record { reader = marked r (address_damaged r.damage); same = ap (λ (p : Place). damaged p r c kind) e ∙ sym (ap (λ (p : Place). character p (marked r (address_damaged r.damage)) c) e); still = in_address }
    go (at_address_place j e h k) = record { reader = marked r (address_damaged r.damage); same = ap (λ (p : Place). damaged p r c kind) e ∙ sym (ap (λ (p : Place). character p (marked r (address_damaged r.damage)) c) e); still = in_address }
    go (at_expansion_place j e h k) = record { reader = marked r (address_damaged r.damage); same = ap (λ (p : Place). damaged p r c kind) e ∙ sym (ap (λ (p : Place). character p (marked r (address_damaged r.damage)) c) e); still = in_address }
    go (at_command_place e k) = record { reader = marked r (kind_damaged kind r.damage); same = ap (λ (p : Place). damaged p r c kind) e ∙ sym (ap (λ (p : Place). character p (marked r (kind_damaged kind r.damage)) c) e); still = in_contents }
    go (at_count_place e k) = absurd (omega arith)

-- any character more
pub head_any : (frame n s : ℕ) (b : Bool) (r : Receiver) {h : Heard} → IsCharacter h → InHead frame (suc n) s b r → HeadStep frame n (summed_by s h) (hurt_by b h) (taken r h)
unfolding taken
head_any frame n s b r (is_sound {c}) i = head_character frame n s c b r i
head_any frame n s b r (is_with_damage {c} {kind}) i =
    let m : Marks frame (suc n) s c r kind = head_marks frame n s c b r kind i in
    subst (HeadStep frame n (bit_xor s c) true) (sym m.same) (head_character frame n s c true m.reader m.still)

pub head_step : (frame n s v : ℕ) (b : Bool) (r : Receiver) (h : Heard) → InHead frame (suc n) s b r → SoundAs v h → HeadStep frame n (bit_xor s (v / 256)) (harmed_by b v) (taken r h)
head_step frame n s v b r h i (as_character e) =
    subst (λ (x : Bool). HeadStep frame n (bit_xor s (v / 256)) x (taken r (Character (v / 256)))) (sym (harm_none b v e)) (head_any frame n s b r is_sound i)
head_step frame n s v b r h i (as_damaged kind e) =
    subst (λ (x : Bool). HeadStep frame n (bit_xor s (v / 256)) x (taken r (Damaged (v / 256) kind))) (sym (harm_some b v e)) (head_any frame n s b r is_with_damage i)

-- ---- from the byte count to the check byte

pub record TailStep (n s : ℕ) (b : Bool) (t : Taken) : Type 0 where
  pub reader : Receiver
  pub is : t ≡ tells reader Nothing
  pub still : InTail n s b reader

tail_next : (n s c : ℕ) (b : Bool) (r : Receiver) (place : Place) → Inside s b r → TailPlace (next r r.header place c).receiver n → TailStep n (bit_xor s c) b (next r r.header place c)
tail_next n s c b r place v p = record { reader = (next r r.header place c).receiver; is = refl; still = record { place = p; inside = inside_next s c b r r.header place v } }

tail_choice : (n s : ℕ) (b : Bool) (t : Bool) (x y : Taken) → (t ≡ true → TailStep n s b x) → (t ≡ false → TailStep n s b y) → TailStep n s b (when t then x else y)
unfolding when◌then◌else◌
tail_choice n s b true x y p q = p refl
tail_choice n s b false x y p q = q refl

tail_character : (n s c : ℕ) (b : Bool) (r : Receiver) → InTail (suc n) s b r → TailStep n (bit_xor s c) b (character r.place r c)
unfolding at_data
tail_character n s c b r v = go v.place
  where
    go : TailPlace r (suc n) → TailStep n (bit_xor s c) b (character r.place r c)
    go (at_data_place j e h k) =
        subst (λ (p : Place). TailStep n (bit_xor s c) b (character p r c)) (sym e)
        (tail_choice n (bit_xor s c) b (j + 1 <? r.count) _ _
        (λ l. tail_next n s c b r (Data (j + 1)) v.inside (at_data_place (j + 1) refl (ltb-true (j + 1) r.count l) (omega arith)))
        (λ l. tail_next n s c b r Check v.inside (at_check_place refl (omega (arith, ltb-false (j + 1) r.count l)))))
    go (at_check_place e k) = absurd (omega arith)

pub tail_marked : (n s : ℕ) (b : Bool) (r : Receiver) (kind : Damage) → InTail n s b r → InTail n s true (marked r (kind_damaged kind r.damage))
tail_marked n s b r kind v = record { place = go v.place; inside = inside_marked s b r (kind_damaged kind r.damage) v.inside (harmed_kind kind r.damage) (unchecked_kind kind r.damage v.inside.unchecked) }
  where
    go : TailPlace r n → TailPlace (marked r (kind_damaged kind r.damage)) n
    go (at_data_place j e h k) = at_data_place j e h k
    go (at_check_place e k) = at_check_place e k

tail_same : (n c : ℕ) (r : Receiver) (kind : Damage) → TailPlace r n → damaged r.place r c kind ≡ character r.place (marked r (kind_damaged kind r.damage)) c
tail_same n c r kind (at_data_place j e h k) = ap (λ (p : Place). damaged p r c kind) e ∙ sym (ap (λ (p : Place). character p (marked r (kind_damaged kind r.damage)) c) e)
tail_same n c r kind (at_check_place e k) = ap (λ (p : Place). damaged p r c kind) e ∙ sym (ap (λ (p : Place). character p (marked r (kind_damaged kind r.damage)) c) e)

pub tail_any : (n s : ℕ) (b : Bool) (r : Receiver) {h : Heard} → IsCharacter h → InTail (suc n) s b r → TailStep n (summed_by s h) (hurt_by b h) (taken r h)
unfolding taken
tail_any n s b r (is_sound {c}) i = tail_character n s c b r i
tail_any n s b r (is_with_damage {c} {kind}) i =
    subst (TailStep n (bit_xor s c) true) (sym (tail_same (suc n) c r kind i.place)) (tail_character n s c true (marked r (kind_damaged kind r.damage)) (tail_marked (suc n) s b r kind i))

pub tail_step : (n s v : ℕ) (b : Bool) (r : Receiver) (h : Heard) → InTail (suc n) s b r → SoundAs v h → TailStep n (bit_xor s (v / 256)) (harmed_by b v) (taken r h)
tail_step n s v b r h i (as_character e) =
    subst (λ (x : Bool). TailStep n (bit_xor s (v / 256)) x (taken r (Character (v / 256)))) (sym (harm_none b v e)) (tail_any n s b r is_sound i)
tail_step n s v b r h i (as_damaged kind e) =
    subst (λ (x : Bool). TailStep n (bit_xor s (v / 256)) x (taken r (Damaged (v / 256) kind))) (sym (harm_some b v e)) (tail_any n s b r is_with_damage i)
