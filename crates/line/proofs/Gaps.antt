-- Theorems: the claims of specs/Gaps. Two silent ticks in a row break a frame; single ones change nothing of what is told, of the data and of the reader; a written frame with single silent ticks inside is told as the message written.
use Rattle.std.specs.Prelude.{Option, Some, None}
use Prim.Native.Nat.{ℕ, ◌+◌, ◌-◌, ◌≤◌}
use native.Mathlib.Omega.{arith}
use mathlib.Core.Path.{◌≡◌, refl, sym, ap, subst, subst₂, ◌∙◌}
use mathlib.Core.Bool.{Bool, true, false}
use mathlib.Core.List.{List, [], ◌∷◌, ◌++◌, append_assoc}
use lib.ListN.{length}
use Rattle.base.specs.Choice.{when◌then◌else◌, ◌<?◌, ◌=?◌}
use Rattle.base.specs.Store.{stored}
use Rattle.frame.specs.Check.{exclusive_or}
use Rattle.frame.specs.Delimiter.{delimiter_of}
use Rattle.frame.specs.Frame.{too_few, protected_bytes, body_bytes, preamble_bytes, frame_bytes}
use Rattle.frame.specs.declared.Delimiter.{Delimiter}
use Rattle.frame.specs.declared.Header.{Header}
use Rattle.frame.proofs.Taken as Write
use Rattle.line.specs.Heard.{characters}
use Rattle.line.specs.Gaps.{IsCharacter, is_sound, is_with_damage, SecondBreaks, NothingBroken, SilentTicks, GapsBefore, no_more, at_once, behind_silence, from_first, Ends, last, before, SameEnd, GapsPassedOver, FrameWithGaps}
use Rattle.line.specs.Reader.{idle, blank, passing, tells, gapped, taken, taken_data, next, breaks, begins, counted, marked, address_damaged, kind_damaged, at_idle, at_preamble, at_first, at_address, at_expansion, at_command, at_count, at_data, at_check, ended, is_damaged, character, damaged}
use Rattle.line.specs.declared.Damage.{Damage}
use Rattle.line.specs.declared.Event.{Event}
use Rattle.line.specs.declared.Event.TheVariants.{Nothing, PassedOver, Frame}
use Rattle.line.specs.declared.FrameDamage.{FrameDamage}
use Rattle.line.specs.declared.Heard as H
use Rattle.line.specs.declared.Heard.TheVariants.{Silence, Character, Damaged}
use Rattle.line.specs.declared.Place.{Place}
use Rattle.line.specs.declared.Place.TheVariants.{Passing, Idle, Preamble, First, Address, Expansion, Command, Count, Data, Check}
use Rattle.line.specs.declared.Receiver.{Receiver}
use Rattle.line.specs.declared.Taken.{Taken}
use Rattle.line.specs.declared.Whole.{Whole}
use Rattle.line.proofs.Hearing.{Heard, whole_message, frame_leads, frame_told}
use Rattle.line.proofs.Leads.{Leads, stays, hears}
use Rattle.line.proofs.Ticks.{Inside, outside_idle, gap_passed, gap_breaks, gapped_takes}

-- ---- behind a character

-- inside a frame, and no silent tick just passed over
pub record Within (r : Receiver) : Type 0 where
  pub inside : Inside r.place
  pub no_gap : r.gap ≡ false

-- a character tells nothing and leads into a frame, or it tells something and leads out of it
data Behind (t : Taken) : Type 0 where
  within : t.event ≡ Nothing → Within t.receiver → Behind t
  without : (t.event ≡ Nothing → ⊥) → NothingBroken t.receiver → Behind t

by_if : (t : Bool) (a b : Taken) → Behind a → Behind b → Behind (when t then a else b)
unfolding when◌then◌else◌
by_if true a b p q = p
by_if false a b p q = q

behind_passing : Behind (tells passing PassedOver)
behind_passing = without (λ e. let z : ◌≡◌ {A = ℕ} 0 1 = cc in omega arith) (outside_idle passing refl)

behind_breaks : Behind breaks
behind_breaks = without (λ e. let z : ◌≡◌ {A = ℕ} 0 1 = cc in omega arith) (outside_idle passing refl)

behind_preamble : (n : ℕ) → Behind (tells (blank (Preamble n)) Nothing)
behind_preamble n = within refl (record { inside = refl; no_gap = refl })

behind_next : (r : Receiver) (h : Header) (place : Place) (c : ℕ) → Inside place → Behind (next r h place c)
behind_next r h place c i = within refl (record { inside = i; no_gap = refl })

behind_counted : (r : Receiver) (c : ℕ) (place : Place) → Inside place → Behind (counted r c place)
behind_counted r c place i = within refl (record { inside = i; no_gap = refl })

behind_begins : (c : ℕ) (d : Option Delimiter) → Behind (begins c d)
behind_begins c None = behind_breaks
behind_begins c (Some d) = within refl (record { inside = refl; no_gap = refl })

in_frame : (x : ℕ) (t : Bool) → Inside (when t then Command else Expansion x)
unfolding when◌then◌else◌
in_frame x true = refl
in_frame x false = refl

ended_told : (w : Whole) (m : FrameDamage) (t : Bool) → (when t then Event.Damaged w m else Frame w) ≡ Nothing → ⊥
unfolding when◌then◌else◌
ended_told w m true e = let z : ◌≡◌ {A = ℕ} 0 1 = cc in omega arith
ended_told w m false e = let z : ◌≡◌ {A = ℕ} 0 1 = cc in omega arith

behind_ended : (w : Whole) (m : FrameDamage) → Behind (tells idle (ended w m))
behind_ended w m = without (ended_told w m (is_damaged m)) (outside_idle idle refl)

behind_first : (r : Receiver) (c : ℕ) → Behind (at_first r c)
unfolding at_first
behind_first r c = by_if r.header.long _ _ (behind_next r _ (Address 4) c refl) (behind_next r _ _ c (in_frame r.expansion (r.expansion =? 0)))

behind_address : (r : Receiver) (n c : ℕ) → Behind (at_address r n c)
unfolding at_address
behind_address r n c = by_if (1 <? n) _ _ (behind_next r _ (Address (n - 1)) c refl) (behind_next r _ _ c (in_frame r.expansion (r.expansion =? 0)))

behind_expansion : (r : Receiver) (n c : ℕ) → Behind (at_expansion r n c)
unfolding at_expansion
behind_expansion r n c = by_if (1 <? n) _ _ (behind_next r _ (Expansion (n - 1)) c refl) (behind_next r _ Command c refl)

behind_command : (r : Receiver) (c : ℕ) → Behind (at_command r c)
unfolding at_command
behind_command r c = behind_next r _ Count c refl

behind_data : (r : Receiver) (n c : ℕ) → Behind (at_data r n c)
unfolding at_data
behind_data r n c = by_if (n + 1 <? r.count) _ _ (behind_next r _ (Data (n + 1)) c refl) (behind_next r _ Check c refl)

behind_check : (r : Receiver) (c : ℕ) → Behind (at_check r c)
unfolding at_check
behind_check r c = behind_ended _ _

behind_character : (place : Place) (r : Receiver) (c : ℕ) → Behind (character place r c)
unfolding at_idle at_preamble at_count
behind_character Passing r c = behind_passing
behind_character Idle r c = by_if (c =? 0xFF) _ _ (behind_preamble 1) behind_breaks
behind_character (Preamble n) r c = by_if (c =? 0xFF) _ _ (behind_preamble 2) (by_if (n <? 2) _ _ behind_breaks (behind_begins c (delimiter_of c)))
behind_character First r c = behind_first r c
behind_character (Address n) r c = behind_address r n c
behind_character (Expansion n) r c = behind_expansion r n c
behind_character Command r c = behind_command r c
behind_character Count r c = by_if (too_few r.header.kind c) _ _ behind_breaks (by_if (c =? 0) _ _ (behind_counted r c Check refl) (behind_counted r c (Data 0) refl))
behind_character (Data n) r c = behind_data r n c
behind_character Check r c = behind_check r c

behind_damaged : (place : Place) (r : Receiver) (c : ℕ) (kind : Damage) → Behind (damaged place r c kind)
behind_damaged Passing r c kind = behind_passing
behind_damaged Idle r c kind = behind_breaks
behind_damaged (Preamble n) r c kind = behind_breaks
behind_damaged First r c kind = behind_first (marked r (address_damaged r.damage)) c
behind_damaged (Address n) r c kind = behind_address (marked r (address_damaged r.damage)) n c
behind_damaged (Expansion n) r c kind = behind_expansion (marked r (address_damaged r.damage)) n c
behind_damaged Command r c kind = behind_command (marked r (kind_damaged kind r.damage)) c
behind_damaged Count r c kind = behind_breaks
behind_damaged (Data n) r c kind = behind_data (marked r (kind_damaged kind r.damage)) n c
behind_damaged Check r c kind = behind_check (marked r (kind_damaged kind r.damage)) c

behind : (r : Receiver) {h : H.Heard} → IsCharacter h → Behind (taken r h)
unfolding taken
behind r (is_sound {c}) = behind_character r.place r c
behind r (is_with_damage {c} {kind}) = behind_damaged r.place r c kind

-- where a character tells nothing, the reader behind it is inside a frame
pub goes_within : (r : Receiver) {h : H.Heard} → IsCharacter h → (taken r h).event ≡ Nothing → Within (taken r h).receiver
goes_within r {h} c e = go (behind r c)
  where
    go : Behind (taken r h) → Within (taken r h).receiver
    go (within p w) = w
    go (without told p) = absurd (told e)

-- ---- "The second in a row breaks the frame"

pub second_breaks : (r : Receiver) → Within r → SecondBreaks r
second_breaks r w =
    let passed : taken r Silence ≡ tells (gapped r) Nothing = gap_passed r w.inside w.no_gap in
    record {
      first = ap (λ (t : Taken). t.event) passed;
      second = ap (λ (t : Taken). taken t.receiver Silence) passed ∙ gap_breaks (gapped r) w.inside refl;
    }

pub silent_ticks : SilentTicks
silent_ticks r h c = record { inside = λ e. second_breaks (taken r h).receiver (goes_within r c e); outside = go (behind r c) }
  where
    go : Behind (taken r h) → ((taken r h).event ≡ Nothing → ⊥) → NothingBroken (taken r h).receiver
    go (within p w) told = absurd (told p)
    go (without p s) told = s

-- ---- "One silent tick inside a frame is now passed over."

data_gapped : (r : Receiver) (h : H.Heard) (b : List ℕ) → taken_data (gapped r) h b ≡ taken_data r h b
unfolding taken_data
data_gapped r Silence b = refl
data_gapped r (Character c) b = refl
data_gapped r (Damaged c kind) b = refl

data_silent : (r : Receiver) (b : List ℕ) → taken_data r Silence b ≡ b
unfolding taken_data
data_silent r b = refl

-- a tick that two readers take alike
record Alike (r : Receiver) (b : List ℕ) (s : Receiver) (a : List ℕ) (h : H.Heard) : Type 0 where
  same_taken : taken r h ≡ taken s h
  same_data : taken_data r h b ≡ taken_data s h a

alike_ends : {r s : Receiver} {b a d : List ℕ} {h : H.Heard} {hs : List H.Heard} {t : Taken} → Alike r b s a h → Ends r b (h ∷ hs) t d → Ends s a (h ∷ hs) t d
alike_ends x (last p q) = last (sym x.same_taken ∙ p) (sym x.same_data ∙ q)
alike_ends {d = d} {hs = hs} {t = t} x (before p e) =
    before (ap (λ (u : Taken). u.event) (sym x.same_taken) ∙ p) (subst₂ (λ (u : Taken) (l : List ℕ). Ends u.receiver l hs t d) x.same_taken x.same_data e)

alike_back : {r s : Receiver} {b a : List ℕ} {h : H.Heard} → Alike r b s a h → Alike s a r b h
alike_back x = record { same_taken = sym x.same_taken; same_data = sym x.same_data }

-- a character, from a reader inside a frame and from the same behind one silent tick
alike_silent : (r : Receiver) (b : List ℕ) {h : H.Heard} → Within r → IsCharacter h → Alike r b (taken r Silence).receiver (taken_data r Silence b) h
alike_silent r b {h} w c =
    subst₂ (λ (u : Taken) (l : List ℕ). Alike r b u.receiver l h) (sym (gap_passed r w.inside w.no_gap)) (sym (data_silent r b))
    (record { same_taken = sym (gapped_takes r c); same_data = sym (data_gapped r h b) })

-- one character more, taken at once: what is heard behind it ends alike, if the reader is then inside a frame
abbrev Onward : Receiver → List ℕ → H.Heard → List H.Heard → List H.Heard → Taken → List ℕ → Type 0
Onward r b h cs hs t d = Within (taken r h).receiver → SameEnd (taken r h).receiver (taken_data r h b) cs hs t d

put_behind : {r : Receiver} {b d : List ℕ} {h : H.Heard} {cs hs : List H.Heard} {t : Taken} → IsCharacter h → GapsBefore cs hs → Onward r b h cs hs t d → Ends r b (h ∷ cs) t d → Ends r b (h ∷ hs) t d
put_behind c no_more on (last p q) = last p q
put_behind {r} c g on (before p e) = before p ((on (goes_within r c p)).put_in e)

out_behind : {r : Receiver} {b d : List ℕ} {h : H.Heard} {cs hs : List H.Heard} {t : Taken} → IsCharacter h → GapsBefore cs hs → Onward r b h cs hs t d → Ends r b (h ∷ hs) t d → Ends r b (h ∷ cs) t d
out_behind c no_more on (last p q) = last p q
out_behind {r} c g on (before p e) = before p ((on (goes_within r c p)).taken_out e)

same_behind : {r : Receiver} {b d : List ℕ} {h : H.Heard} {cs hs : List H.Heard} {t : Taken} → IsCharacter h → GapsBefore cs hs → Onward r b h cs hs t d → SameEnd r b (h ∷ cs) (h ∷ hs) t d
same_behind c g on = record { put_in = put_behind c g on; taken_out = out_behind c g on }

-- one character more, behind a silent tick that is passed over
same_silent : {r : Receiver} {b d : List ℕ} {h : H.Heard} {cs hs : List H.Heard} {t : Taken} → Within r → IsCharacter h
    → SameEnd r b cs (h ∷ hs) t d → SameEnd r b cs (Silence ∷ h ∷ hs) t d
same_silent {r} {b} {d} {h} {cs} {hs} {t} w c same = record { put_in = λ e. before (second_breaks r w).first (alike_ends (alike_silent r b w c) (same.put_in e)); taken_out = out }
  where
    out : Ends r b (Silence ∷ h ∷ hs) t d → Ends r b cs t d
    out (before p e) = same.taken_out (alike_ends (alike_back (alike_silent r b w c)) e)

same_inside : {r : Receiver} {b d : List ℕ} {cs hs : List H.Heard} {t : Taken} → GapsBefore cs hs → Within r → SameEnd r b cs hs t d
same_inside no_more w = record { put_in = λ e. e; taken_out = λ e. e }
same_inside {r = r} {b = b} {d = d} {t = t} (at_once {h = h} {cs = cs} {hs = hs} c g) w =
    same_behind c g (λ v. same_inside {r = (taken r h).receiver} {b = taken_data r h b} {d = d} {cs = cs} {hs = hs} {t = t} g v)
same_inside {r = r} {b = b} {d = d} {t = t} (behind_silence {h = h} {cs = cs} {hs = hs} c g) w =
    same_silent w c (same_behind c g (λ v. same_inside {r = (taken r h).receiver} {b = taken_data r h b} {d = d} {cs = cs} {hs = hs} {t = t} g v))

pub gaps_passed_over : GapsPassedOver
gaps_passed_over r b cs hs t d (from_first c g) = same_behind c g (λ v. same_inside g v)

-- ---- a frame as it is written

-- the characters that lead to a reader, and one more
leads_end : {r s : Receiver} {b a d cs : List ℕ} (c : ℕ) {t : Taken} → Leads r b cs s a → taken s (Character c) ≡ t → taken_data s (Character c) a ≡ d → Ends r b (characters (cs ++ (c ∷ []))) t d
leads_end c stays p q = last p q
leads_end {d = d} c {t = t} (hears {cs = cs} e f l) p q =
    before (ap (λ (u : Taken). u.event) e) (subst₂ (λ (u : Taken) (x : List ℕ). Ends u.receiver x (characters (cs ++ (c ∷ []))) t d) (sym e) (sym f) (leads_end c l p q))

frame_ends : (n : ℕ) (h : Header) (bytes b : List ℕ) → 2 ≤ n → Heard h bytes → Ends idle b (characters (frame_bytes n h bytes)) (tells idle (Frame (whole_message h bytes))) (stored b 0 bytes)
unfolding frame_bytes body_bytes taken_data
frame_ends n h bytes b two ok =
    subst (λ (cs : List ℕ). Ends idle b (characters cs) (tells idle (Frame (whole_message h bytes))) (stored b 0 bytes))
    (append_assoc (preamble_bytes n) (protected_bytes h bytes) (exclusive_or (protected_bytes h bytes) ∷ []))
    (leads_end _ (frame_leads n h bytes b two ok) (frame_told h bytes) refl)

pub frame_with_gaps : FrameWithGaps
frame_with_gaps written heard room place end h bytes b hs e two g =
    let fits = (Write.taken written h (length bytes) room place end e).fits in
    let ok : Heard h bytes = record { typed = fits.typed; address_high = fits.address_high; count_high = fits.count_high; enough = fits.enough } in
    (gaps_passed_over idle b _ hs _ _ g).put_in (frame_ends heard h bytes b two ok)
