-- Theorems on single ticks: one silent tick inside a frame is passed over and the second breaks it, no byte inside a frame's data starts another frame, and damage in the byte count breaks it.
use Prim.Native.Nat.{ℕ, ◌+◌}
use mathlib.Core.Path.{◌≡◌, refl, sym, ap, subst, ◌∙◌}
use mathlib.Core.Bool.{Bool, true, false}
use Rattle.base.specs.Choice.{when◌then◌else◌, ◌<?◌}
use Rattle.base.proofs.Choices.{if_is_true, if_is_false}
use Rattle.line.specs.Gaps.{IsCharacter, is_sound, is_with_damage}
use Rattle.line.specs.Reader.{idle, passing, tells, gapped, silent_inside, inside_frame, next, character, damaged, at_first, at_address, at_expansion, at_command, at_count, at_data, at_check, taken}
use Rattle.line.specs.declared.Damage.{Damage}
use Rattle.line.specs.declared.Event.TheVariants.{Nothing, PassedOver, Broken}
use Rattle.line.specs.declared.Heard.{Heard}
use Rattle.line.specs.declared.Heard.TheVariants.{Silence, Character, Damaged}
use Rattle.line.specs.declared.Place.{Place}
use Rattle.line.specs.declared.Place.TheVariants.{Passing, Idle, Preamble, First, Address, Expansion, Command, Count, Data, Check}
use Rattle.line.specs.declared.Receiver.{Receiver}
use Rattle.line.specs.declared.Taken.{Taken}

-- inside a frame
abbrev pub Inside : Place → Type 0
Inside place = inside_frame place ≡ true

-- outside a frame a silent tick leads to the idle reader
pub outside_idle : (r : Receiver) → inside_frame r.place ≡ false → taken r Silence ≡ tells idle Nothing
unfolding taken
outside_idle r o = if_is_false (inside_frame r.place) _ _ o

-- "One silent tick inside a frame is now passed over."
pub gap_passed : (r : Receiver) → Inside r.place → r.gap ≡ false → taken r Silence ≡ tells (gapped r) Nothing
unfolding taken silent_inside
gap_passed r i e = if_is_true (inside_frame r.place) _ _ i ∙ if_is_false r.gap _ _ e

-- "The second in a row breaks the frame"
pub gap_breaks : (r : Receiver) → Inside r.place → r.gap ≡ true → taken r Silence ≡ tells idle Broken
unfolding taken silent_inside
gap_breaks r i e = if_is_true (inside_frame r.place) _ _ i ∙ if_is_true r.gap _ _ e

-- two silent ticks lead to the idle reader from any state
pub two_silent_idle : (r : Receiver) → (taken (taken r Silence).receiver Silence).receiver ≡ idle
two_silent_idle r = go (inside_frame r.place) refl r.gap refl
  where
    behind : (t : Taken) → taken r Silence ≡ t → (taken t.receiver Silence).receiver ≡ idle → (taken (taken r Silence).receiver Silence).receiver ≡ idle
    behind t e f = ap (λ (u : Taken). (taken u.receiver Silence).receiver) e ∙ f

    still : (taken idle Silence).receiver ≡ idle
    still = ap (λ (t : Taken). t.receiver) (outside_idle idle refl)

    go : (inside : Bool) → inside_frame r.place ≡ inside → (gap : Bool) → r.gap ≡ gap → (taken (taken r Silence).receiver Silence).receiver ≡ idle
    go false o gap e = behind (tells idle Nothing) (outside_idle r o) still
    go true i true e = behind (tells idle Broken) (gap_breaks r i e) still
    go true i false e = behind (tells (gapped r) Nothing) (gap_passed r i e) (ap (λ (t : Taken). t.receiver) (gap_breaks (gapped r) i refl))

-- a character behind a silent tick that was passed over is taken as if the tick had not been
character_gapped : (place : Place) (r : Receiver) (c : ℕ) → character place (gapped r) c ≡ character place r c
unfolding at_first at_address at_expansion at_command at_count at_data at_check
character_gapped Passing r c = refl
character_gapped Idle r c = refl
character_gapped (Preamble n) r c = refl
character_gapped First r c = refl
character_gapped (Address n) r c = refl
character_gapped (Expansion n) r c = refl
character_gapped Command r c = refl
character_gapped Count r c = refl
character_gapped (Data n) r c = refl
character_gapped Check r c = refl

damaged_gapped : (place : Place) (r : Receiver) (c : ℕ) (kind : Damage) → damaged place (gapped r) c kind ≡ damaged place r c kind
unfolding at_first at_address at_expansion at_command at_count at_data at_check
damaged_gapped Passing r c kind = refl
damaged_gapped Idle r c kind = refl
damaged_gapped (Preamble n) r c kind = refl
damaged_gapped First r c kind = refl
damaged_gapped (Address n) r c kind = refl
damaged_gapped (Expansion n) r c kind = refl
damaged_gapped Command r c kind = refl
damaged_gapped Count r c kind = refl
damaged_gapped (Data n) r c kind = refl
damaged_gapped Check r c kind = refl

pub gapped_takes : (r : Receiver) {h : Heard} → IsCharacter h → taken (gapped r) h ≡ taken r h
unfolding taken
gapped_takes r (is_sound {c}) = character_gapped r.place r c
gapped_takes r (is_with_damage {c} {kind}) = damaged_gapped r.place r c kind

-- behind a data byte, whatever it is, the reader stands at the next data byte or at the check byte, with the same header, and has told nothing
pub data DataGoesOn (r : Receiver) (n : ℕ) (t : Taken) : Type 0 where
  to_data : t.receiver.place ≡ Data (n + 1) → t.receiver.header ≡ r.header → t.event ≡ Nothing → DataGoesOn r n t
  to_check : t.receiver.place ≡ Check → t.receiver.header ≡ r.header → t.event ≡ Nothing → DataGoesOn r n t

data_goes_on : (r : Receiver) (n c : ℕ) → DataGoesOn r n (at_data r n c)
unfolding at_data when◌then◌else◌
data_goes_on r n c = go (n + 1 <? r.count)
  where
    go : (t : Bool) → DataGoesOn r n (when t then next r r.header (Data (n + 1)) c else next r r.header Check c)
    go true = to_data refl refl refl
    go false = to_check refl refl refl

pub data_starts_no_frame : (r : Receiver) (n c : ℕ) → r.place ≡ Data n → DataGoesOn r n (taken r (Character c))
unfolding taken
data_starts_no_frame r n c e = subst (λ (p : Place). DataGoesOn r n (character p r c)) (sym e) (data_goes_on r n c)

-- damage in the byte count breaks the frame; the character behind it, whatever it is, is passed over and told so, and so is the next
pub record CountBroken (t : Taken) : Type 0 where
  pub told : t.event ≡ Broken
  pub passed : (c : ℕ) → taken t.receiver (Character c) ≡ tells passing PassedOver

pub count_damage : (r : Receiver) (c : ℕ) (kind : Damage) → r.place ≡ Count → CountBroken (taken r (Damaged c kind))
unfolding taken
count_damage r c kind e = subst (λ (p : Place). CountBroken (damaged p r c kind)) (sym e) (record { told = refl; passed = λ n. refl })
