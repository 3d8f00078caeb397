-- A reader outside a frame: a silent tick leaves it there, a frame that is written leads it there again, and damage makes it pass over all that follows.
use Prim.Native.Nat.{ℕ}
use native.Mathlib.Omega.{arith}
use mathlib.Core.Path.{◌≡◌, refl, sym, ap, subst, ◌∙◌}
use mathlib.Core.Bool.{false}
use mathlib.Core.List.{List, [], ◌∷◌, ◌++◌, append_assoc}
use lib.ListN.{length}
use Rattle.base.proofs.Choices.{true_false}
use Rattle.frame.specs.Check.{exclusive_or}
use Rattle.frame.specs.Frame.{protected_bytes, body_bytes, preamble_bytes, frame_bytes}
use Rattle.frame.proofs.Taken as Write
use Rattle.line.specs.Gaps.{IsCharacter, is_sound, is_with_damage}
use Rattle.line.specs.Reader.{idle, inside_frame, character, damaged, taken}
use Rattle.line.specs.declared.Damage.{Damage}
use Rattle.line.specs.declared.Heard.{Heard}
use Rattle.line.specs.declared.Heard.TheVariants.{Silence, Character, Damaged}
use Rattle.line.specs.declared.Place.{Place}
use Rattle.line.specs.declared.Place.TheVariants.{Passing, Idle, Preamble, First, Address, Expansion, Command, Count, Data, Check}
use Rattle.line.specs.declared.Receiver.{Receiver}
use Rattle.line.specs.declared.Taken.{Taken}
use Rattle.line.proofs.Hearing as H
use Rattle.line.proofs.Leads.{Leads, stays, hears, reader_after}
use Rattle.line.proofs.Ticks.{outside_idle}
use Rattle.turns.specs.Gaps.{IsFrame}

abbrev pub Outside : Receiver → Type 0
Outside r = inside_frame r.place ≡ false

data Stands (place : Place) : Type 0 where
  is_idle : place ≡ Idle → Stands place
  is_passing : place ≡ Passing → Stands place

stands : (place : Place) → inside_frame place ≡ false → Stands place
stands Passing o = is_passing refl
stands Idle o = is_idle refl
stands (Preamble n) o = absurd (true_false o)
stands First o = absurd (true_false o)
stands (Address n) o = absurd (true_false o)
stands (Expansion n) o = absurd (true_false o)
stands Command o = absurd (true_false o)
stands Count o = absurd (true_false o)
stands (Data n) o = absurd (true_false o)
stands Check o = absurd (true_false o)

-- ---- a reader that passes over what it hears

pub passing_outside : (r : Receiver) → r.place ≡ Passing → Outside r
passing_outside r e = ap inside_frame e

pub passes : (r : Receiver) {heard : Heard} → IsCharacter heard → r.place ≡ Passing → (taken r heard).receiver.place ≡ Passing
unfolding taken
passes r (is_sound {c}) e = ap (λ (p : Place). (character p r c).receiver.place) e
passes r (is_with_damage {c} {kind}) e = ap (λ (p : Place). (damaged p r c kind).receiver.place) e

pub passes_all : (r : Receiver) (cs : List ℕ) → r.place ≡ Passing → (reader_after r cs).place ≡ Passing
unfolding reader_after
passes_all r [] e = e
passes_all r (c ∷ cs) e = passes_all (taken r (Character c)).receiver cs (passes r is_sound e)

-- ---- silence, and damage

pub silence_outside : (r : Receiver) → Outside r → Outside (taken r Silence).receiver
silence_outside r o = ap (λ (t : Taken). inside_frame t.receiver.place) (outside_idle r o)

pub damage_passes : (r : Receiver) (c : ℕ) (kind : Damage) → Outside r → (taken r (Damaged c kind)).receiver.place ≡ Passing
unfolding taken
damage_passes r c kind o = go (stands r.place o)
  where
    go : Stands r.place → (taken r (Damaged c kind)).receiver.place ≡ Passing
    go (is_idle e) = ap (λ (p : Place). (damaged p r c kind).receiver.place) e
    go (is_passing e) = ap (λ (p : Place). (damaged p r c kind).receiver.place) e

-- ---- a frame

leads_last : {r s : Receiver} {b d cs : List ℕ} → Leads r b cs s d → (c : ℕ) → reader_after r (cs ++ (c ∷ [])) ≡ (taken s (Character c)).receiver
unfolding reader_after
leads_last stays c = refl
leads_last (hears {cs = cs} p q l) c = ap (λ (t : Taken). reader_after t.receiver (cs ++ (c ∷ []))) p ∙ leads_last l c

frame_idle : (w : List ℕ) → IsFrame w → reader_after idle w ≡ idle
unfolding frame_bytes body_bytes
frame_idle w f =
    let fits = (Write.taken f.preamble f.header (length f.bytes) (length w) 0 (length w) f.taken_by_writer).fits in
    let ok : H.Heard f.header f.bytes = record { typed = fits.typed; address_high = fits.address_high; count_high = fits.count_high; enough = fits.enough } in
    subst (λ (l : List ℕ). reader_after idle l ≡ idle)
    (append_assoc (preamble_bytes f.preamble) (protected_bytes f.header f.bytes) (exclusive_or (protected_bytes f.header f.bytes) ∷ []) ∙ sym f.written)
    (leads_last (H.frame_leads f.preamble f.header f.bytes [] (omega (arith, fits.preamble_low)) ok) _ ∙ ap (λ (t : Taken). t.receiver) (H.frame_told f.header f.bytes))

-- after a whole frame it is outside again
pub frame_outside : (r : Receiver) (c : ℕ) (left : List ℕ) → Outside r → IsFrame (c ∷ left) → Outside (reader_after r (c ∷ left))
unfolding reader_after taken
frame_outside r c left o f = go (stands r.place o)
  where
    go : Stands r.place → Outside (reader_after r (c ∷ left))
    go (is_idle e) =
        subst (λ (t : Taken). Outside (reader_after t.receiver left)) (sym (ap (λ (p : Place). character p r c) e))
        (ap (λ (z : Receiver). inside_frame z.place) (frame_idle (c ∷ left) f))
    go (is_passing e) = passing_outside (reader_after r (c ∷ left)) (passes_all r (c ∷ left) e)
