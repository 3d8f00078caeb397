-- Where characters lead a reader that tells nothing meanwhile, and what they leave in its buffer.
use Prim.Native.Nat.{ℕ, zero, suc, ◌+◌, ◌≤◌, ◌<◌}
use native.Mathlib.Omega.{arith}
use native.Mathlib.Numerals.{add-one}
use mathlib.Core.Path.{◌≡◌, refl, sym, ap, ap₂, subst, ◌∙◌}
use mathlib.Core.Bool.{false}
use mathlib.Core.List.{List, [], ◌∷◌, ◌++◌}
use lib.ListN.{length, set, take, get_or}
use lib.Bits.{bit_xor}
use Rattle.base.specs.Choice.{when◌then◌else◌}
use Rattle.base.specs.Store.{stored}
use Rattle.base.proofs.Choices.{if_below, if_not_below}
use Rattle.frame.specs.Check.{xor_from}
use Rattle.frame.specs.Frame.{preamble_bytes}
use Rattle.frame.specs.declared.Header.{Header}
use Rattle.line.specs.Reader.{tells, idle, blank, no_damage, taken, taken_data, at_idle, at_preamble, at_data}
use Rattle.line.specs.declared.Event.TheVariants.{Nothing}
use Rattle.line.specs.declared.Heard.TheVariants.{Character}
use Rattle.line.specs.declared.Place.TheVariants.{Preamble, Data, Check}
use Rattle.line.specs.declared.Receiver.{Receiver}
use Rattle.line.specs.declared.Taken.{Taken}

-- from r with the buffer b, the characters lead to s with the buffer d, and the reader tells nothing on the way
pub data Leads : Receiver → List ℕ → List ℕ → Receiver → List ℕ → Type 0 where
  stays : {r : Receiver} {b : List ℕ} → Leads r b [] r b
  hears : {r s t : Receiver} {b d e : List ℕ} {c : ℕ} {cs : List ℕ} → taken r (Character c) ≡ tells s Nothing → taken_data r (Character c) b ≡ d → Leads s d cs t e → Leads r b (c ∷ cs) t e

-- one list of characters behind another
pub leads_on : {r s t : Receiver} {b d e : List ℕ} {us vs : List ℕ} → Leads r b us s d → Leads s d vs t e → Leads r b (us ++ vs) t e
leads_on stays m = m
leads_on (hears p q l) m = hears p q (leads_on l m)

-- two 0xFF and more lead from idle into the preamble
more_preamble : (b : List ℕ) (n : ℕ) → Leads (blank (Preamble 2)) b (preamble_bytes n) (blank (Preamble 2)) b
unfolding preamble_bytes taken taken_data at_preamble when◌then◌else◌
more_preamble b zero = stays
more_preamble b (suc n) = hears refl refl (more_preamble b n)

pub preamble_leads : (b : List ℕ) (n : ℕ) → Leads idle b (preamble_bytes (suc (suc n))) (blank (Preamble 2)) b
unfolding preamble_bytes taken taken_data at_idle at_preamble when◌then◌else◌
preamble_leads b n = hears refl refl (hears refl refl (more_preamble b n))

-- in the data, and at the check byte, of a frame without damage
abbrev pub in_data : Header → ℕ → ℕ → ℕ → ℕ → Receiver
in_data h expansion count n sum = record { place = Data n; header = h; expansion = expansion; count = count; sum = sum; damage = no_damage; gap = false }

abbrev pub at_end : Header → ℕ → ℕ → ℕ → Receiver
at_end h expansion count sum = record { place = Check; header = h; expansion = expansion; count = count; sum = sum; damage = no_damage; gap = false }

-- the data bytes are stored one behind the other, whatever they are, and lead to the check byte: none of them starts another frame
pub data_leads : (h : Header) (expansion count n sum : ℕ) (b : List ℕ) (c : ℕ) (cs : List ℕ) → count ≡ n + length (c ∷ cs) → count ≤ 255
    → Leads (in_data h expansion count n sum) b (c ∷ cs) (at_end h expansion count (xor_from sum (c ∷ cs))) (stored b n (c ∷ cs))
unfolding xor_from stored taken taken_data at_data
data_leads h expansion count n sum b c [] e small =
    hears (sym (if_not_below (n + 1) count _ _ _ (omega arith) refl)) (sym (if_below n 255 _ _ _ (omega arith) refl)) stays
data_leads h expansion count n sum b c (d ∷ cs) e small =
    let rest : Leads (in_data h expansion count (n + 1) (bit_xor sum c)) (set b n c) (d ∷ cs) (at_end h expansion count (xor_from sum (c ∷ d ∷ cs))) (stored (set b n c) (n + 1) (d ∷ cs)) =
    data_leads h expansion count (n + 1) (bit_xor sum c) (set b n c) d cs (omega arith) small in
    hears (sym (if_below (n + 1) count _ _ _ (omega arith) refl)) (sym (if_below n 255 _ _ _ (omega arith) refl))
    (subst (λ (k : ℕ). Leads (in_data h expansion count (n + 1) (bit_xor sum c)) (set b n c) (d ∷ cs) (at_end h expansion count (xor_from sum (c ∷ d ∷ cs))) (stored (set b n c) k (d ∷ cs))) (add-one n) rest)

-- where the characters lead, as a function, and what they leave in the buffer
unfoldable pub reader_after : Receiver → List ℕ → Receiver
reader_after r [] = r
reader_after r (c ∷ cs) = reader_after (taken r (Character c)).receiver cs

unfoldable pub data_after : Receiver → List ℕ → List ℕ → List ℕ
data_after r [] b = b
data_after r (c ∷ cs) b = data_after (taken r (Character c)).receiver cs (taken_data r (Character c) b)

to_receiver : {t : Taken} {s : Receiver} → t ≡ tells s Nothing → t.receiver ≡ s
to_receiver p = ap (λ (t : Taken). t.receiver) p

pub leads_to : {r s : Receiver} {b d cs : List ℕ} → Leads r b cs s d → reader_after r cs ≡ s
unfolding reader_after
leads_to stays = refl
leads_to (hears {cs = cs} p q l) = ap (λ (x : Receiver). reader_after x cs) (to_receiver p) ∙ leads_to l

pub leads_data : {r s : Receiver} {b d cs : List ℕ} → Leads r b cs s d → data_after r cs b ≡ d
unfolding data_after
leads_data stays = refl
leads_data (hears {cs = cs} p q l) = ap₂ (λ (x : Receiver) (y : List ℕ). data_after x cs y) (to_receiver p) q ∙ leads_data l

-- for each i: behind the first i characters the reader takes the next one and tells nothing
pub leads_at : {r s : Receiver} {b d cs : List ℕ} → Leads r b cs s d → (i : ℕ) → i < length cs
    → taken (reader_after r (take i cs)) (Character (get_or cs i 0)) ≡ tells (reader_after r (take (suc i) cs)) Nothing
unfolding reader_after
leads_at stays i h = absurd (omega arith)
leads_at (hears p q l) zero h = p ∙ ap (λ (x : Receiver). tells x Nothing) (sym (to_receiver p))
leads_at (hears {cs = cs} p q l) (suc i) h =
    subst (λ (x : Receiver). taken (reader_after x (take i cs)) (Character (get_or cs i 0)) ≡ tells (reader_after x (take (suc i) cs)) Nothing) (sym (to_receiver p)) (leads_at l i (omega arith))
