-- What `Spares` leaves out does change what is heard or goes out.
use Rattle.std.proofs.Common.{◌≡◌, ℕ, Bool, true, false, List, [], ◌∷◌, sym, refl, ap, ◌∙◌, eqb-true}
use Rattle.base.specs.Choice.{when◌then◌else◌}
use Rattle.base.proofs.Choices.{true_false, if_is_false}
use Rattle.line.specs.declared.Heard.TheVariants.{Silence}
use Rattle.modem.specs.Parity.{ninth}
use Rattle.modem.specs.Chip.{fresh_chip, goes_out}
use Rattle.modem.specs.Accesses.{looks, puts, Access, reads, writes, accessed, after_all}
use Rattle.modem.specs.Further.{own_status_read, Further, hears_among, transmits_among, stays_silent_among, reads_data, any_of}
use Rattle.modem.specs.declared.Mark.{Mark}
use Rattle.modem.specs.declared.Carried.{Carried}
use Rattle.modem.specs.declared.Carried.TheVariants.{Nine}
use Rattle.modem.specs.declared.Chip.{Chip}
use Rattle.modem.proofs.Among.{stays_read, among_is}

-- ---- byte 2 is read before status: whatever had arrived, nothing is heard

data_taken : (x : Chip) (a : Access) → reads_data a ≡ true → (accessed x a).received ≡ false
unfolding when◌then◌else◌ looks
data_taken x (reads n) e = ap (λ (m : ℕ). (looks x m).chip.received) (eqb-true n 2 e)
data_taken x (writes n v) e = absurd (true_false (sym e))

first_or_later : (x : Chip) (a : Access) (more : List Access) (b : Bool) → reads_data a ≡ b → (when reads_data a then true else any_of reads_data more) ≡ true
    → (any_of reads_data more ≡ true → (after_all (accessed x a) more).received ≡ false) → (after_all (accessed x a) more).received ≡ false
first_or_later x a more true d e later = stays_read (accessed x a) more (data_taken x a d)
first_or_later x a more false d e later = later (sym (if_is_false (reads_data a) true (any_of reads_data more) d) ∙ e)

taken : (x : Chip) (l : List Access) → any_of reads_data l ≡ true → (after_all x l).received ≡ false
unfolding after_all any_of
taken x [] e = absurd (true_false (sym e))
taken x (a ∷ more) e = first_or_later x a more (reads_data a) refl e (taken (accessed x a) more)

pub taken_away : (f : Further) (x : Chip) → any_of reads_data (f.before own_status_read) ≡ true → (hears_among f x).heard ≡ Silence
unfolding when◌then◌else◌
taken_away f x e = among_is f x false (taken x (f.before own_status_read) e)

-- ---- the others, computed: these accesses before each of the driver's own, and these after its last, if it is silent

abbrev around : List Access → List Access → Further
around l m = record { before = λ o. l; after_character = []; after_silence = m }

-- byte 2 is written before the driver's character: that is lost, also where the other is
pub early_write_lost : goes_out (transmits_among (around (writes 2 0x33 ∷ []) []) fresh_chip 0x55) ≡ Carried.Silence
unfolding when◌then◌else◌ looks puts after_all
early_write_lost = refl

-- and the other goes out, from a silent party, where request to send is set
pub early_write_out : goes_out (stays_silent_among (around (writes 1 0x80 ∷ writes 2 0x33 ∷ []) []) fresh_chip) ≡ Nine 0x33 (ninth 0x33) Mark.Sound
unfolding when◌then◌else◌ looks puts after_all
early_write_out = refl

-- request to send is cleared before the driver's character
pub unrequested_character : goes_out (transmits_among (around (writes 1 0x00 ∷ []) []) fresh_chip 0x55) ≡ Carried.Silence
unfolding when◌then◌else◌ looks puts after_all
unrequested_character = refl

-- request to send is set again and byte 2 written, where the driver is silent
pub silence_broken : goes_out (stays_silent_among (around [] (writes 1 0x80 ∷ writes 2 0x33 ∷ [])) fresh_chip) ≡ Nine 0x33 (ninth 0x33) Mark.Sound
unfolding when◌then◌else◌ looks puts after_all
silence_broken = refl
