-- To be believed: what the engine must do, or what is claimed of it.
-- A driver that makes further accesses among its own: any reads and writes, any number of them, whatever they are for. And which of them would change what is heard or goes out.
use Rattle.std.specs.Prelude.{◌≡◌, ℕ, ◌+◌, ◌/◌, ◌%◌, Bool, true, false, List, [], ◌∷◌}
use Rattle.base.specs.Choice.{when◌then◌else◌, ◌=?◌}
use Rattle.line.specs.declared.Heard.{Heard}
use Rattle.line.specs.declared.Heard.TheVariants.{Silence}
use Rattle.modem.specs.Accesses.{looks, puts, Access, reads, writes, after_all}
use Rattle.modem.specs.Driver.{heard_from}
use Rattle.modem.specs.declared.Chip.{Chip}
use Rattle.modem.specs.declared.ChipHeard.{ChipHeard}
use Rattle.modem.specs.declared.Looked.{Looked}

-- the driver's own accesses in a tick, in this order: it reads status, byte 3 and byte 2; it reads control and writes it; where it sends, it writes byte 2
pub data Own : Type 0 where
  own_status_read own_kind_read own_data_read own_control_read own_control_write own_data_write : Own

-- the further accesses of a tick: before each of its own, and after its last, up to the tick's end
pub record Further : Type 0 where
  pub before : Own → List Access
  pub after_character : List Access
  pub after_silence : List Access

-- no further access
abbrev pub alone : Further
alone = record { before = λ o. []; after_character = []; after_silence = [] }

-- ---- the driver among them: `hears`, `transmits` and `stays_silent` of Driver.antt are the case of none

abbrev pub status_read : Further → Chip → Looked
status_read f x = looks (after_all x (f.before own_status_read)) 0

abbrev pub kind_read : Further → Chip → Looked
kind_read f x = looks (after_all (status_read f x).chip (f.before own_kind_read)) 3

abbrev pub data_read : Further → Chip → Looked
data_read f x = looks (after_all (kind_read f x).chip (f.before own_data_read)) 2

abbrev pub hears_among : Further → Chip → ChipHeard
hears_among f x = record {
  chip = (data_read f x).chip;
  heard = heard_from (status_read f x).value (kind_read f x).value (data_read f x).value;
}

abbrev pub control_read : Further → Chip → Looked
control_read f x = looks (after_all x (f.before own_control_read)) 1

abbrev pub control_written : Further → Chip → ℕ → Chip
control_written f x v = puts (after_all (control_read f x).chip (f.before own_control_write)) 1 v

abbrev pub transmits_among : Further → Chip → ℕ → Chip
transmits_among f x c =
    after_all (puts (after_all (control_written f x ((control_read f x).value % 128 + 128)) (f.before own_data_write)) 2 c) f.after_character

abbrev pub stays_silent_among : Further → Chip → Chip
stays_silent_among f x = after_all (control_written f x ((control_read f x).value % 128)) f.after_silence

-- ---- which further accesses there may be

abbrev pub reads_data : Access → Bool
reads_data (reads n) = n =? 2
reads_data (writes n v) = false

abbrev pub writes_data : Access → Bool
writes_data (reads n) = false
writes_data (writes n v) = n =? 2

-- a write to control with bit 7 set, and one with bit 7 clear
abbrev pub sets_request : Access → Bool
sets_request (reads n) = false
sets_request (writes n v) = when n =? 1 then v / 128 % 2 =? 1 else false

abbrev pub clears_request : Access → Bool
clears_request (reads n) = false
clears_request (writes n v) = when n =? 1 then v / 128 % 2 =? 0 else false

unfoldable pub any_of : (Access → Bool) → List Access → Bool
any_of is [] = false
any_of is (a ∷ more) = when is a then true else any_of is more

-- further accesses, in a tick in which this is heard, that change neither what is heard nor what goes out. All reads and writes are such, but for these:
pub record Spares (h : Heard) (f : Further) : Type 0 where
  -- "Reading byte 2 clears status bit 5": before the driver has read status, byte 2 is read only where nothing was heard; else that character is taken away
  pub character_left : any_of reads_data (f.before own_status_read) ≡ true → h ≡ Silence
  -- "a tick's first write goes out in it if request to send is then set, any other is lost": the driver's is the first write to byte 2
  pub first_write : (o : Own) → any_of writes_data (f.before o) ≡ false
  -- and request to send is then set: it is not cleared between the driver's two writes
  pub request_kept : any_of clears_request (f.before own_data_write) ≡ false
  -- where the driver sends nothing, a write to byte 2 is lost: request to send is not set again
  pub silence_kept : any_of writes_data f.after_silence ≡ true → any_of sets_request f.after_silence ≡ false
