-- To be believed: what the engine must do, or what is claimed of it.
-- Document 02, item 11: "Old scripts turn into new ones, and new ones whose ticks fit back, with every value kept, and play to the same listing."
use Rattle.std.specs.Prelude.{ℕ, ◌+◌, ◌*◌, ◌/◌, ◌%◌, ◌≤◌, ◌<◌, Bool, true, false, List, [], ◌∷◌, ◌++◌, ◌≡◌, length, Result}
use Rattle.base.specs.Choice.{when◌then◌else◌, ◌<?◌}
use Rattle.base.specs.Store.{stored}
use Rattle.base.specs.Refusal.{Called, accepted, refused, called_as}
use Rattle.player_script.specs.Script.{form_of, records_in, good_in}
use Rattle.player_script.specs.declared.Entry.{Entry}
use Rattle.player_script.specs.declared.Form.{Form}
use Rattle.player_script.specs.declared.Form.TheVariants.{Old, New}
use Rattle.base.specs.declared.Refusal.{Refusal}

-- a record's bytes, most significant first
abbrev pub entry_bytes : Form → Entry → List ℕ
entry_bytes Old e = e.tick / 256 ∷ e.tick % 256 ∷ (e.party * 16 + e.action) ∷ e.argument ∷ []
entry_bytes New e = e.tick / 16777216 ∷ e.tick / 65536 % 256 ∷ e.tick / 256 % 256 ∷ e.tick % 256 ∷ (e.party * 16 + e.action) ∷ e.argument ∷ []

-- records as a script of a form
unfoldable pub turned : Form → List Entry → List ℕ
turned f [] = []
turned f (e ∷ es) = entry_bytes f e ++ turned f es

-- the other form
abbrev pub other : Form → Form
other Old = New
other New = Old

-- the largest tick that a form's records can hold
abbrev pub most_tick : Form → ℕ
most_tick Old = 65535
most_tick New = 4294967295

-- whether some record's tick is above this one
unfoldable pub any_above : ℕ → List Entry → Bool
any_above most [] = false
any_above most (e ∷ es) = when most <? e.tick then true else any_above most es

-- "then 15": the result, where so many bytes are lent
abbrev pub by_room : List ℕ → ℕ → Called (List ℕ)
by_room bytes room = when room <? length bytes then refused 15 else accepted bytes

-- "then a tick too large to turn back with 25"
abbrev pub by_ticks : Form → List ℕ → ℕ → Called (List ℕ)
by_ticks f script room =
    when any_above (most_tick (other f)) (records_in f script) then refused 25
    else by_room (turned (other f) (records_in f script)) room

-- "then 16"; a script of form f in the other form
abbrev pub converted : Form → List ℕ → ℕ → Called (List ℕ)
converted f script room = when good_in f script then by_ticks f script room else refused 16

-- "It refuses a record size other than 4 or 6 with 24": a script whose records have so many bytes, in the other form
abbrev pub converted_in : Called Form → List ℕ → ℕ → Called (List ℕ)
converted_in (accepted f) script room = converted f script room
converted_in (refused why) script room = refused why

unfoldable pub conversion : ℕ → List ℕ → ℕ → Called (List ℕ)
conversion size script room = converted_in (form_of size) script room

-- ---- what the code promises

abbrev pub length_in : Called (List ℕ) → Called ℕ
length_in (accepted bytes) = accepted (length bytes)
length_in (refused why) = refused why

-- the lent bytes: with the result at their front, or as they were where it is refused
abbrev pub lent_after : Called (List ℕ) → List ℕ → List ℕ
lent_after (accepted bytes) out = stored out 0 bytes
lent_after (refused why) out = out

-- the answer is the result's length or the refusal
pub record ConvertIs (c : Called (List ℕ)) (out : List ℕ) (r : Result ℕ Refusal) (after : List ℕ) : Type 0 where
  pub answer : called_as r ≡ length_in c
  pub bytes : after ≡ lent_after c out

-- ---- the loops

-- records that a form can hold; those of every script of bytes are such
pub data Sayable (f : Form) : List Entry → Type 0 where
  none : Sayable f []
  more : {e : Entry} {es : List Entry} → e.tick ≤ most_tick f → e.action < 16 → Sayable f es → Sayable f (e ∷ es)

-- the records of a script of form f, put in form g at the front of lent bytes; r is how many bytes they take
pub record PutsRecords (f g : Form) (script out : List ℕ) (r : ℕ) (after : List ℕ) : Type 0 where
  pub count : r ≡ length (turned g (records_in f script))
  pub bytes : after ≡ stored out 0 (turned g (records_in f script))
