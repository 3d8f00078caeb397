-- Inner contracts: nothing that is to be believed rests on them.
-- Document 02, item 11: a play in pieces. A listing may be longer than any buffer, so a program writes the header line and then one piece after the other.
use Rattle.std.specs.Prelude.{ℕ, ◌+◌, ◌≤◌, ◌<◌, true, List, [], ◌++◌, ◌≡◌, length, take, replicate}
use Rattle.base.specs.Lent.{Lent, before, after}
use Rattle.base.specs.Store.{stored}
use Rattle.texts.specs.Put.{PutIs}
use Rattle.player_script.specs.Script.{records_in, good_in, stop_of}
use Rattle.player_script.specs.declared.Form.{Form}
use Rattle.player_listing.specs.Lines.{quiet_monitor}
use Rattle.player_listing.specs.Text.{head_line}
use Rattle.link_parties.specs.Stands.{Rows, rows_of}
use Rattle.link_start.specs.Fresh.{rows_fresh}
use Rattle.player.specs.Play.{play}
use Rattle.player.specs.Ready.{ready_start}
use Rattle.player.specs.Ticks.{text_left, Stands, lines_room}
use Rattle.player.specs.declared.Playing.{Playing}
use Rattle.player.specs.declared.Told.{Told}

-- what a play is told of a script
abbrev pub told_of : Form → List ℕ → Told
told_of form script = record { form = form; stop = stop_of (records_in form script) }

-- a play before its first tick, and the header line at the output's front
abbrev pub first_play : ℕ → Playing
first_play at = record { link = ready_start; monitors = replicate 8 quiet_monitor; tick = 0; next = 0; at = at }

pub record Begun (out : List ℕ) (r : Playing) (out_after : List ℕ) : Type 0 where
  pub play_is : r ≡ first_play r.at
  pub head : PutIs head_line out 0 r.at out_after

-- a piece of a play for which Stands holds: a text, whole, at the output's front; what was left to print is this text and then what is left now
pub record Piece (told : Told) (script : List ℕ) (p : Playing) (x : Rows) (out : List ℕ) (r : Playing) (x_after : Rows) (out_after : List ℕ) : Type 0 where
  pub text : List ℕ
  pub end : r.at ≡ length text
  pub whole : r.at ≤ length out
  pub bytes : out_after ≡ stored out 0 text
  pub left : text_left told.form script told.stop p x ≡ text ++ text_left told.form script told.stop r x_after
  pub stands : Stands told.form script r

-- a piece of any play: it goes on where there is room for the lines of 64 ticks, and ends before the stop only where that room is used up
pub record PieceIs (told : Told) (script : List ℕ) (p : Playing) (x : Rows) (out : List ℕ) (r : Playing) (x_after : Rows) (out_after : List ℕ) : Type 0 where
  pub later : p.tick < told.stop → lines_room ≤ length out → p.tick < r.tick
  pub before_stop : p.tick ≤ told.stop → r.tick ≤ told.stop
  pub full : r.tick < told.stop → length out < r.at + lines_room
  pub piece : Stands told.form script p → Piece told script p x out r x_after out_after

abbrev pub PieceOf : Told → List ℕ → Playing → Lent (List (List ℕ)) → Lent (List (List ℕ)) → Lent (List (List ℕ)) → Lent (List ℕ) → Playing → Type 0
PieceOf told script p frames bytes contents out r =
    PieceIs told script p (rows_of (before frames) (before bytes) (before contents)) (before out) r
    (rows_of (after frames) (after bytes) (after contents)) (after out)

-- what is written from a play on: the front of the output after each piece, up to the stop
pub data Written (told : Told) (script : List ℕ) : Playing → Rows → List ℕ → Type 0 where
  over : {p : Playing} {x : Rows} → told.stop ≤ p.tick → Written told script p x []
  next : {p r : Playing} {x x_after : Rows} {out out_after rest : List ℕ}
      → PieceIs told script p x out r x_after out_after → Written told script r x_after rest → Written told script p x (take r.at out_after ++ rest)

-- the header line and the pieces are the listing, however long the outputs are
abbrev pub PiecesJoin : Type 0
PiecesJoin =
    (form : Form) (script rest : List ℕ) (at : ℕ) → good_in form script ≡ true → Written (told_of form script) script (first_play at) rows_fresh rest
    → head_line ++ rest ≡ play form script
