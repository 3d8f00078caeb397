-- Inner contracts: nothing that is to be believed rests on them.
-- The ticks of a play, one after the other or several at once.
use Rattle.std.specs.Prelude.{ℕ, ◌+◌, ◌-◌, ◌≤◌, ◌<◌, Bool, true, false, List, ◌≡◌, length, replicate}
use Rattle.base.specs.Choice.{when◌then◌else◌, ◌<?◌, ◌≤?◌}
use Rattle.base.specs.Lent.{Lent, before, after}
use Rattle.texts.specs.Put.{PutIs}
use Rattle.frame.specs.Limits.{most_data}
use Rattle.turns.specs.Link.{LinkStep, run}
use Rattle.turns.specs.Link as L
use Rattle.player_script.specs.declared.Form.{Form}
use Rattle.player_script.specs.Script.{records_in, calls_from}
use Rattle.player_script.specs.declared.Entry.{Entry}
use Rattle.player_script.specs.Reads.{Reads}
use Rattle.player_listing.specs.Sents.{sent_in}
use Rattle.player_listing.specs.Lines.{quiet_monitor, TickLines, lines_from}
use Rattle.player_listing.specs.Promises.{TickLinesAre}
use Rattle.player_listing.specs.Rows.{all_heard, ticks_lines}
use Rattle.player_listing.specs.Text.{lines_text}
use Rattle.player_listing.specs.declared.Monitor.{Monitor}
use Rattle.link_parties.specs.Stands.{Rows, rows_of, link_of, heres}
use Rattle.link_ticks.specs.Ticks.{link_behind}
use Rattle.link_rests.specs.Rests.{link_rested}
use Rattle.player.specs.declared.Playing.{Playing}
use Rattle.player.specs.declared.Told.{Told}

-- the text of so many ticks' lines, from this tick on
abbrev pub text_from : ℕ → ℕ → List Monitor → L.Link → List Entry → List ℕ
text_from tick n monitors l es = lines_text (lines_from tick monitors (sent_in (run most_data l (calls_from tick n es))))

-- the text that is left of a play
abbrev pub text_left : Form → List ℕ → ℕ → Playing → Rows → List ℕ
text_left form script stop p x = text_from p.tick (stop - p.tick) (all_heard p.monitors) (link_of p.link x) (records_in form script)

-- a play before a tick: its place in the script, and every slot has its device
pub record Stands (form : Form) (script : List ℕ) (p : Playing) : Type 0 where
  pub reads : Reads form script p.next p.tick
  pub there : heres p.link.devices ≡ replicate 6 true

-- after some ticks of a link that rests
abbrev pub rested_for : ℕ → Playing → Playing
rested_for n p = record { link = link_rested n p.link; monitors = replicate 8 quiet_monitor; tick = p.tick + n; next = p.next; at = p.at }

-- a play whose output starts again at the buffer's front
abbrev pub at_front : Playing → Playing
at_front p = record { link = p.link; monitors = p.monitors; tick = p.tick; next = p.next; at = 0 }

-- the room for the lines of 64 ticks, of at most 40 bytes each; and whether there is so much room from a place on
abbrev pub lines_room : ℕ
lines_room = 2560

abbrev pub has_room : ℕ → ℕ → Bool
has_room length at = when length <? at then false else lines_room ≤? length - at

-- the run of so many of a play's next ticks
abbrev pub steps_from : Form → List ℕ → ℕ → Playing → Rows → List LinkStep
steps_from form script n p x = run most_data (link_of p.link x) (calls_from p.tick n (records_in form script))

-- its monitors after them, and the lines of the frames that ended in them
abbrev pub lines_of : Form → List ℕ → ℕ → Playing → Rows → TickLines
lines_of form script n p x = ticks_lines p.tick (all_heard p.monitors) (sent_in (steps_from form script n p x))

-- one tick or more: link, monitors and output are those after the run of so many ticks. How many are taken at once is left open, and nothing that is printed depends on it.
pub record PlaysOn (form : Form) (script : List ℕ) (stop : ℕ) (p : Playing) (x : Rows) (out : List ℕ)
    (r : Playing) (x_after : Rows) (out_after : List ℕ) : Type 0 where
  pub ticks : ℕ
  pub some : 1 ≤ ticks
  pub within : p.tick + ticks ≤ stop
  pub tick_is : r.tick ≡ p.tick + ticks
  pub stands : Stands form script r
  pub link_is : link_of r.link x_after ≡ link_behind (link_of p.link x) (steps_from form script ticks p x)
  pub lines_are : TickLinesAre (lines_of form script ticks p x) out p.at (all_heard r.monitors) r.at out_after
  pub short : length (lines_text (lines_of form script ticks p x).lines) ≤ lines_room

-- any play goes on, and not past the stop; where Stands holds, PlaysOn does
pub record Onward (told : Told) (script : List ℕ) (p : Playing) (x : Rows) (out : List ℕ) (r : Playing) (x_after : Rows) (out_after : List ℕ) : Type 0 where
  pub later : p.tick < r.tick
  pub before_stop : r.tick ≤ told.stop
  pub same_length : length out_after ≡ length out
  pub on : Stands told.form script p → PlaysOn told.form script told.stop p x out r x_after out_after

abbrev pub OnwardIs : Told → List ℕ → Playing → Lent (List (List ℕ)) → Lent (List (List ℕ)) → Lent (List (List ℕ)) → Lent (List ℕ) → Playing → Type 0
OnwardIs told script p frames bytes contents out r =
    Onward told script p (rows_of (before frames) (before bytes) (before contents)) (before out) r
    (rows_of (after frames) (after bytes) (after contents)) (after out)

-- all that is left is printed
abbrev pub PlaysAll : Told → List ℕ → Playing → Lent (List (List ℕ)) → Lent (List (List ℕ)) → Lent (List (List ℕ)) → Lent (List ℕ) → ℕ → Type 0
PlaysAll told script p frames bytes contents out r =
    PutIs (text_left told.form script told.stop p (rows_of (before frames) (before bytes) (before contents))) (before out) p.at r (after out)
