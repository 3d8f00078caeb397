-- The loop over the ticks: what is left to play gives what the whole gives.
use Prim.Native.Nat.{ℕ, ◌-◌, ◌≤◌, ◌<◌}
use native.Mathlib.Omega.{arith}
use mathlib.Core.Path.{◌≡◌, refl, sym, ap, ◌∙◌}
use mathlib.Core.List.{List, [], ◌++◌}
use lib.ListN.{length}
use Rattle.texts.specs.Put.{Out, out_of, put, PutIs}
use Rattle.texts.proofs.Puts.{put_append}
use Rattle.turns.specs.Link.{run}
use Rattle.player_script.specs.declared.Form.{Form}
use Rattle.player_script.specs.Script.{records_in, calls_from}
use Rattle.player_listing.specs.Sents.{sent_in}
use Rattle.player_listing.specs.Lines.{lines_from}
use Rattle.player_listing.specs.Rows.{all_heard}
use Rattle.player_listing.specs.Text.{lines_text}
use Rattle.link_parties.specs.Stands.{Rows, link_of}
use Rattle.player.specs.Ticks.{text_from, text_left, lines_of, Stands, PlaysOn, Onward}
use Rattle.player.specs.declared.Playing.{Playing}
use Rattle.player.specs.declared.Told.{Told}
use Rattle.player.proofs.Runs.{left_text}

-- what is left: the lines of these ticks, then what is left behind them
pub text_on : (form : Form) (script : List ℕ) (stop : ℕ) (p : Playing) (x : Rows) (out : List ℕ) (r : Playing) (x_after : Rows) (out_after : List ℕ) (is : PlaysOn form script stop p x out r x_after out_after)
    → text_left form script stop p x ≡ lines_text (lines_of form script is.ticks p x).lines ++ text_left form script stop r x_after
text_on form script stop p x out r x_after out_after is =
    left_text (records_in form script) is.ticks p.tick stop (link_of p.link x) (link_of r.link x_after) (all_heard p.monitors) (all_heard r.monitors) is.within is.link_is is.lines_are.monitors_are
    ∙ ap (λ (n : ℕ). lines_text (lines_of form script is.ticks p x).lines ++ text_from n (stop - n) (all_heard r.monitors) (link_of r.link x_after) (records_in form script)) (sym is.tick_is)

-- nothing is left behind the stop
pub none_left : (form : Form) (script : List ℕ) (stop : ℕ) (p : Playing) (x : Rows) → stop ≤ p.tick → text_left form script stop p x ≡ []
unfolding sent_in run calls_from lines_from lines_text
none_left form script stop p x h =
    let none : stop - p.tick ≡ 0 = omega arith in
    ap (λ (n : ℕ). text_from p.tick n (all_heard p.monitors) (link_of p.link x) (records_in form script)) none

-- some ticks on, what is left prints what was left before them
played_left : (form : Form) (script : List ℕ) (stop : ℕ) (p : Playing) (x : Rows) (out : List ℕ) (r : Playing) (x_after : Rows) (out_after : List ℕ) → PlaysOn form script stop p x out r x_after out_after
    → put (out_of out_after r.at) (text_left form script stop r x_after) ≡ put (out_of out p.at) (text_left form script stop p x)
played_left form script stop p x out r x_after out_after is =
    ap (λ (o : Out). put o (text_left form script stop r x_after)) is.lines_are.text.out
    ∙ sym (put_append (lines_text (lines_of form script is.ticks p x).lines) (text_left form script stop r x_after) (out_of out p.at))
    ∙ ap (put (out_of out p.at)) (sym (text_on form script stop p x out r x_after out_after is))

pub record Going (told : Told) (script : List ℕ) (start : Playing) (x-start : Rows) (before : List ℕ) (p : Playing) (x : Rows) (out : List ℕ) : Type 0 where
  pub within : p.tick ≤ told.stop
  pub same_length : length out ≡ length before
  pub stands : Stands told.form script p
  pub left : put (out_of out p.at) (text_left told.form script told.stop p x) ≡ put (out_of before start.at) (text_left told.form script told.stop start x-start)

pub going_begun : (told : Told) (script : List ℕ) (p : Playing) (x : Rows) (out : List ℕ) → Stands told.form script p × (p.tick ≤ told.stop) → Going told script p x out p x out
going_begun told script p x out k = record { within = k.1; same_length = refl; stands = k.0; left = refl }

module _ (told : Told) (script : List ℕ) (start : Playing) (x-start : Rows) (before : List ℕ) (p : Playing) (x : Rows) (out : List ℕ) (g : Going told script start x-start before p x out) where
  pub going_on : (r : Playing) (x_after : Rows) (out_after : List ℕ) → Onward told script p x out r x_after out_after → Going told script start x-start before r x_after out_after
  going_on r x_after out_after o = record {
    within = o.before_stop;
    same_length = o.same_length ∙ g.same_length;
    stands = (o.on g.stands).stands;
    left = played_left told.form script told.stop p x out r x_after out_after (o.on g.stands) ∙ g.left;
  }

  pub going_ended : told.stop ≤ p.tick → PutIs (text_left told.form script told.stop start x-start) before start.at p.at out
  unfolding put
  going_ended h = record { out = ap (put (out_of out p.at)) (sym (none_left told.form script told.stop p x h)) ∙ g.left }

-- fewer ticks are left
pub ticks_less : (told : Told) (script : List ℕ) (p : Playing) (x : Rows) (out : List ℕ) (r : Playing) (x_after : Rows) (out_after : List ℕ) → Onward told script p x out r x_after out_after
    → p.tick < told.stop → told.stop - r.tick < told.stop - p.tick
ticks_less told script p x out r x_after out_after o h = omega (arith, o.later)

pub ruleset goings = (refl, going_begun, going_on, going_ended, ticks_less)
