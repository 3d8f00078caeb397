-- The link that stands ready: its start is accepted, every slot has its device, and it is the definition's.
use Prim.Native.Nat.{ℕ, ◌-◌, ◌≤◌}
use native.Mathlib.Omega.{arith}
use mathlib.Core.Bool.{true}
use mathlib.Core.Path.{◌≡◌, refl, sym, ap, subst, ◌∙◌}
use mathlib.Core.List.{List, [], ◌∷◌}
use lib.ListN.{replicate}
use Rattle.std.specs.Prelude.{Option, Some}
use Rattle.base.specs.Choice.{when◌then◌else◌}
use Rattle.base.specs.Refusal.{accepted}
use Rattle.texts.specs.Put.{PutIs}
use Rattle.texts.proofs.Puts.{put_then}
use Rattle.line.specs.Profile.{fsk_profile}
use Rattle.line.specs.declared.Profile.{Profile}
use Rattle.player_script.specs.declared.Form.{Form}
use Rattle.player_script.specs.Script.{records_in, good_in, stop_of}
use Rattle.player_script.proofs.Ticks.{reads_start}
use Rattle.player_listing.specs.Lines.{quiet_monitor}
use Rattle.player_listing.specs.Text.{head_line}
use Rattle.player_listing.specs.declared.Monitor.{Monitor}
use Rattle.link_parties.specs.Stands.{devices_from}
use Rattle.link_parties.specs.declared.Link.{Link}
use Rattle.link_start.specs.Fresh.{rows_fresh, lent_fresh}
use Rattle.link_start.specs.Start.{devices_start, link_starts, link_or, StartedIs}
use Rattle.link_start.specs.declared.LinkStarted.{LinkStarted}
use Rattle.link_start.specs.declared.Setting.{Setting}
use Rattle.player.specs.Play.{ready_link, listing}
use Rattle.player.specs.Ready.{setting_of, settings, ready_start}
use Rattle.player.specs.Ticks.{text_from, text_left, Stands}
use Rattle.player.specs.Pieces.{told_of, first_play, Begun}
use Rattle.player.specs.declared.Playing.{Playing}
use Rattle.player.specs.declared.Told.{Told}
use Rattle.player.proofs.PlaysOn.{quiet_heard}

-- ---- the start

pub settings_are : (a b c d e f : Setting) → a ≡ setting_of 2 → b ≡ setting_of 3 → c ≡ setting_of 4 → d ≡ setting_of 5 → e ≡ setting_of 6 → f ≡ setting_of 7 → Some a ∷ Some b ∷ Some c ∷ Some d ∷ Some e ∷ Some f ∷ [] ≡ settings
settings_are a b c d e f p q r s t u = λ i. Some (p i) ∷ Some (q i) ∷ Some (r i) ∷ Some (s i) ∷ Some (t i) ∷ Some (u i) ∷ []

all_accepted : link_starts fsk_profile 3 settings ≡ accepted ready_start
unfolding when◌then◌else◌ devices_start
all_accepted = refl

pub ready_start_lem : (p : Profile) (s : List (Option Setting)) (r : LinkStarted) → p ≡ fsk_profile → s ≡ settings → StartedIs p 3 s r → r.link ≡ ready_start
ready_start_lem p s r e f is = is.link_is ∙ (λ i. link_or (link_starts (e i) 3 (f i))) ∙ ap link_or all_accepted

-- ---- its play

pub first_stands : (form : Form) (script : List ℕ) (at : ℕ) → good_in form script ≡ true → Stands form script (first_play at)
first_stands form script at g = record { reads = reads_start form script g; there = refl }

pub ready_stands : (form : Form) (script : List ℕ) (told : Told) (p : Playing) → told ≡ told_of form script → p ≡ first_play p.at → good_in form script ≡ true
    → Stands told.form script p × (p.tick ≤ told.stop)
ready_stands form script told p d e g =
    (subst (λ (t : Told). Stands t.form script p) (sym d) (subst (Stands form script) (sym e) (first_stands form script p.at g)), omega (arith, ap (λ (q : Playing). q.tick) e))

ready_is : lent_fresh ready_start ≡ ready_link
unfolding ready_link devices_from
ready_is = refl

-- what is left of it is all of its lines
pub first_text : (form : Form) (script : List ℕ) (at : ℕ)
    → text_left form script (stop_of (records_in form script)) (first_play at) rows_fresh ≡ text_from 0 (stop_of (records_in form script)) (replicate 8 quiet_monitor) ready_link (records_in form script)
first_text form script at =
    let all : stop_of (records_in form script) - 0 ≡ stop_of (records_in form script) = omega arith in
    λ i. text_from 0 (all i) (quiet_heard i) (ready_is i) (records_in form script)

pub ready_plays : (form : Form) (script : List ℕ) (told : Told) (p : Playing) (before between after : List ℕ) (r : ℕ) → told ≡ told_of form script → Begun before p between
    → PutIs (text_left told.form script told.stop p rows_fresh) between p.at r after → PutIs (listing (records_in form script)) before 0 r after
ready_plays form script told p before between after r d b q =
    put_then head_line _ before between after 0 p.at r b.head
    (subst (λ (text : List ℕ). PutIs text between p.at r after)
    ((λ i. text_left (d i).form script (d i).stop (b.play_is i) rows_fresh) ∙ first_text form script p.at)
    q)

pub told_is : (form : Form) (script : List ℕ) (stop : ℕ) → stop ≡ stop_of (records_in form script) → ◌≡◌ {A = Told} (record { form = form; stop = stop }) (told_of form script)
told_is form script stop e = λ i. record { form = form; stop = e i }

pub begins : (l : Link) (monitors : List Monitor) (before after : List ℕ) (at : ℕ) → l ≡ ready_start → monitors ≡ replicate 8 quiet_monitor → PutIs head_line before 0 at after
    → Begun before (record { link = l; monitors = monitors; tick = 0; next = 0; at = at }) after
begins l monitors before after at e f h = record { play_is = λ i. record { link = e i; monitors = f i; tick = 0; next = 0; at = at }; head = h }

pub ruleset started = (refl, settings_are, ready_start_lem, ready_stands, ready_plays, begins)
