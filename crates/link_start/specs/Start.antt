-- How the code stands for what is to be believed.
-- The start of a link: the lowest number of its parties' refusals, or the fresh link, with nothing on the line before.
use Rattle.std.specs.Prelude.{ℕ, true, false, List, [], ◌∷◌, ◌≡◌, replicate, Option, Some, None, Result, Ok, Err}
use Rattle.base.specs.Choice.{when◌then◌else◌, ◌≤?◌, ◌outside◌to◌}
use Rattle.base.specs.Refusal.{number, Called, accepted, refused}
use Rattle.base.specs.declared.Refusal.{Refusal}
use Rattle.frame.specs.Limits.{fewest_answered, most_data}
use Rattle.line.specs.declared.Heard.TheVariants.{Silence}
use Rattle.line.specs.declared.Profile.{Profile}
use Rattle.turns.specs.Master.{master_starts}
use Rattle.turns.specs.Device.{device_starts}
use Rattle.turns.specs.declared.Device.{Device}
use Rattle.turns.specs.declared.Master.{Master}
use Rattle.link_parties.specs.Stands.{any_master}
use Rattle.link_parties.specs.declared.Link.{Link}
use Rattle.link_start.specs.declared.LinkStarted.{LinkStarted}
use Rattle.link_start.specs.declared.Setting.{Setting}

-- ---- a link without a device

abbrev pub no_profile : Profile
no_profile = record { sto = 0; hold = 0; rt2 = 0; rt1p = 0; rt1s = 0 }

abbrev pub absent : Option Device
absent = None

-- ---- the start

-- "In one place the lowest applies."
abbrev pub lower : ℕ → ℕ → ℕ
lower v w = when v ≤? w then v else w

-- two starts: what they make together where both were accepted, else the lowest number
abbrev pub both : {A B C : Type 0} → (A → B → C) → Called A → Called B → Called C
both makes (accepted a) (accepted b) = accepted (makes a b)
both makes (accepted a) (refused w) = refused w
both makes (refused v) (accepted b) = refused v
both makes (refused v) (refused w) = refused (lower v w)

abbrev pub pair : {A B : Type 0} → A → B → A × B
pair a b = (a, b)

-- a slot's device, where its start accepted it
abbrev pub in_slot : Called Device → Called (Option Device)
in_slot (accepted d) = accepted (Some d)
in_slot (refused why) = refused why

abbrev pub device_slot : Profile → Setting → Called (Option Device)
device_slot p s = in_slot (device_starts p s.preamble s.polling s.unique)

abbrev pub slot_starts : Profile → Option Setting → Called (Option Device)
slot_starts p None = accepted absent
slot_starts p (Some s) = device_slot p s

abbrev pub in_front : Option Device → List (Option Device) → List (Option Device)
in_front s ss = s ∷ ss

unfoldable pub devices_start : Profile → List (Option Setting) → Called (List (Option Device))
devices_start p [] = accepted []
devices_start p (s ∷ ss) = both in_front (slot_starts p s) (devices_start p ss)

abbrev pub primary_first : Master → Master → List Master
primary_first p s = p ∷ s ∷ []

abbrev pub masters_start : Profile → ℕ → Called (List Master)
masters_start p retries = both primary_first (master_starts p true retries) (master_starts p false retries)

abbrev pub fresh_link : List Master → List (Option Device) → Link
fresh_link ms ss = record { masters = ms; devices = ss; line = Silence }

abbrev pub link_starts : Profile → ℕ → List (Option Setting) → Called Link
link_starts p retries s = both fresh_link (masters_start p retries) (devices_start p s)

-- ---- what the code's answer says

-- what a start made, by its answer
abbrev pub made : {A : Type 0} → A → Result (Unit {0}) Refusal → Called A
made a (Ok tt) = accepted a
made a (Err why) = refused (number why)

abbrev pub lowest : Called (Unit {0}) → Called (Unit {0}) → Called (Unit {0})
lowest x y = both (λ a b. tt) x y

-- the link that is given beside a refusal
abbrev pub empty_link : Link
empty_link = fresh_link (replicate 2 any_master) (replicate 6 absent)

abbrev pub link_or : Called Link → Link
link_or (accepted l) = l
link_or (refused why) = empty_link

-- what is given for a start
pub record GivenIs (c : Called Link) (r : LinkStarted) : Type 0 where
  pub answer_is : made r.link r.answer ≡ c
  pub link_is : r.link ≡ link_or c

pub record StartedIs (p : Profile) (retries : ℕ) (s : List (Option Setting)) (r : LinkStarted) : Type 0 where
  pub answer_is : made r.link r.answer ≡ link_starts p retries s
  pub link_is : r.link ≡ link_or (link_starts p retries s)

-- ---- document 02, item 12: a link that is given a data limit

-- "a start with a length outside 2 to 255 with 9"
abbrev pub limit_taken : ℕ → Called (Unit {0})
limit_taken limit = when limit outside fewest_answered to most_data then refused 9 else accepted tt

abbrev pub the_link : Unit {0} → Link → Link
the_link t l = l

-- the link, or the lowest of this refusal and its parties': 9 only where none of 2, 3 and 4 applies
unfoldable pub limited_starts : ℕ → Profile → ℕ → List (Option Setting) → Called Link
limited_starts limit p retries s = both the_link (limit_taken limit) (link_starts p retries s)

pub record LimitedIs (limit : ℕ) (p : Profile) (retries : ℕ) (s : List (Option Setting)) (r : LinkStarted) : Type 0 where
  pub answer_is : made r.link r.answer ≡ limited_starts limit p retries s
  pub link_is : r.link ≡ link_or (limited_starts limit p retries s)
