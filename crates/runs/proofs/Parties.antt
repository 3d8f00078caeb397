-- The parties of a link, masters and devices alike, and the line that they share. After every tick nobody has anything left to send and every reader is outside a frame, or one party sends a frame that every other reads to its end, or all pass over what they hear until the line is silent.
use Prim.Native.Nat.{ℕ}
use native.Mathlib.Omega.{arith}
use mathlib.Core.Path.{◌≡◌, refl, sym, ap, subst, ◌∙◌}
use mathlib.Core.Bool.{Bool, true, false}
use mathlib.Core.List.{List, [], ◌∷◌}
use mathlib.Core.Logic.{◌⊎◌, inl, inr}
use lib.ListN.{length}
use Rattle.base.specs.Choice.{when◌then◌else◌}
use Rattle.base.proofs.Choices.{true_false, if_is_true, if_is_false}
use Rattle.line.specs.Gaps.{IsCharacter, is_sound, is_with_damage}
use Rattle.line.specs.Reader.{passing, tells, taken}
use Rattle.line.specs.declared.Damage.{Damage}
use Rattle.line.specs.declared.Event.TheVariants.{Nothing}
use Rattle.line.specs.declared.Heard.{Heard}
use Rattle.line.specs.declared.Heard.TheVariants.{Silence, Character, Damaged}
use Rattle.line.specs.declared.Place.TheVariants.{Passing}
use Rattle.line.specs.declared.Receiver.{Receiver}
use Rattle.line.specs.declared.Taken.{Taken}
use Rattle.line.proofs.Leads.{reader_after}
use Rattle.turns.specs.Gaps.{IsFrame}
use Rattle.turns.specs.Link.{joins}
use Rattle.turns.specs.declared.Sent.{Sent}
use Rattle.turns.specs.declared.Sent.TheVariants.{Silent}
use Rattle.turns.proofs.Bursting.{if_both}
use Rattle.turns.proofs.Masters.{if_cases}
use Rattle.runs.proofs.Outside.{Outside, passing_outside, passes, passes_all, silence_outside, damage_passes, frame_outside}

-- ---- a party

pub record Party : Type 0 where
  -- what is left of the frame that it is sending
  pub left : List ℕ
  -- it hears nothing in the next tick
  pub deaf : Bool
  -- another frame of its own may follow at once
  pub follows : Bool
  pub reader : Receiver

-- its reader after the next tick, where it sends nothing in it
abbrev pub reader_next : Party → Heard → Receiver
reader_next v heard = (when v.deaf then tells v.reader Nothing else taken v.reader heard).receiver

-- it has sent a character
pub record Spoke (u : Party) : Type 0 where
  pub deaf_is : u.deaf ≡ true
  pub reader_is : u.reader ≡ passing

-- it has sent nothing, and its reader is r
pub record Listened (r : Receiver) (u : Party) : Type 0 where
  pub hears : u.deaf ≡ false
  pub follows_not : u.follows ≡ false
  pub reader_is : u.reader ≡ r

-- a tick: what the party hears, what it sends, and the party after it
pub data Step (heard : Heard) (v : Party) : Sent → Party → Type 0 where
  -- it has not started
  is_off : v.left ≡ [] → v.deaf ≡ true → v.follows ≡ false → Step heard v Silent v
  rests : {u : Party} → v.left ≡ [] → u.left ≡ [] → Listened (reader_next v heard) u → Step heard v Silent u
  -- a frame begins: after a character only one that follows the party's own
  begins : {c : ℕ} {u : Party} → v.left ≡ [] → (IsCharacter heard → v.follows ≡ true) → IsFrame (c ∷ u.left) → Spoke u → Step heard v (Sent.Character c) u
  goes_on : {c : ℕ} {u : Party} → v.left ≡ c ∷ u.left → Spoke u → Step heard v (Sent.Character c) u

-- a tick of them all, and what the line carries in it
pub data Ticks (heard : Heard) : List Party → Heard → List Party → Type 0 where
  no_party : Ticks heard [] Silence []
  party_and : {v u : Party} {sent : Sent} {vs us : List Party} {line : Heard} → Step heard v sent u → Ticks heard vs line us → Ticks heard (v ∷ vs) (joins sent line) (u ∷ us)

-- P holds of each, and P of one and Q of all others
pub data Each (P : Party → Type 0) : List Party → Type 0 where
  none : Each P []
  and : {v : Party} {vs : List Party} → P v → Each P vs → Each P (v ∷ vs)

pub data Lone (P Q : Party → Type 0) : List Party → Type 0 where
  here : {v : Party} {vs : List Party} → P v → Each Q vs → Lone P Q (v ∷ vs)
  further : {v : Party} {vs : List Party} → Q v → Lone P Q vs → Lone P Q (v ∷ vs)

each : {P Q : Party → Type 0} {vs : List Party} → ((v : Party) → P v → Q v) → Each P vs → Each Q vs
each f none = none
each f (and p ps) = and (f _ p) (each f ps)

lone : {P Q R : Party → Type 0} {vs : List Party} → ((v : Party) → P v → R v) → ((v : Party) → Q v → R v) → Lone P Q vs → Each R vs
lone f g (here p qs) = and (f _ p) (each g qs)
lone f g (further q l) = and (g _ q) (lone f g l)

others : {P Q R : Party → Type 0} {vs : List Party} → ((v : Party) → Q v → R v) → Lone P Q vs → Lone P R vs
others g (here p qs) = here p (each g qs)
others g (further q l) = further (g _ q) (others g l)

-- ---- what a tick of them all comes to, where each rests, of the kind R, or sends a character, with F of it and what is left after it

data Did (R : Party → Type 0) (F : List ℕ → Type 0) : Sent → Party → Type 0 where
  did_rest : {u : Party} → R u → Did R F Silent u
  did_send : {c : ℕ} {u : Party} → F (c ∷ u.left) → Spoke u → Did R F (Sent.Character c) u

pub record Speaks (left : List ℕ) (u : Party) : Type 0 where
  pub left_is : u.left ≡ left
  pub spoke : Spoke u

data Outcome (R : Party → Type 0) (F : List ℕ → Type 0) : Heard → List Party → Type 0 where
  nobody : {us : List Party} → Each R us → Outcome R F Silence us
  one : {c : ℕ} (left : List ℕ) {us : List Party} → F (c ∷ left) → Lone (Speaks left) R us → Outcome R F (Character c) us
  several : {c : ℕ} {kind : Damage} {us : List Party} → Each (λ (u : Party). R u ⊎ Spoke u) us → Outcome R F (Damaged c kind) us

module _ {R : Party → Type 0} {F : List ℕ → Type 0} where
  joined : {sent : Sent} {u : Party} {line : Heard} {us : List Party} → Did R F sent u → Outcome R F line us → Outcome R F (joins sent line) (u ∷ us)
  joined (did_rest r) (nobody rs) = nobody (and r rs)
  joined (did_rest r) (one left f l) = one left f (further r l)
  joined (did_rest r) (several es) = several (and (inl r) es)
  joined (did_send {u = u} f s) (nobody rs) = one u.left f (here (record { left_is = refl; spoke = s }) rs)
  joined (did_send f s) (one left g l) = several (and (inr s) (lone (λ v k. inr k.spoke) (λ v r. inl r) l))
  joined (did_send f s) (several es) = several (and (inr s) es)

  outcome : {P : Party → Type 0} {heard : Heard} → ((v u : Party) (sent : Sent) → P v → Step heard v sent u → Did R F sent u) → {vs us : List Party} {line : Heard} → Each P vs → Ticks heard vs line us → Outcome R F line us
  outcome f none no_party = nobody none
  outcome f (and p ps) (party_and s ts) = joined (f _ _ _ p s) (outcome f ps ts)

-- ---- the phases of the line

-- nothing is left, and the reader is outside a frame
pub record Quiet (v : Party) : Type 0 where
  pub nothing_left : v.left ≡ []
  pub outside : Outside v.reader
  pub deaf_passes : v.deaf ≡ true → v.reader.place ≡ Passing

-- it hears c and then what is left of the frame, and is outside a frame after it
pub record Hears (c : ℕ) (left : List ℕ) (v : Party) : Type 0 where
  pub nothing_left : v.left ≡ []
  pub follows_not : v.follows ≡ false
  pub outside : Outside (reader_after (reader_next v (Character c)) left)
  pub deaf_passes : v.deaf ≡ true → v.reader.place ≡ Passing

abbrev pub Passes : Heard → Party → Type 0
Passes heard v = (reader_next v heard).place ≡ Passing

pub data Phase : Heard → List Party → Type 0 where
  silent : {vs : List Party} → Each Quiet vs → Phase Silence vs
  sends : (c : ℕ) (left : List ℕ) {vs : List Party} → Lone (Speaks left) (Hears c left) vs → Phase (Character c) vs
  passed : {heard : Heard} {vs : List Party} → IsCharacter heard → Each (Passes heard) vs → Phase heard vs

-- ---- a reader after a tick

next_deaf : (v : Party) (heard : Heard) → v.deaf ≡ true → reader_next v heard ≡ v.reader
next_deaf v heard e = ap (λ (t : Taken). t.receiver) (if_is_true v.deaf _ _ e)

next_hears : (v : Party) (heard : Heard) → v.deaf ≡ false → reader_next v heard ≡ (taken v.reader heard).receiver
next_hears v heard e = ap (λ (t : Taken). t.receiver) (if_is_false v.deaf _ _ e)

next_passes : (v : Party) {heard : Heard} → IsCharacter heard → v.reader.place ≡ Passing → Passes heard v
next_passes v i e = if_both (λ (t : Taken). t.receiver.place ≡ Passing) v.deaf _ _ e (passes v.reader i e)

spoke_place : (u : Party) → Spoke u → u.reader.place ≡ Passing
spoke_place u s = ap (λ (r : Receiver). r.place) s.reader_is

some_left : {c : ℕ} {left all : List ℕ} → all ≡ c ∷ left → all ≡ [] → ⊥
some_left p q = omega (arith, ap length (sym p ∙ q))

-- ---- where nobody has anything left, a tick leads to silence, to a lone sender or to damage

record Ended (heard : Heard) (v : Party) : Type 0 where
  nothing_left : v.left ≡ []
  outside : Outside (reader_next v heard)
  deaf_passes : v.deaf ≡ true → v.reader.place ≡ Passing

record Rested (u : Party) : Type 0 where
  quiet : Quiet u
  follows_not : u.follows ≡ false

ended_does : (heard : Heard) {v u : Party} {sent : Sent} → Ended heard v → Step heard v sent u → Did Rested IsFrame sent u
ended_does heard {v} e (is_off n d f) = did_rest (record { quiet = record { nothing_left = n; outside = subst Outside (next_deaf v heard d) e.outside; deaf_passes = e.deaf_passes }; follows_not = f })
ended_does heard e (rests n m q) =
    did_rest (record { quiet = record { nothing_left = m; outside = subst Outside (sym q.reader_is) e.outside; deaf_passes = λ z. absurd (true_false (sym z ∙ q.hears)) }; follows_not = q.follows_not })
ended_does heard e (begins n g w s) = did_send w s
ended_does heard e (goes_on n s) = absurd (some_left n e.nothing_left)

-- a party that rested hears a frame that begins
rested_hears : (c : ℕ) (left : List ℕ) → IsFrame (c ∷ left) → (u : Party) → Rested u → Hears c left u
unfolding reader_after
rested_hears c left f u r = record {
  nothing_left = r.quiet.nothing_left;
  follows_not = r.follows_not;
  outside = if_cases (λ (t : Taken). Outside (reader_after t.receiver left)) u.deaf _ _
      (λ d. passing_outside (reader_after u.reader left) (passes_all u.reader left (r.quiet.deaf_passes d)))
      (λ d. frame_outside u.reader c left r.quiet.outside f);
  deaf_passes = r.quiet.deaf_passes;
}

rested_passes : (c : ℕ) (kind : Damage) (u : Party) → Rested u ⊎ Spoke u → Passes (Damaged c kind) u
rested_passes c kind u (inl r) = if_cases (λ (t : Taken). t.receiver.place ≡ Passing) u.deaf _ _ r.quiet.deaf_passes (λ d. damage_passes u.reader c kind r.quiet.outside)
rested_passes c kind u (inr s) = next_passes u is_with_damage (spoke_place u s)

after_ended : {line : Heard} {us : List Party} → Outcome Rested IsFrame line us → Phase line us
after_ended (nobody rs) = silent (each (λ u r. r.quiet) rs)
after_ended (one {c = c} left f l) = sends c left (others (rested_hears c left f) l)
after_ended (several {c = c} {kind = kind} es) = passed is_with_damage (each (rested_passes c kind) es)

-- on the silent line, and after a frame's last character
quiet_ended : (v : Party) → Quiet v → Ended Silence v
quiet_ended v q = record {
  nothing_left = q.nothing_left;
  outside = if_both (λ (t : Taken). Outside t.receiver) v.deaf _ _ q.outside (silence_outside v.reader q.outside);
  deaf_passes = q.deaf_passes;
}

spoke_ended : (c : ℕ) (v : Party) → Speaks [] v → Ended (Character c) v
spoke_ended c v k = record {
  nothing_left = k.left_is;
  outside = passing_outside (reader_next v (Character c)) (next_passes v is_sound (spoke_place v k.spoke));
  deaf_passes = λ d. spoke_place v k.spoke;
}

hears_ended : (c : ℕ) (v : Party) → Hears c [] v → Ended (Character c) v
unfolding reader_after
hears_ended c v h = record { nothing_left = h.nothing_left; outside = h.outside; deaf_passes = h.deaf_passes }

-- ---- a frame goes on: its sender sends the next character, and nobody else begins

data HeardOn (d : ℕ) (left : List ℕ) : Sent → Party → Type 0 where
  heard_on : {u : Party} → Hears d left u → HeardOn d left Silent u

hears_on : (c d : ℕ) (left : List ℕ) {v u : Party} {sent : Sent} → Hears c (d ∷ left) v → Step (Character c) v sent u → HeardOn d left sent u
unfolding reader_after
hears_on c d left {v} h (is_off n e f) =
    heard_on (record {
      nothing_left = n;
      follows_not = f;
      outside = passing_outside (reader_after (reader_next v (Character d)) left) (passes_all (reader_next v (Character d)) left (next_passes v is_sound (h.deaf_passes e)));
      deaf_passes = h.deaf_passes;
    })
hears_on c d left {v} {u} h (rests n m q) =
    heard_on (record {
      nothing_left = m;
      follows_not = q.follows_not;
      outside = subst (λ (z : Receiver). Outside (reader_after z left)) (sym (next_hears u (Character d) q.hears ∙ ap (λ (z : Receiver). (taken z (Character d)).receiver) q.reader_is)) h.outside;
      deaf_passes = λ z. absurd (true_false (sym z ∙ q.hears));
    })
hears_on c d left h (begins n g w s) = absurd (true_false (sym (g is_sound) ∙ h.follows_not))
hears_on c d left h (goes_on n s) = absurd (some_left n h.nothing_left)

data SpokeOn (d : ℕ) (left : List ℕ) : Sent → Party → Type 0 where
  spoke_on : {u : Party} → Speaks left u → SpokeOn d left (Sent.Character d) u

same_first : {c d : ℕ} {us vs : List ℕ} → c ∷ us ≡ d ∷ vs → c ≡ d
same_first e = cc

same_rest : {c d : ℕ} {us vs : List ℕ} → c ∷ us ≡ d ∷ vs → us ≡ vs
same_rest e = cc

speaks_on : (heard : Heard) (d : ℕ) (left : List ℕ) {v u : Party} {sent : Sent} → Speaks (d ∷ left) v → Step heard v sent u → SpokeOn d left sent u
speaks_on heard d left k (is_off n e f) = absurd (some_left k.left_is n)
speaks_on heard d left k (rests n m q) = absurd (some_left k.left_is n)
speaks_on heard d left k (begins n g w s) = absurd (some_left k.left_is n)
speaks_on heard d left {v} {u} k (goes_on n s) =
    let e = sym k.left_is ∙ n in
    subst (λ (c : ℕ). SpokeOn d left (Sent.Character c) u) (same_first e) (spoke_on (record { left_is = sym (same_rest e); spoke = s }))

data AllHear (d : ℕ) (left : List ℕ) : Heard → List Party → Type 0 where
  all_hear : {us : List Party} → Each (Hears d left) us → AllHear d left Silence us

data OneSends (d : ℕ) (left : List ℕ) : Heard → List Party → Type 0 where
  one_sends : {us : List Party} → Lone (Speaks left) (Hears d left) us → OneSends d left (Character d) us

module _ (c d : ℕ) (left : List ℕ) where
  heard_and : {sent : Sent} {u : Party} {line : Heard} {us : List Party} → HeardOn d left sent u → AllHear d left line us → AllHear d left (joins sent line) (u ∷ us)
  heard_and (heard_on h) (all_hear hs) = all_hear (and h hs)

  spoke_and : {sent : Sent} {u : Party} {line : Heard} {us : List Party} → SpokeOn d left sent u → AllHear d left line us → OneSends d left (joins sent line) (u ∷ us)
  spoke_and (spoke_on k) (all_hear hs) = one_sends (here k hs)

  heard_one : {sent : Sent} {u : Party} {line : Heard} {us : List Party} → HeardOn d left sent u → OneSends d left line us → OneSends d left (joins sent line) (u ∷ us)
  heard_one (heard_on h) (one_sends l) = one_sends (further h l)

  all_on : {vs us : List Party} {line : Heard} → Each (Hears c (d ∷ left)) vs → Ticks (Character c) vs line us → AllHear d left line us
  all_on none no_party = all_hear none
  all_on (and h hs) (party_and s ts) = heard_and (hears_on c d left h s) (all_on hs ts)

  one_on : {vs us : List Party} {line : Heard} → Lone (Speaks (d ∷ left)) (Hears c (d ∷ left)) vs → Ticks (Character c) vs line us → OneSends d left line us
  one_on (here k hs) (party_and s ts) = spoke_and (speaks_on (Character c) d left k s) (all_on hs ts)
  one_on (further h l) (party_and s ts) = heard_one (hears_on c d left h s) (one_on l ts)

after_character : {d : ℕ} {left : List ℕ} {line : Heard} {us : List Party} → OneSends d left line us → Phase line us
after_character {d} {left} (one_sends l) = sends d left l

-- ---- all pass over what they hear

record Still (u : Party) : Type 0 where
  nothing_left : u.left ≡ []
  place_is : u.reader.place ≡ Passing

abbrev Any : List ℕ → Type 0
Any w = Unit {0}

passed_does : (heard : Heard) {v u : Party} {sent : Sent} → Passes heard v → Step heard v sent u → Did Still Any sent u
passed_does heard {v} p (is_off n d f) = did_rest (record { nothing_left = n; place_is = ap (λ (r : Receiver). r.place) (sym (next_deaf v heard d)) ∙ p })
passed_does heard p (rests n m q) = did_rest (record { nothing_left = m; place_is = ap (λ (z : Receiver). z.place) q.reader_is ∙ p })
passed_does heard p (begins n g w s) = did_send tt s
passed_does heard p (goes_on n s) = did_send tt s

still_passes : {heard : Heard} → IsCharacter heard → (u : Party) → Still u ⊎ Spoke u → Passes heard u
still_passes i u (inl s) = next_passes u i s.place_is
still_passes i u (inr s) = next_passes u i (spoke_place u s)

after_passed : {line : Heard} {us : List Party} → Outcome Still Any line us → Phase line us
after_passed (nobody rs) = silent (each (λ u s. record { nothing_left = s.nothing_left; outside = passing_outside u.reader s.place_is; deaf_passes = λ d. s.place_is }) rs)
after_passed (one left f l) = passed is_sound (each (still_passes is_sound) (lone (λ v k. inr k.spoke) (λ v s. inl s) l))
after_passed (several es) = passed is_with_damage (each (still_passes is_with_damage) es)

-- ---- the theorem: one of the phases follows another

pub phase_next : {heard line : Heard} {vs us : List Party} → Phase heard vs → Ticks heard vs line us → Phase line us
phase_next (silent qs) ts = after_ended (outcome (λ v u sent e k. ended_does Silence e k) (each quiet_ended qs) ts)
phase_next (sends c [] l) ts = after_ended (outcome (λ v u sent e k. ended_does (Character c) e k) (lone (spoke_ended c) (hears_ended c) l) ts)
phase_next (sends c (d ∷ left) l) ts = after_character (one_on c d left l ts)
phase_next {heard} (passed i ps) ts = after_passed (outcome (λ v u sent e k. passed_does heard e k) ps ts)

pub not_silent : {heard : Heard} → IsCharacter heard → heard ≡ Silence → ⊥
not_silent is_sound e = let z : ◌≡◌ {A = ℕ} 0 1 = cc in omega arith
not_silent is_with_damage e = let z : ◌≡◌ {A = ℕ} 0 1 = cc in omega arith

-- so a silent tick meets every reader outside a frame
pub phase_quiet : {heard : Heard} {vs : List Party} → Phase heard vs → heard ≡ Silence → Each Quiet vs
phase_quiet (silent qs) e = qs
phase_quiet (sends c left l) e = absurd (not_silent is_sound e)
phase_quiet (passed i ps) e = absurd (not_silent i e)

-- ---- the first tick: nobody has anything left, and where the line is not silent nobody hears it

pub record Fresh (line : Heard) (v : Party) : Type 0 where
  pub quiet : Quiet v
  pub deaf_then : IsCharacter line → v.deaf ≡ true

fresh_passes : {line : Heard} → IsCharacter line → (v : Party) → Fresh line v → Passes line v
fresh_passes i v f = next_passes v i (f.quiet.deaf_passes (f.deaf_then i))

pub phase_first : {vs : List Party} (line : Heard) → Each (Fresh line) vs → Phase line vs
phase_first Silence fs = silent (each (λ v f. f.quiet) fs)
phase_first (Character c) fs = passed is_sound (each (fresh_passes is_sound) fs)
phase_first (Damaged c kind) fs = passed is_with_damage (each (fresh_passes is_with_damage) fs)
