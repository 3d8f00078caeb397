-- Theorem: the list has at most an entry for every two ticks, rounded up.
use Rattle.std.specs.Prelude.{Option, Some, None}
use Prim.Native.Nat.{ℕ, ◌+◌, ◌-◌, ◌*◌, ◌≤◌}
use native.Mathlib.Omega.{arith}
use mathlib.Core.Path.{◌≡◌, refl, sym, ap, subst, ◌∙◌}
use mathlib.Core.Bool.{Bool, true, false}
use mathlib.Core.List.{List, [], ◌∷◌}
use lib.ListN.{length, length-append}
use Rattle.base.specs.Choice.{when◌then◌else◌, ◌=?◌, ◌<?◌}
use Rattle.base.proofs.Choices.{true_false}
use Rattle.frame.specs.Delimiter.{delimiter_of}
use Rattle.frame.specs.Frame.{too_few}
use Rattle.frame.specs.declared.Delimiter.{Delimiter}
use Rattle.frame.specs.declared.Header.{Header}
use Rattle.line.specs.Gaps.{IsCharacter, is_sound, is_with_damage}
use Rattle.line.specs.Reader.{idle, passing, blank, tells, breaks, gapped, next, begins, counted, marked, address_damaged, kind_damaged, behind_address, at_idle, at_preamble, at_first, at_address, at_expansion, at_command, at_count, at_data, at_check, ended, is_damaged, inside_frame, character, damaged, whole_of, with_check, silence, silent_inside, taken}
use Rattle.line.specs.declared.Damage.{Damage}
use Rattle.line.specs.declared.Event.{Event}
use Rattle.line.specs.declared.Event.TheVariants.{Nothing, PassedOver, Broken, Frame}
use Rattle.line.specs.declared.FrameDamage.{FrameDamage}
use Rattle.line.specs.declared.Heard.{Heard}
use Rattle.line.specs.declared.Heard.TheVariants.{Silence, Character, Damaged}
use Rattle.line.specs.declared.Place.{Place}
use Rattle.line.specs.declared.Place.TheVariants.{Passing, Idle, Preamble, First, Address, Expansion, Command, Count, Data, Check}
use Rattle.line.specs.declared.Receiver.{Receiver}
use Rattle.line.specs.declared.Taken.{Taken}
use Rattle.line.specs.declared.Whole.{Whole}
use Rattle.line.proofs.Gaps.{Within}
use Rattle.line.proofs.Ticks.{outside_idle, gap_passed, gap_breaks, gapped_takes}
use Rattle.recording.specs.Form.{ticks_of}
use Rattle.recording.proofs.Forms.{length_ticks}
use Rattle.recording_list.specs.Listing.{entry, adds, found, listing_of}
use Rattle.recording_list.specs.Claims.{ends_frame, ListingShort}
use Rattle.recording_list.proofs.Readers.{found_tick, found_none}
use Rattle.recording_list.proofs.Sentences.{start_adds, passed_none}

-- ---- behind a character, from a reader before a frame or inside one

-- it goes on inside a frame, a character broke the frame, or the frame ended
data Led (x : Taken) : Type 0 where
  goes_on : x.event ≡ Nothing → Within x.receiver → Led x
  breaks_off : x ≡ breaks → Led x
  ends : (w : Whole) (m : FrameDamage) → x ≡ tells idle (ended w m) → Led x

led_if : (t : Bool) (a b : Taken) → Led a → Led b → Led (when t then a else b)
unfolding when◌then◌else◌
led_if true a b p q = p
led_if false a b p q = q

led_next : (r : Receiver) (h : Header) (place : Place) (c : ℕ) → inside_frame place ≡ true → Led (next r h place c)
led_next r h place c i = goes_on refl (record { inside = i; no_gap = refl })

inside_choice : (t : Bool) (n : ℕ) → inside_frame (when t then Command else Expansion n) ≡ true
unfolding when◌then◌else◌
inside_choice true n = refl
inside_choice false n = refl

led_behind : (r : Receiver) (h : Header) (c : ℕ) → Led (next r h (behind_address r) c)
led_behind r h c = led_next r h (behind_address r) c (inside_choice (r.expansion =? 0) r.expansion)

led_preamble : (n : ℕ) → Led (tells (blank (Preamble n)) Nothing)
led_preamble n = goes_on refl (record { inside = refl; no_gap = refl })

led_begins : (c : ℕ) (d : Option Delimiter) → Led (begins c d)
led_begins c None = breaks_off refl
led_begins c (Some d) = goes_on refl (record { inside = refl; no_gap = refl })

led_counted : (r : Receiver) (c : ℕ) (place : Place) → inside_frame place ≡ true → Led (counted r c place)
led_counted r c place i = goes_on refl (record { inside = i; no_gap = refl })

led_character : (place : Place) (r : Receiver) (c : ℕ) → (place ≡ Passing → ⊥) → Led (character place r c)
unfolding at_idle at_preamble at_first at_address at_expansion at_command at_count at_data at_check
led_character Passing r c n = absurd (n refl)
led_character Idle r c n = led_if (c =? 0xFF) _ _ (led_preamble 1) (breaks_off refl)
led_character (Preamble k) r c n = led_if (c =? 0xFF) _ _ (led_preamble 2) (led_if (k <? 2) _ _ (breaks_off refl) (led_begins c (delimiter_of c)))
led_character First r c n = led_if r.header.long _ _ (led_next r _ (Address 4) c refl) (led_behind r _ c)
led_character (Address k) r c n = led_if (1 <? k) _ _ (led_next r _ (Address (k - 1)) c refl) (led_behind r _ c)
led_character (Expansion k) r c n = led_if (1 <? k) _ _ (led_next r _ (Expansion (k - 1)) c refl) (led_next r _ Command c refl)
led_character Command r c n = led_next r _ Count c refl
led_character Count r c n = led_if (too_few r.header.kind c) _ _ (breaks_off refl) (led_if (c =? 0) _ _ (led_counted r c Check refl) (led_counted r c (Data 0) refl))
led_character (Data k) r c n = led_if (k + 1 <? r.count) _ _ (led_next r _ (Data (k + 1)) c refl) (led_next r _ Check c refl)
led_character Check r c n = ends (whole_of r) (with_check r.damage _) refl

led_damaged : (place : Place) (r : Receiver) (c : ℕ) (kind : Damage) → (place ≡ Passing → ⊥) → Led (damaged place r c kind)
led_damaged Passing r c kind n = absurd (n refl)
led_damaged Idle r c kind n = breaks_off refl
led_damaged (Preamble k) r c kind n = breaks_off refl
led_damaged First r c kind n = led_character First (marked r (address_damaged r.damage)) c n
led_damaged (Address k) r c kind n = led_character (Address k) (marked r (address_damaged r.damage)) c n
led_damaged (Expansion k) r c kind n = led_character (Expansion k) (marked r (address_damaged r.damage)) c n
led_damaged Command r c kind n = led_character Command (marked r (kind_damaged kind r.damage)) c n
led_damaged Count r c kind n = breaks_off refl
led_damaged (Data k) r c kind n = led_character (Data k) (marked r (kind_damaged kind r.damage)) c n
led_damaged Check r c kind n = led_character Check (marked r (kind_damaged kind r.damage)) c n

led : (r : Receiver) {h : Heard} → IsCharacter h → (r.place ≡ Passing → ⊥) → Led (taken r h)
unfolding taken
led r (is_sound {c}) n = led_character r.place r c n
led r (is_with_damage {c} {kind}) n = led_damaged r.place r c kind n

-- only a character that ends a frame tells so, and the reader is then before a frame
ended_by : (x : Taken) → Led x → ends_frame x.event ≡ true → x.receiver ≡ idle
ended_by x (goes_on e w) f = absurd (true_false (sym f ∙ ap ends_frame e))
ended_by x (breaks_off e) f = absurd (true_false (sym f ∙ ap (λ (t : Taken). ends_frame t.event) e))
ended_by x (ends w m e) f = ap (λ (t : Taken). t.receiver) e

inside_other : (place : Place) → inside_frame place ≡ true → place ≡ Passing → ⊥
inside_other place i e = true_false (sym i ∙ ap inside_frame e)

idle_other : Idle ≡ Passing → ⊥
idle_other e = let z : ◌≡◌ {A = ℕ} 0 1 = cc in omega arith

-- passed over, or as above
passed_or : (place : Place) (x : Taken) → (place ≡ Passing → x ≡ tells passing PassedOver) → ((place ≡ Passing → ⊥) → Led x) → ends_frame x.event ≡ true → x.receiver ≡ idle
passed_or Passing x p q f = absurd (true_false (sym f ∙ ap (λ (t : Taken). ends_frame t.event) (p refl)))
passed_or Idle x p q f = ended_by x (q idle_other) f
passed_or (Preamble n) x p q f = ended_by x (q (inside_other (Preamble n) refl)) f
passed_or First x p q f = ended_by x (q (inside_other First refl)) f
passed_or (Address n) x p q f = ended_by x (q (inside_other (Address n) refl)) f
passed_or (Expansion n) x p q f = ended_by x (q (inside_other (Expansion n) refl)) f
passed_or Command x p q f = ended_by x (q (inside_other Command refl)) f
passed_or Count x p q f = ended_by x (q (inside_other Count refl)) f
passed_or (Data n) x p q f = ended_by x (q (inside_other (Data n) refl)) f
passed_or Check x p q f = ended_by x (q (inside_other Check refl)) f

silent_ended : (r : Receiver) → ends_frame (silence r).event ≡ false
unfolding when◌then◌else◌ silent_inside
silent_ended r = go (inside_frame r.place) r.gap
  where
    go : (i g : Bool) → ends_frame (when i then (when g then tells idle Broken else tells (gapped r) Nothing) else tells idle Nothing).event ≡ false
    go true true = refl
    go true false = refl
    go false g = refl

pub ended_idle : (r : Receiver) (h : Heard) → ends_frame (taken r h).event ≡ true → (taken r h).receiver ≡ idle
unfolding taken
ended_idle r Silence f = absurd (true_false (sym f ∙ silent_ended r))
ended_idle r (Character c) f = passed_or r.place (character r.place r c) (λ e. ap (λ (p : Place). character p r c) e) (led_character r.place r c) f
ended_idle r (Damaged c kind) f = passed_or r.place (damaged r.place r c kind) (λ e. ap (λ (p : Place). damaged p r c kind) e) (led_damaged r.place r c kind) f

-- ---- how many entries are left, twice, at most: the ticks that are left, and 1 before a frame, 0 behind a break, 2 inside a frame

data Slack (t : ℕ) (r : Receiver) (n : ℕ) : Type 0 where
  before_frame : r ≡ idle → n ≡ 1 → Slack t r n
  passes_over : r ≡ passing → 1 ≤ t → n ≡ 0 → Slack t r n
  in_frame : Within r → n ≡ 2 → Slack t r n
  in_gap : (q : Receiver) → Within q → r ≡ gapped q → n ≡ 2 → Slack t r n

-- one tick: a entries, and the slack behind it
record Spent (t : ℕ) (x : Taken) (n : ℕ) : Type 0 where
  entries : ℕ
  left : ℕ
  added : length (adds t x.event) ≡ 9 * entries
  slack : Slack (t + 1) x.receiver left
  less : 2 * entries + left ≤ n + 1

pub entry_nine : (t verdict : ℕ) → length (entry t verdict) ≡ 9
unfolding entry
entry_nine t verdict = refl

ended_nine : (t : ℕ) (w : Whole) (m : FrameDamage) → length (adds t (ended w m)) ≡ 9
unfolding when◌then◌else◌
ended_nine t w m = go (is_damaged m)
  where
    go : (d : Bool) → length (adds t (when d then Event.Damaged w m else Frame w)) ≡ 9
    go true = entry_nine t 2
    go false = entry_nine t 1

spent_goes : (t n : ℕ) (x : Taken) → 1 ≤ n → x.event ≡ Nothing → Within x.receiver → Spent t x n
spent_goes t n x h e w = record { entries = 0; left = 2; added = ap (λ (v : Event). length (adds t v)) e; slack = in_frame w refl; less = omega arith }

spent_breaks : (t n : ℕ) (x : Taken) → 1 ≤ n → x ≡ breaks → Spent t x n
spent_breaks t n x h e = record {
  entries = 1;
  left = 0;
  added = ap (λ (v : Taken). length (adds t v.event)) e ∙ entry_nine t 0;
  slack = passes_over (ap (λ (v : Taken). v.receiver) e) (omega arith) refl;
  less = omega arith;
}

spent_inside : (t : ℕ) (x : Taken) → Led x → Spent t x 2
spent_inside t x (goes_on e w) = spent_goes t 2 x (omega arith) e w
spent_inside t x (breaks_off e) = spent_breaks t 2 x (omega arith) e
spent_inside t x (ends w m e) = record {
  entries = 1;
  left = 1;
  added = ap (λ (v : Taken). length (adds t v.event)) e ∙ ended_nine t w m;
  slack = before_frame (ap (λ (v : Taken). v.receiver) e) refl;
  less = omega arith;
}

idle_choice : (t : ℕ) (b : Bool) → Spent t (when b then tells (blank (Preamble 1)) Nothing else breaks) 1
unfolding when◌then◌else◌
idle_choice t true = spent_goes t 1 (tells (blank (Preamble 1)) Nothing) (omega arith) refl (record { inside = refl; no_gap = refl })
idle_choice t false = spent_breaks t 1 breaks (omega arith) refl

spent_idle : (t : ℕ) {h : Heard} → IsCharacter h → Spent t (taken idle h) 1
unfolding taken at_idle
spent_idle t (is_sound {c}) = idle_choice t (c =? 0xFF)
spent_idle t (is_with_damage {c} {kind}) = spent_breaks t 1 breaks (omega arith) refl

passing_told : {h : Heard} → IsCharacter h → taken passing h ≡ tells passing PassedOver
unfolding taken
passing_told is_sound = refl
passing_told is_with_damage = refl

spent_passing : (t : ℕ) {h : Heard} → 1 ≤ t → IsCharacter h → Spent t (taken passing h) 0
spent_passing t o c = record {
  entries = 0;
  left = 0;
  added = ap (λ (v : Taken). length (adds t v.event)) (passing_told c) ∙ ap length (passed_none t o);
  slack = passes_over (ap (λ (v : Taken). v.receiver) (passing_told c)) (omega arith) refl;
  less = omega arith;
}

-- a silent tick
spent_quiet : (t n : ℕ) (x : Taken) → x ≡ tells idle Nothing → Spent t x n
spent_quiet t n x e = record {
  entries = 0;
  left = 1;
  added = ap (λ (v : Taken). length (adds t v.event)) e;
  slack = before_frame (ap (λ (v : Taken). v.receiver) e) refl;
  less = omega arith;
}

not_passing : (r : Receiver) → Within r → r.place ≡ Passing → ⊥
not_passing r w e = let z : ◌≡◌ {A = ℕ} 0 1 = cc (w.inside, ap inside_frame e) in omega arith

spent_silent : (t n : ℕ) (r : Receiver) → Slack t r n → Spent t (taken r Silence) n
spent_silent t n r (before_frame e k) = spent_quiet t n (taken r Silence) (ap (λ (q : Receiver). taken q Silence) e ∙ outside_idle idle refl)
spent_silent t n r (passes_over e o k) = spent_quiet t n (taken r Silence) (ap (λ (q : Receiver). taken q Silence) e ∙ outside_idle passing refl)
spent_silent t n r (in_frame w k) = record {
  entries = 0;
  left = 2;
  added = ap (λ (v : Taken). length (adds t v.event)) (gap_passed r w.inside w.no_gap);
  slack = in_gap r w (ap (λ (v : Taken). v.receiver) (gap_passed r w.inside w.no_gap)) refl;
  less = omega arith;
}
spent_silent t n r (in_gap q w e k) =
    let broken : taken r Silence ≡ tells idle Broken = ap (λ (p : Receiver). taken p Silence) e ∙ gap_breaks (gapped q) w.inside refl in
    record {
      entries = 1;
      left = 1;
      added = ap (λ (v : Taken). length (adds t v.event)) broken ∙ entry_nine t 0;
      slack = before_frame (ap (λ (v : Taken). v.receiver) broken) refl;
      less = omega arith;
    }

spent_character : (t n : ℕ) (r : Receiver) (h : Heard) → IsCharacter h → Slack t r n → Spent t (taken r h) n
spent_character t n r h c (before_frame e k) = subst (Spent t (taken r h)) (sym k) (subst (λ (q : Receiver). Spent t (taken q h) 1) (sym e) (spent_idle t c))
spent_character t n r h c (passes_over e o k) = subst (Spent t (taken r h)) (sym k) (subst (λ (q : Receiver). Spent t (taken q h) 0) (sym e) (spent_passing t o c))
spent_character t n r h c (in_frame w k) = subst (Spent t (taken r h)) (sym k) (spent_inside t (taken r h) (led r c (not_passing r w)))
spent_character t n r h c (in_gap q w e k) =
    subst (Spent t (taken r h)) (sym k)
    (subst (λ (x : Taken). Spent t x 2) (sym (ap (λ (p : Receiver). taken p h) e ∙ gapped_takes q c)) (spent_inside t (taken q h) (led q c (not_passing q w))))

spent : (t n : ℕ) (r : Receiver) (h : Heard) → Slack t r n → Spent t (taken r h) n
spent t n r Silence v = spent_silent t n r v
spent t n r (Character c) v = spent_character t n r (Character c) is_sound v
spent t n r (Damaged c kind) v = spent_character t n r (Damaged c kind) is_with_damage v

short : (hs : List Heard) (t n : ℕ) (r : Receiver) → Slack t r n → 2 * length (found t r hs) ≤ 9 * (length hs + n)
short [] t n r v = omega (arith, ap length (found_none t r))
short (h ∷ hs) t n r v =
    let x : Spent t (taken r h) n = spent t n r h v in
    omega (arith, ap length (found_tick t r h hs (taken r h) refl), length-append (adds t (taken r h).event) (found (t + 1) (taken r h).receiver hs), x.added, x.less, short hs (t + 1) x.left (taken r h).receiver x.slack)

-- ---- from the reader's start on

start_silent : (hs : List Heard) → 2 * length (found 0 passing (Silence ∷ hs)) ≤ 9 * (length hs + 2)
start_silent hs =
    omega (arith, ap length (found_tick 0 passing Silence hs (tells idle Nothing) (outside_idle passing refl)), short hs 1 1 idle (before_frame refl refl))

start_character : (h : Heard) (hs : List Heard) → IsCharacter h → 2 * length (found 0 passing (h ∷ hs)) ≤ 9 * (length hs + 2)
start_character h hs c =
    omega (arith, ap length (found_tick 0 passing h hs (tells passing PassedOver) (passing_told c)), length-append (adds 0 PassedOver) (found 1 passing hs), ap length start_adds, entry_nine 0 0, short hs 1 0 passing (passes_over refl (omega arith) refl))

start : (hs : List Heard) → 2 * length (found 0 passing hs) ≤ 9 * (length hs + 1)
start [] = omega (arith, ap length (found_none 0 passing))
start (Silence ∷ hs) = omega (arith, start_silent hs)
start (Character c ∷ hs) = omega (arith, start_character (Character c) hs is_sound)
start (Damaged c kind ∷ hs) = omega (arith, start_character (Damaged c kind) hs is_with_damage)

-- whole entries
record Nines (l : List ℕ) : Type 0 where
  entries : ℕ
  is : length l ≡ 9 * entries

choice_nines : (b : Bool) (t : ℕ) → Nines (when b then entry t 0 else [])
unfolding when◌then◌else◌
choice_nines true t = record { entries = 1; is = entry_nine t 0 }
choice_nines false t = record { entries = 0; is = refl }

adds_nines : (t : ℕ) (e : Event) → Nines (adds t e)
adds_nines t Nothing = record { entries = 0; is = refl }
adds_nines t PassedOver = choice_nines (t =? 0) t
adds_nines t Broken = record { entries = 1; is = entry_nine t 0 }
adds_nines t (Frame w) = record { entries = 1; is = entry_nine t 1 }
adds_nines t (Event.Damaged w m) = record { entries = 1; is = entry_nine t 2 }

found_nines : (hs : List Heard) (t : ℕ) (r : Receiver) → Nines (found t r hs)
found_nines [] t r = record { entries = 0; is = ap length (found_none t r) }
found_nines (h ∷ hs) t r =
    let a : Nines (adds t (taken r h).event) = adds_nines t (taken r h).event in
    let b : Nines (found (t + 1) (taken r h).receiver hs) = found_nines hs (t + 1) (taken r h).receiver in
    record {
      entries = a.entries + b.entries;
      is = omega (arith, ap length (found_tick t r h hs (taken r h) refl), length-append (adds t (taken r h).event) (found (t + 1) (taken r h).receiver hs), a.is, b.is);
    }

pub listing_short : ListingShort
listing_short recording =
    let n : Nines (listing_of recording) = found_nines (ticks_of recording) 0 passing in
    omega (arith, start (ticks_of recording), length_ticks recording, n.is)
