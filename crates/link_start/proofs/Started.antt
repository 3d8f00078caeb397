-- A link whose start was accepted: each of its parties is one that its own start accepted.
use Prim.Native.Nat.{ℕ, suc, ◌+◌, ◌≤◌}
use native.Mathlib.Omega.{arith}
use mathlib.Core.Bool.{Bool, true, false}
use mathlib.Core.List.{List, [], ◌∷◌}
use mathlib.Core.Path.{◌≡◌, refl, sym, ap, subst, ◌∙◌}
use lib.ListN.{length, get_or, replicate, length-replicate, get_or-replicate}
use Rattle.std.specs.Prelude.{Option, Some, None}
use Rattle.base.specs.Choice.{when◌then◌else◌, ◌outside◌to◌}
use Rattle.base.proofs.Choices.{if_is_true, inside_low, inside_high}
use Rattle.base.specs.Refusal.{Called, accepted, refused}
use Rattle.frame.specs.Limits.{fewest_answered, most_data, longest_frame}
use Rattle.line.specs.declared.Profile.{Profile}
use Rattle.turns.specs.Master.{master_starts}
use Rattle.turns.specs.Device.{device_starts}
use Rattle.turns.specs.Run.{All, none, and, DeviceStarts, Distinct, Starts}
use Rattle.turns.specs.declared.Device.{Device}
use Rattle.turns.specs.declared.Master.{Master}
use Rattle.link_parties.specs.Stands.{any_master, devices_from}
use Rattle.link_parties.specs.declared.Link.{Link}
use Rattle.link_start.specs.Fresh.{rows_fresh, lent_fresh}
use Rattle.link_start.specs.Start.{absent, lower, both, in_slot, slot_starts, in_front, devices_start, primary_first, masters_start, fresh_link, link_starts, limit_taken, the_link, limited_starts}
use Rattle.link_start.specs.declared.Setting.{Setting}

-- ---- what was accepted was not refused

pub unlike : {A : Type 0} (why : ℕ) (x : A) → ◌≡◌ {A = Called A} (refused why) (accepted x) → ⊥
unlike {A} why x e = let k : ◌≡◌ {A = ℕ} 0 1 = ap is e in omega arith
  where
    is : Called A → ℕ
    is (accepted y) = 1
    is (refused v) = 0

accepted_same : {A : Type 0} (x y : A) → accepted x ≡ accepted y → x ≡ y
accepted_same x y e = cc

-- what two starts have made: both were accepted
record Both {A B C : Type 0} (f : A → B → C) (x : Called A) (y : Called B) (c : C) : Type 0 where
  first : A
  second : B
  first_is : x ≡ accepted first
  second_is : y ≡ accepted second
  makes : f first second ≡ c

both_accepted : {A B C : Type 0} (f : A → B → C) (x : Called A) (y : Called B) (c : C) → both f x y ≡ accepted c → Both f x y c
both_accepted f (accepted a) (accepted b) c e = record { first = a; second = b; first_is = refl; second_is = refl; makes = accepted_same (f a b) c e }
both_accepted f (accepted a) (refused w) c e = absurd (unlike w c e)
both_accepted f (refused v) (accepted b) c e = absurd (unlike v c e)
both_accepted f (refused v) (refused w) c e = absurd (unlike (lower v w) c e)

-- ---- the devices

-- there is room in the fresh rows
row_length : (n k m : ℕ) → suc k ≤ n → m ≤ length (get_or {A = List ℕ} (replicate n (replicate m 0)) k [])
row_length n k m h =
    let zeros : List ℕ = replicate m 0 in
    let all : length zeros ≡ m = length-replicate m 0 in
    let row : length (get_or (replicate n zeros) k []) ≡ length zeros = ap (λ (l : List ℕ). length l) (get_or-replicate n k zeros [] h) in
    omega (arith, row, all)

-- a slot that was accepted, in front of others
slot_first : (p : Profile) (i : ℕ) (s : Option Setting) (slot : Option Device) (slots : List (Option Device)) → suc i ≤ 6 → slot_starts p s ≡ accepted slot
    → All (DeviceStarts p) (devices_from rows_fresh (suc i) slots) → All (DeviceStarts p) (devices_from rows_fresh i (slot ∷ slots))
unfolding devices_from
slot_first p i None slot slots h v rest = subst (λ (y : Option Device). All (DeviceStarts p) (devices_from rows_fresh i (y ∷ slots))) (accepted_same absent slot v) rest
slot_first p i (Some s) slot slots h v rest = started (device_starts p s.preamble s.polling s.unique) refl v
  where
    started : (c : Called Device) → device_starts p s.preamble s.polling s.unique ≡ c → in_slot c ≡ accepted slot → All (DeviceStarts p) (devices_from rows_fresh i (slot ∷ slots))
    started (refused why) e w = absurd (unlike why slot w)
    started (accepted d) e w =
        subst (λ (y : Option Device). All (DeviceStarts p) (devices_from rows_fresh i (y ∷ slots))) (accepted_same _ slot w)
        (and (record {
          preamble = s.preamble;
          polling = s.polling;
          unique = s.unique;
          starts = e;
          room = row_length 8 (i + 2) (longest_frame most_data) (omega (arith, h));
          content_room = row_length 6 i most_data h;
        }) rest)

devices_started : (p : Profile) (i : ℕ) (ss : List (Option Setting)) (slots : List (Option Device)) → i + length ss ≤ 6 → devices_start p ss ≡ accepted slots → All (DeviceStarts p) (devices_from rows_fresh i slots)
unfolding devices_start devices_from
devices_started p i [] slots h v = subst (λ (l : List (Option Device)). All (DeviceStarts p) (devices_from rows_fresh i l)) (accepted_same [] slots v) none
devices_started p i (s ∷ ss) slots h v =
    let b = both_accepted in_front (slot_starts p s) (devices_start p ss) slots v in
    subst (λ (l : List (Option Device)). All (DeviceStarts p) (devices_from rows_fresh i l)) b.makes
    (slot_first p i s b.first b.second (omega (arith, h)) b.first_is (devices_started p (suc i) ss b.second (omega (arith, h)) b.second_is))

-- a slot for each setting
slots_each : (p : Profile) (ss : List (Option Setting)) (slots : List (Option Device)) → devices_start p ss ≡ accepted slots → length slots ≡ length ss
unfolding devices_start
slots_each p [] slots v = ap length (sym (accepted_same [] slots v))
slots_each p (s ∷ ss) slots v =
    let b = both_accepted in_front (slot_starts p s) (devices_start p ss) slots v in
    ap length (sym b.makes) ∙ ap suc (slots_each p ss b.second b.second_is)

-- ---- the link

pub slots_started : (p : Profile) (retries : ℕ) (s : List (Option Setting)) (l : Link) → link_starts p retries s ≡ accepted l → length l.devices ≡ length s
slots_started p retries s l e =
    let b = both_accepted fresh_link (masters_start p retries) (devices_start p s) l e in
    ap (λ (k : Link). length k.devices) (sym b.makes) ∙ slots_each p s b.second b.second_is

module _ (p : Profile) (retries : ℕ) (s : List (Option Setting)) (six : length s ≡ 6) (l : Link) (e : link_starts p retries s ≡ accepted l) where
  parts : Both fresh_link (masters_start p retries) (devices_start p s) l
  parts = both_accepted fresh_link (masters_start p retries) (devices_start p s) l e

  slots : All (DeviceStarts p) (devices_from rows_fresh 0 l.devices)
  slots =
      subst (λ (x : List (Option Device)). All (DeviceStarts p) (devices_from rows_fresh 0 x)) (ap (λ (k : Link). k.devices) parts.makes)
      (devices_started p 0 s parts.second (omega (arith, six)) parts.second_is)

  pub masters_start_lem : (master_starts p true retries ≡ accepted (get_or l.masters 0 any_master)) × (master_starts p false retries ≡ accepted (get_or l.masters 1 any_master))
  masters_start_lem =
      let m = both_accepted primary_first (master_starts p true retries) (master_starts p false retries) parts.first parts.first_is in
      let same : primary_first m.first m.second ≡ l.masters = m.makes ∙ ap (λ (k : Link). k.masters) parts.makes in
      (m.first_is ∙ ap (λ (k : List Master). accepted (get_or k 0 any_master)) same, m.second_is ∙ ap (λ (k : List Master). accepted (get_or k 1 any_master)) same)

  -- "a primary master, a secondary master and devices that share no address all start in the same tick with one profile and one retry limit R"
  pub all_start : Distinct (devices_from rows_fresh 0 l.devices) → Starts p retries (lent_fresh l)
  all_start distinct = record {
    primary = record { starts = masters_start_lem.0; room = row_length 8 0 (longest_frame most_data) (omega arith) };
    secondary = record { starts = masters_start_lem.1; room = row_length 8 1 (longest_frame most_data) (omega arith) };
    devices = slots;
    distinct = distinct;
  }

-- ---- with a data limit

pub limited_bounds : (limit : ℕ) (p : Profile) (retries : ℕ) (s : List (Option Setting)) (l : Link) → limited_starts limit p retries s ≡ accepted l → (fewest_answered ≤ limit) × (limit ≤ most_data)
unfolding limited_starts
limited_bounds limit p retries s l e =
    let b = both_accepted the_link (limit_taken limit) (link_starts p retries s) l e in
    let inside : (limit outside fewest_answered to most_data) ≡ false = by (limit outside fewest_answered to most_data) b.first b.first_is in
    (inside_low limit fewest_answered most_data (limit outside fewest_answered to most_data) refl inside, inside_high limit fewest_answered most_data (limit outside fewest_answered to most_data) refl inside)
  where
    by : (t : Bool) (x : Unit {0}) → (when t then refused 9 else accepted tt) ≡ accepted x → t ≡ false
    by false x k = refl
    by true x k = absurd (unlike 9 x (sym (if_is_true true (refused 9) (accepted tt) refl) ∙ k))

pub limited_link : (limit : ℕ) (p : Profile) (retries : ℕ) (s : List (Option Setting)) (l : Link) → limited_starts limit p retries s ≡ accepted l → link_starts p retries s ≡ accepted l
unfolding limited_starts
limited_link limit p retries s l e =
    let b = both_accepted the_link (limit_taken limit) (link_starts p retries s) l e in
    b.second_is ∙ ap accepted b.makes
