-- A start by what was answered.
use Rattle.std.specs.Prelude.{Result, Ok, Err}
use Prim.Native.Nat.{ℕ, ◌<◌}
use mathlib.Core.Bool.{Bool, true, false}
use mathlib.Core.List.{List}
use mathlib.Core.Path.{◌≡◌, refl, sym, ap, subst, ◌∙◌}
use Rattle.base.specs.Lent.{Lent, after}
use Rattle.base.specs.declared.Refusal.{Refusal}
use Rattle.base.specs.Choice.{when◌then◌else◌, ◌outside◌to◌}
use Rattle.base.proofs.Choices.{if_is_true, if_is_false, inside_high}
use Rattle.frame.specs.Limits.{fewest_answered, most_data}
use native.Mathlib.Omega.{arith}
use Rattle.base.specs.Refusal.{number, Called, accepted, refused, called_as}
use Rattle.line.specs.Profile.{profile_made}
use Rattle.line.specs.Reader.{passing}
use Rattle.line.specs.declared.Profile.{Profile}
use Rattle.line.specs.declared.Receiver.{Receiver}
use Rattle.turns.specs.Device.{device_starts}
use Rattle.turns.specs.Master.{master_starts}
use Rattle.turns.specs.declared.Device.{Device}
use Rattle.turns.specs.declared.Master.{Master}
use Rattle.state_words.specs.Fits.{ReceiverFits}
use Rattle.state_words.specs.Reader.{receiver_words, receiver_at}
use Rattle.state_words.proofs.Kept.{receiver_kept}
use Rattle.master_c.specs.Words as MasterWords
use Rattle.master_c.proofs.Kept.{master_kept}
use Rattle.master_c.proofs.Kept as MasterKept
use Rattle.device_c.specs.Fits.{DeviceFits}
use Rattle.device_c.specs.Words as DeviceWords
use Rattle.device_c.proofs.Kept.{device_kept}
use Rattle.device_c.proofs.Kept as DeviceKept
use Rattle.state_start_c.specs.Start.{ReaderStarts, limited, StartIs, master_by, device_by}

pub reader_fresh : (r : Receiver) (words : Lent (List ℕ)) → after words ≡ receiver_words r → ReceiverFits r → r ≡ passing → ReaderStarts words
reader_fresh r words w f e = record {
  words_are = w ∙ ap receiver_words e;
  unpacked_is = ap (λ (l : List ℕ). receiver_at l 0) w ∙ receiver_kept r f ∙ e;
}

-- of a master and of a device
abbrev MasterIs : ℕ → Called Master → List ℕ → List ℕ → ℕ → Type 0
MasterIs limit c = StartIs (MasterWords.packed limit) MasterWords.unpacked MasterWords.limit_at limit (limited limit c)

abbrev DeviceIs : ℕ → Called Device → List ℕ → List ℕ → ℕ → Type 0
DeviceIs limit c = StartIs (DeviceWords.packed limit) DeviceWords.unpacked DeviceWords.limit_at limit (limited limit c)

-- what the limit's test answers, and so what is started
by_inside : (b : Bool) (limit k : ℕ) → accepted k ≡ (when b then refused 9 else accepted limit) → (k ≡ limit) × (b ≡ false)
unfolding when◌then◌else◌
by_inside true limit k e = let n : ◌≡◌ {A = ℕ} 0 1 = cc in absurd (omega arith)
by_inside false limit k e = (cc, refl)

by_outside : (b : Bool) (limit why : ℕ) → refused why ≡ (when b then refused 9 else accepted limit) → (9 ≡ why) × (b ≡ true)
unfolding when◌then◌else◌
by_outside true limit why e = (cc, refl)
by_outside false limit why e = let n : ◌≡◌ {A = ℕ} 0 1 = cc in absurd (omega arith)

pub limit_inside : (limit k : ℕ) (l : Result ℕ Refusal) → called_as l ≡ limited limit (accepted limit) → l ≡ Ok k → (k ≡ limit) × ((limit outside fewest_answered to most_data) ≡ false)
limit_inside limit k l q e = by_inside (limit outside fewest_answered to most_data) limit k (sym (ap called_as e) ∙ q)

pub limit_outside : (limit : ℕ) (l : Result ℕ Refusal) (why : Refusal) → called_as l ≡ limited limit (accepted limit) → l ≡ Err why → (9 ≡ number why) × ((limit outside fewest_answered to most_data) ≡ true)
limit_outside limit l why q e = by_outside (limit outside fewest_answered to most_data) limit (number why) (sym (ap called_as e) ∙ q)

module _ {A : Type 0} (packed : A → List ℕ) (unpacked : List ℕ → A) (limit-at : List ℕ → ℕ) (limit : ℕ) where
  taken : (fresh : A) (before after : List ℕ) → (limit outside fewest_answered to most_data) ≡ false → after ≡ packed fresh → unpacked (packed fresh) ≡ fresh → limit-at (packed fresh) ≡ limit
      → StartIs packed unpacked limit-at limit (limited limit (accepted fresh)) before after 0
  taken fresh before after e p k l =
      let inside : ◌≡◌ {A = Called A} (accepted fresh) (limited limit (accepted fresh)) = sym (if_is_false (limit outside fewest_answered to most_data) (refused 9) (accepted fresh) e) in
      subst (λ (c : Called A). StartIs packed unpacked limit-at limit c before after 0) inside
      (record { returned = refl; words_are = p; unpacked_is = ap unpacked p ∙ k; limit_is = ap limit-at p ∙ l })

  not_taken : (why : ℕ) (before : List ℕ) (r : ℕ) → r ≡ why → StartIs packed unpacked limit-at limit (limited limit (refused why)) before before r
  not_taken why before r p = record { returned = p; words_are = refl; unpacked_is = tt; limit_is = tt }

  too_long : (fresh : A) (l : Result ℕ Refusal) (why : Refusal) (before : List ℕ) (r : ℕ) → called_as l ≡ limited limit (accepted limit) → l ≡ Err why → r ≡ number why → StartIs packed unpacked limit-at limit (limited limit (accepted fresh)) before before r
  too_long fresh l why before r q e p =
      let o = limit_outside limit l why q e in
      let outside_is : ◌≡◌ {A = Called A} (refused 9) (limited limit (accepted fresh)) = sym (if_is_true (limit outside fewest_answered to most_data) (refused 9) (accepted fresh) o.1) in
      subst (λ (c : Called A). StartIs packed unpacked limit-at limit c before before r) outside_is
      (record { returned = p ∙ sym o.0; words_are = refl; unpacked_is = tt; limit_is = tt })

-- a limit that is inside is a byte
pub limit_byte : (limit : ℕ) (b : Bool) → b ≡ (limit outside 2 to 255) → b ≡ false → limit < 256
limit_byte limit b q e = omega (arith, inside_high limit 2 255 b q e)

-- ---- a master

pub master_taken : (limit k : ℕ) (l : Result ℕ Refusal) (m : Master) (before after : List ℕ) → called_as l ≡ limited limit (accepted limit) → l ≡ Ok k → MasterWords.MasterFits m → after ≡ MasterWords.packed k m → MasterIs limit (accepted m) before after 0
master_taken limit k l m before after q e f p =
    let i = limit_inside limit k l q e in
    taken (MasterWords.packed limit) MasterWords.unpacked MasterWords.limit_at limit m before after i.1
    (p ∙ ap (λ (n : ℕ). MasterWords.packed n m) i.0) (master_kept limit m f) (MasterKept.limit_kept limit m (omega (arith, limit_byte limit _ refl i.1)))

pub master_long : (limit : ℕ) (l : Result ℕ Refusal) (why : Refusal) (m : Master) (before : List ℕ) (r : ℕ) → called_as l ≡ limited limit (accepted limit) → l ≡ Err why → r ≡ number why → MasterIs limit (accepted m) before before r
master_long limit l why m before r q e p = too_long (MasterWords.packed limit) MasterWords.unpacked MasterWords.limit_at limit m l why before r q e p

pub master_begun : (limit : ℕ) (x : Result Master Refusal) (m : Master) (before after : List ℕ) (r : ℕ) → x ≡ Ok m → MasterIs limit (accepted m) before after r → MasterIs limit (called_as x) before after r
master_begun limit x m before after r e p = subst (λ (y : Result Master Refusal). MasterIs limit (called_as y) before after r) (sym e) p

pub master_refused : (limit : ℕ) (x : Result Master Refusal) (why : Refusal) (before : List ℕ) (r : ℕ) → x ≡ Err why → r ≡ number why
    → MasterIs limit (called_as x) before before r
master_refused limit x why before r e p = subst (λ (y : Result Master Refusal). MasterIs limit (called_as y) before before r) (sym e) (not_taken (MasterWords.packed limit) MasterWords.unpacked MasterWords.limit_at limit (number why) before r p)

pub master_made : (limit : ℕ) (p q : Profile) (made : Result Profile Refusal) (primary : Bool) (retries : ℕ) (x : Result Master Refusal) (before after : List ℕ) (r : ℕ)
    → called_as made ≡ profile_made p → made ≡ Ok q → called_as x ≡ master_starts q primary retries → MasterIs limit (called_as x) before after r
    → MasterIs limit (master_by (profile_made p) primary retries) before after r
master_made limit p q made primary retries x before after r d e s v =
    subst (λ (c : Called Master). MasterIs limit c before after r) (s ∙ ap (λ (y : Called Profile). master_by y primary retries) (sym (ap called_as e) ∙ d)) v

pub master_unmade : (limit : ℕ) (p : Profile) (why : Refusal) (made : Result Profile Refusal) (primary : Bool) (retries : ℕ) (before : List ℕ) (r : ℕ)
    → called_as made ≡ profile_made p → made ≡ Err why → r ≡ number why
    → MasterIs limit (master_by (profile_made p) primary retries) before before r
master_unmade limit p why made primary retries before r d e n =
    subst (λ (y : Called Profile). MasterIs limit (master_by y primary retries) before before r) (sym (ap called_as e) ∙ d) (not_taken (MasterWords.packed limit) MasterWords.unpacked MasterWords.limit_at limit (number why) before r n)

pub ruleset masters = (refl, master_taken, master_long, master_begun, master_refused, master_made, master_unmade)

-- ---- a device

pub device_taken : (limit k : ℕ) (l : Result ℕ Refusal) (d : Device) (before after : List ℕ) → called_as l ≡ limited limit (accepted limit) → l ≡ Ok k → DeviceFits d → after ≡ DeviceWords.packed k d → DeviceIs limit (accepted d) before after 0
device_taken limit k l d before after q e f p =
    let i = limit_inside limit k l q e in
    taken (DeviceWords.packed limit) DeviceWords.unpacked DeviceWords.limit_at limit d before after i.1
    (p ∙ ap (λ (n : ℕ). DeviceWords.packed n d) i.0) (device_kept limit d f) (DeviceKept.limit_kept limit d (omega (arith, limit_byte limit _ refl i.1)))

pub device_long : (limit : ℕ) (l : Result ℕ Refusal) (why : Refusal) (d : Device) (before : List ℕ) (r : ℕ) → called_as l ≡ limited limit (accepted limit) → l ≡ Err why → r ≡ number why → DeviceIs limit (accepted d) before before r
device_long limit l why d before r q e p = too_long (DeviceWords.packed limit) DeviceWords.unpacked DeviceWords.limit_at limit d l why before r q e p

pub device_begun : (limit : ℕ) (x : Result Device Refusal) (d : Device) (before after : List ℕ) (r : ℕ) → x ≡ Ok d → DeviceIs limit (accepted d) before after r → DeviceIs limit (called_as x) before after r
device_begun limit x d before after r e p = subst (λ (y : Result Device Refusal). DeviceIs limit (called_as y) before after r) (sym e) p

pub device_refused : (limit : ℕ) (x : Result Device Refusal) (why : Refusal) (before : List ℕ) (r : ℕ) → x ≡ Err why → r ≡ number why
    → DeviceIs limit (called_as x) before before r
device_refused limit x why before r e p = subst (λ (y : Result Device Refusal). DeviceIs limit (called_as y) before before r) (sym e) (not_taken (DeviceWords.packed limit) DeviceWords.unpacked DeviceWords.limit_at limit (number why) before r p)

pub device_made : (limit : ℕ) (p q : Profile) (made : Result Profile Refusal) (preamble polling unique : ℕ) (x : Result Device Refusal) (before after : List ℕ) (r : ℕ)
    → called_as made ≡ profile_made p → made ≡ Ok q → called_as x ≡ device_starts q preamble polling unique → DeviceIs limit (called_as x) before after r
    → DeviceIs limit (device_by (profile_made p) preamble polling unique) before after r
device_made limit p q made preamble polling unique x before after r d e s v =
    subst (λ (c : Called Device). DeviceIs limit c before after r) (s ∙ ap (λ (y : Called Profile). device_by y preamble polling unique) (sym (ap called_as e) ∙ d)) v

pub device_unmade : (limit : ℕ) (p : Profile) (why : Refusal) (made : Result Profile Refusal) (preamble polling unique : ℕ) (before : List ℕ) (r : ℕ)
    → called_as made ≡ profile_made p → made ≡ Err why → r ≡ number why
    → DeviceIs limit (device_by (profile_made p) preamble polling unique) before before r
device_unmade limit p why made preamble polling unique before r d e n =
    subst (λ (y : Called Profile). DeviceIs limit (device_by y preamble polling unique) before before r) (sym (ap called_as e) ∙ d) (not_taken (DeviceWords.packed limit) DeviceWords.unpacked DeviceWords.limit_at limit (number why) before r n)

pub ruleset devices = (refl, device_taken, device_long, device_begun, device_refused, device_made, device_unmade)
