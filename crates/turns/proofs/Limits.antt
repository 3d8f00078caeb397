-- The lines of document 01's "Refusals" for master start, master request, device start, device answer and burst content, computed: each number where its condition just holds, what is taken just beside it, and the lowest number where several conditions hold.
use Prim.Native.Nat.{ℕ, ◌-◌, ◌^◌}
use mathlib.Core.Path.{◌≡◌, refl}
use mathlib.Core.Bool.{Bool, true, false}
use mathlib.Core.List.{List, [], ◌∷◌}
use Rattle.base.specs.Choice.{when◌then◌else◌}
use Rattle.frame.specs.Delimiter.{stx}
use Rattle.frame.specs.declared.Header.{Header}
use Rattle.line.specs.Profile.{fsk_profile}
use Rattle.line.specs.Reader.{idle}
use Rattle.turns.specs.Master.{fresh_master, master_starts, requested, requested_up_to}
use Rattle.turns.specs.Master as M
use Rattle.turns.specs.Device.{fresh_device, device_starts, answered, content_given, device_with_content}
use Rattle.turns.specs.Device as D
use Rattle.turns.specs.Settled.{Outcome, taken, refuses, outcome}
use Rattle.turns.specs.declared.Device.{Device}
use Rattle.turns.specs.declared.Master.{Master}
use Rattle.turns.specs.declared.Stage.TheVariants.{Waiting}
use Rattle.turns.specs.declared.Turn.TheVariants.{Asked}
use Rattle.turns.specs.declared.Wish.{Wish}
use Rattle.turns.specs.declared.Wish.TheVariants.{Same, On, Off}

-- ---- master start: "2: R outside 3 to 15"

abbrev pub starts_with : ℕ → Outcome
starts_with retries = outcome (master_starts fsk_profile true retries)

pub master_starts_lem : starts_with 2 ∷ starts_with 3 ∷ starts_with 15 ∷ starts_with 16 ∷ [] ≡ refuses 2 ∷ taken ∷ taken ∷ refuses 2 ∷ []
unfolding when◌then◌else◌
master_starts_lem = refl

-- ---- master request: 3, 4, 5, 6 and 7

abbrev pub ask : Master → ℕ → Bool → ℕ → ℕ → ℕ → Outcome
ask m preamble long address command count = outcome (requested 255 m (record { preamble = preamble; revision = 7; long = long; address = address; command = command }) count)

abbrev pub free : Master
free = fresh_master fsk_profile true 3

abbrev pub busy : Master
busy = M.master_with free idle false free.noted free.timer (M.message_at free.message Waiting)

abbrev pub Requests : Type 0
Requests =
    -- "3: preamble outside 5 to 20"
    (ask free 4 true 2 3 0 ∷ ask free 5 true 2 3 0 ∷ ask free 20 true 2 3 0 ∷ ask free 21 true 2 3 0 ∷ [] ≡ refuses 3 ∷ taken ∷ taken ∷ refuses 3 ∷ []) ×
    -- "4: polling above 63 or unique above 38 bits"
    (ask free 5 false 63 0 0 ∷ ask free 5 false 64 0 0 ∷ ask free 5 true (2 ^ 38 - 1) 3 0 ∷ ask free 5 true (2 ^ 38) 3 0 ∷ [] ≡ taken ∷ refuses 4 ∷ taken ∷ refuses 4 ∷ []) ×
    -- "5: command 254, or a short address with a command but 0"
    (ask free 5 true 2 253 0 ∷ ask free 5 true 2 254 0 ∷ ask free 5 true 2 255 0 ∷ ask free 5 false 2 0 0 ∷ ask free 5 false 2 1 0 ∷ [] ≡ taken ∷ refuses 5 ∷ taken ∷ taken ∷ refuses 5 ∷ []) ×
    -- "6: data above 255; 7: a message is in hand"
    (ask free 5 true 2 3 255 ∷ ask free 5 true 2 3 256 ∷ ask busy 5 true 2 3 0 ∷ [] ≡ taken ∷ refuses 6 ∷ refuses 7 ∷ []) ×
    -- "the lowest applies"
    (ask busy 4 false 64 254 256 ∷ ask busy 5 false 64 254 256 ∷ ask busy 5 false 63 254 256 ∷ ask busy 5 false 63 0 256 ∷ [] ≡ refuses 3 ∷ refuses 4 ∷ refuses 5 ∷ refuses 6 ∷ [])

pub requests : Requests
unfolding requested requested_up_to when◌then◌else◌
requests = (refl, refl, refl, refl, refl)

-- ---- device start: "3; 4, also for unique address 0"

abbrev pub at : ℕ → ℕ → ℕ → Outcome
at preamble polling unique = outcome (device_starts fsk_profile preamble polling unique)

abbrev pub Devices : Type 0
Devices =
    (at 4 0 2 ∷ at 5 0 2 ∷ at 20 0 2 ∷ at 21 0 2 ∷ [] ≡ refuses 3 ∷ taken ∷ taken ∷ refuses 3 ∷ []) ×
    (at 5 63 2 ∷ at 5 64 2 ∷ at 5 0 0 ∷ at 5 0 1 ∷ at 5 0 (2 ^ 38 - 1) ∷ at 5 0 (2 ^ 38) ∷ [] ≡ taken ∷ refuses 4 ∷ refuses 4 ∷ taken ∷ taken ∷ refuses 4 ∷ []) ×
    (at 4 64 0 ∷ [] ≡ refuses 3 ∷ [])

pub device_starts_lem : Devices
unfolding when◌then◌else◌
device_starts_lem = (refl, refl, refl)

-- ---- device answer: 8, 9 and 10

abbrev pub fresh : Device
fresh = fresh_device fsk_profile 5 0 2

-- with a request in hand
abbrev pub asked : Device → Bool → ℕ → ℕ → Device
asked d long address command = D.device_with d idle (Asked 28) (record { kind = stx; long = long; primary = true; burst = false; address = address; command = command }) Same 0 33

abbrev pub with_content : Device
with_content = device_with_content fresh (record { given = true; command = 3; count = 2 })

abbrev pub give : Device → Wish → ℕ → Outcome
give d wish count = outcome (answered 255 d wish count)

abbrev pub Answers : Type 0
Answers =
    -- "8: no request in hand"
    (give fresh Same 2 ∷ give (asked fresh true 2 3) Same 2 ∷ [] ≡ refuses 8 ∷ taken ∷ []) ×
    -- "9: data outside 2 to 255"
    (give (asked fresh true 2 3) Same 1 ∷ give (asked fresh true 2 3) Same 255 ∷ give (asked fresh true 2 3) Same 256 ∷ [] ≡ refuses 9 ∷ taken ∷ refuses 9 ∷ []) ×
    -- "10: burst on without burst content"
    (give (asked fresh true 2 3) On 2 ∷ give (asked with_content true 2 3) On 2 ∷ give (asked fresh true 2 3) Off 2 ∷ [] ≡ refuses 10 ∷ taken ∷ taken ∷ []) ×
    -- "or on or off wished in answer to command 0", and to command 11 by broadcast
    (give (asked with_content false 0 0) Same 2 ∷ give (asked with_content false 0 0) On 2 ∷ give (asked with_content false 0 0) Off 2 ∷ give (asked with_content true 0 11) On 2 ∷ give (asked with_content true 2 11) On 2 ∷ []
    ≡ taken ∷ refuses 10 ∷ refuses 10 ∷ refuses 10 ∷ taken ∷ []) ×
    -- "the lowest applies"
    (give fresh On 1 ∷ give (asked fresh false 0 0) On 1 ∷ [] ≡ refuses 8 ∷ refuses 9 ∷ [])

pub answers : Answers
unfolding answered when◌then◌else◌
answers = (refl, refl, refl, refl, refl)

-- ---- burst content: "5 for command 254; 9"

abbrev pub content : ℕ → ℕ → Outcome
content command count = outcome (content_given 255 fresh command count)

abbrev pub Contents : Type 0
Contents =
    (content 253 2 ∷ content 254 2 ∷ content 255 2 ∷ content 254 1 ∷ [] ≡ taken ∷ refuses 5 ∷ taken ∷ refuses 5 ∷ []) ×
    (content 3 1 ∷ content 3 2 ∷ content 3 255 ∷ content 3 256 ∷ [] ≡ refuses 9 ∷ taken ∷ taken ∷ refuses 9 ∷ [])

pub contents : Contents
unfolding content_given when◌then◌else◌
contents = (refl, refl)
