-- What the hosts were told and answered in the ticks of one call. Of one tick it is what that tick gives; of several the answers are the first tick's, and what was told is the last's.
use Prim.Native.Nat.{ℕ, zero, suc, ◌-◌, ◌<◌}
use native.Mathlib.Omega.{arith}
use mathlib.Core.Bool.{Bool, true, false}
use mathlib.Core.List.{List, [], ◌∷◌, ◌++◌}
use mathlib.Core.Path.{◌≡◌, refl, ap, ◌∙◌}
use lib.ListN.{length, drop, get_or, replicate}
use Rattle.base.specs.Choice.{when◌then◌else◌, ◌<?◌}
use Rattle.base.proofs.Choices.{true_false}
use Rattle.line.specs.declared.Heard.{Heard}
use Rattle.turns.proofs.Bursting.{if_both}
use Rattle.turns.specs.Link.{DeviceSide, MasterStep, DeviceStep, LinkStep, sides, master_tick, device_tick, device_ticks, link_tick, link_after, run}
use Rattle.turns.specs.Link as L
use Rattle.turns.specs.declared.CallResult.{CallResult}
use Rattle.turns.specs.declared.DeviceTold.{DeviceTold}
use Rattle.turns.specs.declared.MasterTold.{MasterTold}
use Rattle.link_parties.specs.Stands.{Rows, link_of, heres, calls_of, uncalled}
use Rattle.link_parties.specs.declared.Calls.{Calls}
use Rattle.link_parties.specs.declared.Link.{Link}
use Rattle.link_parties.specs.declared.DeviceDid.{DeviceDid}
use Rattle.link_parties.specs.declared.MasterDid.{MasterDid}
use Rattle.link_parties.specs.declared.Ticked.{Ticked}
use Rattle.link_ticks.specs.Ticks.{master_host_told, device_host_told, devices_tell, a_host_told, up_to_told, calls_first, at_most, steps_of, link_behind, on_here, codes, codes_of, answer_kept, master_told_kept, device_told_kept, master_did, device_did, master_nothing, device_nothing, masters_do, masters_did, devices_did, RunIs}

-- ---- of one tick

-- the tick with these calls
abbrev pub step_with : ℕ → Link → Calls → List ℕ → Rows → LinkStep
step_with limit l c put x = link_tick limit (link_of l x) (calls_of put (heres l.devices) c)

no_more : (b : Bool) → ◌≡◌ {A = List LinkStep} (when b then [] else []) []
unfolding when◌then◌else◌
no_more true = refl
no_more false = refl

one_step : (limit : ℕ) (l : Link) (c : Calls) (put : List ℕ) (x : Rows) → steps_of limit l c put 1 x ≡ step_with limit l c put x ∷ []
unfolding up_to_told calls_first run when◌then◌else◌
one_step limit l c put x = ap (λ (ss : List LinkStep). step_with limit l c put x ∷ ss) (no_more (a_host_told (step_with limit l c put x)))

module _ (limit : ℕ) (l : Link) (c : Calls) (put : List ℕ) (x x_after : Rows) (sent sent_after : List (List ℕ)) (r : Ticked) (is : RunIs limit l c put 1 x sent r x_after sent_after) where
  pub one_link : link_of r.link x_after ≡ link_after (step_with limit l c put x)
  unfolding link_behind
  one_link = is.link_is ∙ ap (link_behind (link_of l x)) (one_step limit l c put x)

  pub one_row : get_or sent_after 0 [] ≡ codes (heres l.devices) (step_with limit l c put x)
  unfolding codes_of
  one_row =
      ap (λ (rows : List (List ℕ)). get_or rows 0 [])
      (is.sent_is ∙ ap (λ (ss : List LinkStep). codes_of (heres l.devices) ss ++ drop (length ss) sent) (one_step limit l c put x))

  pub one_masters : r.masters ≡ masters_do (step_with limit l c put x) (replicate 2 master_nothing)
  unfolding masters_did
  one_masters = is.masters_are ∙ ap (λ (ss : List LinkStep). masters_did ss (replicate 2 master_nothing)) (one_step limit l c put x)

-- ---- of several ticks

-- the last of some steps
unfoldable pub last_of : LinkStep → List LinkStep → LinkStep
last_of s [] = s
last_of s (t ∷ ss) = last_of t ss

-- what was told in one tick, and answered in another
abbrev pub told_answered : MasterStep → MasterStep → MasterDid
told_answered last first = record { told = last.told; result = answer_kept CallResult.Nothing first.result }

-- steps behind one another: one that tells is the last, and only the first has calls
data Quiet : List DeviceStep → Type 0 where
  quiet_none : Quiet []
  quiet_and : {s : DeviceStep} {ss : List DeviceStep} → s.result ≡ CallResult.Nothing → Quiet ss → Quiet (s ∷ ss)

record Unanswered (s : LinkStep) : Type 0 where
  primary_none : s.for_primary.result ≡ CallResult.Nothing
  secondary_none : s.for_secondary.result ≡ CallResult.Nothing
  devices_none : Quiet s.for_devices

data Course : LinkStep → List LinkStep → Type 0 where
  ends : {s : LinkStep} → Course s []
  goes_on : {s t : LinkStep} {ss : List LinkStep} → a_host_told s ≡ false → length t.for_devices ≡ length s.for_devices → Unanswered t → Course t ss → Course s (t ∷ ss)

no_answers : (limit : ℕ) (heard : Heard) (xs : List DeviceSide) → Quiet (device_ticks limit heard xs [])
unfolding device_ticks device_tick
no_answers limit heard [] = quiet_none
no_answers limit heard (x ∷ xs) = quiet_and refl (no_answers limit heard xs)

unanswered : (limit : ℕ) (l : L.Link) → Unanswered (link_tick limit l uncalled)
unfolding link_tick master_tick
unanswered limit l = record { primary_none = refl; secondary_none = refl; devices_none = no_answers limit l.line l.devices }

-- each device ticks once
pub ticked_each : (limit : ℕ) (heard : Heard) (xs : List DeviceSide) (cs : List L.DeviceCall) → length (device_ticks limit heard xs cs) ≡ length xs
unfolding device_ticks
ticked_each limit heard [] cs = refl
ticked_each limit heard (x ∷ xs) [] = ap suc (ticked_each limit heard xs [])
ticked_each limit heard (x ∷ xs) (c ∷ cs) = ap suc (ticked_each limit heard xs cs)

sides_each : (xs : List DeviceStep) → length (sides xs) ≡ length xs
unfolding sides
sides_each [] = refl
sides_each (x ∷ xs) = ap suc (sides_each xs)

as_many : (limit : ℕ) (s : LinkStep) → length (link_tick limit (link_after s) uncalled).for_devices ≡ length s.for_devices
unfolding link_tick
as_many limit s = ticked_each limit (link_after s).line (sides s.for_devices) [] ∙ sides_each s.for_devices

-- the tick behind a step, and what follows it
abbrev pub next : ℕ → LinkStep → LinkStep
next limit s = link_tick limit (link_after s) uncalled

abbrev pub further : ℕ → ℕ → LinkStep → List LinkStep
further limit n s = when a_host_told s then [] else up_to_told (run limit (link_after s) (replicate n uncalled))

course : (limit n : ℕ) (s : LinkStep) → Course s (further limit n s)
unfolding up_to_told run when◌then◌else◌
course limit zero s = by (a_host_told s)
  where
    by : (b : Bool) → Course s (when b then [] else [])
    by true = ends
    by false = ends
course limit (suc n) s = by (a_host_told s) refl (course limit n (next limit s))
  where
    by : (b : Bool) → a_host_told s ≡ b → Course (next limit s) (further limit n (next limit s)) → Course s (when b then [] else (next limit s ∷ further limit n (next limit s)))
    by true e c = ends
    by false e c = goes_on e (as_many limit s) (unanswered limit (link_after s)) c

-- ---- the masters

master_told : (t : MasterTold) → master_told_kept MasterTold.Nothing t ≡ t
master_told MasterTold.Nothing = refl
master_told (MasterTold.Answered w) = refl
master_told (MasterTold.GivenUp n) = refl
master_told MasterTold.BroadcastSent = refl

tells_nothing : (t : MasterTold) (others : Bool) → master_host_told t others ≡ false → (t ≡ MasterTold.Nothing) × (others ≡ false)
tells_nothing MasterTold.Nothing others e = (refl, e)
tells_nothing (MasterTold.Answered w) others e = absurd (true_false e)
tells_nothing (MasterTold.GivenUp n) others e = absurd (true_false e)
tells_nothing MasterTold.BroadcastSent others e = absurd (true_false e)

-- a tick more of one master: it tells what it tells, and its answer stays
master_on : (s t : MasterStep) (a : CallResult) → s.told ≡ MasterTold.Nothing → t.result ≡ CallResult.Nothing → master_did t (record { told = s.told; result = a }) ≡ record { told = t.told; result = a }
master_on s t a e f = (λ i. record { told = master_told_kept (e i) t.told; result = answer_kept a (f i) }) ∙ (λ i. record { told = master_told t.told i; result = a })

masters_on : (s : LinkStep) (ss : List LinkStep) (a b : CallResult) → Course s ss
    → masters_did ss (record { told = s.for_primary.told; result = a } ∷ record { told = s.for_secondary.told; result = b } ∷ [])
    ≡ record { told = (last_of s ss).for_primary.told; result = a } ∷ record { told = (last_of s ss).for_secondary.told; result = b } ∷ []
unfolding masters_did last_of
masters_on s [] a b ends = refl
masters_on s (t ∷ ss) a b (goes_on e k u c) =
    let p = tells_nothing s.for_primary.told _ e in
    let q = tells_nothing s.for_secondary.told _ p.1 in
    (λ i. masters_did ss (master_on s.for_primary t.for_primary a p.0 u.primary_none i ∷ master_on s.for_secondary t.for_secondary b q.0 u.secondary_none i ∷ []))
    ∙ masters_on t ss a b c

-- ---- the devices

device_told_lem : (t : DeviceTold) → device_told_kept DeviceTold.Nothing t ≡ t
device_told_lem DeviceTold.Nothing = refl
device_told_lem (DeviceTold.Request w) = refl
device_told_lem (DeviceTold.Broadcast w) = refl

data Silent : List DeviceStep → Type 0 where
  silent_none : Silent []
  silent_and : {s : DeviceStep} {ss : List DeviceStep} → s.told ≡ DeviceTold.Nothing → Silent ss → Silent (s ∷ ss)

tell_nothing : (ss : List DeviceStep) → devices_tell ss false ≡ false → Silent ss
unfolding devices_tell
tell_nothing [] e = silent_none
tell_nothing (s ∷ ss) e = by s.told refl e (λ f. tell_nothing ss f)
  where
    by : (t : DeviceTold) → s.told ≡ t → device_host_told t (devices_tell ss false) ≡ false → (devices_tell ss false ≡ false → Silent ss) → Silent (s ∷ ss)
    by DeviceTold.Nothing k f others = silent_and k (others f)
    by (DeviceTold.Request w) k f others = absurd (true_false f)
    by (DeviceTold.Broadcast w) k f others = absurd (true_false f)

-- what each device's host was told in one tick, beside what became of its call
abbrev pub device_told : DeviceStep → DeviceDid → DeviceDid
device_told s old = record { told = s.told; result = old.result }

device_on : (s t : DeviceStep) (old : DeviceDid) → s.told ≡ DeviceTold.Nothing → t.result ≡ CallResult.Nothing → device_did t (device_told s old) ≡ device_told t old
device_on s t old e f = (λ i. record { told = device_told_kept (e i) t.told; result = answer_kept old.result (f i) }) ∙ (λ i. record { told = device_told_lem t.told i; result = old.result })

slots_on : (hs : List Bool) (xs ys : List DeviceStep) (ds : List DeviceDid) → length ys ≡ length xs → Silent xs → Quiet ys → on_here device_did hs ys (on_here device_told hs xs ds) ≡ on_here device_told hs ys ds
unfolding on_here
slots_on hs xs ys [] e s q = refl
slots_on [] xs ys (d ∷ ds) e s q = refl
slots_on (false ∷ hs) xs ys (d ∷ ds) e s q = ap (λ (l : List DeviceDid). d ∷ l) (slots_on hs xs ys ds e s q)
slots_on (true ∷ hs) [] [] (d ∷ ds) e silent_none quiet_none = ap (λ (l : List DeviceDid). d ∷ l) (slots_on hs [] [] ds e silent_none quiet_none)
slots_on (true ∷ hs) [] (y ∷ ys) (d ∷ ds) e s q = absurd (omega (arith, e))
slots_on (true ∷ hs) (x ∷ xs) [] (d ∷ ds) e s q = absurd (omega (arith, e))
slots_on (true ∷ hs) (x ∷ xs) (y ∷ ys) (d ∷ ds) e (silent_and k s) (quiet_and f q) = λ i. device_on x y d k f i ∷ slots_on hs xs ys ds (omega (arith, e)) s q i

devices_on : (hs : List Bool) (s : LinkStep) (ss : List LinkStep) (ds : List DeviceDid) → Course s ss
    → devices_did hs ss (on_here device_told hs s.for_devices ds) ≡ on_here device_told hs (last_of s ss).for_devices ds
unfolding devices_did last_of
devices_on hs s [] ds ends = refl
devices_on hs s (t ∷ ss) ds (goes_on e k u c) =
    let p = tells_nothing s.for_primary.told _ e in
    let q = tells_nothing s.for_secondary.told _ p.1 in
    ap (devices_did hs ss) (slots_on hs s.for_devices t.for_devices ds k (tell_nothing s.for_devices q.1) u.devices_none)
    ∙ devices_on hs t ss ds c

-- a host that was told nothing yet and had no answer
abbrev pub device_answered : DeviceStep → DeviceDid → DeviceDid
device_answered s old = record { told = DeviceTold.Nothing; result = answer_kept CallResult.Nothing s.result }

slots_first : (hs : List Bool) (xs : List DeviceStep) (n : ℕ)
    → on_here device_did hs xs (replicate n device_nothing) ≡ on_here device_told hs xs (on_here device_answered hs xs (replicate n device_nothing))
unfolding on_here
slots_first hs xs zero = refl
slots_first [] xs (suc n) = refl
slots_first (false ∷ hs) xs (suc n) = ap (λ (l : List DeviceDid). device_nothing ∷ l) (slots_first hs xs n)
slots_first (true ∷ hs) [] (suc n) = ap (λ (l : List DeviceDid). device_nothing ∷ l) (slots_first hs [] n)
slots_first (true ∷ hs) (x ∷ xs) (suc n) = λ i. record { told = device_told_lem x.told i; result = answer_kept CallResult.Nothing x.result } ∷ slots_first hs xs n i

-- ---- the ticks of one call

module _ (limit : ℕ) (l : Link) (c : Calls) (put : List ℕ) (x x_after : Rows) (sent sent_after : List (List ℕ)) (most : ℕ) (r : Ticked) (is : RunIs limit l c put (suc most) x sent r x_after sent_after) where
  -- the first tick, and those behind it
  abbrev pub first : LinkStep
  first = step_with limit l c put x

  abbrev pub later : List LinkStep
  later = further limit (at_most (suc most) - 1) first

  steps_are : steps_of limit l c put (suc most) x ≡ first ∷ later
  unfolding up_to_told run calls_first
  steps_are = ap (λ (n : ℕ). up_to_told (run limit (link_of l x) (calls_first n (calls_of put (heres l.devices) c)))) (some most)
    where
      at_least : (n : ℕ) → 0 < at_most (suc n)
      at_least n = if_both (λ (k : ℕ). 0 < k) (suc n <? 64) (suc n) 64 (omega arith) (omega arith)

      some : (n : ℕ) → at_most (suc n) ≡ suc (at_most (suc n) - 1)
      some n = omega (arith, at_least n)

  -- each master's host: answered in the first tick, told in the last
  pub masters_told_last : r.masters ≡ told_answered (last_of first later).for_primary first.for_primary ∷ told_answered (last_of first later).for_secondary first.for_secondary ∷ []
  unfolding masters_did
  masters_told_last =
      is.masters_are
      ∙ ap (λ (ss : List LinkStep). masters_did ss (replicate 2 master_nothing)) steps_are
      ∙ (λ i. masters_did later
      (record { told = master_told first.for_primary.told i; result = answer_kept CallResult.Nothing first.for_primary.result }
      ∷ record { told = master_told first.for_secondary.told i; result = answer_kept CallResult.Nothing first.for_secondary.result } ∷ []))
      ∙ masters_on first later _ _ (course limit (at_most (suc most) - 1) first)

  -- each device's host alike
  pub devices_told_last : r.devices ≡ on_here device_told (heres l.devices) (last_of first later).for_devices (on_here device_answered (heres l.devices) first.for_devices (replicate 6 device_nothing))
  unfolding devices_did
  devices_told_last =
      is.devices_are
      ∙ ap (λ (ss : List LinkStep). devices_did (heres l.devices) ss (replicate 6 device_nothing)) steps_are
      ∙ ap (devices_did (heres l.devices) later) (slots_first (heres l.devices) first.for_devices 6)
      ∙ devices_on (heres l.devices) first later _ (course limit (at_most (suc most) - 1) first)
