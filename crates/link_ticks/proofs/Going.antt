-- The loop over the ticks: what is left gives what the whole gives.
use Prim.Native.Nat.{ℕ, suc, zero, ◌+◌, ◌-◌, ◌≤◌, ◌<◌}
use native.Mathlib.Nat.{le_of_lt}
use native.Mathlib.Numerals.{add-one}
use native.Mathlib.Omega.{arith}
use borrow.Author.Tests.{ltb-false, ltb-true}
use mathlib.Core.Bool.{Bool, true, false}
use mathlib.Core.List.{List, [], ◌∷◌, ◌++◌, append-nil, append_assoc}
use mathlib.Core.Path.{◌≡◌, refl, sym, ap, subst, ◌∙◌}
use lib.ListN.{length, drop, get_or, set, replicate, length-append, length-replicate, get_or-replicate, drop_of_length-le}
use lib.Seq.{drop-cons, set_at}
use Rattle.std.specs.Prelude.{Option, Some, None}
use Rattle.base.specs.Choice.{when◌then◌else◌, ◌<?◌}
use Rattle.base.proofs.Choices.{true_false, if_is_true, if_is_false, went_then, went_else}
use Rattle.line.specs.declared.Heard.{Heard}
use Rattle.line.specs.declared.Heard.TheVariants.{Silence}
use Rattle.turns.specs.Link.{DeviceSide, DeviceStep, MasterStep, LinkStep, no_call, joins, sides, carried, device_tick, device_ticks, link_tick, link_after, run}
use Rattle.turns.specs.Link as L
use Rattle.turns.specs.Run.{EachTick, no_tick, tick_and}
use Rattle.turns.specs.declared.Device.{Device}
use Rattle.turns.specs.declared.Master.{Master}
use Rattle.master.specs.Tick as M
use Rattle.party.specs.Numbers.{sent_number}
use Rattle.link_parties.specs.Stands.{Rows, rows_of, any_master, device_at, devices_from, link_of, heres, master_call_of, device_call_of, device_calls_from, calls_of, uncalled, no_master_call, no_device_call}
use Rattle.link_parties.specs.declared.DeviceCallWithPart.{DeviceCallWithPart}
use Rattle.link_parties.specs.declared.DeviceDid.{DeviceDid}
use Rattle.link_parties.specs.declared.MasterCallWithPart.{MasterCallWithPart}
use Rattle.link_parties.specs.declared.MasterDid.{MasterDid}
use Rattle.link_ticks.specs.Ticks.{master_host_told, a_host_told, devices_tell, up_to_told, calls_first, master_call_in, device_call_in, goes_on, at_most, steps_of, link_behind, on_here, device_code, device_did, codes, codes_of, SendsByte, SendBytes, master_did, master_nothing, device_nothing, masters_do, devices_do, masters_did, devices_did, link_with, calls_with, SlotStays, RunIs}
use Rattle.link_ticks.proofs.Lists.{any_default}
use Rattle.link_ticks.proofs.Devices.{At, steps_from, Ticking, ticking_none}
use Rattle.link_ticks.proofs.Masters.{MastersAt, step_of, line_from, told_from, MastersTicking, masters_none}

-- ---- a tick's calls

-- the devices' steps are the ticks of turns
abbrev pub device_call_at : ℕ → List DeviceCallWithPart → ℕ → DeviceCallWithPart
device_call_at t cs i = device_call_in t (get_or cs i no_device_call)

abbrev pub master_call_at : ℕ → List MasterCallWithPart → ℕ → MasterCallWithPart
master_call_at t cs i = master_call_in t (get_or cs i no_master_call)

module _ (limit : ℕ) (heard : Heard) (put : List ℕ) (x : Rows) where
  first_steps : (cs : List DeviceCallWithPart) (i : ℕ) (ss : List (Option Device)) → steps_from limit heard put (device_call_at 0 cs) x i ss ≡ device_ticks limit heard (devices_from x i ss) (device_calls_from put cs i (heres ss))
  unfolding steps_from device_ticks devices_from device_calls_from when◌then◌else◌
  first_steps cs i [] = refl
  first_steps cs i (None ∷ ss) = first_steps cs (suc i) ss
  first_steps cs i (Some d ∷ ss) = ap (λ (l : List DeviceStep). device_tick limit (device_at x i d) heard (device_call_of put (get_or cs i no_device_call)) ∷ l) (first_steps cs (suc i) ss)

  later_steps : (t : ℕ) (cs : List DeviceCallWithPart) (i : ℕ) (ss : List (Option Device)) → steps_from limit heard put (device_call_at (suc t) cs) x i ss ≡ device_ticks limit heard (devices_from x i ss) []
  unfolding steps_from device_ticks devices_from when◌then◌else◌
  later_steps t cs i [] = refl
  later_steps t cs i (None ∷ ss) = later_steps t cs (suc i) ss
  later_steps t cs i (Some d ∷ ss) = ap (λ (l : List DeviceStep). device_tick limit (device_at x i d) heard no_call ∷ l) (later_steps t cs (suc i) ss)

-- the calls of the tick with this number
abbrev pub calls_in : ℕ → List ℕ → List Bool → List MasterCallWithPart → List DeviceCallWithPart → L.Calls
calls_in zero put hs ms ds = calls_of put hs (calls_with ms ds)
calls_in (suc t) put hs ms ds = uncalled

-- what all do in it
abbrev pub step_in : ℕ → ℕ → List ℕ → List MasterCallWithPart → List DeviceCallWithPart → Heard → Rows → List Master → List (Option Device) → LinkStep
step_in limit t put ms-calls ds-calls heard x ms ss = record {
  for_primary = step_of limit heard put (master_call_at t ms-calls) (record { masters = ms; rows = x; row = []; dids = []; told = false; line = Silence }) 0;
  for_secondary = step_of limit heard put (master_call_at t ms-calls) (record { masters = ms; rows = x; row = []; dids = []; told = false; line = Silence }) 1;
  for_devices = steps_from limit heard put (device_call_at t ds-calls) x 0 ss;
}

step_is : (limit t : ℕ) (put : List ℕ) (ms-calls : List MasterCallWithPart) (ds-calls : List DeviceCallWithPart) (heard : Heard) (x : Rows) (ms : List Master) (ss : List (Option Device))
    → step_in limit t put ms-calls ds-calls heard x ms ss ≡ link_tick limit (link_of (link_with ms ss heard) x) (calls_in t put (heres ss) ms-calls ds-calls)
unfolding link_tick when◌then◌else◌
step_is limit zero put ms-calls ds-calls heard x ms ss = λ n. record {
  for_primary = (step_in limit zero put ms-calls ds-calls heard x ms ss).for_primary;
  for_secondary = (step_in limit zero put ms-calls ds-calls heard x ms ss).for_secondary;
  for_devices = first_steps limit heard put x ds-calls 0 ss n;
}
step_is limit (suc t) put ms-calls ds-calls heard x ms ss = λ n. record {
  for_primary = (step_in limit (suc t) put ms-calls ds-calls heard x ms ss).for_primary;
  for_secondary = (step_in limit (suc t) put ms-calls ds-calls heard x ms ss).for_secondary;
  for_devices = later_steps limit heard put x t ds-calls 0 ss n;
}

-- the calls that are left
calls_length : (n : ℕ) (c : L.Calls) → length (calls_first n c) ≡ n
unfolding calls_first
calls_length zero c = refl
calls_length (suc n) c = ap suc (length-replicate n uncalled)

calls_left : (t n : ℕ) (put : List ℕ) (hs : List Bool) (ms : List MasterCallWithPart) (ds : List DeviceCallWithPart) → t < n
    → drop t (calls_first n (calls_of put hs (calls_with ms ds))) ≡ calls_in t put hs ms ds ∷ drop (suc t) (calls_first n (calls_of put hs (calls_with ms ds)))
unfolding calls_first
calls_left t zero put hs ms ds h = absurd (omega arith)
calls_left zero (suc n) put hs ms ds h = refl
calls_left (suc t) (suc n) put hs ms ds h =
    drop-cons (replicate n uncalled) t uncalled (omega (arith, length-replicate n uncalled))
    ∙ ap (λ (c : L.Calls). c ∷ drop (suc t) (replicate n uncalled)) (get_or-replicate n t uncalled uncalled (omega arith))

-- ---- one tick more

behind_more : (l : L.Link) (ss : List LinkStep) (s : LinkStep) → link_behind l (ss ++ (s ∷ [])) ≡ link_after s
unfolding link_behind
behind_more l [] s = refl
behind_more l (x ∷ ss) s = behind_more (link_after x) ss s

codes_more : (hs : List Bool) (ss : List LinkStep) (s : LinkStep) → codes_of hs (ss ++ (s ∷ [])) ≡ codes_of hs ss ++ (codes hs s ∷ [])
unfolding codes_of
codes_more hs [] s = refl
codes_more hs (x ∷ ss) s = ap (λ (l : List (List ℕ)). codes hs x ∷ l) (codes_more hs ss s)

codes_length : (hs : List Bool) (ss : List LinkStep) → length (codes_of hs ss) ≡ length ss
unfolding codes_of
codes_length hs [] = refl
codes_length hs (x ∷ ss) = ap suc (codes_length hs ss)

each_more : {P : LinkStep → Type 0} {ss : List LinkStep} {s : LinkStep} → EachTick P ss → P s → EachTick P (ss ++ (s ∷ []))
each_more no_tick q = tick_and q no_tick
each_more (tick_and p ps) q = tick_and p (each_more ps q)

masters_more : (ss : List LinkStep) (s : LinkStep) (ds : List MasterDid) → masters_did (ss ++ (s ∷ [])) ds ≡ masters_do s (masters_did ss ds)
unfolding masters_did
masters_more [] s ds = refl
masters_more (x ∷ ss) s ds = masters_more ss s (masters_do x ds)

devices_more : (hs : List Bool) (ss : List LinkStep) (s : LinkStep) (ds : List DeviceDid) → devices_did hs (ss ++ (s ∷ [])) ds ≡ devices_do hs s (devices_did hs ss ds)
unfolding devices_did
devices_more hs [] s ds = refl
devices_more hs (x ∷ ss) s ds = devices_more hs ss s (devices_do hs x ds)

-- a row stored behind those of the ticks before
row_more : (rows : List (List ℕ)) (sent : List (List ℕ)) (r : List ℕ) (t : ℕ) → length rows ≡ t → t < length sent
    → set (rows ++ drop t sent) t r ≡ (rows ++ (r ∷ [])) ++ drop (t + 1) sent
row_more rows sent r t e h =
    ap (λ (l : List (List ℕ)). set (rows ++ l) t r) (drop-cons sent t [] h)
    ∙ set_at rows (get_or sent t []) (drop (suc t) sent) r t e
    ∙ sym (append_assoc rows (r ∷ []) (drop (suc t) sent))
    ∙ ap (λ (n : ℕ). (rows ++ (r ∷ [])) ++ drop n sent) (sym (add-one t))

-- two elements in front of the others
two_in_front : (xs : List ℕ) (a b d : ℕ) (ys : List ℕ) → 1 < length xs → get_or xs 0 d ≡ a → get_or xs 1 d ≡ b → drop 2 xs ≡ ys → xs ≡ a ∷ b ∷ ys
two_in_front [] a b d ys h p q r = absurd (omega arith)
two_in_front (x ∷ []) a b d ys h p q r = absurd (omega arith)
two_in_front (x ∷ y ∷ xs) a b d ys h p q r = λ n. p n ∷ q n ∷ r n

just_two : {A : Type 0} (xs : List A) (a b d : A) → length xs ≡ 2 → get_or xs 0 d ≡ a → get_or xs 1 d ≡ b → xs ≡ a ∷ b ∷ []
just_two [] a b d h p q = absurd (omega (arith, h))
just_two (x ∷ []) a b d h p q = absurd (omega (arith, h))
just_two (x ∷ y ∷ []) a b d h p q = λ n. p n ∷ q n ∷ []
just_two (x ∷ y ∷ z ∷ xs) a b d h p q = absurd (omega (arith, h))

-- ---- the loop

-- where it stands
pub record Stand : Type 0 where
  pub masters : List Master
  pub slots : List (Option Device)
  pub line : Heard
  pub rows : Rows
  pub sent : List (List ℕ)
  pub masters_did_lem : List MasterDid
  pub devices_did_lem : List DeviceDid
  pub told : Bool

abbrev pub standing : List Master → List (Option Device) → Heard → List (List ℕ) → List (List ℕ) → List (List ℕ) → List (List ℕ) → List MasterDid → List DeviceDid → Bool → Stand
standing ms ss line frames bytes contents sent mdids ddids told = record { masters = ms; slots = ss; line = line; rows = rows_of frames bytes contents; sent = sent; masters_did_lem = mdids; devices_did_lem = ddids; told = told }

abbrev pub link_now : Stand → L.Link
link_now a = link_of (link_with a.masters a.slots a.line) a.rows

module _ (limit : ℕ) (put : List ℕ) (most : ℕ) (ms-calls : List MasterCallWithPart) (ds-calls : List DeviceCallWithPart) where
  abbrev pub left_of : Stand → Stand → ℕ → List LinkStep
  left_of a b t = when b.told then [] else up_to_told (run limit (link_now b) (drop t (calls_first (at_most most) (calls_of put (heres a.slots) (calls_with ms-calls ds-calls)))))

  abbrev pub whole_of : Stand → List LinkStep
  whole_of a = steps_of limit (link_with a.masters a.slots a.line) (calls_with ms-calls ds-calls) put most a.rows

  pub record Going (a b : Stand) (t : ℕ) : Type 0 where
    pub two : length b.masters ≡ 2
    pub six : length b.slots ≡ 6
    pub frames_eight : length b.rows.frames ≡ 8
    pub bytes_eight : length b.rows.bytes ≡ 8
    pub contents_six : length b.rows.contents ≡ 6
    pub sent_all : length a.sent ≡ 64
    pub requests_two : length ms-calls ≡ 2
    pub calls_six : length ds-calls ≡ 6
    pub dids_two : length b.masters_did_lem ≡ 2
    pub dids_six : length b.devices_did_lem ≡ 6
    pub within : t ≤ 64
    pub steps : List LinkStep
    pub left : whole_of a ≡ steps ++ left_of a b t
    pub count_is : length steps ≡ t
    pub link_is : link_now b ≡ link_behind (link_now a) steps
    pub flags : heres b.slots ≡ heres a.slots
    pub absent_stay : (i : ℕ) → get_or (heres a.slots) i true ≡ false → SlotStays i a.slots a.rows b.slots b.rows
    pub sent_is : b.sent ≡ codes_of (heres a.slots) steps ++ drop t a.sent
    pub bytes_sent : EachTick SendBytes steps
    pub masters_are : b.masters_did_lem ≡ masters_did steps (replicate 2 master_nothing)
    pub devices_are : b.devices_did_lem ≡ devices_did (heres a.slots) steps (replicate 6 device_nothing)

  pub going_none : (a : Stand) → length a.masters ≡ 2 → length a.slots ≡ 6 → length a.rows.frames ≡ 8 → length a.rows.bytes ≡ 8 → length a.rows.contents ≡ 6 → length a.sent ≡ 64 → length ms-calls ≡ 2 → length ds-calls ≡ 6
      → a.masters_did_lem ≡ replicate 2 master_nothing → a.devices_did_lem ≡ replicate 6 device_nothing → a.told ≡ false → Going a a 0
  unfolding link_behind codes_of masters_did devices_did
  going_none a m s f y z e r g p q h = record {
    two = m;
    six = s;
    frames_eight = f;
    bytes_eight = y;
    contents_six = z;
    sent_all = e;
    requests_two = r;
    calls_six = g;
    dids_two = ap length p ∙ length-replicate 2 master_nothing;
    dids_six = ap length q ∙ length-replicate 6 device_nothing;
    within = omega arith;
    steps = [];
    left = sym (if_is_false a.told [] _ h);
    count_is = refl;
    link_is = refl;
    flags = refl;
    absent_stay = λ i h. record { slot = λ x. refl; frame = refl; bytes = refl; contents = refl };
    sent_is = refl;
    bytes_sent = no_tick;
    masters_are = p;
    devices_are = q;
  }

  abbrev left_calls : Stand → ℕ → List L.Calls
  left_calls a t = drop t (calls_first (at_most most) (calls_of put (heres a.slots) (calls_with ms-calls ds-calls)))

  -- a tick of all, by the two loops
  module _ (a b : Stand) (t : ℕ) (v : Going a b t) (calm : b.told ≡ false) (goes : t < at_most most) where
    abbrev heard_at : Heard
    heard_at = b.line

    abbrev dcall : ℕ → DeviceCallWithPart
    dcall = device_call_at t ds-calls

    abbrev mcall : ℕ → MasterCallWithPart
    mcall = master_call_at t ms-calls

    abbrev step : LinkStep
    step = step_in limit t put ms-calls ds-calls b.line b.rows b.masters b.slots

    step_turns : step ≡ link_tick limit (link_now b) (calls_in t put (heres a.slots) ms-calls ds-calls)
    step_turns =
        step_is limit t put ms-calls ds-calls b.line b.rows b.masters b.slots
        ∙ ap (λ (hs : List Bool). link_tick limit (link_now b) (calls_in t put hs ms-calls ds-calls)) v.flags

    -- what the ticks left are, with this one in front
    left_is : left_of a b t ≡ step ∷ (when a_host_told step then [] else up_to_told (run limit (link_after step) (left_calls a (suc t))))
    unfolding run up_to_told
    left_is =
        if_is_false b.told [] _ calm
        ∙ ap (λ (cs : List L.Calls). up_to_told (run limit (link_now b) cs)) (calls_left t (at_most most) put (heres a.slots) ms-calls ds-calls goes)
        ∙ ap (λ (s : LinkStep). s ∷ (when a_host_told s then [] else up_to_told (run limit (link_after s) (left_calls a (suc t))))) (sym step_turns)

    module _ (row : List ℕ) (d : At) (m : MastersAt) (blank : row ≡ replicate 8 0)
        (w : Ticking limit b.line put dcall (record { slots = b.slots; rows = b.rows; row = row; dids = b.devices_did_lem; told = b.told; line = Silence }) d 0)
        (z : MastersTicking limit b.line put mcall (record { masters = b.masters; rows = d.rows; row = d.row; dids = b.masters_did_lem; told = d.told; line = d.line }) m 0) where
      abbrev before_masters : MastersAt
      before_masters = record { masters = b.masters; rows = d.rows; row = d.row; dids = b.masters_did_lem; told = d.told; line = d.line }

      abbrev next : Stand
      next = record { masters = m.masters; slots = d.slots; line = m.line; rows = m.rows; sent = set b.sent t m.row; masters_did_lem = m.dids; devices_did_lem = d.dids; told = m.told }

      -- the devices' loop leaves the masters' rows
      master_step : (j : ℕ) → j < 2 → step_of limit b.line put mcall before_masters j ≡ step_of limit b.line put mcall (record { masters = b.masters; rows = b.rows; row = []; dids = []; told = false; line = Silence }) j
      master_step j h = λ n. L.master_tick limit
          (M.side_of (get_or b.masters j any_master) (w.frames_left j [] (omega (arith, h)) n) (w.bytes_left j [] (omega (arith, h)) n))
          b.line (master_call_of put (mcall j))

      primary_is : step_of limit b.line put mcall before_masters 0 ≡ step.for_primary
      primary_is = master_step 0 (omega arith)

      secondary_is : step_of limit b.line put mcall before_masters 1 ≡ step.for_secondary
      secondary_is = master_step 1 (omega arith)

      link_after_lem : link_now next ≡ link_after step
      unfolding line_from
      link_after_lem = λ n. record {
        primary = ((z.done 0 (omega arith) (omega arith)).side_is ∙ ap (λ (s : MasterStep). s.side) primary_is) n;
        secondary = ((z.done 1 (omega arith) (omega arith)).side_is ∙ ap (λ (s : MasterStep). s.side) secondary_is) n;
        devices = (z.devices_stay d.slots ∙ w.sides_are) n;
        line = (z.line_is ∙ (λ i. joins (primary_is i).sent (joins (secondary_is i).sent (w.line_is i)))) n;
      }

      tells_is : m.told ≡ a_host_told step
      unfolding told_from
      tells_is =
          z.told_is
          ∙ (λ i. master_host_told (primary_is i).told (master_host_told (secondary_is i).told (w.told_is i)))
          ∙ ap (λ (x : Bool). master_host_told step.for_primary.told (master_host_told step.for_secondary.told (devices_tell step.for_devices x))) calm

      row_is : m.row ≡ codes (heres a.slots) step
      row_is =
          two_in_front m.row _ _ 0 _ (omega (arith, z.row_eight))
          ((z.done 0 (omega arith) (omega arith)).code_is ∙ ap (λ (s : MasterStep). sent_number s.sent) primary_is)
          ((z.done 1 (omega arith) (omega arith)).code_is ∙ ap (λ (s : MasterStep). sent_number s.sent) secondary_is)
          (z.row_stays ∙ w.codes_are ∙ (λ i. on_here device_code (v.flags i) step.for_devices (drop 2 (blank i))))

      send_bytes : SendBytes step
      send_bytes = record {
        primary = subst (λ (s : MasterStep). SendsByte s.sent) primary_is (z.done 0 (omega arith) (omega arith)).byte_sent;
        secondary = subst (λ (s : MasterStep). SendsByte s.sent) secondary_is (z.done 1 (omega arith) (omega arith)).byte_sent;
        devices = w.bytes_sent;
      }

      masters_do_lem : m.dids ≡ masters_do step b.masters_did_lem
      masters_do_lem =
          just_two m.dids _ _ master_nothing z.dids_two
          ((z.done 0 (omega arith) (omega arith)).did_is ∙ ap (λ (s : MasterStep). master_did s (get_or b.masters_did_lem 0 master_nothing)) primary_is)
          ((z.done 1 (omega arith) (omega arith)).did_is ∙ ap (λ (s : MasterStep). master_did s (get_or b.masters_did_lem 1 master_nothing)) secondary_is)

      devices_do_lem : d.dids ≡ devices_do (heres a.slots) step b.devices_did_lem
      devices_do_lem = w.dids_are ∙ ap (λ (hs : List Bool). on_here device_did hs step.for_devices b.devices_did_lem) v.flags

      stays_on : (i : ℕ) → get_or (heres a.slots) i true ≡ false → SlotStays i a.slots a.rows d.slots m.rows
      stays_on i gone =
          let old = v.absent_stay i gone in
          let own = w.absent_stay i (ap (λ (hs : List Bool). get_or hs i true) v.flags ∙ gone) in
          record {
            slot = λ x. own.slot x ∙ old.slot x;
            frame = z.frames_stay i ∙ own.frame ∙ old.frame;
            bytes = z.bytes_stay i ∙ own.bytes ∙ old.bytes;
            contents = ap (λ (l : List (List ℕ)). get_or l i []) z.contents_stay ∙ own.contents ∙ old.contents;
          }

      pub going_more : t < 64 → Going a next (t + 1)
      going_more below = record {
        two = z.two;
        six = w.six;
        frames_eight = z.frames_eight;
        bytes_eight = z.bytes_eight;
        contents_six = ap length z.contents_stay ∙ w.contents_six;
        sent_all = v.sent_all;
        requests_two = v.requests_two;
        calls_six = v.calls_six;
        dids_two = z.dids_two;
        dids_six = w.dids_six;
        within = omega (arith, below);
        steps = v.steps ++ (step ∷ []);
        left =
            v.left
            ∙ ap (λ (l : List LinkStep). v.steps ++ l) left_is
            ∙ sym (append_assoc v.steps (step ∷ []) _)
            ∙ (λ i. (v.steps ++ (step ∷ [])) ++ (when sym tells_is i then [] else up_to_told (run limit (sym link_after_lem i) (left_calls a (sym (add-one t) i)))));
        count_is = length-append v.steps (step ∷ []) ∙ ap (λ (n : ℕ). n + 1) v.count_is;
        link_is = link_after_lem ∙ sym (behind_more (link_now a) v.steps step);
        flags = w.flags ∙ v.flags;
        absent_stay = stays_on;
        sent_is =
            (λ i. set (v.sent_is i) t (row_is i))
            ∙ row_more (codes_of (heres a.slots) v.steps) a.sent (codes (heres a.slots) step) t (codes_length (heres a.slots) v.steps ∙ v.count_is) (omega (arith, v.sent_all, below))
            ∙ ap (λ (l : List (List ℕ)). l ++ drop (t + 1) a.sent) (sym (codes_more (heres a.slots) v.steps step));
        bytes_sent = each_more v.bytes_sent send_bytes;
        masters_are = masters_do_lem ∙ ap (masters_do step) v.masters_are ∙ sym (masters_more v.steps step (replicate 2 master_nothing));
        devices_are = devices_do_lem ∙ ap (devices_do (heres a.slots) step) v.devices_are ∙ sym (devices_more (heres a.slots) v.steps step (replicate 6 device_nothing));
      }

  -- ---- the end

  at_most_64 : at_most most ≤ 64
  unfolding when◌then◌else◌
  at_most_64 = by (most <? 64) refl
    where
      by : (x : Bool) → (most <? 64) ≡ x → (when x then most else 64) ≤ 64
      by true k = le_of_lt (ltb-true most 64 k)
      by false k = omega arith

  at_most_most : at_most most ≤ most
  unfolding when◌then◌else◌
  at_most_most = by (most <? 64) refl
    where
      by : (x : Bool) → (most <? 64) ≡ x → (when x then most else 64) ≤ most
      by true k = omega arith
      by false k = ltb-false most 64 k

  none_left : (a b : Stand) (t : ℕ) → at_most most ≤ t → left_of a b t ≡ []
  unfolding run up_to_told when◌then◌else◌
  none_left a b t h =
      ap (λ (cs : List L.Calls). when b.told then [] else up_to_told (run limit (link_now b) cs)) (drop_of_length-le (calls_first (at_most most) (calls_of put (heres a.slots) (calls_with ms-calls ds-calls))) {i = t} (omega (arith, calls_length (at_most most) (calls_of put (heres a.slots) (calls_with ms-calls ds-calls)), h)))
      ∙ same b.told
    where
      same : (x : Bool) → ◌≡◌ {A = List LinkStep} (when x then [] else []) []
      same true = refl
      same false = refl

  pub going_all : (a b : Stand) (t : ℕ) → Going a b t → left_of a b t ≡ []
      → RunIs limit (link_with a.masters a.slots a.line) (calls_with ms-calls ds-calls) put most a.rows a.sent
      (record { link = link_with b.masters b.slots b.line; count = t; masters = b.masters_did_lem; devices = b.devices_did_lem }) b.rows b.sent
  going_all a b t v none =
      let e : v.steps ≡ whole_of a = sym (v.left ∙ ap (λ (l : List LinkStep). v.steps ++ l) none ∙ append-nil v.steps) in
      record {
        link_is = v.link_is ∙ ap (link_behind (link_now a)) e;
        slots = v.flags;
        absent_stay = v.absent_stay;
        count_is = sym v.count_is ∙ ap length e;
        sent_is = v.sent_is ∙ (λ i. codes_of (heres a.slots) (e i) ++ drop ((sym v.count_is ∙ ap length e) i) a.sent);
        bytes_sent = subst (EachTick SendBytes) e v.bytes_sent;
        masters_are = v.masters_are ∙ ap (λ (ss : List LinkStep). masters_did ss (replicate 2 master_nothing)) e;
        devices_are = v.devices_are ∙ ap (λ (ss : List LinkStep). devices_did (heres a.slots) ss (replicate 6 device_nothing)) e;
      }

  -- where the loop ends, nothing is left
  ends_at : (t : ℕ) (p q : Bool) → (t <? most) ≡ p → (t <? 64) ≡ q → (when p then q else false) ≡ false → at_most most ≤ t
  unfolding when◌then◌else◌
  ends_at t true true h k e = absurd (true_false e)
  ends_at t true false h k e = omega (arith, at_most_64, ltb-false t 64 k)
  ends_at t false q h k e = omega (arith, at_most_most, ltb-false t most h)

  pub over : (a b : Stand) (t : ℕ) → goes_on t most b.told ≡ false → left_of a b t ≡ []
  over a b t e = by b.told refl
    where
      by : (x : Bool) → b.told ≡ x → left_of a b t ≡ []
      by true k = if_is_true b.told [] (up_to_told (run limit (link_now b) (left_calls a t))) k
      by false k = none_left a b t (ends_at t (t <? most) (t <? 64) refl refl (sym (if_is_false b.told false (when t <? most then t <? 64 else false) k) ∙ e))

  -- where it goes on
  goes_told : (t : ℕ) (told : Bool) → goes_on t most told ≡ true → told ≡ false
  goes_told t told e = (went_else told false (when t <? most then t <? 64 else false) true e (λ q. true_false (sym q))).0

  goes_both : (t : ℕ) (told : Bool) → goes_on t most told ≡ true → ((t <? most) ≡ true) × ((t <? 64) ≡ true)
  goes_both t told e = went_then (t <? most) (t <? 64) false true (went_else told false (when t <? most then t <? 64 else false) true e (λ q. true_false (sym q))).1 (λ q. true_false (sym q))

  goes_within : (t : ℕ) (told : Bool) → goes_on t most told ≡ true → t < 64
  goes_within t told e = ltb-true t 64 (goes_both t told e).1

  goes_below : (t : ℕ) (told : Bool) → goes_on t most told ≡ true → t < at_most most
  unfolding when◌then◌else◌
  goes_below t told e = by (most <? 64) refl
    where
      by : (x : Bool) → (most <? 64) ≡ x → t < (when x then most else 64)
      by true k = ltb-true t most (goes_both t told e).0
      by false k = goes_within t told e

  -- a turn of the loop, by the two loops in it
  pub going_on : (a b : Stand) (t : ℕ) (g : Bool) (row : List ℕ) (d : At) (m : MastersAt) (n k : ℕ) → Going a b t → g ≡ goes_on t most b.told → g ≡ true → row ≡ replicate 8 0
      → Ticking limit b.line put (device_call_at t ds-calls) (record { slots = b.slots; rows = b.rows; row = row; dids = b.devices_did_lem; told = b.told; line = Silence }) d n → n ≤ 0
      → MastersTicking limit b.line put (master_call_at t ms-calls) (record { masters = b.masters; rows = d.rows; row = d.row; dids = b.masters_did_lem; told = d.told; line = d.line }) m k → k ≤ 0
      → Going a (record { masters = m.masters; slots = d.slots; line = m.line; rows = m.rows; sent = set b.sent t m.row; masters_did_lem = m.dids; devices_did_lem = d.dids; told = m.told }) (t + 1)
  going_on a b t g row d m n k v e p blank w h z l =
      let goes : goes_on t most b.told ≡ true = sym e ∙ p in
      let n_none : n ≡ 0 = omega arith in
      let k_none : k ≡ 0 = omega arith in
      going_more a b t v (goes_told t b.told goes) (goes_below t b.told goes) row d m blank
      (subst (Ticking limit b.line put (device_call_at t ds-calls) (record { slots = b.slots; rows = b.rows; row = row; dids = b.devices_did_lem; told = b.told; line = Silence }) d) n_none w)
      (subst (MastersTicking limit b.line put (master_call_at t ms-calls) (record { masters = b.masters; rows = d.rows; row = d.row; dids = b.masters_did_lem; told = d.told; line = d.line }) m) k_none z)
      (goes_within t b.told goes)

  pub going_over : (a b : Stand) (t : ℕ) (g : Bool) → Going a b t → g ≡ goes_on t most b.told → g ≡ false
      → RunIs limit (link_with a.masters a.slots a.line) (calls_with ms-calls ds-calls) put most a.rows a.sent
      (record { link = link_with b.masters b.slots b.line; count = t; masters = b.masters_did_lem; devices = b.devices_did_lem }) b.rows b.sent
  going_over a b t g v e p = going_all a b t v (over a b t (sym e ∙ p))

  -- ---- where the loops begin

  pub going_first : (ms : List Master) (ss : List (Option Device)) (line : Heard) (frames bytes contents sent : List (List ℕ)) (x : MasterDid) (y : DeviceDid)
      → length ms ≡ 2 → length ss ≡ 6 → length frames ≡ 8 → length bytes ≡ 8 → length contents ≡ 6 → length sent ≡ 64 → length ms-calls ≡ 2 → length ds-calls ≡ 6 → x ≡ master_nothing → y ≡ device_nothing
      → Going (standing ms ss line frames bytes contents sent (replicate 2 x) (replicate 6 y) false) (standing ms ss line frames bytes contents sent (replicate 2 x) (replicate 6 y) false) 0
  going_first ms ss line frames bytes contents sent x y m s f b z e r g p q =
      going_none (standing ms ss line frames bytes contents sent (replicate 2 x) (replicate 6 y) false) m s f b z e r g (ap (replicate 2) p) (ap (replicate 6) q) refl

  pub devices_first : (a b : Stand) (t : ℕ) → Going a b t
      → Ticking limit b.line put (device_call_at t ds-calls) (record { slots = b.slots; rows = b.rows; row = replicate 8 0; dids = b.devices_did_lem; told = b.told; line = Silence })
      (record { slots = b.slots; rows = b.rows; row = replicate 8 0; dids = b.devices_did_lem; told = b.told; line = Silence }) 6
  devices_first a b t v =
      ticking_none limit b.line put (device_call_at t ds-calls) (record { slots = b.slots; rows = b.rows; row = replicate 8 0; dids = b.devices_did_lem; told = b.told; line = Silence })
      v.six v.frames_eight v.bytes_eight v.contents_six refl v.dids_six refl

  pub masters_first : (a b : Stand) (t : ℕ) (x d : At) (n : ℕ) → Going a b t → Ticking limit b.line put (device_call_at t ds-calls) x d n
      → MastersTicking limit b.line put (master_call_at t ms-calls) (record { masters = b.masters; rows = d.rows; row = d.row; dids = b.masters_did_lem; told = d.told; line = d.line })
      (record { masters = b.masters; rows = d.rows; row = d.row; dids = b.masters_did_lem; told = d.told; line = d.line }) 2
  masters_first a b t x d n v w =
      masters_none limit b.line put (master_call_at t ms-calls) (record { masters = b.masters; rows = d.rows; row = d.row; dids = b.masters_did_lem; told = d.told; line = d.line })
      v.two w.frames_eight w.bytes_eight w.row_eight v.dids_two (λ j h. w.row_left j 0 (omega (arith, h)) ∙ w.blank j (omega (arith, h)))

  -- one tick less is left
  pub fewer : (t : ℕ) (told g : Bool) → g ≡ goes_on t most told → g ≡ true → 64 - (t + 1) < 64 - t
  fewer t told g e p = omega (arith, goes_within t told (sym e ∙ p))

-- a call of this tick, whatever would stand behind the last
pub device_call_is : (t : ℕ) (cs : List DeviceCallWithPart) (i : ℕ) (d c : DeviceCallWithPart) → c ≡ device_call_in t (get_or cs i d) → length cs ≡ 6 → i < 6 → c ≡ device_call_at t cs i
device_call_is t cs i d c p e h = p ∙ ap (device_call_in t) (any_default cs i d no_device_call (omega (arith, e, h)))

pub master_call_is : (t : ℕ) (cs : List MasterCallWithPart) (i : ℕ) (d c : MasterCallWithPart) → c ≡ master_call_in t (get_or cs i d) → length cs ≡ 2 → i < 2 → c ≡ master_call_at t cs i
master_call_is t cs i d c p e h = p ∙ ap (master_call_in t) (any_default cs i d no_master_call (omega (arith, e, h)))

-- there is a row for this tick
pub goes_in : (most t : ℕ) (told g : Bool) → g ≡ goes_on t most told → g ≡ true → t < 64
goes_in most t told g e p = goes_within 0 [] most [] [] t told (sym e ∙ p)
