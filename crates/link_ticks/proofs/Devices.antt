-- The loop over the devices, from the last to the first: those that have ticked, and those that have not.
use Prim.Native.Nat.{ℕ, suc, ◌+◌, ◌-◌, ◌≤◌, ◌<◌}
use native.Mathlib.Omega.{arith}
use mathlib.Core.Bool.{Bool, true, false}
use mathlib.Core.List.{List, [], ◌∷◌}
use mathlib.Core.Path.{◌≡◌, refl, sym, ap, subst, ◌∙◌}
use lib.ListN.{length, drop, get_or, set, replicate, length-set, length-map, length-replicate, get_or-replicate, get_or-map, drop_of_length-le}
use lib.Seq.{drop-cons, get_or-set_same, get_or-set_other, set-get_or, map-set_same}
use Rattle.std.specs.Prelude.{Option, Some, None, is_some}
use Rattle.base.proofs.Choices.{true_false}
use Rattle.line.specs.Reader.{taken, taken_data}
use Rattle.line.specs.Reader as R
use Rattle.line.specs.declared.Event.TheVariants.{Nothing}
use Rattle.line.specs.declared.Heard.{Heard}
use Rattle.line.specs.declared.Heard.TheVariants.{Silence}
use Rattle.line.specs.declared.Receiver.{Receiver}
use Rattle.turns.specs.Link.{DeviceSide, DeviceStep, joins, sides, carried, device_tick}
use Rattle.turns.specs.declared.Device.{Device}
use Rattle.device_tick.specs.Tick as D
use Rattle.device_tick.specs.declared.DeviceTicked.{DeviceTicked}
use Rattle.party.specs.Numbers.{sent_number}
use Rattle.link_parties.specs.Stands.{Rows, rows_of, device_at, devices_from, heres, device_call_of}
use Rattle.link_parties.specs.Part.{data_of}
use Rattle.link_parties.specs.Ways.{device_way, counted_device, heard_device}
use Rattle.link_parties.proofs.Ways.{quiet_device, with_device, device_counts_lem, device_hears_lem}
use Rattle.link_parties.specs.declared.DeviceCallWithPart.{DeviceCallWithPart}
use Rattle.link_parties.specs.declared.DeviceDid.{DeviceDid}
use Rattle.link_parties.specs.declared.Way.{Way}
use Rattle.link_parties.specs.declared.Way.TheVariants.{Counts, Hears}
use Rattle.link_ticks.specs.Ticks.{device_host_told, devices_tell, on_here, device_code, SendsByte, sends_none, DevicesSendBytes, no_device, device_and, CodeIs, device_did_by, device_did, device_nothing, SlotStays}
use Rattle.link_ticks.proofs.Lists.{Same, same_set, same_less, drop_set, any_default, on_here_lem, on_none}

-- where the loop stands
pub record At : Type 0 where
  pub slots : List (Option Device)
  pub rows : Rows
  pub row : List ℕ
  pub dids : List DeviceDid
  pub told : Bool
  pub line : Heard

abbrev pub at : List (Option Device) → List (List ℕ) → List (List ℕ) → List (List ℕ) → List ℕ → List DeviceDid → Bool → Heard → At
at slots frames bytes contents row dids told line = record { slots = slots; rows = rows_of frames bytes contents; row = row; dids = dids; told = told; line = line }

-- a row of each kind is stored
abbrev pub stored : Rows → ℕ → List ℕ → List ℕ → List ℕ → Rows
stored x i f y z = rows_of (set x.frames (i + 2) f) (set x.bytes (i + 2) y) (set x.contents i z)

-- rows below are no device's further on
pub below : (x : Rows) (i k : ℕ) (f y z : List ℕ) (ss : List (Option Device)) → i < k → devices_from (stored x i f y z) k ss ≡ devices_from x k ss
unfolding devices_from
below x i k f y z [] h = refl
below x i k f y z (None ∷ ss) h = below x i (suc k) f y z ss (omega arith)
below x i k f y z (Some d ∷ ss) h = λ n.
    D.side_of d
    (get_or-set_other x.frames (i + 2) (k + 2) f [] (λ q. omega (arith, q, h)) n)
    (get_or-set_other x.bytes (i + 2) (k + 2) y [] (λ q. omega (arith, q, h)) n)
    (get_or-set_other x.contents i k z [] (λ q. omega (arith, q, h)) n)
    ∷ below x i (suc k) f y z ss (omega arith) n

module _ (limit : ℕ) (heard : Heard) (put : List ℕ) (call : ℕ → DeviceCallWithPart) where
  abbrev pub step_at : Rows → ℕ → Device → DeviceStep
  step_at x i d = device_tick limit (device_at x i d) heard (device_call_of put (call i))

  unfoldable pub steps_from : Rows → ℕ → List (Option Device) → List DeviceStep
  steps_from x i [] = []
  steps_from x i (None ∷ ss) = steps_from x (suc i) ss
  steps_from x i (Some d ∷ ss) = step_at x i d ∷ steps_from x (suc i) ss

  abbrev pub steps : At → ℕ → List DeviceStep
  steps a n = steps_from a.rows n (drop n a.slots)

  pub record Ticking (a b : At) (n : ℕ) : Type 0 where
    pub six : length b.slots ≡ 6
    pub six_before : length a.slots ≡ 6
    pub frames_eight : length b.rows.frames ≡ 8
    pub bytes_eight : length b.rows.bytes ≡ 8
    pub contents_six : length b.rows.contents ≡ 6
    pub row_eight : length b.row ≡ 8
    pub row_before : length a.row ≡ 8
    pub dids_six : length b.dids ≡ 6
    pub dids_before : length a.dids ≡ 6
    pub within : n ≤ 6
    pub blank : (j : ℕ) → j < 8 → get_or a.row j 0 ≡ 0
    -- those that have ticked
    pub sides_are : devices_from b.rows n (drop n b.slots) ≡ sides (steps a n)
    pub flags : heres b.slots ≡ heres a.slots
    pub absent_stay : (j : ℕ) → get_or (heres a.slots) j true ≡ false → SlotStays j a.slots a.rows b.slots b.rows
    pub codes_are : drop (n + 2) b.row ≡ on_here device_code (heres (drop n a.slots)) (steps a n) (drop (n + 2) a.row)
    pub bytes_sent : DevicesSendBytes (steps a n)
    pub dids_are : drop n b.dids ≡ on_here device_did (heres (drop n a.slots)) (steps a n) (drop n a.dids)
    pub line_is : b.line ≡ carried (steps a n)
    pub told_is : b.told ≡ devices_tell (steps a n) a.told
    -- those that have not
    pub slots_left : Same n b.slots a.slots
    pub frames_left : Same (n + 2) b.rows.frames a.rows.frames
    pub bytes_left : Same (n + 2) b.rows.bytes a.rows.bytes
    pub contents_left : Same n b.rows.contents a.rows.contents
    pub row_left : Same (n + 2) b.row a.row
    pub dids_left : Same n b.dids a.dids

  none_left : {A : Type 0} (xs : List A) (n : ℕ) → length xs ≡ n → drop n xs ≡ []
  none_left xs n e = drop_of_length-le xs {i = n} (omega (arith, e))

  pub ticking_none : (a : At) → length a.slots ≡ 6 → length a.rows.frames ≡ 8 → length a.rows.bytes ≡ 8 → length a.rows.contents ≡ 6 → a.row ≡ replicate 8 0 → length a.dids ≡ 6 → a.line ≡ Silence → Ticking a a 6
  unfolding devices_from sides steps_from carried devices_tell on_here
  ticking_none a s f y z w d e =
      let r : length a.row ≡ 8 = ap length w ∙ length-replicate {A = ℕ} 8 0 in
      let u = none_left a.slots 6 s in
      record {
        six = s;
        six_before = s;
        frames_eight = f;
        bytes_eight = y;
        contents_six = z;
        row_eight = r;
        row_before = r;
        dids_six = d;
        dids_before = d;
        within = omega arith;
        blank = λ j h. ap (λ (l : List ℕ). get_or l j 0) w ∙ get_or-replicate {A = ℕ} 8 j 0 0 h;
        sides_are = ap (devices_from a.rows 6) u ∙ ap (λ (ss : List (Option Device)). sides (steps_from a.rows 6 ss)) (sym u);
        flags = refl;
        absent_stay = λ j h. record { slot = λ x. refl; frame = refl; bytes = refl; contents = refl };
        codes_are =
            none_left a.row 8 r
            ∙ ap (λ (ss : List (Option Device)). on_here device_code (heres ss) (steps_from a.rows 6 ss) []) (sym u)
            ∙ ap (on_here device_code (heres (drop 6 a.slots)) (steps a 6)) (sym (none_left a.row 8 r));
        bytes_sent = subst (λ (ss : List (Option Device)). DevicesSendBytes (steps_from a.rows 6 ss)) (sym u) no_device;
        dids_are =
            none_left a.dids 6 d
            ∙ ap (λ (ss : List (Option Device)). on_here device_did (heres ss) (steps_from a.rows 6 ss) []) (sym u)
            ∙ ap (on_here device_did (heres (drop 6 a.slots)) (steps a 6)) (sym (none_left a.dids 6 d));
        line_is = e ∙ ap (λ (ss : List (Option Device)). carried (steps_from a.rows 6 ss)) (sym u);
        told_is = ap (λ (ss : List (Option Device)). devices_tell (steps_from a.rows 6 ss) a.told) (sym u);
        slots_left = λ j x h. refl;
        frames_left = λ j x h. refl;
        bytes_left = λ j x h. refl;
        contents_left = λ j x h. refl;
        row_left = λ j x h. refl;
        dids_left = λ j x h. refl;
      }

  module _ (a b : At) (i : ℕ) (d : Option Device) (v : Ticking a b (suc i)) where
    in_six : i < 6
    in_six = omega (arith, v.within)

    -- the slots from this one on
    first_slot : (s : Option Device) → get_or b.slots i d ≡ s → drop i a.slots ≡ s ∷ drop (suc i) a.slots
    first_slot s k =
        drop-cons a.slots i d (omega (arith, v.six_before, in_six))
        ∙ ap (λ (s : Option Device). s ∷ drop (suc i) a.slots) (sym (v.slots_left i d (omega arith)) ∙ k)

    -- its step, by what is lent to it now
    own_step : (e : Device) → step_at b.rows i e ≡ step_at a.rows i e
    own_step e = λ n. device_tick limit
        (D.side_of e (v.frames_left (i + 2) [] (omega arith) n) (v.bytes_left (i + 2) [] (omega arith) n) (v.contents_left i [] (omega arith) n))
        heard (device_call_of put (call i))

    steps_past : get_or b.slots i d ≡ None → steps a i ≡ steps a (suc i)
    unfolding steps_from
    steps_past k = ap (steps_from a.rows i) (first_slot None k)

    steps_at : (e : Device) → get_or b.slots i d ≡ Some e → steps a i ≡ step_at b.rows i e ∷ steps a (suc i)
    unfolding steps_from
    steps_at e k = ap (steps_from a.rows i) (first_slot (Some e) k) ∙ (λ n. sym (own_step e) n ∷ steps a (suc i))

    heres_at : (s : Option Device) → get_or b.slots i d ≡ s → heres (drop i a.slots) ≡ is_some s ∷ heres (drop (suc i) a.slots)
    heres_at s k = ap heres (first_slot s k)

    codes_next : drop (suc (i + 2)) b.row ≡ on_here device_code (heres (drop (suc i) a.slots)) (steps a (suc i)) (drop (suc (i + 2)) a.row)
    codes_next =
        let k : suc i + 2 ≡ suc (i + 2) = omega arith in
        subst (λ (m : ℕ). drop m b.row ≡ on_here device_code (heres (drop (suc i) a.slots)) (steps a (suc i)) (drop m a.row)) k v.codes_are

    -- one that is not here
    pub absent : get_or b.slots i d ≡ None → Ticking a b i
    unfolding devices_from
    absent k = record {
      six = v.six;
      six_before = v.six_before;
      frames_eight = v.frames_eight;
      bytes_eight = v.bytes_eight;
      contents_six = v.contents_six;
      row_eight = v.row_eight;
      row_before = v.row_before;
      dids_six = v.dids_six;
      dids_before = v.dids_before;
      within = omega (arith, v.within);
      blank = v.blank;
      sides_are =
          ap (devices_from b.rows i) (drop-cons b.slots i d (omega (arith, v.six, in_six)))
          ∙ ap (λ (s : Option Device). devices_from b.rows i (s ∷ drop (suc i) b.slots)) k
          ∙ v.sides_are
          ∙ ap sides (sym (steps_past k));
      flags = v.flags;
      absent_stay = v.absent_stay;
      codes_are =
          drop-cons b.row (i + 2) 0 (omega (arith, v.row_eight, in_six))
          ∙ (λ n. v.row_left (i + 2) 0 (omega arith) n ∷ codes_next n)
          ∙ sym (on_none device_code _ (steps a (suc i)) (get_or a.row (i + 2) 0) (drop (suc (i + 2)) a.row))
          ∙ (λ n. on_here device_code (sym (heres_at None k) n) (sym (steps_past k) n) (sym (drop-cons a.row (i + 2) 0 (omega (arith, v.row_before, in_six))) n));
      bytes_sent = subst DevicesSendBytes (sym (steps_past k)) v.bytes_sent;
      dids_are =
          drop-cons b.dids i device_nothing (omega (arith, v.dids_six, in_six))
          ∙ (λ n. v.dids_left i device_nothing (omega arith) n ∷ v.dids_are n)
          ∙ sym (on_none device_did _ (steps a (suc i)) (get_or a.dids i device_nothing) (drop (suc i) a.dids))
          ∙ (λ n. on_here device_did (sym (heres_at None k) n) (sym (steps_past k) n) (sym (drop-cons a.dids i device_nothing (omega (arith, v.dids_before, in_six))) n));
      line_is = v.line_is ∙ ap carried (sym (steps_past k));
      told_is = v.told_is ∙ ap (λ (ss : List DeviceStep). devices_tell ss a.told) (sym (steps_past k));
      slots_left = same_less (suc i) i b.slots a.slots v.slots_left (omega arith);
      frames_left = same_less (suc i + 2) (i + 2) b.rows.frames a.rows.frames v.frames_left (omega arith);
      bytes_left = same_less (suc i + 2) (i + 2) b.rows.bytes a.rows.bytes v.bytes_left (omega arith);
      contents_left = same_less (suc i) i b.rows.contents a.rows.contents v.contents_left (omega arith);
      row_left = same_less (suc i + 2) (i + 2) b.row a.row v.row_left (omega arith);
      dids_left = same_less (suc i) i b.dids a.dids v.dids_left (omega arith);
    }

    -- one that is here
    module _ (own : Device) (k : get_or b.slots i d ≡ Some own) (e : Device) where
      flag_here : get_or (heres a.slots) i true ≡ true
      flag_here =
          ap (λ (hs : List Bool). get_or hs i true) (sym v.flags)
          ∙ any_default (heres b.slots) i true (is_some d) (omega (arith, length-map b.slots (λ (s : Option Device). is_some s), v.six, in_six))
          ∙ get_or-map (λ (s : Option Device). is_some s) b.slots i d
          ∙ ap (λ (s : Option Device). is_some s) k

      -- so a slot without a device is another
      another : (j : ℕ) → get_or (heres a.slots) j true ≡ false → i ≡ j → ⊥
      another j gone same = true_false (sym flag_here ∙ ap (λ (n : ℕ). get_or (heres a.slots) n true) same ∙ gone)

      others_stay : (f y z : List ℕ) (j : ℕ) → get_or (heres a.slots) j true ≡ false → SlotStays j a.slots a.rows (set b.slots i (Some e)) (stored b.rows i f y z)
      others_stay f y z j gone =
          let old = v.absent_stay j gone in
          record {
            slot = λ x. get_or-set_other b.slots i j (Some e) x (λ q. another j gone (omega (arith, q))) ∙ old.slot x;
            frame = get_or-set_other b.rows.frames (i + 2) (j + 2) f [] (λ q. another j gone (omega (arith, q))) ∙ old.frame;
            bytes = get_or-set_other b.rows.bytes (i + 2) (j + 2) y [] (λ q. another j gone (omega (arith, q))) ∙ old.bytes;
            contents = get_or-set_other b.rows.contents i j z [] (λ q. another j gone (omega (arith, q))) ∙ old.contents;
          }

      pub acts : (f y z : List ℕ) (c : ℕ) (q : DeviceDid) (told : Bool) (line : Heard) (s : DeviceStep)
          → s ≡ step_at b.rows i own → D.side_of e f y z ≡ s.side → c ≡ sent_number s.sent → SendsByte s.sent → q ≡ device_did s (get_or b.dids i device_nothing)
          → told ≡ device_host_told s.told b.told → line ≡ joins s.sent b.line
          → Ticking a (record { slots = set b.slots i (Some e); rows = stored b.rows i f y z; row = set b.row (i + 2) c; dids = set b.dids i q; told = told; line = line }) i
      unfolding devices_from sides carried devices_tell
      acts f y z c q told line s p side_is code_is byte did_is told_is line_is =
          let steps_are : steps a i ≡ s ∷ steps a (suc i) = steps_at own k ∙ ap (λ (x : DeviceStep). x ∷ steps a (suc i)) (sym p) in
          let x = stored b.rows i f y z in
          record {
            six = length-set b.slots i (Some e) ∙ v.six;
            six_before = v.six_before;
            frames_eight = length-set b.rows.frames (i + 2) f ∙ v.frames_eight;
            bytes_eight = length-set b.rows.bytes (i + 2) y ∙ v.bytes_eight;
            contents_six = length-set b.rows.contents i z ∙ v.contents_six;
            row_eight = length-set b.row (i + 2) c ∙ v.row_eight;
            row_before = v.row_before;
            dids_six = length-set b.dids i q ∙ v.dids_six;
            dids_before = v.dids_before;
            within = omega (arith, v.within);
            blank = v.blank;
            sides_are =
                ap (devices_from x i) (drop_set b.slots i (Some e) (omega (arith, v.six, in_six)))
                ∙ (λ n. D.side_of e
                (get_or-set_same b.rows.frames (i + 2) f [] (omega (arith, v.frames_eight, in_six)) n)
                (get_or-set_same b.rows.bytes (i + 2) y [] (omega (arith, v.bytes_eight, in_six)) n)
                (get_or-set_same b.rows.contents i z [] (omega (arith, v.contents_six, in_six)) n)
                ∷ below b.rows i (suc i) f y z (drop (suc i) b.slots) (omega arith) n)
                ∙ (λ n. side_is n ∷ v.sides_are n)
                ∙ ap sides (sym steps_are);
            flags = map-set_same (λ (u : Option Device). is_some u) b.slots i (Some e) d (ap (λ (u : Option Device). is_some u) (sym k)) ∙ v.flags;
            absent_stay = others_stay f y z;
            codes_are =
                drop_set b.row (i + 2) c (omega (arith, v.row_eight, in_six))
                ∙ (λ n. code_is n ∷ codes_next n)
                ∙ sym (on_here_lem device_code _ s (steps a (suc i)) (get_or a.row (i + 2) 0) (drop (suc (i + 2)) a.row))
                ∙ (λ n. on_here device_code (sym (heres_at (Some own) k) n) (sym steps_are n) (sym (drop-cons a.row (i + 2) 0 (omega (arith, v.row_before, in_six))) n));
            bytes_sent = subst DevicesSendBytes (sym steps_are) (device_and byte v.bytes_sent);
            dids_are =
                drop_set b.dids i q (omega (arith, v.dids_six, in_six))
                ∙ (λ n. (did_is ∙ ap (device_did s) (v.dids_left i device_nothing (omega arith))) n ∷ v.dids_are n)
                ∙ sym (on_here_lem device_did _ s (steps a (suc i)) (get_or a.dids i device_nothing) (drop (suc i) a.dids))
                ∙ (λ n. on_here device_did (sym (heres_at (Some own) k) n) (sym steps_are n) (sym (drop-cons a.dids i device_nothing (omega (arith, v.dids_before, in_six))) n));
            line_is = line_is ∙ ap (joins s.sent) v.line_is ∙ ap carried (sym steps_are);
            told_is = told_is ∙ ap (device_host_told s.told) v.told_is ∙ ap (λ (ss : List DeviceStep). devices_tell ss a.told) (sym steps_are);
            slots_left = same_set (suc i) i i b.slots a.slots (Some e) v.slots_left (omega arith) (omega arith);
            frames_left = same_set (suc i + 2) (i + 2) (i + 2) b.rows.frames a.rows.frames f v.frames_left (omega arith) (omega arith);
            bytes_left = same_set (suc i + 2) (i + 2) (i + 2) b.rows.bytes a.rows.bytes y v.bytes_left (omega arith) (omega arith);
            contents_left = same_set (suc i) i i b.rows.contents a.rows.contents z v.contents_left (omega arith) (omega arith);
            row_left = same_set (suc i + 2) (i + 2) (i + 2) b.row a.row c v.row_left (omega arith) (omega arith);
            dids_left = same_set (suc i) i i b.dids a.dids q v.dids_left (omega arith) (omega arith);
          }

      -- one that sends, tells and answers nothing: only its state and its data buffer change
      pub quiet : (y : List ℕ) → quiet_device (D.side_of e (get_or b.rows.frames (i + 2) []) y (get_or b.rows.contents i [])) ≡ step_at b.rows i own
          → Ticking a (record { slots = set b.slots i (Some e); rows = rows_of b.rows.frames (set b.rows.bytes (i + 2) y) b.rows.contents; row = b.row; dids = b.dids; told = b.told; line = b.line }) i
      quiet y p =
          let f = get_or b.rows.frames (i + 2) [] in
          let z = get_or b.rows.contents i [] in
          let c : set b.row (i + 2) 0 ≡ b.row = ap (set b.row (i + 2)) (sym (v.row_left (i + 2) 0 (omega arith) ∙ v.blank (i + 2) (omega (arith, in_six)))) ∙ set-get_or b.row (i + 2) 0 in
          subst (λ (x : At). Ticking a x i)
          (λ n. record { slots = set b.slots i (Some e); rows = rows_of (set-get_or b.rows.frames (i + 2) [] n) (set b.rows.bytes (i + 2) y) (set-get_or b.rows.contents i [] n); row = c n; dids = set-get_or b.dids i device_nothing n; told = b.told; line = b.line })
          (acts f y z 0 (get_or b.dids i device_nothing) b.told b.line (quiet_device (D.side_of e f y z)) p refl refl sends_none refl refl refl)

      -- and only its state
      pub still : quiet_device (D.side_of e (get_or b.rows.frames (i + 2) []) (get_or b.rows.bytes (i + 2) []) (get_or b.rows.contents i [])) ≡ step_at b.rows i own
          → Ticking a (record { slots = set b.slots i (Some e); rows = b.rows; row = b.row; dids = b.dids; told = b.told; line = b.line }) i
      still p =
          subst (λ (x : At). Ticking a x i)
          (λ n. record { slots = set b.slots i (Some e); rows = rows_of b.rows.frames (set-get_or b.rows.bytes (i + 2) [] n) b.rows.contents; row = b.row; dids = b.dids; told = b.told; line = b.line })
          (quiet (get_or b.rows.bytes (i + 2) []) p)

  -- ---- a turn of the loop: the device with number n - 1

  module _ (a b : At) (n : ℕ) (d : Option Device) (v : Ticking a b n) (h : 0 < n) where
    at_last : Ticking a b (suc (n - 1))
    at_last = let k : n ≡ suc (n - 1) = omega arith in subst (Ticking a b) k v

    pub device_absent : get_or b.slots (n - 1) d ≡ None → Ticking a b (n - 1)
    device_absent k = absent a b (n - 1) d at_last k

    module _ (this : Device) (k : get_or b.slots (n - 1) d ≡ Some this) (c : DeviceCallWithPart) (own : c ≡ call (n - 1)) where
      abbrev lent : DeviceSide
      lent = device_at b.rows (n - 1) this

      as_called : (c : DeviceCallWithPart) → c ≡ call (n - 1) → device_tick limit lent heard (device_call_of put c) ≡ step_at b.rows (n - 1) this
      as_called c e = ap (λ (q : DeviceCallWithPart). device_tick limit lent heard (device_call_of put q)) e

      pub device_counted : (w : Way) (e : Device) (follows hears : Bool) (reader : Receiver) → w ≡ device_way this heard c.call follows hears reader → w ≡ Counts → e ≡ counted_device this
          → Ticking a (record { slots = set b.slots (n - 1) (Some e); rows = b.rows; row = b.row; dids = b.dids; told = b.told; line = b.line }) (n - 1)
      device_counted w e follows hears reader p q r =
          subst (λ (s : Device). Ticking a (record { slots = set b.slots (n - 1) (Some s); rows = b.rows; row = b.row; dids = b.dids; told = b.told; line = b.line }) (n - 1)) (sym r)
          (still a b (n - 1) d at_last this k (counted_device this) (device_counts_lem limit lent heard c.call (data_of c.part put) follows hears reader (sym p ∙ q) ∙ as_called c own))

      pub device_heard : (w : Way) (e : Device) (r : Receiver) (y : List ℕ) (follows hears : Bool) (reader : Receiver) → w ≡ device_way this heard c.call follows hears reader → w ≡ Hears
          → (follows ≡ true → this.receiver ≡ reader) → (hears ≡ true → taken reader heard ≡ R.tells r Nothing)
          → y ≡ taken_data this.receiver heard (get_or b.rows.bytes (n - 1 + 2) []) → e ≡ heard_device this r
          → Ticking a (record { slots = set b.slots (n - 1) (Some e); rows = rows_of b.rows.frames (set b.rows.bytes (n - 1 + 2) y) b.rows.contents; row = b.row; dids = b.dids; told = b.told; line = b.line }) (n - 1)
      device_heard w e r y follows hears reader p q has step l f =
          subst (λ (s : Device). Ticking a (record { slots = set b.slots (n - 1) (Some s); rows = rows_of b.rows.frames (set b.rows.bytes (n - 1 + 2) y) b.rows.contents; row = b.row; dids = b.dids; told = b.told; line = b.line }) (n - 1)) (sym f)
          (quiet a b (n - 1) d at_last this k (heard_device this r) y
          (ap (λ (xs : List ℕ). quiet_device (with_device lent (heard_device this r) xs)) l ∙ device_hears_lem limit lent heard c.call (data_of c.part put) follows hears reader r (sym p ∙ q) has step ∙ as_called c own))

      pub device_acted : (r : DeviceTicked) (f y z : List ℕ) (x : ℕ) (q : DeviceDid) (u : DeviceDid) (told : Bool) (line : Heard)
          → D.DeviceTickIs limit this heard c.call (data_of c.part put) (get_or b.rows.frames (n - 1 + 2) []) (get_or b.rows.bytes (n - 1 + 2) []) (get_or b.rows.contents (n - 1) []) r f y z
          → CodeIs r.sent x → q ≡ device_did_by (get_or b.dids (n - 1) u) r.told r.result
          → told ≡ device_host_told r.told b.told → line ≡ joins r.sent b.line
          → Ticking a (record { slots = set b.slots (n - 1) (Some r.device); rows = stored b.rows (n - 1) f y z; row = set b.row (n - 1 + 2) x; dids = set b.dids (n - 1) q; told = told; line = line }) (n - 1)
      device_acted r f y z x q u told line p x-is q-is told_is line_is =
          acts a b (n - 1) d at_last this k r.device f y z x q told line (D.step_of r f y z) (p.step ∙ as_called c own) refl x-is.is x-is.byte
          (q-is ∙ ap (λ (o : DeviceDid). device_did_by o r.told r.result) (any_default b.dids (n - 1) u device_nothing (omega (arith, v.dids_six, v.within, h)))) told_is line_is
