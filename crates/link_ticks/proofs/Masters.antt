-- The loop over the masters, from the secondary to the primary: who has ticked, and who has not.
use Prim.Native.Nat.{ℕ, suc, zero, ◌+◌, ◌-◌, ◌≤◌, ◌<◌}
use native.Mathlib.Omega.{arith}
use mathlib.Core.Bool.{Bool, true}
use mathlib.Core.List.{List, [], ◌∷◌}
use mathlib.Core.Path.{◌≡◌, refl, sym, ap, subst, ◌∙◌}
use lib.ListN.{length, drop, get_or, set, length-set}
use lib.Seq.{get_or-set_same, get_or-set_other, set-get_or, drop-set-lt}
use Rattle.std.specs.Prelude.{Option, Some, None}
use Rattle.line.specs.Reader.{taken, taken_data}
use Rattle.line.specs.Reader as R
use Rattle.line.specs.declared.Event.TheVariants.{Nothing}
use Rattle.line.specs.declared.Heard.{Heard}
use Rattle.line.specs.declared.Receiver.{Receiver}
use Rattle.turns.specs.Link.{MasterSide, MasterStep, joins, master_tick}
use Rattle.turns.specs.declared.Device.{Device}
use Rattle.turns.specs.declared.Master.{Master}
use Rattle.master.specs.Tick as M
use Rattle.master.specs.declared.MasterTicked.{MasterTicked}
use Rattle.device_tick.specs.Tick as D
use Rattle.party.specs.Numbers.{sent_number}
use Rattle.link_parties.specs.Stands.{Rows, rows_of, master_at, any_master, devices_from, master_call_of}
use Rattle.link_parties.specs.Part.{data_of}
use Rattle.link_parties.specs.Ways.{master_way, counted_master, heard_master}
use Rattle.link_parties.proofs.Ways.{quiet_master, with_master, master_counts_lem, master_hears_lem}
use Rattle.link_parties.specs.declared.MasterCallWithPart.{MasterCallWithPart}
use Rattle.link_parties.specs.declared.MasterDid.{MasterDid}
use Rattle.link_parties.specs.declared.Way.{Way}
use Rattle.link_parties.specs.declared.Way.TheVariants.{Counts, Hears}
use Rattle.link_ticks.specs.Ticks.{master_host_told, SendsByte, sends_none, CodeIs, master_did_by, master_did, master_nothing}
use Rattle.link_ticks.proofs.Lists.{Same, same_set, any_default}

-- where the loop stands
pub record MastersAt : Type 0 where
  pub masters : List Master
  pub rows : Rows
  pub row : List ℕ
  pub dids : List MasterDid
  pub told : Bool
  pub line : Heard

abbrev pub masters_at : List Master → List (List ℕ) → List (List ℕ) → List (List ℕ) → List ℕ → List MasterDid → Bool → Heard → MastersAt
masters_at masters frames bytes contents row dids told line = record { masters = masters; rows = rows_of frames bytes contents; row = row; dids = dids; told = told; line = line }

abbrev pub kept : Rows → ℕ → List ℕ → List ℕ → Rows
kept x i f y = rows_of (set x.frames i f) (set x.bytes i y) x.contents

-- a master's rows are no device's
pub above : (x : Rows) (i k : ℕ) (f y : List ℕ) (ss : List (Option Device)) → i < k + 2 → devices_from (kept x i f y) k ss ≡ devices_from x k ss
unfolding devices_from
above x i k f y [] h = refl
above x i k f y (None ∷ ss) h = above x i (suc k) f y ss (omega arith)
above x i k f y (Some d ∷ ss) h = λ n.
    D.side_of d
    (get_or-set_other x.frames i (k + 2) f [] (λ q. omega (arith, q, h)) n)
    (get_or-set_other x.bytes i (k + 2) y [] (λ q. omega (arith, q, h)) n)
    (get_or x.contents k [])
    ∷ above x i (suc k) f y ss (omega arith) n

-- from i on: i itself, or behind it
from : (P : ℕ → Type 0) (i j : ℕ) → i ≤ j → P i → (suc i ≤ j → P j) → P j
from P zero zero h p f = p
from P zero (suc j) h p f = f (omega arith)
from P (suc i) zero h p f = absurd (omega arith)
from P (suc i) (suc j) h p f = from (λ (k : ℕ). P (suc k)) i j (omega arith) p (λ g. f (omega arith))

module _ (limit : ℕ) (heard : Heard) (put : List ℕ) (call : ℕ → MasterCallWithPart) where
  abbrev pub step_with : Rows → ℕ → Master → MasterStep
  step_with x i m = master_tick limit (master_at x i m) heard (master_call_of put (call i))

  abbrev pub step_of : MastersAt → ℕ → MasterStep
  step_of a i = step_with a.rows i (get_or a.masters i any_master)

  unfoldable pub line_from : MastersAt → ℕ → Heard
  line_from a zero = joins (step_of a 0).sent (joins (step_of a 1).sent a.line)
  line_from a (suc zero) = joins (step_of a 1).sent a.line
  line_from a (suc (suc n)) = a.line

  unfoldable pub told_from : MastersAt → ℕ → Bool
  told_from a zero = master_host_told (step_of a 0).told (master_host_told (step_of a 1).told a.told)
  told_from a (suc zero) = master_host_told (step_of a 1).told a.told
  told_from a (suc (suc n)) = a.told

  pub record Done (a b : MastersAt) (j : ℕ) : Type 0 where
    pub side_is : master_at b.rows j (get_or b.masters j any_master) ≡ (step_of a j).side
    pub code_is : get_or b.row j 0 ≡ sent_number (step_of a j).sent
    pub byte_sent : SendsByte (step_of a j).sent
    pub did_is : get_or b.dids j master_nothing ≡ master_did (step_of a j) (get_or a.dids j master_nothing)

  pub record MastersTicking (a b : MastersAt) (n : ℕ) : Type 0 where
    pub two : length b.masters ≡ 2
    pub frames_eight : length b.rows.frames ≡ 8
    pub bytes_eight : length b.rows.bytes ≡ 8
    pub row_eight : length b.row ≡ 8
    pub dids_two : length b.dids ≡ 2
    pub within : n ≤ 2
    pub blank : (j : ℕ) → j < 2 → get_or a.row j 0 ≡ 0
    pub done : (j : ℕ) → n ≤ j → j < 2 → Done a b j
    pub contents_stay : b.rows.contents ≡ a.rows.contents
    pub frames_stay : (j : ℕ) → get_or b.rows.frames (j + 2) [] ≡ get_or a.rows.frames (j + 2) []
    pub bytes_stay : (j : ℕ) → get_or b.rows.bytes (j + 2) [] ≡ get_or a.rows.bytes (j + 2) []
    pub devices_stay : (ss : List (Option Device)) → devices_from b.rows 0 ss ≡ devices_from a.rows 0 ss
    pub row_stays : drop 2 b.row ≡ drop 2 a.row
    pub line_is : b.line ≡ line_from a n
    pub told_is : b.told ≡ told_from a n
    pub masters_left : Same n b.masters a.masters
    pub frames_left : Same n b.rows.frames a.rows.frames
    pub bytes_left : Same n b.rows.bytes a.rows.bytes
    pub row_left : Same n b.row a.row
    pub dids_left : Same n b.dids a.dids

  pub masters_none : (a : MastersAt) → length a.masters ≡ 2 → length a.rows.frames ≡ 8 → length a.rows.bytes ≡ 8 → length a.row ≡ 8 → length a.dids ≡ 2 → ((j : ℕ) → j < 2 → get_or a.row j 0 ≡ 0) → MastersTicking a a 2
  unfolding line_from told_from
  masters_none a m f y r d w = record {
    two = m;
    frames_eight = f;
    bytes_eight = y;
    row_eight = r;
    dids_two = d;
    within = omega arith;
    blank = w;
    done = λ j h k. absurd (omega (arith, h, k));
    contents_stay = refl;
    frames_stay = λ j. refl;
    bytes_stay = λ j. refl;
    devices_stay = λ ss. refl;
    row_stays = refl;
    line_is = refl;
    told_is = refl;
    masters_left = λ j x h. refl;
    frames_left = λ j x h. refl;
    bytes_left = λ j x h. refl;
    row_left = λ j x h. refl;
    dids_left = λ j x h. refl;
  }

  one_line : (a : MastersAt) (i : ℕ) → i < 2 → joins (step_of a i).sent (line_from a (suc i)) ≡ line_from a i
  unfolding line_from
  one_line a zero h = refl
  one_line a (suc zero) h = refl
  one_line a (suc (suc i)) h = absurd (omega arith)

  one_told : (a : MastersAt) (i : ℕ) → i < 2 → master_host_told (step_of a i).told (told_from a (suc i)) ≡ told_from a i
  unfolding told_from
  one_told a zero h = refl
  one_told a (suc zero) h = refl
  one_told a (suc (suc i)) h = absurd (omega arith)

  module _ (a b : MastersAt) (i : ℕ) (v : MastersTicking a b (suc i)) where
    in_two : i < 2
    in_two = omega (arith, v.within)

    -- its step, by what it has now
    own_step : step_of b i ≡ step_of a i
    own_step = λ n. master_tick limit
        (M.side_of (v.masters_left i any_master (omega arith) n) (v.frames_left i [] (omega arith) n) (v.bytes_left i [] (omega arith) n))
        heard (master_call_of put (call i))

    pub acts : (e : Master) (f y : List ℕ) (c : ℕ) (q : MasterDid) (told : Bool) (line : Heard) (s : MasterStep)
        → s ≡ step_of b i → M.side_of e f y ≡ s.side → c ≡ sent_number s.sent → SendsByte s.sent → q ≡ master_did s (get_or b.dids i master_nothing)
        → told ≡ master_host_told s.told b.told → line ≡ joins s.sent b.line
        → MastersTicking a (record { masters = set b.masters i e; rows = kept b.rows i f y; row = set b.row i c; dids = set b.dids i q; told = told; line = line }) i
    acts e f y c q told line s p side_is code_is byte did_is told_is line_is =
        let x : MastersAt = record { masters = set b.masters i e; rows = kept b.rows i f y; row = set b.row i c; dids = set b.dids i q; told = told; line = line } in
        let step_is : s ≡ step_of a i = p ∙ own_step in
        let this : Done a x i = record {
          side_is =
              (λ n. M.side_of
              (get_or-set_same b.masters i e any_master (omega (arith, v.two, in_two)) n)
              (get_or-set_same b.rows.frames i f [] (omega (arith, v.frames_eight, in_two)) n)
              (get_or-set_same b.rows.bytes i y [] (omega (arith, v.bytes_eight, in_two)) n))
              ∙ side_is
              ∙ ap (λ (t : MasterStep). t.side) step_is;
          code_is = get_or-set_same b.row i c 0 (omega (arith, v.row_eight, in_two)) ∙ code_is ∙ ap (λ (t : MasterStep). sent_number t.sent) step_is;
          byte_sent = subst (λ (t : MasterStep). SendsByte t.sent) step_is byte;
          did_is =
              get_or-set_same b.dids i q master_nothing (omega (arith, v.dids_two, in_two))
              ∙ did_is
              ∙ ap (λ (t : MasterStep). master_did t (get_or b.dids i master_nothing)) step_is
              ∙ ap (master_did (step_of a i)) (v.dids_left i master_nothing (omega arith));
        } in
        record {
          two = length-set b.masters i e ∙ v.two;
          frames_eight = length-set b.rows.frames i f ∙ v.frames_eight;
          bytes_eight = length-set b.rows.bytes i y ∙ v.bytes_eight;
          row_eight = length-set b.row i c ∙ v.row_eight;
          dids_two = length-set b.dids i q ∙ v.dids_two;
          within = omega (arith, v.within);
          blank = v.blank;
          done = λ j h k. from (Done a x) i j h this (λ g. let other = v.done j g k in record {
            side_is =
                (λ n. M.side_of
                (get_or-set_other b.masters i j e any_master (λ r. omega (arith, r, g)) n)
                (get_or-set_other b.rows.frames i j f [] (λ r. omega (arith, r, g)) n)
                (get_or-set_other b.rows.bytes i j y [] (λ r. omega (arith, r, g)) n))
                ∙ other.side_is;
            code_is = get_or-set_other b.row i j c 0 (λ r. omega (arith, r, g)) ∙ other.code_is;
            byte_sent = other.byte_sent;
            did_is = get_or-set_other b.dids i j q master_nothing (λ r. omega (arith, r, g)) ∙ other.did_is;
          });
          contents_stay = v.contents_stay;
          frames_stay = λ j. get_or-set_other b.rows.frames i (j + 2) f [] (λ q. omega (arith, q, in_two)) ∙ v.frames_stay j;
          bytes_stay = λ j. get_or-set_other b.rows.bytes i (j + 2) y [] (λ q. omega (arith, q, in_two)) ∙ v.bytes_stay j;
          devices_stay = λ ss. above b.rows i 0 f y ss (omega (arith, in_two)) ∙ v.devices_stay ss;
          row_stays = drop-set-lt 2 b.row i c in_two ∙ v.row_stays;
          line_is = line_is ∙ ap (λ (t : MasterStep). joins t.sent b.line) step_is ∙ ap (joins (step_of a i).sent) v.line_is ∙ one_line a i in_two;
          told_is = told_is ∙ ap (λ (t : MasterStep). master_host_told t.told b.told) step_is ∙ ap (master_host_told (step_of a i).told) v.told_is ∙ one_told a i in_two;
          masters_left = same_set (suc i) i i b.masters a.masters e v.masters_left (omega arith) (omega arith);
          frames_left = same_set (suc i) i i b.rows.frames a.rows.frames f v.frames_left (omega arith) (omega arith);
          bytes_left = same_set (suc i) i i b.rows.bytes a.rows.bytes y v.bytes_left (omega arith) (omega arith);
          row_left = same_set (suc i) i i b.row a.row c v.row_left (omega arith) (omega arith);
          dids_left = same_set (suc i) i i b.dids a.dids q v.dids_left (omega arith) (omega arith);
        }

    -- one that sends, tells and answers nothing: only its state and its data buffer change
    pub quiet : (e : Master) (y : List ℕ) → quiet_master (M.side_of e (get_or b.rows.frames i []) y) ≡ step_of b i
        → MastersTicking a (record { masters = set b.masters i e; rows = rows_of b.rows.frames (set b.rows.bytes i y) b.rows.contents; row = b.row; dids = b.dids; told = b.told; line = b.line }) i
    quiet e y p =
        let f = get_or b.rows.frames i [] in
        let c : set b.row i 0 ≡ b.row = ap (set b.row i) (sym (v.row_left i 0 (omega arith) ∙ v.blank i in_two)) ∙ set-get_or b.row i 0 in
        subst (λ (x : MastersAt). MastersTicking a x i)
        (λ n. record { masters = set b.masters i e; rows = rows_of (set-get_or b.rows.frames i [] n) (set b.rows.bytes i y) b.rows.contents; row = c n; dids = set-get_or b.dids i master_nothing n; told = b.told; line = b.line })
        (acts e f y 0 (get_or b.dids i master_nothing) b.told b.line (quiet_master (M.side_of e f y)) p refl refl sends_none refl refl refl)

    -- and only its state
    pub still : (e : Master) → quiet_master (M.side_of e (get_or b.rows.frames i []) (get_or b.rows.bytes i [])) ≡ step_of b i
        → MastersTicking a (record { masters = set b.masters i e; rows = b.rows; row = b.row; dids = b.dids; told = b.told; line = b.line }) i
    still e p =
        subst (λ (x : MastersAt). MastersTicking a x i)
        (λ n. record { masters = set b.masters i e; rows = rows_of b.rows.frames (set-get_or b.rows.bytes i [] n) b.rows.contents; row = b.row; dids = b.dids; told = b.told; line = b.line })
        (quiet e (get_or b.rows.bytes i []) p)

  -- ---- a turn of the loop: the master with number n - 1

  module _ (a b : MastersAt) (n : ℕ) (d : Master) (v : MastersTicking a b n) (h : 0 < n) (c : MasterCallWithPart) (own : c ≡ call (n - 1)) where
    at_last : MastersTicking a b (suc (n - 1))
    at_last = let k : n ≡ suc (n - 1) = omega arith in subst (MastersTicking a b) k v

    abbrev lent : Master → MasterSide
    lent m = master_at b.rows (n - 1) m

    as_called : (m : Master) → get_or b.masters (n - 1) d ≡ m → master_tick limit (lent (get_or b.masters (n - 1) d)) heard (master_call_of put c) ≡ step_with b.rows (n - 1) m
    as_called m e = λ i. master_tick limit (lent (e i)) heard (master_call_of put (own i))

    same : get_or b.masters (n - 1) d ≡ get_or b.masters (n - 1) any_master
    same = any_default b.masters (n - 1) d any_master (omega (arith, v.two, v.within, h))

    pub master_counted : (w : Way) (e : Master) (follows hears : Bool) (reader : Receiver) → w ≡ master_way (get_or b.masters (n - 1) d) heard c.call follows hears reader → w ≡ Counts → e ≡ counted_master (get_or b.masters (n - 1) d)
        → MastersTicking a (record { masters = set b.masters (n - 1) e; rows = b.rows; row = b.row; dids = b.dids; told = b.told; line = b.line }) (n - 1)
    master_counted w e follows hears reader p q r =
        still a b (n - 1) at_last e
        (ap (λ (m : Master). quiet_master (with_master (lent (get_or b.masters (n - 1) d)) m (get_or b.rows.bytes (n - 1) []))) r
        ∙ master_counts_lem limit (lent (get_or b.masters (n - 1) d)) heard c.call (data_of c.part put) follows hears reader (sym p ∙ q) ∙ as_called _ same)

    pub master_heard : (w : Way) (e : Master) (r : Receiver) (y : List ℕ) (follows hears : Bool) (reader : Receiver) → w ≡ master_way (get_or b.masters (n - 1) d) heard c.call follows hears reader → w ≡ Hears
        → (follows ≡ true → (get_or b.masters (n - 1) d).receiver ≡ reader) → (hears ≡ true → taken reader heard ≡ R.tells r Nothing)
        → y ≡ taken_data (get_or b.masters (n - 1) d).receiver heard (get_or b.rows.bytes (n - 1) []) → e ≡ heard_master (get_or b.masters (n - 1) d) r
        → MastersTicking a (record { masters = set b.masters (n - 1) e; rows = rows_of b.rows.frames (set b.rows.bytes (n - 1) y) b.rows.contents; row = b.row; dids = b.dids; told = b.told; line = b.line }) (n - 1)
    master_heard w e r y follows hears reader p q has step l f =
        quiet a b (n - 1) at_last e y
        ((λ i. quiet_master (with_master (lent (get_or b.masters (n - 1) d)) (f i) (l i)))
        ∙ master_hears_lem limit (lent (get_or b.masters (n - 1) d)) heard c.call (data_of c.part put) follows hears reader r (sym p ∙ q) has step ∙ as_called _ same)

    pub master_acted : (r : MasterTicked) (f y : List ℕ) (x : ℕ) (q : MasterDid) (u : MasterDid) (told : Bool) (line : Heard)
        → M.MasterTickIs limit (get_or b.masters (n - 1) d) heard c.call (data_of c.part put) (get_or b.rows.frames (n - 1) []) (get_or b.rows.bytes (n - 1) []) r f y
        → CodeIs r.sent x → q ≡ master_did_by (get_or b.dids (n - 1) u) r.told r.result
        → told ≡ master_host_told r.told b.told → line ≡ joins r.sent b.line
        → MastersTicking a (record { masters = set b.masters (n - 1) r.master; rows = kept b.rows (n - 1) f y; row = set b.row (n - 1) x; dids = set b.dids (n - 1) q; told = told; line = line }) (n - 1)
    master_acted r f y x q u told line p x-is q-is told_is line_is =
        acts a b (n - 1) at_last r.master f y x q told line (M.step_of r f y) (p.step ∙ as_called _ same) refl x-is.is x-is.byte
        (q-is ∙ ap (λ (o : MasterDid). master_did_by o r.told r.result) (any_default b.dids (n - 1) u master_nothing (omega (arith, v.dids_two, v.within, h)))) told_is line_is
