-- Beyond demand 3: every answer that a master reports was given by the host of the device of its message's address, to its message's STX, and is reported once.
use Prim.Native.Nat.{ℕ, suc, ◌-◌, ◌≤◌, ◌<◌}
use native.Mathlib.Omega.{arith}
use mathlib.Core.Path.{◌≡◌, refl, sym, ap, subst, ◌∙◌}
use mathlib.Core.Bool.{Bool, true, false}
use mathlib.Core.List.{List, [], ◌∷◌}
use mathlib.Core.Logic.{◌⊎◌, inl, inr}
use lib.ListN.{length, take, get_or}
use Rattle.base.specs.Choice.{when◌then◌else◌}
use Rattle.base.proofs.Choices.{true_false, if_is_true, if_is_false}
use Rattle.frame.specs.Delimiter.{stx, ack, back}
use Rattle.frame.specs.declared.Header.{Header}
use Rattle.line.specs.Reader.{idle, tells, taken, taken_data}
use Rattle.line.specs.declared.Event.TheVariants.{Nothing, Frame}
use Rattle.line.specs.declared.Heard.{Heard}
use Rattle.line.specs.declared.Heard.TheVariants.{Silence, Character}
use Rattle.line.specs.declared.Profile.{Profile}
use Rattle.line.specs.declared.Receiver.{Receiver}
use Rattle.line.specs.declared.Taken.{Taken}
use Rattle.line.specs.declared.Whole.{Whole}
use Rattle.line.proofs.Leads.{reader_after, data_after}
use Rattle.turns.specs.Master.{to_itself, is_answer, rt1_ends, own_rt1, fresh_master}
use Rattle.turns.specs.Device.{may_answer, answer_header}
use Rattle.turns.specs.Link.{MasterCall, DeviceCall, no_call, MasterSide, MasterStep, DeviceSide, DeviceStep, Link, LinkStep, Calls, master_tick, device_tick, device_ticks, link_tick, link_after, run, sides}
use Rattle.turns.specs.Run.{All, none, and, EachTick}
use Rattle.turns.specs.Run as R1
use Rattle.turns.specs.Demand3.{master_in}
use Rattle.runs.specs.Credit.{Ledger, given, closed_by, closed_after, ledger_after, ledgers_after, booked_by, asked_by, asked_after, none_asked, Gave, this_one, another, Credited, EachCredited, no_tick, tick_and, blanks, CreditInARun}
use Rattle.runs.specs.Backs.{master_of}
use Rattle.turns.specs.declared.Noted.{Noted}
use Rattle.turns.specs.declared.Master.{Master}
use Rattle.turns.specs.declared.Device.{Device}
use Rattle.turns.specs.Ledgers.{finders, OneFinds}
use Rattle.turns.specs.Ledgers as G
use Rattle.runs.proofs.Finders.{Within, within_blanks, within_tick, finders_within, no_finder, gave_found}
use Rattle.runs.proofs.Fair.{answering, Fair}
use Rattle.runs.proofs.Tags.{fair_run}
use Rattle.turns.proofs.Turns.{listens_asked}
use Rattle.turns.specs.declared.MasterTold.TheVariants.{Answered}
use Rattle.turns.specs.declared.Sent.TheVariants.{Silent}
use Rattle.turns.specs.declared.Turn.TheVariants.{Listens, Answers}
use Rattle.turns.proofs.Sentences.{answer_repeats}
use Rattle.turns.proofs.Spoken.{Spoken}
use Rattle.turns.proofs.Masters.{Holds, left}
use Rattle.turns.proofs.Devices.{own_kept}
use Rattle.turns.proofs.DeviceSpeaking.{Frames, an_ack, a_back, device_speaks}
use Rattle.turns.proofs.Windows.{Valid}
use Rattle.turns.proofs.Listening.{hand_listens}
use Rattle.turns.proofs.Phases.{OneOf, here, further, MasterListens, DeviceQuiet, Ready}
use Rattle.runs.proofs.Beginning as B
use Rattle.runs.proofs.Beginning.{DevicePlace, inside, finished, DeviceSpeaks, DeviceHears, device_does}
use Rattle.turns.proofs.Quiet.{Asked, ClearLine, SetLine, SilentLine, clear, set}
use Rattle.runs.proofs.Stx as X
use Rattle.runs.proofs.Stx.{OneMasterSends, StxTick, stx_tick, device_hears_on}
use Rattle.runs.proofs.SilentTick as T
use Rattle.runs.proofs.SilentTick.{FrameIs, is_ack, is_back, OneDeviceSends, MasterRests, SilentTick}
use Rattle.runs.proofs.Silences.{clear_tick, set_tick}
use Rattle.runs.proofs.AckBack as A
use Rattle.runs.proofs.AckBack.{AckEnded, AckTick, BackTick, ack_tick, back_tick, place_of, spoken_of}
use Rattle.turns.proofs.Senders.{carries}
use Rattle.runs.proofs.NoTwoSend.{heard_tick, tick_is, stx_line, stx_line_secondary}
use Rattle.turns.proofs.Fresh.{valid, first_tick, master_is, device_is}
use Rattle.runs.proofs.Kept.{header_kept, MasterTimed, tick_asks}
use Rattle.runs.proofs.CreditMasters.{reports, mid_told, silent_told, rt1_left, tick_bytes, bytes_length, data_next, hears_data}
use Rattle.runs.proofs.CreditDevices.{DeviceOwes, Gives, none_owed, ledger_same, same_gives}
use Rattle.runs.proofs.Booked.{AllOwe, no_more, owe_and, Ledgers, no_ledger, ledger_and, owe_ledgers, report_ledgers, report_same, sent_ledgers, sent_same, owe_after, owe_anew, one_all, silent_owes, mid_owes, end_owes, speaks_owes, speaker_free, back_owes, finished_owes, same_frame, frame_sent, message_sent, data_heard}

-- ---- who reports an answer

nothing_frame : {w : Whole} → Nothing ≡ Frame w → ⊥
nothing_frame e = let z : ◌≡◌ {A = ℕ} 0 1 = cc in omega arith

NoReport : MasterStep → Type 0
NoReport s = (w : Whole) → s.told ≡ Answered w → ⊥

module _ (limit : ℕ) (x : MasterSide) (call : MasterCall) where
  -- not on the silent line
  quiet_reports : Ready x.master.receiver → NoReport (master_tick limit x Silence call)
  unfolding Ready NoReport
  quiet_reports ready w e = let r = reports limit x Silence call w e in nothing_frame (sym (ap (λ (t : Taken). t.event) ready) ∙ r.event_is)

  -- not where it sends
  deaf_reports : (heard : Heard) → x.master.deaf ≡ true → NoReport (master_tick limit x heard call)
  unfolding NoReport
  deaf_reports heard deaf w e = let r = reports limit x heard call w e in true_false (sym deaf ∙ r.hears)

  -- not inside a frame
  mid_reports : (w : List ℕ) (message : Whole) (k : ℕ) → Spoken w message → suc k < length w → x.master.receiver ≡ reader_after idle (take k w) → NoReport (master_tick limit x (Character (get_or w k 0)) call)
  unfolding NoReport
  mid_reports w message k s below q v e =
      let r = reports limit x (Character (get_or w k 0)) call v e in
      nothing_frame (sym (ap (λ (t : Taken). t.event) (subst (λ (z : Receiver). taken z (Character (get_or w k 0)) ≡ tells (reader_after idle (take (suc k) w)) Nothing) (sym q) (s.mid k below))) ∙ r.event_is)

  -- at its end: that frame
  end_reports : (w : List ℕ) (message : Whole) (k : ℕ) → Spoken w message → suc k ≡ length w → x.master.receiver ≡ reader_after idle (take k w) → (v : Whole) → (master_tick limit x (Character (get_or w k 0)) call).told ≡ Answered v
      → (v ≡ message) × (is_answer x.master v.header ≡ true) × (x.master.deaf ≡ false)
  end_reports w message k s last q v e =
      let r = reports limit x (Character (get_or w k 0)) call v e in (
        same_frame (sym r.event_is ∙ ap (λ (t : Taken). t.event) (subst (λ (z : Receiver). taken z (Character (get_or w k 0)) ≡ tells idle (Frame message)) (sym q) (s.end k last))),
        r.answer_is,
        r.hears,
      )

-- not at the end of another frame
other_reports : (limit : ℕ) (x : MasterSide) (call : MasterCall) (w : List ℕ) (message : Whole) (k : ℕ) → Spoken w message → suc k ≡ length w → x.master.receiver ≡ reader_after idle (take k w) → (message.header.kind ≡ ack → ⊥)
    → NoReport (master_tick limit x (Character (get_or w k 0)) call)
unfolding NoReport
other_reports limit x call w message k s last q f v e =
    let r = end_reports limit x call w message k s last q v e in
    f (ap (λ (z : Whole). z.header.kind) (sym r.0) ∙ (answer_repeats x.master v.header r.1).is_ack)

-- ---- the device that answers, and what the masters have heard of its ACK

-- its ACK carries what its host gave as the answer to the message of the master with its bit
record SenderOwes (g : Ledger) (x : DeviceSide) (a b : MasterSide) : Type 0 where
  gives : Gives g x.device x.frame
  own : may_answer x.device x.device.request ≡ true
  primary_asked : x.device.request.primary ≡ true → x.device.request ≡ a.master.message.header
  secondary_asked : x.device.request.primary ≡ false → x.device.request ≡ b.master.message.header

-- the device with the unique address u
data SenderGives (u : ℕ) (a b : MasterSide) : List Ledger → List DeviceSide → Type 0 where
  no_sender : SenderGives u a b [] []
  sender_and : {g : Ledger} {x : DeviceSide} {gs : List Ledger} {xs : List DeviceSide} → (x.device.unique ≡ u → SenderOwes g x a b) → SenderGives u a b gs xs → SenderGives u a b (g ∷ gs) (x ∷ xs)

-- a master's data buffer behind the first k characters of w
pub record HearsData (k : ℕ) (w : List ℕ) (x : MasterSide) : Type 0 where
  pub before : List ℕ
  pub bytes_are : x.bytes ≡ data_after idle (take k w) before
  pub room : 255 ≤ length before

-- what holds of the masters in every phase
record MastersKept (l : Link) : Type 0 where
  primary_room : 255 ≤ length l.primary.bytes
  secondary_room : 255 ≤ length l.secondary.bytes
  primary_timed : MasterTimed true l.primary.master
  secondary_timed : MasterTimed false l.secondary.master

-- the phases, with the ledgers
data Booked (p : Profile) (gs : List Ledger) (l : Link) : Type 0 where
  in_silence : (e : ℕ) → l.line ≡ Silence → SilentLine p e l.primary l.secondary l.devices → AllOwe gs l.devices → Booked p gs l
  in_primary : (burst : Bool) (noted : Noted) (next : Bool) (k : ℕ) (w : List ℕ) (message : Whole) → l.line ≡ Character (get_or w k 0)
      → OneMasterSends p true false burst noted next k w message l.primary l.secondary l.devices → Ledgers gs l.devices → Booked p gs l
  in_secondary : (burst : Bool) (noted : Noted) (next : Bool) (k : ℕ) (w : List ℕ) (message : Whole) → l.line ≡ Character (get_or w k 0)
      → OneMasterSends p false true burst noted next k w message l.secondary l.primary l.devices → Ledgers gs l.devices → Booked p gs l
  in_ack : (burst : Bool) (noted : Noted) (next : Bool) (k : ℕ) (w : List ℕ) (message : Whole) (u : ℕ) (on : Bool) → l.line ≡ Character (get_or w k 0)
      → OneDeviceSends p an_ack burst noted next k w message u on l.primary l.secondary l.devices → AllOwe gs l.devices
      → SenderGives u l.primary l.secondary gs l.devices → HearsData k w l.primary → HearsData k w l.secondary → Booked p gs l
  in_back : (burst : Bool) (noted : Noted) (next : Bool) (k : ℕ) (w : List ℕ) (message : Whole) (u : ℕ) → l.line ≡ Character (get_or w k 0)
      → OneDeviceSends p a_back burst noted next k w message u true l.primary l.secondary l.devices → Ledgers gs l.devices → Booked p gs l

-- what a tick gives: every report is credited, and the ledgers go on
record Ticked (p : Profile) (gs : List Ledger) (l : Link) (c : Calls) (s : LinkStep) : Type 0 where
  credited : finders gs ≤ 1 → (primary : Bool) (w : Whole) → (master_in primary s).told ≡ Answered w → Credited primary (master_of primary l).master.message.header gs l s w
  next : Booked p (booked_by c s gs) (link_after s)

-- the ledgers behind the reports of a tick
abbrev reported_by : LinkStep → List Ledger → List Ledger
reported_by s gs = closed_by s.for_primary.told (closed_by s.for_secondary.told gs)

-- and behind the rest of it
abbrev sent_by : Calls → LinkStep → List Ledger → List Ledger
sent_by c s gs = closed_after s.for_primary.sent (closed_after s.for_secondary.sent (ledgers_after c.for_devices s.for_devices gs))

-- where no master sends
none_sent : (c : Calls) (s : LinkStep) (gs : List Ledger) → s.for_primary.sent ≡ Silent → s.for_secondary.sent ≡ Silent → sent_by c s gs ≡ ledgers_after c.for_devices s.for_devices gs
none_sent c s gs a b = sent_same s.for_primary.sent s.for_secondary.sent (ledgers_after c.for_devices s.for_devices gs) a b

-- a tick in which no answer is reported
unreported : (p : Profile) (gs : List Ledger) (l : Link) (c : Calls) (s : LinkStep) → NoReport s.for_primary → NoReport s.for_secondary → Booked p (booked_by c s gs) (link_after s) → Ticked p gs l c s
unfolding NoReport
unreported p gs l c s na nb n = record { credited = λ one. none_credited; next = n }
  where
    none_credited : (primary : Bool) (w : Whole) → (master_in primary s).told ≡ Answered w → Credited primary (master_of primary l).master.message.header gs l s w
    none_credited true w e = absurd (na w e)
    none_credited false w e = absurd (nb w e)

-- ---- the silent line

answers_listens : (n : ℕ) → Answers n ≡ Listens → ⊥
answers_listens n e = let z : ◌≡◌ {A = ℕ} 0 1 = cc in omega arith

module _ (limit : ℕ) (low : 2 ≤ limit) (high : limit ≤ 255) (p : Profile) (v : Valid p) where
  sender_begins : (g : ℕ) (h : Header) (n : ℕ) (w : List ℕ) (message : Whole) (u : ℕ) (on : Bool) (r : Receiver) (a b : MasterSide) {k : Ledger} (x : DeviceSide) (c : DeviceCall) → 2 ≤ length w
      → (1 ≤ g → h.primary ≡ true → h ≡ a.master.message.header) → (1 ≤ g → h.primary ≡ false → h ≡ b.master.message.header) → DeviceQuiet p g h n x
      → DeviceOwes k (device_tick limit x Silence c).side.device (device_tick limit x Silence c).side.frame → DeviceSpeaks p an_ack 0 w message u on (device_tick limit x Silence c).side ⊎ DeviceHears p r u (device_tick limit x Silence c).side
      → (device_tick limit x Silence c).side.device.unique ≡ u → SenderOwes k (device_tick limit x Silence c).side a b
  sender_begins g h n w message u on r a b x c long ha hb q o (inr y) e = absurd (y.another e)
  sender_begins g h n w message u on r a b {k} x c long ha hb q o (inl y) e = at y.place
    where
      s : DeviceStep
      s = device_tick limit x Silence c

      by : s.side.device.turn ≡ Answers 1 → B.DeviceDoes p g h n x (device_tick limit x Silence c) → SenderOwes k (device_tick limit x Silence c).side a b
      by t (B.does_rest z) = absurd (resting z.quietly.good.listens.hand)
        where
          resting : Rattle.turns.proofs.Devices.Hand s.side.device s.side.frame → ⊥
          resting (Rattle.turns.proofs.Devices.nothing_in_hand q) = answers_listens 1 (sym t ∙ q)
          resting (Rattle.turns.proofs.Devices.is_asked m q some own) = Rattle.turns.proofs.Turns.answers_asked 1 m (sym t ∙ q)
          resting (Rattle.turns.proofs.Devices.is_accepted q z) = answers_accepted 1 (sym t ∙ q)
            where
              answers_accepted : (n : ℕ) → Answers n ≡ Rattle.turns.specs.declared.Turn.TheVariants.AnswerWaits → ⊥
              answers_accepted n e = let z : ◌≡◌ {A = ℕ} 0 1 = cc in omega arith
      by t (B.does_answer z m) =
          let is : s.side.device.request ≡ h = m.same_request ∙ m.request_is in
          record {
            gives = o.gives (ap answering t);
            own = own_kept s.side.device.request m.same (subst (λ (i : Header). may_answer x.device i ≡ true) (sym m.same_request) m.own);
            primary_asked = λ i. is ∙ ha z (ap (λ (j : Header). j.primary) (sym is) ∙ i);
            secondary_asked = λ i. is ∙ hb z (ap (λ (j : Header). j.primary) (sym is) ∙ i);
          }
      by t (B.does_burst z m) = absurd (bursting m.speaks.place)
        where
          bursting : {w : List ℕ} → DevicePlace a_back 0 w s.side.device → ⊥
          bursting (inside below i) = answers_bursts 1 1 (sym t ∙ i)
            where
              answers_bursts : (m n : ℕ) → Answers m ≡ Rattle.turns.specs.declared.Turn.TheVariants.Bursts n → ⊥
              answers_bursts m n e = let z : ◌≡◌ {A = ℕ} 0 1 = cc in omega arith
          bursting (finished last i due) = answers_listens 1 (sym t ∙ i)

      at : DevicePlace an_ack 0 w s.side.device → SenderOwes k (device_tick limit x Silence c).side a b
      at (inside below t) = by t (device_does limit low high p v.some_sto g h n x c q)
      at (finished last t due) = absurd (omega arith)

  -- the device that begins its ACK answers the message of the master that awaits it
  begins_gives : (g : ℕ) (h : Header) (n : ℕ) (w : List ℕ) (message : Whole) (u : ℕ) (on : Bool) (r : Receiver) (a b : MasterSide) {gs : List Ledger} {xs : List DeviceSide} (calls : List DeviceCall) → 2 ≤ length w
      → (1 ≤ g → h.primary ≡ true → h ≡ a.master.message.header) → (1 ≤ g → h.primary ≡ false → h ≡ b.master.message.header) → All (DeviceQuiet p g h n) xs
      → AllOwe gs (sides (device_ticks limit Silence xs calls)) → All (λ (y : DeviceSide). DeviceSpeaks p an_ack 0 w message u on y ⊎ DeviceHears p r u y) (sides (device_ticks limit Silence xs calls)) → SenderGives u a b gs (sides (device_ticks limit Silence xs calls))
  unfolding device_ticks sides
  begins_gives g h n w message u on r a b calls long ha hb none no_more none = no_sender
  begins_gives g h n w message u on r a b [] long ha hb (and {x = x} q qs) (owe_and o os) (and s ss) =
      sender_and (sender_begins g h n w message u on r a b x no_call long ha hb q o s) (begins_gives g h n w message u on r a b [] long ha hb qs os ss)
  begins_gives g h n w message u on r a b (c ∷ cs) long ha hb (and {x = x} q qs) (owe_and o os) (and s ss) =
      sender_and (sender_begins g h n w message u on r a b x c long ha hb q o s) (begins_gives g h n w message u on r a b cs long ha hb qs os ss)

  module _ (l : Link) (c : Calls) (gs : List Ledger) (kept : MastersKept l) where
    abbrev quiet : LinkStep
    quiet = heard_tick limit l Silence c

    -- at a frame's first character the buffers are as they are
    begins_data : (w : List ℕ) → HearsData 0 w (link_after (heard_tick limit l Silence c)).primary × HearsData 0 w (link_after (heard_tick limit l Silence c)).secondary
    unfolding heard_tick data_after
    begins_data w = (
      record { before = quiet.for_primary.side.bytes; bytes_are = refl; room = omega (arith, kept.primary_room, bytes_length limit l.primary Silence c.for_primary) },
      record { before = quiet.for_secondary.side.bytes; bytes_are = refl; room = omega (arith, kept.secondary_room, bytes_length limit l.secondary Silence c.for_secondary) },
    )

    spoken_long : {f : Frames} {k : ℕ} {w : List ℕ} {message : Whole} {u : ℕ} {on : Bool} {Q : DeviceSide → Type 0} {xs : List DeviceSide} → OneOf (DeviceSpeaks p f k w message u on) Q xs → 2 ≤ length w
    spoken_long o = (spoken_of o).long

    -- the master that awaits the ACK keeps its message
    module _ (g : ℕ) (h : Header) (asked : Asked g h l.primary l.secondary) (ra : MasterRests l.primary (heard_tick limit l Silence c).for_primary) (rb : MasterRests l.secondary (heard_tick limit l Silence c).for_secondary) where
      same_primary : 1 ≤ g → h.primary ≡ true → h ≡ (link_after (heard_tick limit l Silence c)).primary.master.message.header
      same_primary z e = asked.primary_header z e ∙ sym (ra.same_header (omega (arith, ra.one_less, asked.by_primary z e)))

      same_secondary : 1 ≤ g → h.primary ≡ false → h ≡ (link_after (heard_tick limit l Silence c)).secondary.master.message.header
      same_secondary z e = asked.secondary_header z e ∙ sym (rb.same_header (omega (arith, rb.one_less, asked.by_secondary z e)))

    -- no master sends
    unsent : (hs : List Ledger) → quiet.for_primary.sent ≡ Silent → quiet.for_secondary.sent ≡ Silent → Booked p (ledgers_after c.for_devices quiet.for_devices hs) (link_after quiet) → Booked p (sent_by c quiet hs) (link_after quiet)
    unsent hs a b k = subst (λ (z : List Ledger). Booked p z (link_after quiet)) (sym (none_sent c quiet hs a b)) k

    -- what comes of a silent tick
    behind_silence : (hs : List Ledger) (g : ℕ) (h : Header) (n : ℕ) (burst : Bool) (noted : Noted) (next : Bool) (L : Type 0)
        → ((link_after (heard_tick limit l Silence c)).line ≡ Silence → L → Booked p (ledgers_after c.for_devices (heard_tick limit l Silence c).for_devices hs) (link_after (heard_tick limit l Silence c)))
        → Asked g h l.primary l.secondary → All (DeviceQuiet p g h n) l.devices → AllOwe (ledgers_after c.for_devices (heard_tick limit l Silence c).for_devices hs) (link_after (heard_tick limit l Silence c)).devices
        → SilentTick p n burst noted next l.primary l.secondary (heard_tick limit l Silence c).for_primary (heard_tick limit l Silence c).for_secondary (heard_tick limit l Silence c).for_devices L
        → Booked p (sent_by c (heard_tick limit l Silence c) hs) (link_after (heard_tick limit l Silence c))
    unfolding heard_tick
    behind_silence hs g h n burst noted next L f asked qs os (T.still_silent a b line k ra rb) = unsent hs a b (f (carries quiet a b line) k)
    behind_silence hs g h n burst noted next L f asked qs os (T.primary_begins w message a b line o ra rb) =
        in_primary burst noted next 0 w message (carries quiet a b line) o (sent_ledgers quiet.for_primary.sent quiet.for_secondary.sent (owe_ledgers os))
    behind_silence hs g h n burst noted next L f asked qs os (T.secondary_begins w message a b line o ra rb) =
        in_secondary burst noted next 0 w message (carries quiet a b line) o (sent_ledgers quiet.for_primary.sent quiet.for_secondary.sent (owe_ledgers os))
    behind_silence hs g h n burst noted next L f asked qs os (T.ack_begins w message u on a b line o ra rb) =
        unsent hs a b
        (in_ack burst noted _ 0 w message u on (carries quiet a b line) o os
        (begins_gives g h n w message u on _ _ _ c.for_devices (spoken_long o.devices) (same_primary g h asked ra rb) (same_secondary g h asked ra rb) qs os (one_all o.devices))
        (begins_data w).0 (begins_data w).1)
    behind_silence hs g h n burst noted next L f asked qs os (T.back_begins z w message u a b line o ra rb) = unsent hs a b (in_back burst noted _ 0 w message u (carries quiet a b line) o (owe_ledgers os))

    -- a report closes all ledgers: where an answer may still begin, RT1 ends for no master, and elsewhere no device has anything in hand
    quiet_owes : (g : ℕ) (h : Header) (n : ℕ) → (1 ≤ g → (rt1_ends l.primary.master.message.stage ≡ false) × (rt1_ends l.secondary.master.message.stage ≡ false))
        → MasterListens p true l.primary → Ready l.primary.master.receiver → MasterListens p false l.secondary → Ready l.secondary.master.receiver → All (DeviceQuiet p g h n) l.devices → AllOwe gs l.devices
        → AllOwe (ledgers_after c.for_devices (heard_tick limit l Silence c).for_devices (reported_by (heard_tick limit l Silence c) gs)) (link_after (heard_tick limit l Silence c)).devices
    unfolding heard_tick Ready
    quiet_owes g h n on la ra lb rb qs os = go (native.Mathlib.Decide.dec_le 1 g)
      where
        after : List Ledger → Type 0
        after hs = AllOwe (ledgers_after c.for_devices quiet.for_devices hs) (link_after quiet).devices

        no_hand : {gl : Ledger} (x : DeviceSide) → g ≤ 0 → DeviceQuiet p g h n x → DeviceOwes gl x.device x.frame
        no_hand x z q =
            let e = hand_listens x.device x.frame q.listens.hand (omega (arith, q.in_time)) in
            none_owed (λ k y. listens_asked k (sym e ∙ y)) (ap answering e)

        go : Dec (1 ≤ g) → after (reported_by quiet gs)
        go (yes z) =
            let r = on z in
            subst after (sym (report_same quiet.for_primary.told quiet.for_secondary.told gs (silent_told limit l.primary c.for_primary la.hears ra r.0) (silent_told limit l.secondary c.for_secondary lb.hears rb r.1)))
            (owe_after limit Silence c.for_devices (λ x d g q o. silent_owes limit high p v.some_sto x d g q.listens q.ready o) qs os)
        go (no z) =
            owe_anew limit Silence c.for_devices (λ x d g q. silent_owes limit high p v.some_sto x d g q.listens q.ready (no_hand x (omega arith) q)) qs
            (report_ledgers quiet.for_primary.told quiet.for_secondary.told (owe_ledgers os))

    -- a master for which more than a tick, or none, is left
    not_ending : {primary : Bool} (x : MasterSide) → MasterTimed primary x.master → (left x.master.message.stage ≡ 1 → ⊥) → rt1_ends x.master.message.stage ≡ false
    not_ending x t f = go (rt1_ends x.master.message.stage) refl
      where
        go : (b : Bool) → rt1_ends x.master.message.stage ≡ b → rt1_ends x.master.message.stage ≡ false
        go true e = absurd (f (omega (arith, t.timed e, rt1_left x.master.message.stage e)))
        go false e = e

    clear_ends : (e : ℕ) (k : ClearLine p e l.primary l.secondary l.devices) → 1 ≤ k.g → (rt1_ends l.primary.master.message.stage ≡ false) × (rt1_ends l.secondary.master.message.stage ≡ false)
    clear_ends e k z = (
      not_ending l.primary kept.primary_timed (λ q. omega (arith, k.primary_awaits (omega (arith, q)), k.primary_shut.later z)),
      not_ending l.secondary kept.secondary_timed (λ q. omega (arith, k.secondary_awaits (omega (arith, q)), k.secondary_shut.later z)),
    )

    -- with BURST set one master awaits its ACK, which is the one that asked
    set_ends : (n : ℕ) (next : Bool) (k : SetLine p n next l.primary l.secondary l.devices) → 1 ≤ k.g → (rt1_ends l.primary.master.message.stage ≡ false) × (rt1_ends l.secondary.master.message.stage ≡ false)
    set_ends n next k z = go k.h.primary refl
      where
        go : (b : Bool) → k.h.primary ≡ b → (rt1_ends l.primary.master.message.stage ≡ false) × (rt1_ends l.secondary.master.message.stage ≡ false)
        go true e =
            let more = k.asked.by_primary z e in (
              not_ending l.primary kept.primary_timed (λ q. omega (arith, q, more)),
              not_ending l.secondary kept.secondary_timed (λ q. true_false (sym (k.primary_awaits (omega (arith, more))).0 ∙ (k.secondary_awaits (omega (arith, q))).0)),
            )
        go false e =
            let more = k.asked.by_secondary z e in (
              not_ending l.primary kept.primary_timed (λ q. true_false (sym (k.primary_awaits (omega (arith, q))).0 ∙ (k.secondary_awaits (omega (arith, more))).0)),
              not_ending l.secondary kept.secondary_timed (λ q. omega (arith, q, more)),
            )

    silence_books : (e : ℕ) → Fair (heard_tick limit l Silence c) → SilentLine p e l.primary l.secondary l.devices → AllOwe gs l.devices → Ticked p gs l c (heard_tick limit l Silence c)
    unfolding heard_tick
    silence_books e sole (clear k) os =
        let after = quiet_owes k.g k.h 0 (clear_ends e k) k.primary.listens k.primary.ready k.secondary.listens k.secondary.ready k.devices os in
        unreported p gs l c quiet (quiet_reports limit l.primary c.for_primary k.primary.ready) (quiet_reports limit l.secondary c.for_secondary k.secondary.ready)
        (behind_silence (reported_by quiet gs) k.g k.h 0 false k.noted true _ (λ line m. in_silence (e - 1) line (clear m) after) k.asked k.devices after
        (clear_tick limit low high p v l.primary l.secondary l.devices c.for_primary c.for_secondary c.for_devices e k sole))
    silence_books e sole (set n next k) os =
        let after = quiet_owes k.g k.h n (set_ends n next k) k.primary.listens k.primary.ready k.secondary.listens k.secondary.ready k.devices os in
        unreported p gs l c quiet (quiet_reports limit l.primary c.for_primary k.primary.ready) (quiet_reports limit l.secondary c.for_secondary k.secondary.ready)
        (behind_silence (reported_by quiet gs) k.g k.h n true k.noted next _ (λ line m. in_silence (e - 1) line (set (n - 1) next m) after) k.asked k.devices after
        (set_tick limit low high p v l.primary l.secondary l.devices c.for_primary c.for_secondary c.for_devices n next k sole))

    -- ---- a master sends

    abbrev heard : List ℕ → ℕ → LinkStep
    heard w k = heard_tick limit l (Character (get_or w k 0)) c

    silently : (hs : List Ledger) (w : List ℕ) (k : ℕ) → (heard w k).for_primary.sent ≡ Silent → (heard w k).for_secondary.sent ≡ Silent
        → Booked p (ledgers_after c.for_devices (heard w k).for_devices hs) (link_after (heard w k)) → Booked p (sent_by c (heard w k) hs) (link_after (heard w k))
    silently hs w k a b n = subst (λ (z : List Ledger). Booked p z (link_after (heard w k))) (sym (none_sent c (heard w k) hs a b)) n

    -- a ledger for each device, whatever is reported
    told_ledgers : (w : List ℕ) (k : ℕ) → Ledgers gs l.devices → Ledgers (reported_by (heard w k) gs) l.devices
    told_ledgers w k gl = report_ledgers (heard w k).for_primary.told (heard w k).for_secondary.told gl

    -- the devices that hear a frame
    hear_books : (w : List ℕ) (message : Whole) (k u : ℕ) → Spoken w message → (suc k < length w) ⊎ (suc k ≡ length w) → message.expansion ≡ 0 → All (DeviceHears p (reader_after idle (take k w)) u) l.devices → {hs : List Ledger} → Ledgers hs l.devices
        → AllOwe (ledgers_after c.for_devices (heard_tick limit l (Character (get_or w k 0)) c).for_devices hs) (link_after (heard_tick limit l (Character (get_or w k 0)) c)).devices
    unfolding heard_tick
    hear_books w message k u s (inl below) plain qs gl = owe_anew limit (Character (get_or w k 0)) c.for_devices (λ x d g q. mid_owes limit high p v.some_sto x d g q.listens w message k s below q.receiver_is) qs gl
    hear_books w message k u s (inr last) plain qs gl = owe_anew limit (Character (get_or w k 0)) c.for_devices (λ x d g q. end_owes limit high p v.some_sto x d g q.listens w message k s last q.receiver_is plain) qs gl

    -- and a listening master: nothing to report of a frame that is no ACK
    hears_reports : (x : MasterSide) (d : MasterCall) (w : List ℕ) (message : Whole) (k : ℕ) → Spoken w message → (suc k < length w) ⊎ (suc k ≡ length w) → x.master.receiver ≡ reader_after idle (take k w) → (message.header.kind ≡ ack → ⊥) → NoReport (master_tick limit x (Character (get_or w k 0)) d)
    hears_reports x d w message k s (inl below) r f = mid_reports limit x d w message k s below r
    hears_reports x d w message k s (inr last) r f = other_reports limit x d w message k s last r f

    stx_ack : {n : ℕ} → n ≡ stx → n ≡ ack → ⊥
    stx_ack e z = let q : stx ≡ ack = sym e ∙ z in omega (arith, q)

    back_ack : {n : ℕ} → n ≡ back → n ≡ ack → ⊥
    back_ack e z = let q : back ≡ ack = sym e ∙ z in omega (arith, q)

    stx_where : {x : MasterSide} {k : ℕ} {w : List ℕ} → Rattle.turns.proofs.Sending.MasterPlace k w x → (suc k < length w) ⊎ (suc k ≡ length w)
    stx_where (Rattle.turns.proofs.Sending.inside below e) = inl below
    stx_where (Rattle.turns.proofs.Sending.finished last t s e) = inr last

    primary_books : (burst : Bool) (noted : Noted) (next : Bool) (k : ℕ) (w : List ℕ) (message : Whole) → OneMasterSends p true false burst noted next k w message l.primary l.secondary l.devices → Ledgers gs l.devices
        → Ticked p gs l c (heard_tick limit l (Character (get_or w k 0)) c)
    unfolding heard_tick
    primary_books burst noted next k w message o os =
        let s = o.speaks.held.speaks in
        let place = stx_where o.speaks.place in
        unreported p gs l c (heard w k) (deaf_reports limit l.primary c.for_primary (Character (get_or w k 0)) o.speaks.deaf_is) (hears_reports l.secondary c.for_secondary w message k s place o.hears.receiver_is (stx_ack o.speaks.type_is))
        (go (stx_tick limit low high p v true false burst noted next k w message l.primary l.secondary l.devices c.for_primary c.for_secondary c.for_devices o) (hear_books w message k 0 s place o.speaks.no_expansion o.devices (told_ledgers w k os)))
      where
        go : StxTick p true false burst noted next k w message l.primary l.secondary (heard w k).for_primary (heard w k).for_secondary (heard w k).for_devices
            → AllOwe (ledgers_after c.for_devices (heard w k).for_devices (reported_by (heard w k) gs)) (link_after (heard w k)).devices → Booked p (booked_by c (heard w k) gs) (link_after (heard w k))
        go (X.goes_on below a b line m n y) after = in_primary burst noted next (suc k) w message (carries (heard w k) a b line) m (sent_ledgers (heard w k).for_primary.sent (heard w k).for_secondary.sent (owe_ledgers after))
        go (X.ends last a b line m n y) after = silently (reported_by (heard w k) gs) w k a b (in_silence 0 (carries (heard w k) a b line) (stx_line p v 0 burst m) after)

    secondary_books : (burst : Bool) (noted : Noted) (next : Bool) (k : ℕ) (w : List ℕ) (message : Whole) → OneMasterSends p false true burst noted next k w message l.secondary l.primary l.devices → Ledgers gs l.devices
        → Ticked p gs l c (heard_tick limit l (Character (get_or w k 0)) c)
    unfolding heard_tick
    secondary_books burst noted next k w message o os =
        let s = o.speaks.held.speaks in
        let place = stx_where o.speaks.place in
        unreported p gs l c (heard w k) (hears_reports l.primary c.for_primary w message k s place o.hears.receiver_is (stx_ack o.speaks.type_is)) (deaf_reports limit l.secondary c.for_secondary (Character (get_or w k 0)) o.speaks.deaf_is)
        (go (stx_tick limit low high p v false true burst noted next k w message l.secondary l.primary l.devices c.for_secondary c.for_primary c.for_devices o) (hear_books w message k 0 s place o.speaks.no_expansion o.devices (told_ledgers w k os)))
      where
        go : StxTick p false true burst noted next k w message l.secondary l.primary (heard w k).for_secondary (heard w k).for_primary (heard w k).for_devices
            → AllOwe (ledgers_after c.for_devices (heard w k).for_devices (reported_by (heard w k) gs)) (link_after (heard w k)).devices → Booked p (booked_by c (heard w k) gs) (link_after (heard w k))
        go (X.goes_on below a b line m n y) after = in_secondary burst noted next (suc k) w message (carries (heard w k) b a line) m (sent_ledgers (heard w k).for_primary.sent (heard w k).for_secondary.sent (owe_ledgers after))
        go (X.ends last a b line m n y) after = silently (reported_by (heard w k) gs) w k b a (in_silence 0 (carries (heard w k) b a line) (stx_line_secondary p v 0 burst m) after)

    -- ---- a device sends

    -- a device that hears the one that sends
    listens_owes : (w : List ℕ) (message : Whole) (k u : ℕ) → Spoken w message → message.expansion ≡ 0 → (suc k < length w) ⊎ (suc k ≡ length w) → (x : DeviceSide) (d : DeviceCall) (g : Ledger) → DeviceHears p (reader_after idle (take k w)) u x
        → DeviceOwes (ledger_after d (device_tick limit x (Character (get_or w k 0)) d) g) (device_tick limit x (Character (get_or w k 0)) d).side.device (device_tick limit x (Character (get_or w k 0)) d).side.frame
    listens_owes w message k u s plain (inl below) x d g q = mid_owes limit high p v.some_sto x d g q.listens w message k s below q.receiver_is
    listens_owes w message k u s plain (inr last) x d g q = end_owes limit high p v.some_sto x d g q.listens w message k s last q.receiver_is plain

    -- the one that sends, and those that hear it
    send_books : (f : Frames) (w : List ℕ) (message : Whole) (k u : ℕ) (on : Bool) → Spoken w message → (suc k < length w) ⊎ (suc k ≡ length w) → message.expansion ≡ 0
        → OneOf (DeviceSpeaks p f k w message u on) (DeviceHears p (reader_after idle (take k w)) u) l.devices → AllOwe gs l.devices
        → AllOwe (ledgers_after c.for_devices (heard_tick limit l (Character (get_or w k 0)) c).for_devices gs) (link_after (heard_tick limit l (Character (get_or w k 0)) c)).devices
    unfolding heard_tick
    send_books f w message k u on s place plain o os = owe_after limit (Character (get_or w k 0)) c.for_devices by (one_all o) os
      where
        by : (x : DeviceSide) (d : DeviceCall) (g : Ledger) → DeviceSpeaks p f k w message u on x ⊎ DeviceHears p (reader_after idle (take k w)) u x → DeviceOwes g x.device x.frame
            → DeviceOwes (ledger_after d (device_tick limit x (Character (get_or w k 0)) d) g) (device_tick limit x (Character (get_or w k 0)) d).side.device (device_tick limit x (Character (get_or w k 0)) d).side.frame
        by x d g (inl q) o = speaks_owes limit high x (Character (get_or w k 0)) d g q.deaf_is (speaker_free f q.place) o
        by x d g (inr q) o = listens_owes w message k u s plain place x d g q

    -- where the one that sends owes nothing, whatever is reported
    end_books : (f : Frames) (w : List ℕ) (message : Whole) (k u : ℕ) (on : Bool) → Spoken w message → (suc k < length w) ⊎ (suc k ≡ length w) → message.expansion ≡ 0 → ((x : DeviceSide) (g : Ledger) → DevicePlace f k w x.device → DeviceOwes g x.device x.frame)
        → OneOf (DeviceSpeaks p f k w message u on) (DeviceHears p (reader_after idle (take k w)) u) l.devices → Ledgers gs l.devices
        → AllOwe (ledgers_after c.for_devices (heard_tick limit l (Character (get_or w k 0)) c).for_devices (reported_by (heard_tick limit l (Character (get_or w k 0)) c) gs)) (link_after (heard_tick limit l (Character (get_or w k 0)) c)).devices
    unfolding heard_tick
    end_books f w message k u on s place plain over o gl = owe_anew limit (Character (get_or w k 0)) c.for_devices by (one_all o) (told_ledgers w k gl)
      where
        by : (x : DeviceSide) (d : DeviceCall) (g : Ledger) → DeviceSpeaks p f k w message u on x ⊎ DeviceHears p (reader_after idle (take k w)) u x
            → DeviceOwes (ledger_after d (device_tick limit x (Character (get_or w k 0)) d) g) (device_tick limit x (Character (get_or w k 0)) d).side.device (device_tick limit x (Character (get_or w k 0)) d).side.frame
        by x d g (inl q) = speaks_owes limit high x (Character (get_or w k 0)) d g q.deaf_is (speaker_free f q.place) (over x g q.place)
        by x d g (inr q) = listens_owes w message k u s plain place x d g q

    back_books : (burst : Bool) (noted : Noted) (next : Bool) (k : ℕ) (w : List ℕ) (message : Whole) (u : ℕ) → OneDeviceSends p a_back burst noted next k w message u true l.primary l.secondary l.devices → Ledgers gs l.devices
        → Ticked p gs l c (heard_tick limit l (Character (get_or w k 0)) c)
    unfolding heard_tick
    back_books burst noted next k w message u o os =
        let s = spoken_of o.devices in
        let place = place_of o.devices in
        unreported p gs l c (heard w k) (hears_reports l.primary c.for_primary w message k s place o.primary.receiver_is (back_ack (is_it o.frame_is))) (hears_reports l.secondary c.for_secondary w message k s place o.secondary.receiver_is (back_ack (is_it o.frame_is)))
        (go (back_tick limit low high p v burst noted next k w message u l.primary l.secondary l.devices c.for_primary c.for_secondary c.for_devices o) (end_books a_back w message k u true s place o.no_expansion (λ x g q. back_owes q) o.devices os))
      where
        is_it : FrameIs true burst next message.header l.primary l.secondary a_back → message.header.kind ≡ back
        is_it (is_back type z b e) = type

        go : BackTick p burst noted next k w message u l.primary l.secondary (heard w k).for_primary (heard w k).for_secondary (heard w k).for_devices
            → AllOwe (ledgers_after c.for_devices (heard w k).for_devices (reported_by (heard w k) gs)) (link_after (heard w k)).devices → Booked p (booked_by c (heard w k) gs) (link_after (heard w k))
        go (A.back_goes_on below a b line m x y) after = silently (reported_by (heard w k) gs) w k a b (in_back burst noted next (suc k) w message u (carries (heard w k) a b line) m (owe_ledgers after))
        go (A.back_ends last a b line m ta tb n x y) after = silently (reported_by (heard w k) gs) w k a b (in_silence 0 (carries (heard w k) a b line) (set p.rt2 next m) after)

    -- ---- an ACK

    -- the ACK's header, from the request that it answers
    ack_bit : {g : Ledger} {w : List ℕ} {message : Whole} (x : DeviceSide) (k : Gives g x.device x.frame) → Holds x.frame x.device.length w message → message.header.primary ≡ x.device.request.primary
    ack_bit {w = w} x k h = ap (λ (z : Whole). z.header.primary) (message_sent k h (length w - 1) (omega (arith, h.speaks.long)))

    sender_goes_on : (w : List ℕ) (message : Whole) (k u : ℕ) (on : Bool) → suc k < length w → {g : Ledger} (x : DeviceSide) (d : DeviceCall) → DeviceSpeaks p an_ack k w message u on x
        → (message.header.primary ≡ true → 1 ≤ left (link_after (heard_tick limit l (Character (get_or w k 0)) c)).primary.master.message.stage) → (message.header.primary ≡ false → 1 ≤ left (link_after (heard_tick limit l (Character (get_or w k 0)) c)).secondary.master.message.stage)
        → SenderOwes g x l.primary l.secondary
        → SenderOwes (ledger_after d (device_tick limit x (Character (get_or w k 0)) d) g) (device_tick limit x (Character (get_or w k 0)) d).side (link_after (heard_tick limit l (Character (get_or w k 0)) c)).primary (link_after (heard_tick limit l (Character (get_or w k 0)) c)).secondary
    unfolding heard_tick
    sender_goes_on w message k u on below {g} x d q la lb o = at q.place
      where
        s : DeviceStep
        s = device_tick limit x (Character (get_or w k 0)) d

        at : DevicePlace an_ack k w x.device → SenderOwes (ledger_after d s g) s.side (link_after (heard w k)).primary (link_after (heard w k)).secondary
        at (finished last t due) = absurd (omega arith)
        at (inside more t) =
            let y = device_speaks an_ack x (suc k) w message t q.held below limit (Character (get_or w k 0)) d high q.deaf_is q.sound in
            let bit = ack_bit x o.gives q.held in
            subst (λ (z : Ledger). SenderOwes z s.side (link_after (heard w k)).primary (link_after (heard w k)).secondary) (sym (ledger_same limit g x (Character (get_or w k 0)) d q.deaf_is (speaker_free an_ack q.place)))
            (record {
              gives = subst (λ (f : List ℕ). Gives g s.side.device f) (sym y.same_frame) (same_gives y.same_request y.same.same_preamble y.same_length o.gives);
              own = subst (λ (h : Header). may_answer s.side.device h ≡ true) (sym y.same_request) (own_kept x.device.request y.same o.own);
              primary_asked = λ z.
                  y.same_request ∙ o.primary_asked (ap (λ (h : Header). h.primary) (sym y.same_request) ∙ z)
                  ∙ sym (header_kept limit high l.primary (Character (get_or w k 0)) c.for_primary (la (bit ∙ ap (λ (h : Header). h.primary) (sym y.same_request) ∙ z)));
              secondary_asked = λ z.
                  y.same_request ∙ o.secondary_asked (ap (λ (h : Header). h.primary) (sym y.same_request) ∙ z)
                  ∙ sym (header_kept limit high l.secondary (Character (get_or w k 0)) c.for_secondary (lb (bit ∙ ap (λ (h : Header). h.primary) (sym y.same_request) ∙ z)));
            })

    -- the same for the list
    module _ (w : List ℕ) (message : Whole) (k u : ℕ) (on : Bool) (sp : Spoken w message) (below : suc k < length w) (la : message.header.primary ≡ true → 1 ≤ left (link_after (heard_tick limit l (Character (get_or w k 0)) c)).primary.master.message.stage)
        (lb : message.header.primary ≡ false → 1 ≤ left (link_after (heard_tick limit l (Character (get_or w k 0)) c)).secondary.master.message.stage) where
      one_after : {g : Ledger} (x : DeviceSide) (d : DeviceCall) → DeviceSpeaks p an_ack k w message u on x ⊎ DeviceHears p (reader_after idle (take k w)) u x
          → (x.device.unique ≡ u → SenderOwes g x l.primary l.secondary) → (device_tick limit x (Character (get_or w k 0)) d).side.device.unique ≡ u
          → SenderOwes (ledger_after d (device_tick limit x (Character (get_or w k 0)) d) g) (device_tick limit x (Character (get_or w k 0)) d).side (link_after (heard_tick limit l (Character (get_or w k 0)) c)).primary (link_after (heard_tick limit l (Character (get_or w k 0)) c)).secondary
      one_after x d (inl q) f e = sender_goes_on w message k u on below x d q la lb (f q.unique_is)
      one_after x d (inr q) f e = absurd (q.another (sym (device_hears_on limit low high p v.some_sto w message sp k u below x d q).same.same_unique ∙ e))

      sender_after : {hs : List Ledger} {xs : List DeviceSide} (calls : List DeviceCall) → All (λ (x : DeviceSide). DeviceSpeaks p an_ack k w message u on x ⊎ DeviceHears p (reader_after idle (take k w)) u x) xs → SenderGives u l.primary l.secondary hs xs
          → SenderGives u (link_after (heard_tick limit l (Character (get_or w k 0)) c)).primary (link_after (heard_tick limit l (Character (get_or w k 0)) c)).secondary (ledgers_after calls (device_ticks limit (Character (get_or w k 0)) xs calls) hs) (sides (device_ticks limit (Character (get_or w k 0)) xs calls))
      unfolding device_ticks sides ledgers_after
      sender_after calls none no_sender = no_sender
      sender_after [] (and {x = x} q qs) (sender_and f fs) = sender_and (one_after x no_call q f) (sender_after [] qs fs)
      sender_after (d ∷ ds) (and {x = x} q qs) (sender_and f fs) = sender_and (one_after x d q f) (sender_after ds qs fs)

    -- a master's data buffer behind one character more
    hears_on_data : (x : MasterSide) (d : MasterCall) (w : List ℕ) (k : ℕ) → k < length w → x.master.deaf ≡ false → x.master.receiver ≡ reader_after idle (take k w) → HearsData k w x → HearsData (suc k) w (master_tick limit x (Character (get_or w k 0)) d).side
    hears_on_data x d w k below hears r h = record {
      before = h.before;
      bytes_are = tick_bytes limit x (Character (get_or w k 0)) d ∙ hears_data x (Character (get_or w k 0)) hears
          ∙ (λ i. taken_data (r i) (Character (get_or w k 0)) (h.bytes_are i)) ∙ sym (data_next idle k w h.before below);
      room = h.room;
    }

    -- the sender among the devices
    record Found (f : Frames) (k : ℕ) (w : List ℕ) (message : Whole) (u : ℕ) (on : Bool) (a b : MasterSide) (hs : List Ledger) (xs : List DeviceSide) : Type 0 where
      x : DeviceSide
      g : Ledger
      speaks : DeviceSpeaks p f k w message u on x
      owes : SenderOwes g x a b
      gave : (h : Header) → x.device.request ≡ h → Gave h owes.gives.put xs hs

    found : {k : ℕ} {w : List ℕ} {message : Whole} {u : ℕ} {on : Bool} {a b : MasterSide} {Q : DeviceSide → Type 0} {hs : List Ledger} {xs : List DeviceSide}
        → OneOf (DeviceSpeaks p an_ack k w message u on) Q xs → SenderGives u a b hs xs → Found an_ack k w message u on a b hs xs
    found (here {x = x} q qs) (sender_and {g = g} {gs = gs} {xs = xs} f fs) =
        let o = f q.unique_is in
        record {
          x = x;
          g = g;
          speaks = q;
          owes = o;
          gave = λ h e. subst (λ (z : Ledger). Gave h o.gives.put (x ∷ xs) (z ∷ gs)) (sym (o.gives.owed ∙ ap (λ (i : Header). given i o.gives.put) e))
              (this_one (subst (λ (i : Header). may_answer x.device i ≡ true) e o.own));
        }
    found (further q o) (sender_and f fs) =
        let r = found o fs in
        record { x = r.x; g = r.g; speaks = r.speaks; owes = r.owes; gave = λ h e. another (r.gave h e) }

    -- whose ACK it is, by its master bit
    asked_by_lem : (bit : Bool) (m : Master) (h : Header) {g : Ledger} (x : DeviceSide) → m.primary ≡ bit → to_itself m h ≡ true → h.primary ≡ x.device.request.primary → SenderOwes g x l.primary l.secondary → x.device.request ≡ (master_of bit l).master.message.header
    unfolding when◌then◌else◌
    asked_by_lem true m h x e own same o = o.primary_asked (sym same ∙ sym (if_is_true m.primary h.primary _ e) ∙ own)
    asked_by_lem false m h x e own same o = o.secondary_asked (sym same ∙ go h.primary (sym (if_is_false m.primary _ (when h.primary then false else true) e) ∙ own))
      where
        go : (b : Bool) → (when b then false else true) ≡ true → b ≡ false
        go true q = absurd (true_false (sym q))
        go false q = refl

    -- a master that reports the ACK which ends in this tick
    record Credits (bit : Bool) (ack-told : Whole) (bytes : List ℕ) : Type 0 where
      put : List ℕ
      gave : Gave (master_of bit l).master.message.header put l.devices gs
      form_is : ack-told.header.long ≡ (master_of bit l).master.message.header.long
      bit_is : ack-told.header.primary ≡ (master_of bit l).master.message.header.primary
      address_is : ack-told.header.address ≡ (master_of bit l).master.message.header.address
      command_is : ack-told.header.command ≡ (master_of bit l).master.message.header.command
      data_is : take ack-told.count bytes ≡ put

    credit : (bit : Bool) (k : ℕ) (w : List ℕ) (message : Whole) (u : ℕ) (on : Bool) (x : MasterSide) (d : MasterCall) → suc k ≡ length w → Found an_ack k w message u on l.primary l.secondary gs l.devices
        → x.master.primary ≡ bit → x.master.receiver ≡ reader_after idle (take k w) → HearsData k w x → (told : Whole) → (master_tick limit x (Character (get_or w k 0)) d).told ≡ Answered told
        → Credits bit told (master_tick limit x (Character (get_or w k 0)) d).side.bytes
    credit bit k w message u on x d last f pr r hd told e =
        let t = end_reports limit x d w message k f.speaks.held.speaks last r told e in
        let o = f.owes in
        let v-is = t.0 ∙ message_sent o.gives f.speaks.held k last in
        let request_is = asked_by_lem bit x.master told.header f.x pr (answer_repeats x.master told.header t.1).own_bit (ap (λ (z : Whole). z.header.primary) v-is) o in
        let w_is = frame_sent o.gives f.speaks.held in
        record {
          put = o.gives.put;
          gave = f.gave (master_of bit l).master.message.header request_is;
          form_is = ap (λ (z : Whole). z.header.long) v-is ∙ ap (λ (h : Header). h.long) request_is;
          bit_is = ap (λ (z : Whole). z.header.primary) v-is ∙ ap (λ (h : Header). h.primary) request_is;
          address_is = ap (λ (z : Whole). z.header.address) v-is ∙ ap (λ (h : Header). h.address) request_is;
          command_is = ap (λ (z : Whole). z.header.command) v-is ∙ ap (λ (h : Header). h.command) request_is;
          data_is = ap (λ (z : Whole). take z.count (master_tick limit x (Character (get_or w k 0)) d).side.bytes) v-is
              ∙ ap (take (length o.gives.put)) (tick_bytes limit x (Character (get_or w k 0)) d ∙ hears_data x (Character (get_or w k 0)) t.2 ∙ (λ i. taken_data (r i) (Character (get_or w k 0)) (hd.bytes_are i)))
              ∙ ap (λ (z : List ℕ). take (length o.gives.put) (taken_data (reader_after idle (take k z)) (Character (get_or z k 0)) (data_after idle (take k z) hd.before))) w_is
              ∙ data_heard f.x.device.preamble (answer_header f.x.device.request o.gives.flag) o.gives.put hd.before k o.gives.fits (last ∙ ap length w_is) hd.room;
        }

    ack_books : (burst : Bool) (noted : Noted) (next : Bool) (k : ℕ) (w : List ℕ) (message : Whole) (u : ℕ) (on : Bool) → OneDeviceSends p an_ack burst noted next k w message u on l.primary l.secondary l.devices → AllOwe gs l.devices
        → SenderGives u l.primary l.secondary gs l.devices → HearsData k w l.primary → HearsData k w l.secondary → Ticked p gs l c (heard_tick limit l (Character (get_or w k 0)) c)
    unfolding heard_tick
    ack_books burst noted next k w message u on o os sg ha hb = go (ack_tick limit low high p v burst noted next k w message u l.primary l.secondary l.devices c.for_primary c.for_secondary c.for_devices 0 on o)
      where
        s : LinkStep
        s = heard w k

        sp : Spoken w message
        sp = spoken_of o.devices

        lefts : {a b : MasterSide} → FrameIs on burst next message.header a b an_ack → (message.header.primary ≡ true → 1 ≤ left a.master.message.stage) × (message.header.primary ≡ false → 1 ≤ left b.master.message.stage)
        lefts (is_ack type pa pb) = (pa, pb)

        -- a report at the end of the ACK
        reported : suc k ≡ length w → finders gs ≤ 1 → (primary : Bool) (v : Whole) → (master_in primary s).told ≡ Answered v → Credited primary (master_of primary l).master.message.header gs l s v
        reported last one true v e =
            let r = credit true k w message u on l.primary c.for_primary last (found o.devices sg) o.primary.listens.is_it.primary_is o.primary.receiver_is ha v e in
            record { put = r.put; gave = r.gave; form_is = r.form_is; bit_is = r.bit_is; address_is = r.address_is; command_is = r.command_is; data_is = r.data_is; no_other = λ tag. omega (arith, one, gave_found tag r.gave) }
        reported last one false v e =
            let r = credit false k w message u on l.secondary c.for_secondary last (found o.devices sg) o.secondary.listens.is_it.primary_is o.secondary.receiver_is hb v e in
            record { put = r.put; gave = r.gave; form_is = r.form_is; bit_is = r.bit_is; address_is = r.address_is; command_is = r.command_is; data_is = r.data_is; no_other = λ tag. omega (arith, one, gave_found tag r.gave) }

        ends_owe : suc k ≡ length w → s.for_primary.sent ≡ Silent → s.for_secondary.sent ≡ Silent → AllOwe (booked_by c s gs) (link_after s).devices
        ends_owe last a b =
            subst (λ (z : List Ledger). AllOwe z (link_after s).devices) (sym (sent_same s.for_primary.sent s.for_secondary.sent _ a b))
            (end_books an_ack w message k u on sp (inr last) o.no_expansion (λ x g q. finished_owes last q) o.devices (owe_ledgers os))

        -- inside the ACK nothing is reported
        none_told : suc k < length w → reported_by s gs ≡ gs
        none_told below =
            report_same s.for_primary.told s.for_secondary.told gs
            (mid_told limit l.primary c.for_primary (get_or w k 0) (reader_after idle (take (suc k) w)) (subst (λ (z : Receiver). taken z (Character (get_or w k 0)) ≡ tells (reader_after idle (take (suc k) w)) Nothing) (sym o.primary.receiver_is) (sp.mid k below)))
            (mid_told limit l.secondary c.for_secondary (get_or w k 0) (reader_after idle (take (suc k) w)) (subst (λ (z : Receiver). taken z (Character (get_or w k 0)) ≡ tells (reader_after idle (take (suc k) w)) Nothing) (sym o.secondary.receiver_is) (sp.mid k below)))

        ended : (link_after s).line ≡ Silence → AckEnded p 0 (Rattle.turns.specs.Master.burst_after burst noted message.header) next message.header s.for_primary.side s.for_secondary.side (sides s.for_devices) → SilentLine p 0 s.for_primary.side s.for_secondary.side (sides s.for_devices)
        ended line (A.ended_clear z n m ta tb) = clear m
        ended line (A.ended_set z n m ta tb) = set 1 next m

        go : AckTick p 0 burst noted next k w message u on l.primary l.secondary s.for_primary s.for_secondary s.for_devices → Ticked p gs l c s
        go (A.ack_goes_on below a b line m x y) =
            let z = lefts m.frame_is in
            unreported p gs l c s (mid_reports limit l.primary c.for_primary w message k sp below o.primary.receiver_is) (mid_reports limit l.secondary c.for_secondary w message k sp below o.secondary.receiver_is)
            (subst (λ (z : List Ledger). Booked p (sent_by c s z) (link_after s)) (sym (none_told below))
            (silently gs w k a b (in_ack burst noted next (suc k) w message u on (carries s a b line) m (send_books an_ack w message k u on sp (inl below) o.no_expansion o.devices os)
            (sender_after w message k u on sp below z.0 z.1 c.for_devices (one_all o.devices) sg)
            (hears_on_data l.primary c.for_primary w k (omega arith) o.primary.listens.hears o.primary.receiver_is ha)
            (hears_on_data l.secondary c.for_secondary w k (omega arith) o.secondary.listens.hears o.secondary.receiver_is hb))))
        go (A.ack_ends last off a b line m x y) = record { credited = reported last; next = in_silence 0 (carries s a b line) (ended (carries s a b line) m) (ends_owe last a b) }
        go (A.back_follows_it last z who w' message' a b line m x y) = record { credited = reported last; next = in_back true who (when next then false else true) 0 w' message' u (carries s a b line) m (owe_ledgers (ends_owe last a b)) }

-- ---- the theorem

module _ (limit : ℕ) (low : 2 ≤ limit) (high : limit ≤ 255) (p : Profile) (v : Valid p) where
  book_tick : (l : Link) (c : Calls) (gs : List Ledger) → MastersKept l → Fair (link_tick limit l c) → Booked p gs l → Ticked p gs l c (link_tick limit l c)
  book_tick l c gs kept sole (in_silence e line o os) =
      let q = tick_is limit l Silence c line in
      subst (Ticked p gs l c) (sym q) (silence_books limit low high p v l c gs kept e (subst Fair q sole) o os)
  book_tick l c gs kept sole (in_primary burst noted next k w message line o os) =
      subst (Ticked p gs l c) (sym (tick_is limit l (Character (get_or w k 0)) c line)) (primary_books limit low high p v l c gs kept burst noted next k w message o os)
  book_tick l c gs kept sole (in_secondary burst noted next k w message line o os) =
      subst (Ticked p gs l c) (sym (tick_is limit l (Character (get_or w k 0)) c line)) (secondary_books limit low high p v l c gs kept burst noted next k w message o os)
  book_tick l c gs kept sole (in_ack burst noted next k w message u on line o os sg ha hb) =
      subst (Ticked p gs l c) (sym (tick_is limit l (Character (get_or w k 0)) c line)) (ack_books limit low high p v l c gs kept burst noted next k w message u on o os sg ha hb)
  book_tick l c gs kept sole (in_back burst noted next k w message u line o os) =
      subst (Ticked p gs l c) (sym (tick_is limit l (Character (get_or w k 0)) c line)) (back_books limit low high p v l c gs kept burst noted next k w message u o os)

  masters_after : (l : Link) (c : Calls) → MastersKept l → MastersKept (link_after (link_tick limit l c))
  unfolding link_tick
  masters_after l c r = record {
    primary_room = omega (arith, r.primary_room, bytes_length limit l.primary l.line c.for_primary);
    secondary_room = omega (arith, r.secondary_room, bytes_length limit l.secondary l.line c.for_secondary);
    primary_timed = (tick_asks limit high true l.primary l.line c.for_primary r.primary_timed).still_timed;
    secondary_timed = (tick_asks limit high false l.secondary l.line c.for_secondary r.secondary_timed).still_timed;
  }

  -- what each master was asked last is its message
  asked_after_lem : (l : Link) (c : Calls) (asked : Bool → Header) → MastersKept l → ((primary : Bool) → asked primary ≡ (master_of primary l).master.message.header)
      → (primary : Bool) → asked_after c (link_tick limit l c) asked primary ≡ (master_of primary (link_after (link_tick limit l c))).master.message.header
  unfolding link_tick
  asked_after_lem l c asked r e true =
      ap (asked_by true c.for_primary (master_tick limit l.primary l.line c.for_primary).result) (e true) ∙ sym (tick_asks limit high true l.primary l.line c.for_primary r.primary_timed).header_is
  asked_after_lem l c asked r e false =
      ap (asked_by false c.for_secondary (master_tick limit l.secondary l.line c.for_secondary).result) (e false) ∙ sym (tick_asks limit high false l.secondary l.line c.for_secondary r.secondary_timed).header_is

  -- so a report is credited to it
  credits : {gs : List Ledger} {l : Link} {c : Calls} {s : LinkStep} {asked : Bool → Header} → ((primary : Bool) → asked primary ≡ (master_of primary l).master.message.header) → finders gs ≤ 1 → Ticked p gs l c s
      → (primary : Bool) (w : Whole) → (master_in primary s).told ≡ Answered w → Credited primary (asked primary) gs l s w
  credits {gs} {l} {c} {s} e one t primary w told = subst (λ (h : Header). Credited primary h gs l s w) (sym (e primary)) (t.credited one primary w told)

  -- `fs` are the ledgers of the premise on command 11
  booked_run : (l : Link) (ticks : List Calls) (asked : Bool → Header) (gs fs : List Ledger) → ((primary : Bool) → asked primary ≡ (master_of primary l).master.message.header) → MastersKept l → Booked p gs l → Within gs fs → finders fs ≤ 1
      → EachTick Fair (run limit l ticks) → OneFinds fs ticks (run limit l ticks) → EachCredited limit asked gs l ticks
  unfolding run
  booked_run l [] asked gs fs e kept k w few b o = no_tick
  booked_run l (c ∷ cs) asked gs fs e kept k w few (R1.EachTick.tick_and one b) (G.OneFinds.tick_and q o) =
      let t = book_tick l c gs kept one k in
      tick_and (credits e (omega (arith, few, finders_within w)) t)
      (booked_run (link_after (link_tick limit l c)) cs (asked_after c (link_tick limit l c) asked) (booked_by c (link_tick limit l c) gs) _ (asked_after_lem l c asked kept e) (masters_after l c kept) t.next (within_tick c (link_tick limit l c) w) q b o)

blank_ledgers : (xs : List DeviceSide) → Ledgers (blanks xs) xs
unfolding blanks
blank_ledgers [] = no_ledger
blank_ledgers (x ∷ xs) = ledger_and (blank_ledgers xs)

some_rt1 : (p : Profile) → Valid p → (primary : Bool) → 1 ≤ own_rt1 p primary
unfolding when◌then◌else◌
some_rt1 p v true = omega (arith, v.rt2_short)
some_rt1 p v false = omega (arith, v.rt2_short, v.secondary)

pub credit_in_a_run : (limit : ℕ) → 2 ≤ limit → limit ≤ 255 → CreditInARun limit
unfolding run link_tick
credit_in_a_run limit low high p retries l [] k ra rb = no_tick
credit_in_a_run limit low high p retries l (c ∷ cs) k ra rb = go (fair_run limit p retries l (c ∷ cs) k) k.one_finds
  where
    v : Valid p
    v = valid p k.made

    s : LinkStep
    s = link_tick limit l c

    primary_is : l.primary.master ≡ fresh_master p true retries
    primary_is = master_is p true retries l.primary.master k.starts.primary.starts

    secondary_is : l.secondary.master ≡ fresh_master p false retries
    secondary_is = master_is p false retries l.secondary.master k.starts.secondary.starts

    fresh_timed : (primary : Bool) → 1 ≤ own_rt1 p primary → MasterTimed primary (fresh_master p primary retries)
    fresh_timed primary some = record { bit_is = refl; some_rt1 = some; timed = λ z. absurd (true_false (sym z)) }

    kept : MastersKept l
    kept = record {
      primary_room = ra;
      secondary_room = rb;
      primary_timed = subst (MasterTimed true) (sym primary_is) (fresh_timed true (some_rt1 p v true));
      secondary_timed = subst (MasterTimed false) (sym secondary_is) (fresh_timed false (some_rt1 p v false));
    }

    nothing_asked : (primary : Bool) → none_asked primary ≡ (master_of primary l).master.message.header
    nothing_asked true = ap (λ (m : Master). m.message.header) (sym primary_is)
    nothing_asked false = ap (λ (m : Master). m.message.header) (sym secondary_is)

    -- a fresh device has nothing in hand
    fresh : (x : DeviceSide) (d : DeviceCall) (g : Ledger) → R1.DeviceStarts p x → DeviceOwes (ledger_after d (device_tick limit x l.line d) g) (device_tick limit x l.line d).side.device (device_tick limit x l.line d).side.frame
    fresh x d g q =
        let e = (device_is p q.preamble q.polling q.unique x.device q.starts).is in
        let turn = ap (λ (z : Device). z.turn) e in
        speaks_owes limit high x l.line d g (ap (λ (z : Device). z.deaf) e) (λ n z. listens_asked n (sym turn ∙ z)) (none_owed (λ n z. listens_asked n (sym turn ∙ z)) (ap answering turn))

    first : Ticked p (blanks l.devices) l c (link_tick limit l c)
    first =
        let f = first_tick limit low high p v retries l.primary l.secondary l.devices l.line c.for_primary c.for_secondary c.for_devices k.starts.primary k.starts.secondary k.starts.devices k.starts.distinct in
        unreported p (blanks l.devices) l c (link_tick limit l c)
        (deaf_reports limit l.primary c.for_primary l.line (ap (λ (m : Master). m.deaf) primary_is))
        (deaf_reports limit l.secondary c.for_secondary l.line (ap (λ (m : Master). m.deaf) secondary_is))
        (subst (λ (z : List Ledger). Booked p z (link_after (link_tick limit l c))) (sym (none_sent c (link_tick limit l c) (reported_by s (blanks l.devices)) f.primary_silent f.secondary_silent))
        (in_silence p.rt1s (carries (link_tick limit l c) f.primary_silent f.secondary_silent f.devices_silent) (clear f.silent_line)
        (owe_anew limit l.line c.for_devices fresh k.starts.devices (report_ledgers s.for_primary.told s.for_secondary.told (blank_ledgers l.devices)))))

    go : EachTick Fair (run limit l (c ∷ cs)) → OneFinds (blanks l.devices) (c ∷ cs) (run limit l (c ∷ cs)) → EachCredited limit none_asked (blanks l.devices) l (c ∷ cs)
    go (R1.EachTick.tick_and one b) (G.OneFinds.tick_and q o) =
        tick_and (credits limit low high p v nothing_asked (no_finder l.devices) first)
        (booked_run limit low high p v (link_after s) cs (asked_after c s none_asked) (booked_by c s (blanks l.devices)) _ (asked_after_lem limit low high p v l c none_asked kept nothing_asked) (masters_after limit low high p v l c kept) first.next
        (within_tick c s (within_blanks l.devices)) q b o)
