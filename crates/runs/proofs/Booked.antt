-- The ledgers of all devices through a tick: what is said of each device, said of the list; and the frame that a device sends, told from its ledger.
use Prim.Native.Nat.{ℕ, suc, ◌+◌, ◌≤◌, ◌<◌}
use native.Mathlib.Omega.{arith}
use mathlib.Core.Path.{◌≡◌, refl, sym, ap, subst, ◌∙◌}
use mathlib.Core.Bool.{Bool, true, false}
use mathlib.Core.List.{List, [], ◌∷◌, ◌++◌, append_assoc}
use mathlib.Core.Logic.{◌⊎◌, inl, inr}
use lib.ListN.{length, take, get_or, length-append}
use lib.Seq.{take_at}
use Rattle.base.specs.Choice.{when◌then◌else◌}
use Rattle.base.specs.Store.{stored}
use Rattle.base.proofs.Stores.{stored_front}
use Rattle.frame.specs.Check.{exclusive_or}
use Rattle.frame.specs.Frame.{protected_bytes, body_bytes, preamble_bytes, frame_bytes, frame_length}
use Rattle.frame.specs.declared.Header.{Header}
use Rattle.frame.proofs.Taken.{Fits}
use Rattle.line.specs.Reader.{idle, tells, taken, taken_data}
use Rattle.line.specs.declared.Event.TheVariants.{Nothing, Frame, Damaged}
use Rattle.line.specs.declared.FrameDamage.{FrameDamage}
use Rattle.line.specs.declared.Heard.{Heard}
use Rattle.line.specs.declared.Heard.TheVariants.{Silence, Character}
use Rattle.line.specs.declared.Profile.{Profile}
use Rattle.line.specs.declared.Receiver.{Receiver}
use Rattle.line.specs.declared.Taken.{Taken}
use Rattle.line.specs.declared.Whole.{Whole}
use Rattle.line.proofs.Hearing as H
use Rattle.line.proofs.Hearing.{whole_message, frame_leads}
use Rattle.line.proofs.Leads.{reader_after, data_after, leads_to, leads_data}
use Rattle.turns.specs.Device.{answer_header}
use Rattle.turns.specs.Link.{DeviceCall, no_call, DeviceSide, device_tick, device_ticks, sides}
use Rattle.turns.specs.Run.{All, none, and}
use Rattle.runs.specs.Credit.{Ledger, ledger_after, ledgers_after, closed, closed_by, closed_after, told_by, Gave, another}
use Rattle.turns.specs.declared.MasterTold.{MasterTold}
use Rattle.turns.specs.declared.MasterTold.TheVariants.{Answered, GivenUp, BroadcastSent}
use Rattle.turns.specs.declared.Sent.{Sent}
use Rattle.turns.specs.declared.Sent.TheVariants.{Silent}
use Rattle.turns.specs.declared.Turn.TheVariants.{Asked}
use Rattle.turns.specs.declared.Device.{Device}
use Rattle.turns.specs.declared.DeviceTaken.{DeviceTaken}
use Rattle.turns.proofs.Spoken.{Spoken}
use Rattle.turns.proofs.Masters.{Holds, holds_written}
use Rattle.turns.proofs.Turns.{listens_asked, asked_follows, asked_begins, accepted_asked, follows_asked, answers_asked, bursts_asked}
use Rattle.turns.proofs.Devices as D
use Rattle.turns.proofs.DeviceTaking as DT
use Rattle.turns.proofs.DeviceSpeaking.{Frames, an_ack, a_back, turn_behind}
use Rattle.turns.proofs.Listening.{plain, plain_frame}
use Rattle.turns.proofs.Phases.{OneOf, here, further, DeviceListens, Ready}
use Rattle.runs.proofs.Beginning.{DevicePlace, inside, finished}
use Rattle.runs.proofs.Fair.{answering}
use Rattle.runs.proofs.CreditDevices.{DeviceOwes, Gives, Answerable, device_owes, takes_owes, hears_owes, none_owed}

-- ---- all devices

pub data AllOwe : List Ledger → List DeviceSide → Type 0 where
  no_more : AllOwe [] []
  owe_and : {g : Ledger} {x : DeviceSide} {gs : List Ledger} {xs : List DeviceSide} → DeviceOwes g x.device x.frame → AllOwe gs xs → AllOwe (g ∷ gs) (x ∷ xs)

-- a ledger for each device
pub data Ledgers : List Ledger → List DeviceSide → Type 0 where
  no_ledger : Ledgers [] []
  ledger_and : {g : Ledger} {x : DeviceSide} {gs : List Ledger} {xs : List DeviceSide} → Ledgers gs xs → Ledgers (g ∷ gs) (x ∷ xs)

pub owe_ledgers : {gs : List Ledger} {xs : List DeviceSide} → AllOwe gs xs → Ledgers gs xs
owe_ledgers no_more = no_ledger
owe_ledgers (owe_and o a) = ledger_and (owe_ledgers a)

pub closed_ledgers : {gs : List Ledger} {xs : List DeviceSide} → Ledgers gs xs → Ledgers (closed gs) xs
unfolding closed
closed_ledgers no_ledger = no_ledger
closed_ledgers (ledger_and a) = ledger_and (closed_ledgers a)

none_closed : {h : Header} {put : List ℕ} {xs : List DeviceSide} (gs : List Ledger) → Gave h put xs (closed gs) → ⊥
unfolding closed
none_closed (g ∷ gs) (another q) = none_closed gs q
none_closed {h = h} {put = put} {xs = xs} [] x' = elim x' [ ]

-- behind a tick in which a master sends no answer stands in them, so that one that does was given behind the last STX
pub none_stands : (c : ℕ) {h : Header} {put : List ℕ} {xs : List DeviceSide} (gs : List Ledger) → Gave h put xs (closed_after (Sent.Character c) gs) → ⊥
none_stands c gs q = none_closed gs q

-- and none behind a report, so that one that does was given to a message that is not over
pub none_outlasts : (t : MasterTold) {h : Header} {put : List ℕ} {xs : List DeviceSide} (gs : List Ledger) → (t ≡ MasterTold.Nothing → ⊥) → Gave h put xs (closed_by t gs) → ⊥
none_outlasts MasterTold.Nothing gs f q = f refl
none_outlasts (Answered w) gs f q = none_closed gs q
none_outlasts (GivenUp n) gs f q = none_closed gs q
none_outlasts BroadcastSent gs f q = none_closed gs q

-- behind what masters report
pub report_ledgers : (a b : MasterTold) {gs : List Ledger} {xs : List DeviceSide} → Ledgers gs xs → Ledgers (closed_by a (closed_by b gs)) xs
report_ledgers a b g = go a (go b g)
  where
    go : (t : MasterTold) {gs : List Ledger} {xs : List DeviceSide} → Ledgers gs xs → Ledgers (closed_by t gs) xs
    go MasterTold.Nothing g = g
    go (Answered w) g = closed_ledgers g
    go (GivenUp n) g = closed_ledgers g
    go BroadcastSent g = closed_ledgers g

-- where none reports they stay open
pub report_same : (a b : MasterTold) (gs : List Ledger) → a ≡ MasterTold.Nothing → b ≡ MasterTold.Nothing → closed_by a (closed_by b gs) ≡ gs
report_same a b gs e f = λ i. closed_by (e i) (closed_by (f i) gs)

-- behind what masters send
pub sent_ledgers : (a b : Sent) {gs : List Ledger} {xs : List DeviceSide} → Ledgers gs xs → Ledgers (closed_after a (closed_after b gs)) xs
sent_ledgers a b g = go a (go b g)
  where
    go : (t : Sent) {gs : List Ledger} {xs : List DeviceSide} → Ledgers gs xs → Ledgers (closed_after t gs) xs
    go Silent g = g
    go (Sent.Character c) g = closed_ledgers g

-- where none sends they stay open
pub sent_same : (a b : Sent) (gs : List Ledger) → a ≡ Silent → b ≡ Silent → closed_after a (closed_after b gs) ≡ gs
sent_same a b gs e f = λ i. closed_after (e i) (closed_after (f i) gs)

-- every device's ledger says what it has in hand behind the tick, if it did before
pub owe_after : (limit : ℕ) (heard : Heard) {P : DeviceSide → Type 0} {gs : List Ledger} {xs : List DeviceSide} (calls : List DeviceCall)
    → ((x : DeviceSide) (c : DeviceCall) (g : Ledger) → P x → DeviceOwes g x.device x.frame → DeviceOwes (ledger_after c (device_tick limit x heard c) g) (device_tick limit x heard c).side.device (device_tick limit x heard c).side.frame)
    → All P xs → AllOwe gs xs → AllOwe (ledgers_after calls (device_ticks limit heard xs calls) gs) (sides (device_ticks limit heard xs calls))
unfolding device_ticks sides ledgers_after
owe_after limit heard calls f none no_more = no_more
owe_after limit heard [] f (and {x = x} p ps) (owe_and {g = g} o os) = owe_and (f x no_call g p o) (owe_after limit heard [] f ps os)
owe_after limit heard (c ∷ cs) f (and {x = x} p ps) (owe_and {g = g} o os) = owe_and (f x c g p o) (owe_after limit heard cs f ps os)

-- or whatever it said before
pub owe_anew : (limit : ℕ) (heard : Heard) {P : DeviceSide → Type 0} {gs : List Ledger} {xs : List DeviceSide} (calls : List DeviceCall)
    → ((x : DeviceSide) (c : DeviceCall) (g : Ledger) → P x → DeviceOwes (ledger_after c (device_tick limit x heard c) g) (device_tick limit x heard c).side.device (device_tick limit x heard c).side.frame)
    → All P xs → Ledgers gs xs → AllOwe (ledgers_after calls (device_ticks limit heard xs calls) gs) (sides (device_ticks limit heard xs calls))
unfolding device_ticks sides ledgers_after
owe_anew limit heard calls f none no_ledger = no_more
owe_anew limit heard [] f (and {x = x} p ps) (ledger_and {g = g} os) = owe_and (f x no_call g p) (owe_anew limit heard [] f ps os)
owe_anew limit heard (c ∷ cs) f (and {x = x} p ps) (ledger_and {g = g} os) = owe_and (f x c g p) (owe_anew limit heard cs f ps os)

pub one_all : {P Q : DeviceSide → Type 0} {xs : List DeviceSide} → OneOf P Q xs → All (λ (x : DeviceSide). P x ⊎ Q x) xs
one_all (here p qs) = and (inl p) (go qs)
  where
    go : {P Q : DeviceSide → Type 0} {ys : List DeviceSide} → All Q ys → All (λ (x : DeviceSide). P x ⊎ Q x) ys
    go none = none
    go (and q qs) = and (inr q) (go qs)
one_all (further q o) = and (inr q) (one_all o)

-- ---- each device

frame_damaged : {w v : Whole} {m : FrameDamage} → Frame w ≡ Damaged v m → ⊥
frame_damaged e = let z : ◌≡◌ {A = ℕ} 0 1 = cc in omega arith

nothing_damaged : {v : Whole} {m : FrameDamage} → Nothing ≡ Damaged v m → ⊥
nothing_damaged e = let z : ◌≡◌ {A = ℕ} 0 1 = cc in omega arith

-- a request in hand behind what was heard can be answered
able : {d : Device} {t : DeviceTaken} {frame contents : List ℕ} → DT.Took frame contents d t → (n : ℕ) → t.device.turn ≡ Asked n → Answerable t.device frame contents
able {t = t} {frame = frame} {contents = contents} k n e = go k.turned
  where
    go : D.Turned t.device frame → Answerable t.device frame contents
    go (D.in_hand (D.nothing_in_hand q)) = absurd (listens_asked n (sym q ∙ e))
    go (D.in_hand (D.is_asked m q some own)) = record { sound = k.sound; own = own }
    go (D.in_hand (D.is_accepted q p)) = absurd (accepted_asked n (sym q ∙ e))
    go (D.begins_now q p) = absurd (asked_begins n (sym e ∙ q))
    go (D.follows_now q on) = absurd (asked_follows n (sym e ∙ q))

module _ (limit : ℕ) (high : limit ≤ 255) (p : Profile) (some : 1 ≤ p.sto) (x : DeviceSide) (c : DeviceCall) (g : Ledger) (l : DeviceListens p x) where
  -- on the silent line
  pub silent_owes : Ready x.device.receiver → DeviceOwes g x.device x.frame → DeviceOwes (ledger_after c (device_tick limit x Silence c) g) (device_tick limit x Silence c).side.device (device_tick limit x Silence c).side.frame
  unfolding Ready
  silent_owes ready o =
      let took = DT.takes_silence x.frame x.contents x.device l.hears l.hand l.sound ready in
      device_owes limit high g x Silence c (plain x.device x.frame _ took.event_is) (able took.took)
      (takes_owes g x.device x.frame o Silence (λ z w m e. nothing_damaged (sym (ap (λ (t : Taken). t.event) ready) ∙ e)))

  -- inside a frame
  pub mid_owes : (w : List ℕ) (message : Whole) (k : ℕ) → Spoken w message → suc k < length w → x.device.receiver ≡ reader_after idle (take k w)
      → DeviceOwes (ledger_after c (device_tick limit x (Character (get_or w k 0)) c) g) (device_tick limit x (Character (get_or w k 0)) c).side.device (device_tick limit x (Character (get_or w k 0)) c).side.frame
  mid_owes w message k s below r =
      let e = subst (λ (z : Receiver). taken z (Character (get_or w k 0)) ≡ tells (reader_after idle (take (suc k) w)) Nothing) (sym r) (s.mid k below) in
      let took = DT.takes_mid x.frame x.contents x.device l.hears l.hand l.sound (get_or w k 0) (reader_after idle (take (suc k) w)) e in
      device_owes limit high g x (Character (get_or w k 0)) c (plain x.device x.frame _ took.event_is) (able took.took)
      (hears_owes g x.device x.frame (get_or w k 0) l.hears (λ v m z. nothing_damaged (sym (ap (λ (t : Taken). t.event) e) ∙ z)))

  -- at its end
  pub end_owes : (w : List ℕ) (message : Whole) (k : ℕ) → Spoken w message → suc k ≡ length w → x.device.receiver ≡ reader_after idle (take k w) → message.expansion ≡ 0
      → DeviceOwes (ledger_after c (device_tick limit x (Character (get_or w k 0)) c) g) (device_tick limit x (Character (get_or w k 0)) c).side.device (device_tick limit x (Character (get_or w k 0)) c).side.frame
  end_owes w message k s last r plain-message =
      let e = subst (λ (z : Receiver). taken z (Character (get_or w k 0)) ≡ tells idle (Frame message)) (sym r) (s.end k last) in
      let some_own = subst (λ (q : Profile). 1 ≤ q.sto) (sym l.profile_is) some in
      let took = DT.takes_frame x.frame x.contents x.device l.hears l.hand l.sound (get_or w k 0) message e plain-message some_own in
      device_owes limit high g x (Character (get_or w k 0)) c (plain_frame x.device x.frame _ message took.event_is) (able took.took)
      (hears_owes g x.device x.frame (get_or w k 0) l.hears (λ v m z. frame_damaged (sym (ap (λ (t : Taken). t.event) e) ∙ z)))

-- a device that sends: it hears nothing, and has no request in hand
pub speaks_owes : (limit : ℕ) → limit ≤ 255 → (x : DeviceSide) (heard : Heard) (c : DeviceCall) (g : Ledger) → x.device.deaf ≡ true → ((n : ℕ) → x.device.turn ≡ Asked n → ⊥) → DeviceOwes g x.device x.frame
    → DeviceOwes (ledger_after c (device_tick limit x heard c) g) (device_tick limit x heard c).side.device (device_tick limit x heard c).side.frame
speaks_owes limit high x heard c g deaf free o =
    let e = DT.takes_nothing x.device heard deaf in
    device_owes limit high g x heard c (plain x.device x.frame _ (ap (λ (t : DeviceTaken). t.event) e))
    (λ n z. absurd (free n (ap (λ (t : DeviceTaken). t.device.turn) (sym e) ∙ z)))
    (subst (λ (t : DeviceTaken). DeviceOwes (told_by t.told g) t.device x.frame) (sym e) o)

pub speaker_free : (f : Frames) {k : ℕ} {w : List ℕ} {d : Device} → DevicePlace f k w d → (n : ℕ) → d.turn ≡ Asked n → ⊥
unfolding when◌then◌else◌
speaker_free an_ack {k} (inside below t) n e = answers_asked (suc k) n (sym t ∙ e)
speaker_free a_back {k} (inside below t) n e = bursts_asked (suc k) n (sym t ∙ e)
speaker_free an_ack {d = d} (finished last t due) n e = go d.burst (sym t ∙ e)
  where
    go : (b : Bool) → turn_behind an_ack b ≡ Asked n → ⊥
    go true q = follows_asked n q
    go false q = listens_asked n q
speaker_free a_back (finished last t due) n e = listens_asked n (sym t ∙ e)

-- nothing is owed by a device that sends its BACK
pub back_owes : {k : ℕ} {w : List ℕ} {d : Device} {g : Ledger} {frame : List ℕ} → DevicePlace a_back k w d → DeviceOwes g d frame
unfolding when◌then◌else◌
back_owes {k} (inside below t) = none_owed (λ n e. bursts_asked (suc k) n (sym t ∙ e)) (ap answering t)
back_owes (finished last t due) = none_owed (λ n e. listens_asked n (sym t ∙ e)) (ap answering t)

-- and behind the last character of its ACK
pub finished_owes : {k : ℕ} {w : List ℕ} {d : Device} {g : Ledger} {frame : List ℕ} → suc k ≡ length w → DevicePlace an_ack k w d → DeviceOwes g d frame
unfolding when◌then◌else◌
finished_owes last (inside below t) = absurd (omega arith)
finished_owes {d = d} {g = g} {frame = frame} last (finished z t due) = go d.burst t
  where
    go : (b : Bool) → d.turn ≡ turn_behind an_ack b → DeviceOwes g d frame
    go true q = none_owed (λ n e. follows_asked n (sym q ∙ e)) (ap answering q)
    go false q = none_owed (λ n e. listens_asked n (sym q ∙ e)) (ap answering q)

-- ---- the ACK that a device sends, told from its ledger

pub same_lists : (xs ys : List ℕ) → length xs ≡ length ys → ((i : ℕ) → i < length xs → get_or xs i 0 ≡ get_or ys i 0) → xs ≡ ys
same_lists [] [] e f = refl
same_lists [] (y ∷ ys) e f = absurd (omega (arith, e))
same_lists (x ∷ xs) [] e f = absurd (omega (arith, e))
same_lists (x ∷ xs) (y ∷ ys) e f = λ i. f 0 (omega arith) i ∷ same_lists xs ys (omega (arith, e)) (λ j z. f (suc j) (omega arith)) i

pub same_frame : {v w : Whole} → Frame v ≡ Frame w → v ≡ w
same_frame e = cc

module _ {g : Ledger} {d : Device} {frame : List ℕ} {w : List ℕ} {message : Whole} (k : Gives g d frame) (h : Holds frame d.length w message) where
  -- the same frame
  held : Holds frame (frame_length d.preamble (answer_header d.request k.flag) (length k.put)) (frame_bytes d.preamble (answer_header d.request k.flag) k.put) (whole_message (answer_header d.request k.flag) k.put)
  held = subst (λ (f : List ℕ). Holds f (frame_length d.preamble (answer_header d.request k.flag) (length k.put)) (frame_bytes d.preamble (answer_header d.request k.flag) k.put) (whole_message (answer_header d.request k.flag) k.put))
      (sym k.frame_is) (holds_written d.preamble (answer_header d.request k.flag) k.put k.before k.fits k.room)

  pub frame_sent : w ≡ frame_bytes d.preamble (answer_header d.request k.flag) k.put
  frame_sent =
      let long : length w ≡ length (frame_bytes d.preamble (answer_header d.request k.flag) k.put) = h.sized ∙ k.length_is ∙ sym held.sized in
      same_lists w _ long (λ i z. sym (h.same i z) ∙ held.same i (omega (arith, long)))

  pub message_sent : (j : ℕ) → suc j ≡ length w → message ≡ whole_message (answer_header d.request k.flag) k.put
  message_sent j last =
      same_frame (ap (λ (t : Taken). t.event) (sym (h.speaks.end j last)
      ∙ subst (λ (v : List ℕ). taken (reader_after idle (take j v)) (Character (get_or v j 0)) ≡ tells idle (Frame (whole_message (answer_header d.request k.flag) k.put))) (sym frame_sent)
      (held.speaks.end j (last ∙ ap length frame_sent))))

-- what a listener's data buffer holds behind a written frame
pub data_heard : (preamble : ℕ) (h : Header) (bytes b : List ℕ) (j : ℕ) → Fits preamble h (length bytes) → suc j ≡ length (frame_bytes preamble h bytes) → 255 ≤ length b
    → take (length bytes) (taken_data (reader_after idle (take j (frame_bytes preamble h bytes))) (Character (get_or (frame_bytes preamble h bytes) j 0)) (data_after idle (take j (frame_bytes preamble h bytes)) b)) ≡ bytes
unfolding frame_bytes body_bytes taken_data
data_heard preamble h bytes b j fits last room =
    let front : List ℕ = preamble_bytes preamble ++ protected_bytes h bytes in
    let check : ℕ = exclusive_or (protected_bytes h bytes) in
    let split : frame_bytes preamble h bytes ≡ front ++ (check ∷ []) = sym (append_assoc (preamble_bytes preamble) (protected_bytes h bytes) (check ∷ [])) in
    let long : suc j ≡ length front + 1 = last ∙ ap length split ∙ length-append front (check ∷ []) in
    let ok : H.Heard h bytes = record { typed = fits.typed; address_high = fits.address_high; count_high = fits.count_high; enough = fits.enough } in
    let leads = frame_leads preamble h bytes b (omega (arith, fits.preamble_low)) ok in
    let at : take j (frame_bytes preamble h bytes) ≡ front = ap (take j) split ∙ take_at front (check ∷ []) j (omega arith) in
    ap (λ (v : List ℕ). take (length bytes) (taken_data (reader_after idle v) (Character (get_or (frame_bytes preamble h bytes) j 0)) (data_after idle v b))) at
    ∙ ap (λ (r : Receiver). take (length bytes) (taken_data r (Character (get_or (frame_bytes preamble h bytes) j 0)) (data_after idle front b))) (leads_to leads)
    ∙ ap (take (length bytes)) (leads_data leads)
    ∙ stored_front (length bytes) b (stored b 0 bytes) bytes refl refl (omega (arith, fits.count_high))
