-- When a master reports its message as answered, and what then stands in its data buffer.
use Prim.Native.Nat.{ℕ, zero, suc, ◌/◌, ◌≤◌, ◌<◌}
use native.Mathlib.Omega.{arith}
use mathlib.Core.Path.{◌≡◌, refl, sym, ap, ◌∙◌}
use mathlib.Core.Bool.{Bool, true, false}
use mathlib.Core.List.{List, [], ◌∷◌, ◌++◌}
use lib.ListN.{length, take, get_or}
use borrow.Author.Tests.{leb-true}
use Rattle.base.specs.Refusal.{Called, accepted, refused}
use Rattle.base.specs.Choice.{when◌then◌else◌, ◌<?◌, ◌≤?◌, ◌=?◌}
use Rattle.base.proofs.Choices.{if_is_false}
use Rattle.base.proofs.Stores.{length_stored}
use Rattle.frame.specs.Address.{byte_at}
use Rattle.line.specs.Reader.{idle, taken, taken_data, kept, inside_frame}
use Rattle.line.specs.declared.Event.{Event}
use Rattle.line.specs.declared.Event.TheVariants.{Nothing, PassedOver, Broken, Frame, Damaged}
use Rattle.line.specs.declared.Heard.{Heard}
use Rattle.line.specs.declared.Heard.TheVariants.{Silence, Character}
use Rattle.line.specs.declared.Place.{Place}
use Rattle.line.specs.declared.Place.TheVariants.{Passing, Idle, Preamble, First, Address, Expansion, Command, Count, Data, Check}
use Rattle.line.specs.declared.Receiver.{Receiver}
use Rattle.line.specs.declared.Taken.{Taken}
use Rattle.line.specs.declared.Whole.{Whole}
use Rattle.line.proofs.Leads.{reader_after, data_after}
use Rattle.turns.specs.Party.{is_broadcast}
use Rattle.turns.specs.Master.{requested, request_header, is_answer, answers_message, fails, ends, at_frame, at_break, if_awaiting, rt1_ends, counts, after_break, on_silence, on_character, on_heard, master_takes, with_reader}
use Rattle.turns.specs.Link.{MasterCall, no_request, requests, MasterSide, master_called, master_tick, master_data}
use Rattle.turns.specs.declared.Ending.{Ending}
use Rattle.turns.specs.declared.Stage.{Stage}
use Rattle.turns.specs.declared.Stage.TheVariants.{Free, Waiting, Sending, Awaiting}
use Rattle.turns.specs.declared.Message.{Message}
use Rattle.turns.specs.declared.Master.{Master}
use Rattle.turns.specs.declared.MasterTold.{MasterTold}
use Rattle.turns.specs.declared.MasterTold.TheVariants.{Answered, GivenUp, BroadcastSent}
use Rattle.turns.specs.declared.MasterTaken.{MasterTaken}
use Rattle.turns.proofs.Bursting.{if_both}
use Rattle.turns.proofs.Masters.{left}
use Rattle.turns.proofs.Silent.{ready_outside, master_outside}
use Rattle.turns.proofs.TagSentences.{answer_is_ack}

-- ---- what is reported

-- its reader has found the frame in this tick, and it is the message's ACK
pub record Reports (m : Master) (heard : Heard) (w : Whole) : Type 0 where
  pub hears : m.deaf ≡ false
  pub event_is : (taken m.receiver heard).event ≡ Frame w
  pub answer_is : is_answer m w.header ≡ true

NotAnswered : MasterTold → Type 0
NotAnswered t = (w : Whole) → t ≡ Answered w → ⊥

nothing_not : NotAnswered MasterTold.Nothing
unfolding NotAnswered
nothing_not w e = let z : ◌≡◌ {A = ℕ} 0 1 = cc in omega arith

given_up_not : (n : ℕ) → NotAnswered (GivenUp n)
unfolding NotAnswered
given_up_not n w e = let z : ◌≡◌ {A = ℕ} 0 1 = cc in omega arith

broadcast_not : NotAnswered BroadcastSent
unfolding NotAnswered
broadcast_not w e = let z : ◌≡◌ {A = ℕ} 0 1 = cc in omega arith

fails_not : (retries : ℕ) (g : Message) → NotAnswered (fails retries g).told
fails_not retries g = if_both (λ (e : Ending). NotAnswered e.told) (g.attempts ≤? retries) _ _ nothing_not (given_up_not g.attempts)

break_not : (m : Master) → NotAnswered (at_break m).told
break_not m = if_both (λ (e : Ending). NotAnswered e.told) (is_broadcast m.message.header) _ _ broadcast_not (fails_not m.retries m.message)

awaiting_not : (s : Stage) (g : Message) (e : Ending) → NotAnswered e.told → NotAnswered (if_awaiting s g e).told
awaiting_not Free g e q = nothing_not
awaiting_not Waiting g e q = nothing_not
awaiting_not (Sending n) g e q = nothing_not
awaiting_not (Awaiting n) g e q = q

after_break_not : (m : Master) (r : Receiver) (event : Event) → NotAnswered (after_break m r event).told
after_break_not m r event = awaiting_not m.message.stage m.message (at_break m) (break_not m)

counts_not : (m : Master) (told : MasterTold) (event : Event) → NotAnswered told → NotAnswered (counts m told event).told
counts_not m told event q = if_both (λ (t : MasterTaken). NotAnswered t.told) (rt1_ends m.message.stage) _ _ (break_not m) q

silence_not : (m : Master) (r : Receiver) → NotAnswered (on_silence m r).told
silence_not m r =
    let P : MasterTaken → Type 0 = λ t. NotAnswered t.told in
    let once : MasterTaken = counts (after_break m r Broken).master (after_break m r Broken).told Broken in
    if_both P (inside_frame m.receiver.place) _ _
    (if_both P m.receiver.gap _ _
    (counts_not once.master once.told Broken (counts_not (after_break m r Broken).master (after_break m r Broken).told Broken (after_break_not m r Broken))) nothing_not)
    (counts_not (with_reader m r) MasterTold.Nothing Nothing nothing_not)

answered_same : {v w : Whole} → Answered v ≡ Answered w → v ≡ w
answered_same e = cc

-- only at a frame that is the message's ACK
frame_reports : (m : Master) (v : Whole) (bytes : List ℕ) (w : Whole) → (at_frame m v bytes).told ≡ Answered w → (v ≡ w) × (is_answer m v.header ≡ true)
unfolding when◌then◌else◌ NotAnswered
frame_reports m v bytes w e = go (answers_message m v.header) refl (byte_at bytes 0 / 128 =? 1) e
  where
    by : Bool → Bool → Ending
    by b c = when b then (when c then at_break m else ends m.message (Answered v)) else at_break m

    go : (b : Bool) → answers_message m v.header ≡ b → (c : Bool) → (by b c).told ≡ Answered w → (v ≡ w) × (is_answer m v.header ≡ true)
    go true q true z = absurd (break_not m w z)
    go true q false z = (answered_same z, answer_is_ack m v.header q)
    go false q c z = absurd (break_not m w z)

stage_reports : (s : Stage) (m : Master) (v : Whole) (bytes : List ℕ) (w : Whole) → (if_awaiting s m.message (at_frame m v bytes)).told ≡ Answered w → (v ≡ w) × (is_answer m v.header ≡ true)
unfolding NotAnswered
stage_reports Free m v bytes w e = absurd (nothing_not w e)
stage_reports Waiting m v bytes w e = absurd (nothing_not w e)
stage_reports (Sending n) m v bytes w e = absurd (nothing_not w e)
stage_reports (Awaiting n) m v bytes w e = frame_reports m v bytes w e

character_reports : (m : Master) (r : Receiver) (event : Event) (bytes : List ℕ) (w : Whole) → (on_character m r event bytes).told ≡ Answered w → (event ≡ Frame w) × (is_answer m w.header ≡ true)
unfolding NotAnswered
character_reports m r Nothing bytes w e = absurd (nothing_not w e)
character_reports m r PassedOver bytes w e = absurd (after_break_not m r PassedOver w e)
character_reports m r Broken bytes w e = absurd (after_break_not m r Broken w e)
character_reports m r (Frame v) bytes w e =
    let q = stage_reports m.message.stage m v bytes w e in
    (ap Frame q.0, ap (λ (z : Whole). is_answer m z.header) (sym q.0) ∙ q.1)
character_reports m r (Damaged v h) bytes w e = absurd (after_break_not m r (Damaged v h) w e)

heard_reports : (m : Master) (heard : Heard) (bytes : List ℕ) (w : Whole) → (on_heard m heard bytes).told ≡ Answered w → ((taken m.receiver heard).event ≡ Frame w) × (is_answer m w.header ≡ true)
unfolding NotAnswered
heard_reports m Silence bytes w e = absurd (silence_not m (taken m.receiver Silence).receiver w e)
heard_reports m (Character c) bytes w e = character_reports m _ (taken m.receiver (Character c)).event bytes w e
heard_reports m (Heard.Damaged c kind) bytes w e = character_reports m _ (taken m.receiver (Heard.Damaged c kind)).event bytes w e

takes_reports : (m : Master) (heard : Heard) (bytes : List ℕ) (w : Whole) → (master_takes m heard bytes).told ≡ Answered w → Reports m heard w
unfolding master_takes when◌then◌else◌ NotAnswered
takes_reports m heard bytes w e = go m.deaf refl e
  where
    by : Bool → MasterTaken
    by b = when b then Rattle.turns.specs.Master.tells m MasterTold.Nothing Nothing else on_heard m heard bytes

    go : (b : Bool) → m.deaf ≡ b → (by b).told ≡ Answered w → Reports m heard w
    go true q z = absurd (nothing_not w z)
    go false q z = let r = heard_reports m heard bytes w z in record { hears = q; event_is = r.0; answer_is = r.1 }

-- the call of its host changes neither what it tells nor its data buffer
tick_told : (limit : ℕ) (x : MasterSide) (heard : Heard) (call : MasterCall) → (master_tick limit x heard call).told ≡ (master_takes x.master heard (master_data x heard)).told
unfolding master_tick
tick_told limit x heard no_request = refl
tick_told limit x heard (requests q put) = go (requested limit _ q (length put))
  where
    go : (c : Called Master) → (master_called c (master_takes x.master heard (master_data x heard)).master (Rattle.frame.specs.Frame.frame_bytes q.preamble (request_header (master_takes x.master heard (master_data x heard)).master q) put) x.frame (master_data x heard) (master_takes x.master heard (master_data x heard)).told).told
        ≡ (master_takes x.master heard (master_data x heard)).told
    go (accepted m) = refl
    go (refused why) = refl

pub tick_bytes : (limit : ℕ) (x : MasterSide) (heard : Heard) (call : MasterCall) → (master_tick limit x heard call).side.bytes ≡ master_data x heard
unfolding master_tick
tick_bytes limit x heard no_request = refl
tick_bytes limit x heard (requests q put) = go (requested limit _ q (length put))
  where
    go : (c : Called Master) → (master_called c (master_takes x.master heard (master_data x heard)).master (Rattle.frame.specs.Frame.frame_bytes q.preamble (request_header (master_takes x.master heard (master_data x heard)).master q) put) x.frame (master_data x heard) (master_takes x.master heard (master_data x heard)).told).side.bytes
        ≡ master_data x heard
    go (accepted m) = refl
    go (refused why) = refl

pub reports : (limit : ℕ) (x : MasterSide) (heard : Heard) (call : MasterCall) (w : Whole) → (master_tick limit x heard call).told ≡ Answered w → Reports x.master heard w
reports limit x heard call w e = takes_reports x.master heard (master_data x heard) w (sym (tick_told limit x heard call) ∙ e)

-- ---- where nothing is reported

-- inside a frame
pub mid_told : (limit : ℕ) (x : MasterSide) (call : MasterCall) (c : ℕ) (r : Receiver) → taken x.master.receiver (Character c) ≡ Rattle.line.specs.Reader.tells r Nothing → (master_tick limit x (Character c) call).told ≡ MasterTold.Nothing
unfolding master_takes
mid_told limit x call c r e =
    tick_told limit x (Character c) call
    ∙ if_both (λ (t : MasterTaken). t.told ≡ MasterTold.Nothing) x.master.deaf _ _ refl (ap (λ (t : Taken). (on_character x.master t.receiver t.event (master_data x (Character c))).told) e)

-- in a silent tick, but where RT1 ends
pub silent_told : (limit : ℕ) (x : MasterSide) (call : MasterCall) → x.master.deaf ≡ false → taken x.master.receiver Silence ≡ Rattle.line.specs.Reader.tells idle Nothing → rt1_ends x.master.message.stage ≡ false
    → (master_tick limit x Silence call).told ≡ MasterTold.Nothing
unfolding master_takes
silent_told limit x call hears ready on =
    tick_told limit x Silence call
    ∙ ap (λ (t : MasterTaken). t.told) (if_is_false x.master.deaf _ _ hears ∙ master_outside x.master (ready_outside x.master.receiver ready) ∙ if_is_false (rt1_ends x.master.message.stage) _ _ on)

-- one tick is left where it ends
pub rt1_left : (s : Stage) → rt1_ends s ≡ true → left s ≤ 1
rt1_left Free e = omega arith
rt1_left Waiting e = omega arith
rt1_left (Sending n) e = omega arith
rt1_left (Awaiting n) e = leb-true n 1 e

-- ---- the data buffer

kept_length : (p : Place) (c : ℕ) (b : List ℕ) → length (kept p c b) ≡ length b
kept_length Passing c b = refl
kept_length Idle c b = refl
kept_length (Preamble n) c b = refl
kept_length First c b = refl
kept_length (Address n) c b = refl
kept_length (Expansion n) c b = refl
kept_length Command c b = refl
kept_length Count c b = refl
kept_length (Data n) c b = if_both (λ (l : List ℕ). length l ≡ length b) (n <? 255) _ _ (length_stored b n (c ∷ [])) refl
kept_length Check c b = refl

data_length : (r : Receiver) (heard : Heard) (b : List ℕ) → length (taken_data r heard b) ≡ length b
unfolding taken_data
data_length r Silence b = refl
data_length r (Character c) b = kept_length r.place c b
data_length r (Heard.Damaged c kind) b = kept_length r.place c b

-- its length stays
pub bytes_length : (limit : ℕ) (x : MasterSide) (heard : Heard) (call : MasterCall) → length (master_tick limit x heard call).side.bytes ≡ length x.bytes
bytes_length limit x heard call =
    ap length (tick_bytes limit x heard call)
    ∙ if_both (λ (l : List ℕ). length l ≡ length x.bytes) x.master.deaf _ _ refl (data_length x.master.receiver heard x.bytes)

-- one character more
data_append : (r : Receiver) (cs : List ℕ) (c : ℕ) (b : List ℕ) → data_after r (cs ++ (c ∷ [])) b ≡ taken_data (reader_after r cs) (Character c) (data_after r cs b)
unfolding data_after reader_after
data_append r [] c b = refl
data_append r (d ∷ cs) c b = data_append (taken r (Character d)).receiver cs c (taken_data r (Character d) b)

take_one_more : (k : ℕ) (w : List ℕ) → k < length w → take (suc k) w ≡ take k w ++ (get_or w k 0 ∷ [])
take_one_more zero [] h = absurd (omega arith)
take_one_more zero (c ∷ w) h = refl
take_one_more (suc k) [] h = absurd (omega arith)
take_one_more (suc k) (c ∷ w) h = ap (λ (l : List ℕ). c ∷ l) (take_one_more k w (omega arith))

pub data_next : (r : Receiver) (k : ℕ) (w b : List ℕ) → k < length w → data_after r (take (suc k) w) b ≡ taken_data (reader_after r (take k w)) (Character (get_or w k 0)) (data_after r (take k w) b)
data_next r k w b h = ap (λ (l : List ℕ). data_after r l b) (take_one_more k w h) ∙ data_append r (take k w) (get_or w k 0) b

-- a master that hears: its buffer behind the next character
pub hears_data : (x : MasterSide) (heard : Heard) → x.master.deaf ≡ false → master_data x heard ≡ taken_data x.master.receiver heard x.bytes
hears_data x heard e = if_is_false x.master.deaf _ _ e
