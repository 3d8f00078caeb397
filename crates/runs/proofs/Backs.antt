-- Each BACK that a master finds whole has the unique address of the device that sent it, and the command and data that its host gave last before its first character.
use Prim.Native.Nat.{ℕ, suc, ◌-◌, ◌^◌, ◌≤◌, ◌<◌}
use native.Mathlib.Omega.{arith}
use mathlib.Core.Path.{◌≡◌, refl, sym, ap, subst, ◌∙◌}
use mathlib.Core.Bool.{Bool, true, false}
use mathlib.Core.List.{List, [], ◌∷◌}
use mathlib.Core.Logic.{◌⊎◌, inl, inr}
use lib.ListN.{length, take, get_or}
use lib.Seq.{length-take-le}
use Rattle.base.specs.Choice.{when◌then◌else◌}
use Rattle.base.proofs.Choices.{true_false}
use Rattle.frame.specs.Address.{largest_address}
use Rattle.frame.specs.Delimiter.{stx, ack, back, is_type}
use Rattle.frame.specs.Frame.{frame_bytes, frame_length}
use Rattle.frame.specs.Write.{write_buffer}
use Rattle.frame.specs.declared.Header.{Header}
use Rattle.frame.proofs.Taken.{Fits}
use Rattle.frame.proofs.Lengths.{frame_count}
use Rattle.line.specs.Reader.{idle, tells, taken, taken_data, inside_frame}
use Rattle.line.specs.declared.Event.{Event}
use Rattle.line.specs.declared.Event.TheVariants.{Nothing, PassedOver, Broken, Frame, Damaged}
use Rattle.line.specs.declared.Heard.{Heard}
use Rattle.line.specs.declared.Heard.TheVariants.{Silence, Character}
use Rattle.line.specs.declared.Profile.{Profile}
use Rattle.line.specs.declared.Receiver.{Receiver}
use Rattle.line.specs.declared.Taken.{Taken}
use Rattle.line.specs.declared.Whole.{Whole}
use Rattle.line.proofs.Hearing.{whole_message}
use Rattle.line.proofs.Leads.{reader_after, data_after}
use Rattle.turns.specs.Master.{rt1_ends, after_break, counts, on_silence, on_character, on_heard, master_takes}
use Rattle.turns.specs.Link.{MasterCall, DeviceCall, no_call, MasterSide, master_data, master_tick, DeviceSide, DeviceStep, device_tick, device_ticks, sides, Link, LinkStep, Calls, link_tick, link_after, run}
use Rattle.turns.specs.Run.{All, none, and, EachTick}
use Rattle.turns.specs.Run as R1
use Rattle.runs.specs.Backs.{no_content, content, ContentLog, given_by, sent_by, content_log_after, content_logs_after, no_contents, master_of, found_by, SentBack, this_one, another, BackFound, EachBack, no_tick, tick_and, BacksInARun}
use Rattle.turns.specs.declared.Noted.{Noted}
use Rattle.turns.specs.declared.Master.{Master}
use Rattle.turns.specs.declared.MasterTaken.{MasterTaken}
use Rattle.turns.specs.declared.Device.{Device}
use Rattle.turns.specs.declared.Turn.TheVariants.{Follows, Listens}
use Rattle.turns.proofs.Bursting.{if_both}
use Rattle.runs.proofs.Fair.{Fair}
use Rattle.runs.proofs.Tags.{fair_run}
use Rattle.turns.proofs.Spoken.{Spoken}
use Rattle.turns.proofs.Masters.{Holds, holds_written}
use Rattle.turns.proofs.Writing.{length_written}
use Rattle.turns.proofs.Devices as D
use Rattle.turns.proofs.Devices.{device_enough}
use Rattle.turns.proofs.DeviceSpeaking.{an_ack, a_back, device_speaks}
use Rattle.turns.proofs.Windows.{Valid}
use Rattle.turns.proofs.Phases.{OneOf, here, further, DeviceListens, Ready}
use Rattle.runs.proofs.Beginning.{DevicePlace, inside, finished, DeviceSpeaks, DeviceHears}
use Rattle.turns.proofs.Quiet.{SilentLine, clear, set}
use Rattle.turns.proofs.Sending as S
use Rattle.runs.proofs.Stx as X
use Rattle.runs.proofs.Stx.{OneMasterSends, StxTick, stx_tick, device_hears_on}
use Rattle.runs.proofs.SilentTick as T
use Rattle.runs.proofs.SilentTick.{FrameIs, is_ack, OneDeviceSends, SilentTick}
use Rattle.runs.proofs.Silences.{clear_tick, set_tick}
use Rattle.runs.proofs.AckBack as A
use Rattle.runs.proofs.AckBack.{AckEnded, AckTick, BackTick, ack_tick, back_tick, place_of, spoken_of}
use Rattle.turns.proofs.Senders.{carries}
use Rattle.runs.proofs.NoTwoSend.{heard_tick, tick_is, stx_line, stx_line_secondary}
use Rattle.turns.proofs.Fresh.{valid, first_tick, device_is, master_is}
use Rattle.runs.proofs.CreditMasters.{tick_bytes, bytes_length, data_next, hears_data}
use Rattle.runs.proofs.Booked.{one_all, same_lists, same_frame, data_heard}
use Rattle.runs.proofs.Credit.{HearsData}
use Rattle.runs.proofs.BackLogs.{Known, last_is, known_tick, NotBursts, listens_not, asked_not, accepted_not, follows_not, back_of, begins_back}

-- ---- what a master finds

character_event : (m : Master) (r : Receiver) (e : Event) (bytes : List ℕ) → (on_character m r e bytes).event ≡ e
character_event m r Nothing bytes = refl
character_event m r PassedOver bytes = refl
character_event m r Broken bytes = refl
character_event m r (Frame w) bytes = refl
character_event m r (Damaged w h) bytes = refl

nothing_frame : {w : Whole} → Nothing ≡ Frame w → ⊥
nothing_frame e = let z : ◌≡◌ {A = ℕ} 0 1 = cc in omega arith

broken_frame : {w : Whole} → Broken ≡ Frame w → ⊥
broken_frame e = let z : ◌≡◌ {A = ℕ} 0 1 = cc in omega arith

silence_event : (m : Master) (r : Receiver) (w : Whole) → (on_silence m r).event ≡ Frame w → ⊥
silence_event m r w =
    if_both (λ (k : MasterTaken). k.event ≡ Frame w → ⊥) (inside_frame m.receiver.place) _ _
    (if_both (λ (k : MasterTaken). k.event ≡ Frame w → ⊥) m.receiver.gap _ _
    (if_both (λ (k : MasterTaken). k.event ≡ Frame w → ⊥) (rt1_ends (counts (after_break m r Broken).master (after_break m r Broken).told Broken).master.message.stage) _ _ broken_frame broken_frame)
    nothing_frame)
    (if_both (λ (k : MasterTaken). k.event ≡ Frame w → ⊥) (rt1_ends m.message.stage) _ _ nothing_frame nothing_frame)

heard_event : (m : Master) (heard : Heard) (bytes : List ℕ) (w : Whole) → (on_heard m heard bytes).event ≡ Frame w → (taken m.receiver heard).event ≡ Frame w
heard_event m Silence bytes w e = absurd (silence_event m (taken m.receiver Silence).receiver w e)
heard_event m (Character c) bytes w e = sym (character_event m _ (taken m.receiver (Character c)).event bytes) ∙ e
heard_event m (Heard.Damaged c kind) bytes w e = sym (character_event m _ (taken m.receiver (Heard.Damaged c kind)).event bytes) ∙ e

-- it hears, and its reader tells the frame
found_event : (x : MasterSide) (heard : Heard) (w : Whole) → found_by x heard ≡ Frame w → (x.master.deaf ≡ false) × ((taken x.master.receiver heard).event ≡ Frame w)
unfolding master_takes when◌then◌else◌
found_event x heard w e = go x.master.deaf refl e
  where
    by : Bool → MasterTaken
    by b = when b then Rattle.turns.specs.Master.tells x.master Rattle.turns.specs.declared.MasterTold.MasterTold.Nothing Nothing else on_heard x.master heard (master_data x heard)

    go : (b : Bool) → x.master.deaf ≡ b → (by b).event ≡ Frame w → (x.master.deaf ≡ false) × ((taken x.master.receiver heard).event ≡ Frame w)
    go true q z = absurd (nothing_frame z)
    go false q z = (q, heard_event x.master heard (master_data x heard) w z)

-- no BACK
NoBack : MasterSide → Heard → Type 0
NoBack x heard = (v : Whole) → found_by x heard ≡ Frame v → v.header.kind ≡ back → ⊥

module _ (x : MasterSide) where
  quiet_finds : Ready x.master.receiver → NoBack x Silence
  unfolding Ready NoBack
  quiet_finds ready v e b = nothing_frame (sym (ap (λ (t : Taken). t.event) ready) ∙ (found_event x Silence v e).1)

  deaf_finds : (heard : Heard) → x.master.deaf ≡ true → NoBack x heard
  unfolding NoBack
  deaf_finds heard deaf v e b = true_false (sym deaf ∙ (found_event x heard v e).0)

  module _ (w : List ℕ) (message : Whole) (k : ℕ) (s : Spoken w message) (r : x.master.receiver ≡ reader_after idle (take k w)) where
    mid_finds : suc k < length w → NoBack x (Character (get_or w k 0))
    unfolding NoBack
    mid_finds below v e b =
        nothing_frame (sym (ap (λ (t : Taken). t.event) (subst (λ (z : Receiver). taken z (Character (get_or w k 0)) ≡ tells (reader_after idle (take (suc k) w)) Nothing) (sym r) (s.mid k below))) ∙ (found_event x (Character (get_or w k 0)) v e).1)

    end_finds : suc k ≡ length w → (v : Whole) → found_by x (Character (get_or w k 0)) ≡ Frame v → v ≡ message
    end_finds last v e =
        same_frame (sym (found_event x (Character (get_or w k 0)) v e).1 ∙ ap (λ (t : Taken). t.event) (subst (λ (z : Receiver). taken z (Character (get_or w k 0)) ≡ tells idle (Frame message)) (sym r) (s.end k last)))

    -- a frame of another type
    other_finds : (suc k < length w) ⊎ (suc k ≡ length w) → (message.header.kind ≡ back → ⊥) → NoBack x (Character (get_or w k 0))
    unfolding NoBack
    other_finds (inl below) f = mid_finds below
    other_finds (inr last) f = λ v e b. f (ap (λ (z : Whole). z.header.kind) (sym (end_finds last v e)) ∙ b)

-- ---- the device that sends it

-- the same bytes in one buffer are one frame
module _ {f : List ℕ} {n : ℕ} {w v : List ℕ} {message other : Whole} (a : Holds f n w message) (b : Holds f n v other) where
  same_bytes : w ≡ v
  same_bytes =
      let long : length w ≡ length v = a.sized ∙ sym b.sized in
      same_lists w v long (λ i z. sym (a.same i z) ∙ b.same i (omega (arith, long)))

  same_message : message ≡ other
  same_message =
      let last : suc (length w - 1) ≡ length w = omega (arith, a.speaks.long) in
      same_frame (ap (λ (t : Taken). t.event) (sym (a.speaks.end (length w - 1) last)
      ∙ subst (λ (z : List ℕ). taken (reader_after idle (take (length w - 1) z)) (Character (get_or z (length w - 1) 0)) ≡ tells idle (Frame other)) (sym same_bytes)
      (b.speaks.end (length w - 1) (last ∙ ap length same_bytes))))

back_typed : is_type back ≡ true
unfolding when◌then◌else◌
back_typed = refl

unique_high : (n : ℕ) → n < 2 ^ 38 → n ≤ largest_address true
unfolding when◌then◌else◌
unique_high n h = omega (arith, h)

-- its BACK, of which k + 1 characters are out, carries what its host had given last at the first of them
record SenderBack (g : ContentLog) (x : DeviceSide) (k : ℕ) (w : List ℕ) (message : Whole) : Type 0 where
  primary : Bool
  command : ℕ
  put : List ℕ
  w_is : w ≡ frame_bytes x.device.preamble (back_of x primary command) put
  message_is : message ≡ whole_message (back_of x primary command) put
  fits : Fits x.device.preamble (back_of x primary command) (length put)
  given_is : get_or g.sent_with k no_content ≡ content command put

-- the device with the unique address u
data BackOut (k : ℕ) (w : List ℕ) (message : Whole) (u : ℕ) : List ContentLog → List DeviceSide → Type 0 where
  no_sender : BackOut k w message u [] []
  sender_and : {g : ContentLog} {x : DeviceSide} {gs : List ContentLog} {xs : List DeviceSide} → (x.device.unique ≡ u → SenderBack g x k w message) → BackOut k w message u gs xs → BackOut k w message u (g ∷ gs) (x ∷ xs)

data AllKnown : List ContentLog → List DeviceSide → Type 0 where
  no_more : AllKnown [] []
  known_and : {g : ContentLog} {x : DeviceSide} {gs : List ContentLog} {xs : List DeviceSide} → Known g x → AllKnown gs xs → AllKnown (g ∷ gs) (x ∷ xs)

all_known : (limit : ℕ) → limit ≤ 255 → (heard : Heard) {gs : List ContentLog} {xs : List DeviceSide} (calls : List DeviceCall) → AllKnown gs xs → AllKnown (content_logs_after calls (device_ticks limit heard xs calls) gs) (sides (device_ticks limit heard xs calls))
unfolding device_ticks sides content_logs_after
all_known limit high heard calls no_more = no_more
all_known limit high heard [] (known_and {g = g} {x = x} k ks) = known_and (known_tick limit high g x heard no_call k) (all_known limit high heard [] ks)
all_known limit high heard (c ∷ cs) (known_and {g = g} {x = x} k ks) = known_and (known_tick limit high g x heard c k) (all_known limit high heard cs ks)

module _ (limit : ℕ) (p : Profile) (heard : Heard) (w : List ℕ) (message : Whole) (u : ℕ) (r : Receiver) where
  -- at its first character
  sender_begins : (g : ContentLog) (x : DeviceSide) (c : DeviceCall) → NotBursts x.device.turn → Known (content_log_after c (device_tick limit x heard c) g) (device_tick limit x heard c).side
      → DeviceSpeaks p a_back 0 w message u true (device_tick limit x heard c).side ⊎ DeviceHears p r u (device_tick limit x heard c).side → (device_tick limit x heard c).side.device.unique ≡ u
      → SenderBack (content_log_after c (device_tick limit x heard c) g) (device_tick limit x heard c).side 0 w message
  sender_begins g x c f k (inr y) e = absurd (y.another e)
  sender_begins g x c f k (inl y) e = at y.place
    where
      s : DeviceStep
      s = device_tick limit x heard c

      at : DevicePlace a_back 0 w (device_tick limit x heard c).side.device → SenderBack (content_log_after c (device_tick limit x heard c) g) (device_tick limit x heard c).side 0 w message
      at (finished last t due) = absurd (omega (arith, last, y.held.speaks.long))
      at (inside below t) =
          let b = begins_back limit x heard c f t in
          let d : Device = s.side.device in
          let given = y.sound.bursts_given y.burst_is in
          let put : List ℕ = take d.content.count s.side.contents in
          let h : Header = back_of s.side b.primary d.content.command in
          let long : length put ≡ d.content.count = length-take-le d.content.count s.side.contents (omega (arith, y.sound.content_high, y.sound.contents_room)) in
          let fits : Fits d.preamble h (length put) = record {
            preamble_low = y.sound.preamble_low;
            preamble_high = y.sound.preamble_high;
            address_high = unique_high d.unique y.sound.unique_high;
            count_high = omega (arith, long, y.sound.content_high);
            enough = device_enough back (length put) (omega (arith, long, y.sound.content_low given));
            typed = back_typed;
          } in
          let room : 284 ≤ length b.before = omega (arith, y.sound.frame_room, ap length b.frame_is, length_written d.preamble h put b.before) in
          let there = holds_written d.preamble h put b.before fits room in
          let held : Holds s.side.frame d.length (frame_bytes d.preamble h put) (whole_message h put) =
          subst (λ (z : List ℕ). Holds z d.length (frame_bytes d.preamble h put) (whole_message h put)) (sym b.frame_is)
          (subst (λ (n : ℕ). Holds (write_buffer d.preamble h put b.before 0) n (frame_bytes d.preamble h put) (whole_message h put)) (ap (frame_length d.preamble h) long ∙ sym b.length_is) there) in
          record {
            primary = b.primary;
            command = d.content.command;
            put = put;
            w_is = same_bytes y.held held;
            message_is = same_message y.held held;
            fits = fits;
            given_is = ap (λ (t : _). get_or (sent_by t (given_by c s.result g.last) g.sent_with).sent_with 0 no_content) b.sent_is
                ∙ sym (last_is s.sent (given_by c s.result g.last) g.sent_with) ∙ k.known given;
          }

  begins_out : {gs : List ContentLog} {xs : List DeviceSide} (calls : List DeviceCall) → AllKnown gs xs → All (λ (x : DeviceSide). NotBursts x.device.turn) xs → AllKnown (content_logs_after calls (device_ticks limit heard xs calls) gs) (sides (device_ticks limit heard xs calls))
      → All (λ (y : DeviceSide). DeviceSpeaks p a_back 0 w message u true y ⊎ DeviceHears p r u y) (sides (device_ticks limit heard xs calls)) → BackOut 0 w message u (content_logs_after calls (device_ticks limit heard xs calls) gs) (sides (device_ticks limit heard xs calls))
  unfolding device_ticks sides content_logs_after
  begins_out calls no_more none no_more none = no_sender
  begins_out [] (known_and {g = g} o os) (and {x = x} f fs) (known_and k ks) (and s ss) = sender_and (sender_begins g x no_call f k s) (begins_out [] os fs ks ss)
  begins_out (c ∷ cs) (known_and {g = g} o os) (and {x = x} f fs) (known_and k ks) (and s ss) = sender_and (sender_begins g x c f k s) (begins_out cs os fs ks ss)

  -- one character more
  module _ (high : limit ≤ 255) (k : ℕ) (below : suc k < length w) where
    sender_goes_on : (g : ContentLog) (x : DeviceSide) (c : DeviceCall) → DeviceSpeaks p a_back k w message u true x → SenderBack g x k w message → SenderBack (content_log_after c (device_tick limit x heard c) g) (device_tick limit x heard c).side (suc k) w message
    sender_goes_on g x c q o = at q.place
      where
        s : DeviceStep
        s = device_tick limit x heard c

        at : DevicePlace a_back k w x.device → SenderBack (content_log_after c (device_tick limit x heard c) g) (device_tick limit x heard c).side (suc k) w message
        at (finished last t due) = absurd (omega arith)
        at (inside more t) =
            let y = device_speaks a_back x (suc k) w message t q.held below limit heard c high q.deaf_is q.sound in
            let pre = sym y.same.same_preamble in
            let uni = sym y.same.same_unique in
            record {
              primary = o.primary;
              command = o.command;
              put = o.put;
              w_is = o.w_is ∙ (λ i. frame_bytes (pre i) (record { kind = back; long = true; primary = o.primary; burst = true; address = uni i; command = o.command }) o.put);
              message_is = o.message_is ∙ (λ i. whole_message (record { kind = back; long = true; primary = o.primary; burst = true; address = uni i; command = o.command }) o.put);
              fits = subst (λ (n : ℕ). Fits s.side.device.preamble (record { kind = back; long = true; primary = o.primary; burst = true; address = n; command = o.command }) (length o.put)) uni
                  (subst (λ (n : ℕ). Fits n (back_of x o.primary o.command) (length o.put)) pre o.fits);
              given_is = ap (λ (t : _). get_or (sent_by t (given_by c s.result g.last) g.sent_with).sent_with (suc k) no_content) y.character ∙ o.given_is;
            }

    one_after : (some : 1 ≤ p.sto) (low : 2 ≤ limit) → heard ≡ Character (get_or w k 0) → Spoken w message → (g : ContentLog) (x : DeviceSide) (c : DeviceCall) → DeviceSpeaks p a_back k w message u true x ⊎ DeviceHears p (reader_after idle (take k w)) u x
        → (x.device.unique ≡ u → SenderBack g x k w message) → (device_tick limit x heard c).side.device.unique ≡ u → SenderBack (content_log_after c (device_tick limit x heard c) g) (device_tick limit x heard c).side (suc k) w message
    one_after some low is sp g x c (inl q) f e = sender_goes_on g x c q (f q.unique_is)
    one_after some low is sp g x c (inr q) f e =
        absurd (q.another (sym (device_hears_on limit low high p some w message sp k u below x c q).same.same_unique ∙ ap (λ (z : Heard). (device_tick limit x z c).side.device.unique) (sym is) ∙ e))

    out_after : (some : 1 ≤ p.sto) (low : 2 ≤ limit) → heard ≡ Character (get_or w k 0) → Spoken w message → {gs : List ContentLog} {xs : List DeviceSide} (calls : List DeviceCall) → All (λ (x : DeviceSide). DeviceSpeaks p a_back k w message u true x ⊎ DeviceHears p (reader_after idle (take k w)) u x) xs
        → BackOut k w message u gs xs → BackOut (suc k) w message u (content_logs_after calls (device_ticks limit heard xs calls) gs) (sides (device_ticks limit heard xs calls))
    unfolding device_ticks sides content_logs_after
    out_after some low is sp calls none no_sender = no_sender
    out_after some low is sp [] (and {x = x} q qs) (sender_and {g = g} f fs) = sender_and (one_after some low is sp g x no_call q f) (out_after some low is sp [] qs fs)
    out_after some low is sp (c ∷ cs) (and {x = x} q qs) (sender_and {g = g} f fs) = sender_and (one_after some low is sp g x c q f) (out_after some low is sp cs qs fs)

-- the sender among the devices
record Found (p : Profile) (k : ℕ) (w : List ℕ) (message : Whole) (u : ℕ) (gs : List ContentLog) (xs : List DeviceSide) : Type 0 where
  x : DeviceSide
  g : ContentLog
  speaks : DeviceSpeaks p a_back k w message u true x
  is : SenderBack g x k w message
  sent : (bytes : List ℕ) → bytes ≡ is.put → SentBack message bytes xs gs

found : {p : Profile} {k : ℕ} {w : List ℕ} {message : Whole} {u : ℕ} {Q : DeviceSide → Type 0} {gs : List ContentLog} {xs : List DeviceSide} → suc k ≡ length w → OneOf (DeviceSpeaks p a_back k w message u true) Q xs → BackOut k w message u gs xs → Found p k w message u gs xs
found {k = k} {w = w} {message = message} last (here {x = x} q qs) (sender_and {g = g} f fs) =
    let o = f q.unique_is in
    let long : frame_length x.device.preamble (back_of x o.primary o.command) (length o.put) - 1 ≡ k = omega (arith, last, ap length o.w_is, frame_count x.device.preamble (back_of x o.primary o.command) o.put) in
    record {
      x = x;
      g = g;
      speaks = q;
      is = o;
      sent = λ bytes e. this_one (ap (λ (z : Whole). z.header.address) o.message_is)
          (ap (λ (z : Whole). get_or g.sent_with (frame_length x.device.preamble z.header z.count - 1) no_content) o.message_is
          ∙ ap (λ (n : ℕ). get_or g.sent_with n no_content) long ∙ o.given_is ∙ (λ i. content (sym o.message_is i).header.command (sym e i)));
    }
found last (further q o) (sender_and f fs) =
    let r = found last o fs in
    record { x = r.x; g = r.g; speaks = r.speaks; is = r.is; sent = λ bytes e. another (r.sent bytes e) }

-- ---- a tick of the link

-- the phases, with the logs
data Phase (p : Profile) (gs : List ContentLog) (l : Link) : Type 0 where
  silent : (e : ℕ) → l.line ≡ Silence → SilentLine p e l.primary l.secondary l.devices → Phase p gs l
  primary_sends : (burst : Bool) (noted : Noted) (next : Bool) (k : ℕ) (w : List ℕ) (message : Whole) → l.line ≡ Character (get_or w k 0) → OneMasterSends p true false burst noted next k w message l.primary l.secondary l.devices → Phase p gs l
  secondary_sends : (burst : Bool) (noted : Noted) (next : Bool) (k : ℕ) (w : List ℕ) (message : Whole) → l.line ≡ Character (get_or w k 0) → OneMasterSends p false true burst noted next k w message l.secondary l.primary l.devices → Phase p gs l
  ack_sent : (burst : Bool) (noted : Noted) (next : Bool) (k : ℕ) (w : List ℕ) (message : Whole) (u : ℕ) (on : Bool) → l.line ≡ Character (get_or w k 0)
      → OneDeviceSends p an_ack burst noted next k w message u on l.primary l.secondary l.devices → Phase p gs l
  back_sent : (burst : Bool) (noted : Noted) (next : Bool) (k : ℕ) (w : List ℕ) (message : Whole) (u : ℕ) → l.line ≡ Character (get_or w k 0)
      → OneDeviceSends p a_back burst noted next k w message u true l.primary l.secondary l.devices → BackOut k w message u gs l.devices → HearsData k w l.primary → HearsData k w l.secondary → Phase p gs l

abbrev logs_by : Calls → LinkStep → List ContentLog → List ContentLog
logs_by c s gs = content_logs_after c.for_devices s.for_devices gs

record Ticked (p : Profile) (gs : List ContentLog) (l : Link) (heard : Heard) (c : Calls) (s : LinkStep) : Type 0 where
  backs : (primary : Bool) (w : Whole) → found_by (master_of primary l) heard ≡ Frame w → w.header.kind ≡ back → BackFound primary gs l s w
  next : Phase p (logs_by c s gs) (link_after s)

-- no master finds a BACK
no_back : (p : Profile) (gs : List ContentLog) (l : Link) (heard : Heard) (c : Calls) (s : LinkStep) → NoBack l.primary heard → NoBack l.secondary heard → Phase p (logs_by c s gs) (link_after s) → Ticked p gs l heard c s
unfolding NoBack
no_back p gs l heard c s a b n = record { backs = none_found; next = n }
  where
    none_found : (primary : Bool) (w : Whole) → found_by (master_of primary l) heard ≡ Frame w → w.header.kind ≡ back → BackFound primary gs l s w
    none_found true w e f = absurd (a w e f)
    none_found false w e f = absurd (b w e f)

all_map : {P Q : DeviceSide → Type 0} {xs : List DeviceSide} → ((x : DeviceSide) → P x → Q x) → All P xs → All Q xs
all_map f none = none
all_map f (and {x = x} p ps) = and (f x p) (all_map f ps)

-- a device that listens is in no BACK
hand_not : {p : Profile} (x : DeviceSide) → DeviceListens p x → NotBursts x.device.turn
hand_not x l = go l.hand
  where
    go : D.Hand x.device x.frame → NotBursts x.device.turn
    go (D.nothing_in_hand q) n e = listens_not n (sym q ∙ e)
    go (D.is_asked m q some own) n e = asked_not m n (sym q ∙ e)
    go (D.is_accepted q z) n e = accepted_not n (sym q ∙ e)

-- nor one behind its ACK's last character
behind_ack_not : {k : ℕ} {w : List ℕ} {d : Device} → suc k ≡ length w → DevicePlace an_ack k w d → NotBursts d.turn
behind_ack_not last (inside below t) n e = absurd (omega arith)
behind_ack_not {d = d} last (finished z t due) n e = if_both NotBursts d.burst Follows Listens follows_not listens_not n (sym t ∙ e)

record Rooms (l : Link) : Type 0 where
  primary_room : 255 ≤ length l.primary.bytes
  secondary_room : 255 ≤ length l.secondary.bytes

stx_back : {n : ℕ} → n ≡ stx → n ≡ back → ⊥
stx_back e z = let q : stx ≡ back = sym e ∙ z in omega (arith, q)

ack_back : {n : ℕ} → n ≡ ack → n ≡ back → ⊥
ack_back e z = let q : ack ≡ back = sym e ∙ z in omega (arith, q)

stx_where : {x : MasterSide} {k : ℕ} {w : List ℕ} → S.MasterPlace k w x → (suc k < length w) ⊎ (suc k ≡ length w)
stx_where (S.inside below e) = inl below
stx_where (S.finished last t s e) = inr last

module _ (limit : ℕ) (low : 2 ≤ limit) (high : limit ≤ 255) (p : Profile) (v : Valid p) (l : Link) (c : Calls) (gs : List ContentLog) (rooms : Rooms l) (known : AllKnown gs l.devices) where
  abbrev step : Heard → LinkStep
  step heard = heard_tick limit l heard c

  known_after : (heard : Heard) → AllKnown (logs_by c (heard_tick limit l heard c) gs) (link_after (heard_tick limit l heard c)).devices
  unfolding heard_tick
  known_after heard = all_known limit high heard c.for_devices known

  -- at a frame's first character the buffers are as they are
  begins_data : (heard : Heard) (w : List ℕ) → HearsData 0 w (link_after (heard_tick limit l heard c)).primary × HearsData 0 w (link_after (heard_tick limit l heard c)).secondary
  unfolding heard_tick data_after
  begins_data heard w = (
    record { before = (step heard).for_primary.side.bytes; bytes_are = refl; room = omega (arith, rooms.primary_room, bytes_length limit l.primary heard c.for_primary) },
    record { before = (step heard).for_secondary.side.bytes; bytes_are = refl; room = omega (arith, rooms.secondary_room, bytes_length limit l.secondary heard c.for_secondary) },
  )

  hears_on_data : (x : MasterSide) (d : MasterCall) (w : List ℕ) (k : ℕ) → k < length w → x.master.deaf ≡ false → x.master.receiver ≡ reader_after idle (take k w) → HearsData k w x → HearsData (suc k) w (master_tick limit x (Character (get_or w k 0)) d).side
  hears_on_data x d w k below hears r h = record {
    before = h.before;
    bytes_are = tick_bytes limit x (Character (get_or w k 0)) d ∙ hears_data x (Character (get_or w k 0)) hears
        ∙ (λ i. taken_data (r i) (Character (get_or w k 0)) (h.bytes_are i)) ∙ sym (data_next idle k w h.before below);
    room = h.room;
  }

  -- a device begins its BACK
  begins : (heard : Heard) (burst : Bool) (noted : Noted) (next : Bool) (w : List ℕ) (message : Whole) (u : ℕ) → All (λ (x : DeviceSide). NotBursts x.device.turn) l.devices → (link_after (heard_tick limit l heard c)).line ≡ Character (get_or w 0 0)
      → OneDeviceSends p a_back burst noted next 0 w message u true (link_after (heard_tick limit l heard c)).primary (link_after (heard_tick limit l heard c)).secondary (link_after (heard_tick limit l heard c)).devices → Phase p (logs_by c (heard_tick limit l heard c) gs) (link_after (heard_tick limit l heard c))
  unfolding heard_tick
  begins heard burst noted next w message u nots line o =
      back_sent burst noted next 0 w message u line o
      (begins_out limit p heard w message u (reader_after idle (take 0 w)) c.for_devices known nots (known_after heard) (one_all o.devices)) (begins_data heard w).0 (begins_data heard w).1

  -- ---- the silent line

  behind_silence : (n : ℕ) (burst : Bool) (noted : Noted) (next : Bool) (L : Type 0) → ((link_after (heard_tick limit l Silence c)).line ≡ Silence → L → Phase p (logs_by c (heard_tick limit l Silence c) gs) (link_after (heard_tick limit l Silence c)))
      → All (λ (x : DeviceSide). NotBursts x.device.turn) l.devices
      → SilentTick p n burst noted next l.primary l.secondary (heard_tick limit l Silence c).for_primary (heard_tick limit l Silence c).for_secondary (heard_tick limit l Silence c).for_devices L
      → Phase p (logs_by c (heard_tick limit l Silence c) gs) (link_after (heard_tick limit l Silence c))
  behind_silence n burst noted next L f nots (T.still_silent a b line k ra rb) = f (carries (step Silence) a b line) k
  behind_silence n burst noted next L f nots (T.primary_begins w message a b line o ra rb) = primary_sends burst noted next 0 w message (carries (step Silence) a b line) o
  behind_silence n burst noted next L f nots (T.secondary_begins w message a b line o ra rb) = secondary_sends burst noted next 0 w message (carries (step Silence) a b line) o
  behind_silence n burst noted next L f nots (T.ack_begins w message u on a b line o ra rb) = ack_sent burst noted _ 0 w message u on (carries (step Silence) a b line) o
  behind_silence n burst noted next L f nots (T.back_begins z w message u a b line o ra rb) = begins Silence burst noted _ w message u nots (carries (step Silence) a b line) o

  silence_tick : (e : ℕ) → Fair (heard_tick limit l Silence c) → SilentLine p e l.primary l.secondary l.devices → Ticked p gs l Silence c (heard_tick limit l Silence c)
  unfolding heard_tick
  silence_tick e sole (clear k) =
      no_back p gs l Silence c (step Silence) (quiet_finds l.primary k.primary.ready) (quiet_finds l.secondary k.secondary.ready)
      (behind_silence 0 false k.noted true _ (λ line m. silent (e - 1) line (clear m)) (all_map (λ x q. hand_not x q.listens) k.devices)
      (clear_tick limit low high p v l.primary l.secondary l.devices c.for_primary c.for_secondary c.for_devices e k sole))
  silence_tick e sole (set n next k) =
      no_back p gs l Silence c (step Silence) (quiet_finds l.primary k.primary.ready) (quiet_finds l.secondary k.secondary.ready)
      (behind_silence n true k.noted next _ (λ line m. silent (e - 1) line (set (n - 1) next m)) (all_map (λ x q. hand_not x q.listens) k.devices)
      (set_tick limit low high p v l.primary l.secondary l.devices c.for_primary c.for_secondary c.for_devices n next k sole))

  -- ---- an STX

  abbrev heard : List ℕ → ℕ → LinkStep
  heard w k = heard_tick limit l (Character (get_or w k 0)) c

  primary_tick : (burst : Bool) (noted : Noted) (next : Bool) (k : ℕ) (w : List ℕ) (message : Whole) → OneMasterSends p true false burst noted next k w message l.primary l.secondary l.devices → Ticked p gs l (Character (get_or w k 0)) c (heard_tick limit l (Character (get_or w k 0)) c)
  unfolding heard_tick
  primary_tick burst noted next k w message o =
      no_back p gs l (Character (get_or w k 0)) c (heard w k) (deaf_finds l.primary (Character (get_or w k 0)) o.speaks.deaf_is)
      (other_finds l.secondary w message k o.speaks.held.speaks o.hears.receiver_is (stx_where o.speaks.place) (stx_back o.speaks.type_is))
      (go (stx_tick limit low high p v true false burst noted next k w message l.primary l.secondary l.devices c.for_primary c.for_secondary c.for_devices o))
    where
      go : StxTick p true false burst noted next k w message l.primary l.secondary (heard w k).for_primary (heard w k).for_secondary (heard w k).for_devices → Phase p (logs_by c (heard w k) gs) (link_after (heard w k))
      go (X.goes_on below a b line m n y) = primary_sends burst noted next (suc k) w message (carries (heard w k) a b line) m
      go (X.ends last a b line m n y) = silent 0 (carries (heard w k) a b line) (stx_line p v 0 burst m)

  secondary_tick : (burst : Bool) (noted : Noted) (next : Bool) (k : ℕ) (w : List ℕ) (message : Whole) → OneMasterSends p false true burst noted next k w message l.secondary l.primary l.devices → Ticked p gs l (Character (get_or w k 0)) c (heard_tick limit l (Character (get_or w k 0)) c)
  unfolding heard_tick
  secondary_tick burst noted next k w message o =
      no_back p gs l (Character (get_or w k 0)) c (heard w k) (other_finds l.primary w message k o.speaks.held.speaks o.hears.receiver_is (stx_where o.speaks.place) (stx_back o.speaks.type_is))
      (deaf_finds l.secondary (Character (get_or w k 0)) o.speaks.deaf_is)
      (go (stx_tick limit low high p v false true burst noted next k w message l.secondary l.primary l.devices c.for_secondary c.for_primary c.for_devices o))
    where
      go : StxTick p false true burst noted next k w message l.secondary l.primary (heard w k).for_secondary (heard w k).for_primary (heard w k).for_devices → Phase p (logs_by c (heard w k) gs) (link_after (heard w k))
      go (X.goes_on below a b line m n y) = secondary_sends burst noted next (suc k) w message (carries (heard w k) b a line) m
      go (X.ends last a b line m n y) = silent 0 (carries (heard w k) b a line) (stx_line_secondary p v 0 burst m)

  -- ---- an ACK

  ack_tick_is : (burst : Bool) (noted : Noted) (next : Bool) (k : ℕ) (w : List ℕ) (message : Whole) (u : ℕ) (on : Bool) → OneDeviceSends p an_ack burst noted next k w message u on l.primary l.secondary l.devices → Ticked p gs l (Character (get_or w k 0)) c (heard_tick limit l (Character (get_or w k 0)) c)
  unfolding heard_tick
  ack_tick_is burst noted next k w message u on o =
      let sp = spoken_of o.devices in
      no_back p gs l (Character (get_or w k 0)) c (heard w k) (other_finds l.primary w message k sp o.primary.receiver_is (place_of o.devices) (ack_back (is_it o.frame_is)))
      (other_finds l.secondary w message k sp o.secondary.receiver_is (place_of o.devices) (ack_back (is_it o.frame_is)))
      (go (ack_tick limit low high p v burst noted next k w message u l.primary l.secondary l.devices c.for_primary c.for_secondary c.for_devices 0 on o))
    where
      is_it : FrameIs on burst next message.header l.primary l.secondary an_ack → message.header.kind ≡ ack
      is_it (is_ack type pa pb) = type

      nots : suc k ≡ length w → All (λ (x : DeviceSide). NotBursts x.device.turn) l.devices
      nots last = all_map by (one_all o.devices)
        where
          by : (x : DeviceSide) → DeviceSpeaks p an_ack k w message u on x ⊎ DeviceHears p (reader_after idle (take k w)) u x → NotBursts x.device.turn
          by x (inl q) = behind_ack_not last q.place
          by x (inr q) = hand_not x q.listens

      ended : AckEnded p 0 (Rattle.turns.specs.Master.burst_after burst noted message.header) next message.header (heard w k).for_primary.side (heard w k).for_secondary.side (sides (heard w k).for_devices) → SilentLine p 0 (heard w k).for_primary.side (heard w k).for_secondary.side (sides (heard w k).for_devices)
      ended (A.ended_clear z n m ta tb) = clear m
      ended (A.ended_set z n m ta tb) = set 1 next m

      go : AckTick p 0 burst noted next k w message u on l.primary l.secondary (heard w k).for_primary (heard w k).for_secondary (heard w k).for_devices → Phase p (logs_by c (heard w k) gs) (link_after (heard w k))
      go (A.ack_goes_on below a b line m x y) = ack_sent burst noted next (suc k) w message u on (carries (heard w k) a b line) m
      go (A.ack_ends last off a b line m x y) = silent 0 (carries (heard w k) a b line) (ended m)
      go (A.back_follows_it last z who w' message' a b line m x y) = begins (Character (get_or w k 0)) true who (when next then false else true) w' message' u (nots last) (carries (heard w k) a b line) m

  -- ---- a BACK

  -- a master that finds it
  finds : (x : MasterSide) (d : MasterCall) (k : ℕ) (w : List ℕ) (message : Whole) (u : ℕ) → suc k ≡ length w → Found p k w message u gs l.devices → x.master.receiver ≡ reader_after idle (take k w) → HearsData k w x → (t : Whole) → found_by x (Character (get_or w k 0)) ≡ Frame t
      → (t.header.long ≡ true) × SentBack t (take t.count (master_tick limit x (Character (get_or w k 0)) d).side.bytes) l.devices gs
  finds x d k w message u last f r hd t e =
      let sp = f.speaks.held.speaks in
      let is = f.is in
      let same : t ≡ message = end_finds x w message k sp r last t e in
      let all : t ≡ whole_message (back_of f.x is.primary is.command) is.put = same ∙ is.message_is in
      let hears = (found_event x (Character (get_or w k 0)) t e).0 in
      let bytes : take message.count (master_tick limit x (Character (get_or w k 0)) d).side.bytes ≡ is.put =
      ap (λ (z : Whole). take z.count (master_tick limit x (Character (get_or w k 0)) d).side.bytes) is.message_is
      ∙ ap (take (length is.put)) (tick_bytes limit x (Character (get_or w k 0)) d ∙ hears_data x (Character (get_or w k 0)) hears ∙ (λ i. taken_data (r i) (Character (get_or w k 0)) (hd.bytes_are i)))
      ∙ ap (λ (z : List ℕ). take (length is.put) (taken_data (reader_after idle (take k z)) (Character (get_or z k 0)) (data_after idle (take k z) hd.before))) is.w_is
      ∙ data_heard f.x.device.preamble (back_of f.x is.primary is.command) is.put hd.before k is.fits (last ∙ ap length is.w_is) hd.room in (
        ap (λ (z : Whole). z.header.long) all,
        subst (λ (z : Whole). SentBack z (take z.count (master_tick limit x (Character (get_or w k 0)) d).side.bytes) l.devices gs) (sym same) (f.sent _ bytes),
      )

  back_tick_is : (burst : Bool) (noted : Noted) (next : Bool) (k : ℕ) (w : List ℕ) (message : Whole) (u : ℕ) → OneDeviceSends p a_back burst noted next k w message u true l.primary l.secondary l.devices
      → BackOut k w message u gs l.devices → HearsData k w l.primary → HearsData k w l.secondary → Ticked p gs l (Character (get_or w k 0)) c (heard_tick limit l (Character (get_or w k 0)) c)
  unfolding heard_tick
  back_tick_is burst noted next k w message u o out ha hb = go (back_tick limit low high p v burst noted next k w message u l.primary l.secondary l.devices c.for_primary c.for_secondary c.for_devices o)
    where
      sp : Spoken w message
      sp = spoken_of o.devices

      whole : suc k ≡ length w → (primary : Bool) (t : Whole) → found_by (master_of primary l) (Character (get_or w k 0)) ≡ Frame t → t.header.kind ≡ back → BackFound primary gs l (heard w k) t
      whole last true t e b = let r = finds l.primary c.for_primary k w message u last (found last o.devices out) o.primary.receiver_is ha t e in record { long_is = r.0; sent = r.1 }
      whole last false t e b = let r = finds l.secondary c.for_secondary k w message u last (found last o.devices out) o.secondary.receiver_is hb t e in record { long_is = r.0; sent = r.1 }

      go : BackTick p burst noted next k w message u l.primary l.secondary (heard w k).for_primary (heard w k).for_secondary (heard w k).for_devices → Ticked p gs l (Character (get_or w k 0)) c (heard w k)
      go (A.back_goes_on below a b line m x y) =
          no_back p gs l (Character (get_or w k 0)) c (heard w k) (mid_finds l.primary w message k sp o.primary.receiver_is below) (mid_finds l.secondary w message k sp o.secondary.receiver_is below)
          (back_sent burst noted next (suc k) w message u (carries (heard w k) a b line) m
          (out_after limit p (Character (get_or w k 0)) w message u (reader_after idle (take k w)) high k below v.some_sto low refl sp c.for_devices (one_all o.devices) out)
          (hears_on_data l.primary c.for_primary w k (omega arith) o.primary.listens.hears o.primary.receiver_is ha)
          (hears_on_data l.secondary c.for_secondary w k (omega arith) o.secondary.listens.hears o.secondary.receiver_is hb))
      go (A.back_ends last a b line m ta tb n x y) = record { backs = whole last; next = silent 0 (carries (heard w k) a b line) (set p.rt2 next m) }

-- ---- the theorem

module _ (limit : ℕ) (low : 2 ≤ limit) (high : limit ≤ 255) (p : Profile) (v : Valid p) where
  phase_tick : (l : Link) (c : Calls) (gs : List ContentLog) → Rooms l → AllKnown gs l.devices → Fair (link_tick limit l c) → Phase p gs l → Ticked p gs l l.line c (link_tick limit l c)
  phase_tick l c gs rooms known sole q = go q
    where
      put : (h : Heard) → l.line ≡ h → Ticked p gs l h c (heard_tick limit l h c) → Ticked p gs l l.line c (link_tick limit l c)
      put h line t = subst (Ticked p gs l l.line c) (sym (tick_is limit l h c line)) (subst (λ (z : Heard). Ticked p gs l z c (heard_tick limit l h c)) (sym line) t)

      go : Phase p gs l → Ticked p gs l l.line c (link_tick limit l c)
      go (silent e line o) = put Silence line (silence_tick limit low high p v l c gs rooms known e (subst Fair (tick_is limit l Silence c line) sole) o)
      go (primary_sends burst noted next k w message line o) = put (Character (get_or w k 0)) line (primary_tick limit low high p v l c gs rooms known burst noted next k w message o)
      go (secondary_sends burst noted next k w message line o) = put (Character (get_or w k 0)) line (secondary_tick limit low high p v l c gs rooms known burst noted next k w message o)
      go (ack_sent burst noted next k w message u on line o) = put (Character (get_or w k 0)) line (ack_tick_is limit low high p v l c gs rooms known burst noted next k w message u on o)
      go (back_sent burst noted next k w message u line o out ha hb) = put (Character (get_or w k 0)) line (back_tick_is limit low high p v l c gs rooms known burst noted next k w message u o out ha hb)

  rooms_after : (l : Link) (c : Calls) → Rooms l → Rooms (link_after (link_tick limit l c))
  unfolding link_tick
  rooms_after l c r = record {
    primary_room = omega (arith, r.primary_room, bytes_length limit l.primary l.line c.for_primary);
    secondary_room = omega (arith, r.secondary_room, bytes_length limit l.secondary l.line c.for_secondary);
  }

  known_next : (l : Link) (c : Calls) (gs : List ContentLog) → AllKnown gs l.devices → AllKnown (logs_by c (link_tick limit l c) gs) (link_after (link_tick limit l c)).devices
  unfolding link_tick
  known_next l c gs k = all_known limit high l.line c.for_devices k

  backs_run : (l : Link) (ticks : List Calls) (gs : List ContentLog) → Rooms l → AllKnown gs l.devices → Phase p gs l → EachTick Fair (run limit l ticks) → EachBack limit gs l ticks
  unfolding run
  backs_run l [] gs rooms known q b = no_tick
  backs_run l (c ∷ cs) gs rooms known q (R1.EachTick.tick_and one b) =
      let t = phase_tick l c gs rooms known one q in
      tick_and t.backs (backs_run (link_after (link_tick limit l c)) cs (logs_by c (link_tick limit l c) gs) (rooms_after l c rooms) (known_next l c gs known) t.next b)

-- a fresh device holds no content
fresh_known : {p : Profile} {xs : List DeviceSide} → All (R1.DeviceStarts p) xs → AllKnown (no_contents xs) xs
unfolding no_contents
fresh_known none = no_more
fresh_known {p} (and {x = x} q qs) =
    known_and (record {
      room = q.content_room;
      known = λ z. absurd (true_false (sym z ∙ ap (λ (d : Device). d.content.given) (device_is p q.preamble q.polling q.unique x.device q.starts).is));
    })
    (fresh_known qs)

pub backs_in_a_run : (limit : ℕ) → 2 ≤ limit → limit ≤ 255 → BacksInARun limit
unfolding run link_tick
backs_in_a_run limit low high p retries l [] k ra rb = no_tick
backs_in_a_run limit low high p retries l (c ∷ cs) k ra rb = go (fair_run limit p retries l (c ∷ cs) k)
  where
    v : Valid p
    v = valid p k.made

    s : LinkStep
    s = link_tick limit l c

    rooms : Rooms l
    rooms = record { primary_room = ra; secondary_room = rb }

    known : AllKnown (no_contents l.devices) l.devices
    known = fresh_known k.starts.devices

    -- in the first tick nobody hears
    first : Ticked p (no_contents l.devices) l l.line c (link_tick limit l c)
    first =
        let f = first_tick limit low high p v retries l.primary l.secondary l.devices l.line c.for_primary c.for_secondary c.for_devices k.starts.primary k.starts.secondary k.starts.devices k.starts.distinct in
        no_back p (no_contents l.devices) l l.line c (link_tick limit l c)
        (deaf_finds l.primary l.line (ap (λ (m : Master). m.deaf) (master_is p true retries l.primary.master k.starts.primary.starts)))
        (deaf_finds l.secondary l.line (ap (λ (m : Master). m.deaf) (master_is p false retries l.secondary.master k.starts.secondary.starts)))
        (silent p.rt1s (carries (link_tick limit l c) f.primary_silent f.secondary_silent f.devices_silent) (clear f.silent_line))

    go : EachTick Fair (run limit l (c ∷ cs)) → EachBack limit (no_contents l.devices) l (c ∷ cs)
    go (R1.EachTick.tick_and one b) =
        tick_and first.backs
        (backs_run limit low high p v (link_after s) cs (logs_by c s (no_contents l.devices)) (rooms_after limit low high p v l c rooms) (known_next limit low high p v l c (no_contents l.devices) known) first.next b)
