-- The short ways are a party's tick: one that only counts a silent tick, and one that only hears a character.
use Rattle.std.specs.Prelude.{Option, Some, None}
use Prim.Native.Nat.{ℕ}
use native.Mathlib.Omega.{arith}
use mathlib.Core.Bool.{Bool, true, false}
use mathlib.Core.List.{List}
use mathlib.Core.Path.{◌≡◌, refl, sym, ap, ◌∙◌}
use Rattle.base.specs.Choice.{when◌then◌else◌}
use Rattle.base.proofs.Choices.{true_false, went_then, went_else}
use Rattle.line.specs.Reader as R
use Rattle.line.specs.Reader.{inside_frame, taken, taken_data}
use Rattle.line.specs.declared.Event.TheVariants.{Nothing}
use Rattle.line.specs.declared.Heard.{Heard}
use Rattle.line.specs.declared.Heard.TheVariants.{Silence, Character}
use Rattle.line.specs.declared.Place.{Place}
use Rattle.line.specs.declared.Place.TheVariants.{Passing, Idle, Preamble, First, Address, Expansion, Command, Count, Data, Check}
use Rattle.line.specs.declared.Receiver.{Receiver}
use Rattle.line.specs.declared.Taken.{Taken}
use Rattle.turns.specs.Device as D
use Rattle.turns.specs.Device.{device_takes, device_sends, error_frame}
use Rattle.turns.specs.Master as M
use Rattle.turns.specs.Master.{master_takes, master_sends}
use Rattle.turns.specs.Link.{no_call, no_request, MasterSide, MasterStep, master_calls, master_tick, DeviceSide, DeviceStep, device_calls, device_tick}
use Rattle.turns.specs.declared.CallResult.{CallResult}
use Rattle.turns.specs.declared.Device.{Device}
use Rattle.turns.specs.declared.DeviceTold.{DeviceTold}
use Rattle.turns.specs.declared.Master.{Master}
use Rattle.turns.specs.declared.MasterTold.{MasterTold}
use Rattle.turns.specs.declared.Sent.TheVariants.{Silent}
use Rattle.turns.specs.declared.Stage.{Stage}
use Rattle.turns.specs.declared.Stage.TheVariants.{Free, Waiting, Sending, Awaiting}
use Rattle.turns.specs.declared.Turn.{Turn}
use Rattle.turns.specs.declared.Turn.TheVariants.{Listens, Asked, AnswerWaits, Begins, Answers, Follows, Bursts}
use Rattle.master.specs.Tick as MT
use Rattle.device_tick.specs.Tick as DT
use Rattle.device_tick.specs.declared.DeviceCall.{DeviceCall}
use Rattle.link_parties.specs.Readers.{same_reader}
use Rattle.link_parties.specs.Ways.{hears_if, counts_if, calls_device, is_listening, device_counts, device_hears, device_way, counted_device, heard_device}
use Rattle.link_parties.specs.Ways.{calls_master, is_free, is_sending, master_counts, master_hears, master_way, counted_master, heard_master}
use Rattle.link_parties.specs.declared.Way.{Way}
use Rattle.link_parties.specs.declared.Way.TheVariants.{Counts, Hears, Acts}
use Rattle.link_parties.proofs.Readers.{readers_equal}
use Rattle.turns.specs.declared.Request.{Request}

-- ---- what a way tells

number : Way → ℕ
number Counts = 0
number Hears = 1
number Acts = 2

acts_counts : Acts ≡ Counts → ⊥
unfolding number
acts_counts e = let k : ◌≡◌ {A = ℕ} 2 0 = ap number e in omega arith

acts_hears : Acts ≡ Hears → ⊥
unfolding number
acts_hears e = let k : ◌≡◌ {A = ℕ} 2 1 = ap number e in omega arith

hears_counts : Hears ≡ Counts → ⊥
unfolding number
hears_counts e = let k : ◌≡◌ {A = ℕ} 1 0 = ap number e in omega arith

character_counts : (follows quiet same : Bool) → hears_if follows quiet same ≡ Counts → ⊥
unfolding when◌then◌else◌
character_counts true true same e = hears_counts e
character_counts false true true e = hears_counts e
character_counts false true false e = acts_counts e
character_counts follows false same e = acts_counts e

silence_hears : (b : Bool) → counts_if b ≡ Hears → ⊥
unfolding when◌then◌else◌
silence_hears true e = hears_counts (sym e)
silence_hears false e = acts_hears e

-- where the way of a character is to hear: what the flag tells, or the readers compared
character_hears : (follows quiet same : Bool) (P : Type 0) → (follows ≡ true → P) → (same ≡ true → P) → hears_if follows quiet same ≡ Hears → P × (quiet ≡ true)
unfolding when◌then◌else◌
character_hears true true same P f g e = (f refl, refl)
character_hears false true true P f g e = (g refl, refl)
character_hears false true false P f g e = absurd (acts_hears e)
character_hears follows false same P f g e = absurd (acts_hears e)

not_first : (s t : Bool) → (when s then false else t) ≡ true → (s ≡ false) × (t ≡ true)
not_first s t e = went_else s false t true e (λ q. true_false (sym q))

listening_is : (t : Turn) → is_listening t ≡ true → t ≡ Listens
listening_is Listens e = refl
listening_is (Asked n) e = absurd (true_false (sym e))
listening_is AnswerWaits e = absurd (true_false (sym e))
listening_is Begins e = absurd (true_false (sym e))
listening_is (Answers n) e = absurd (true_false (sym e))
listening_is Follows e = absurd (true_false (sym e))
listening_is (Bursts n) e = absurd (true_false (sym e))

free_is : (s : Stage) → is_free s ≡ true → s ≡ Free
free_is Free e = refl
free_is Waiting e = absurd (true_false (sym e))
free_is (Sending n) e = absurd (true_false (sym e))
free_is (Awaiting n) e = absurd (true_false (sym e))

at_place : (r : Receiver) (p : Place) → r.place ≡ p → r ≡ record { place = p; header = r.header; expansion = r.expansion; count = r.count; sum = r.sum; damage = r.damage; gap = r.gap }
at_place r p e = λ i. record { place = e i; header = r.header; expansion = r.expansion; count = r.count; sum = r.sum; damage = r.damage; gap = r.gap }

-- ---- a device

-- its step where it sends, tells and answers nothing
abbrev pub quiet_device : DeviceSide → DeviceStep
quiet_device x = record { side = x; sent = Silent; told = DeviceTold.Nothing; result = CallResult.Nothing }

abbrev pub with_device : DeviceSide → Device → List ℕ → DeviceSide
with_device x d bytes = record { device = d; frame = x.frame; bytes = bytes; contents = x.contents }

-- the same device, with what is known of it in place
abbrev listening_device : Device → Place → Device
listening_device d p = record {
  profile = d.profile;
  preamble = d.preamble;
  polling = d.polling;
  unique = d.unique;
  receiver = record { place = p; header = d.receiver.header; expansion = d.receiver.expansion; count = d.receiver.count; sum = d.receiver.sum; damage = d.receiver.damage; gap = d.receiver.gap };
  deaf = false;
  turn = Listens;
  request = d.request;
  wish = d.wish;
  length = d.length;
  burst = false;
  primary = d.primary;
  due = d.due;
  content = d.content;
}

abbrev hearing_device : Device → Device
hearing_device d = record {
  profile = d.profile;
  preamble = d.preamble;
  polling = d.polling;
  unique = d.unique;
  receiver = d.receiver;
  deaf = false;
  turn = d.turn;
  request = d.request;
  wish = d.wish;
  length = d.length;
  burst = d.burst;
  primary = d.primary;
  due = d.due;
  content = d.content;
}

module _ (limit : ℕ) (x : DeviceSide) (deaf : x.device.deaf ≡ false) where
  listening_device_lem : (p : Place) → x.device.receiver.place ≡ p → x.device.burst ≡ false → x.device.turn ≡ Listens → x.device ≡ listening_device x.device p
  listening_device_lem p at calm turn_is = let d = x.device in λ i. record {
    profile = d.profile;
    preamble = d.preamble;
    polling = d.polling;
    unique = d.unique;
    receiver = at_place d.receiver p at i;
    deaf = deaf i;
    turn = turn_is i;
    request = d.request;
    wish = d.wish;
    length = d.length;
    burst = calm i;
    primary = d.primary;
    due = d.due;
    content = d.content;
  }

  hearing_device_lem : x.device ≡ hearing_device x.device
  hearing_device_lem = let d = x.device in λ i. record {
    profile = d.profile;
    preamble = d.preamble;
    polling = d.polling;
    unique = d.unique;
    receiver = d.receiver;
    deaf = deaf i;
    turn = d.turn;
    request = d.request;
    wish = d.wish;
    length = d.length;
    burst = d.burst;
    primary = d.primary;
    due = d.due;
    content = d.content;
  }

  -- a silent tick outside a frame
  counts_at : (p : Place) → inside_frame p ≡ false → x.device.receiver.place ≡ p → x.device.burst ≡ false → x.device.turn ≡ Listens
      → quiet_device (with_device x (counted_device x.device) x.bytes) ≡ device_tick limit x Silence no_call
  unfolding device_tick device_takes device_sends taken taken_data when◌then◌else◌
  counts_at Passing o at calm turn_is =
      let e = listening_device_lem Passing at calm turn_is in
      let known : quiet_device (with_device x (counted_device (listening_device x.device Passing)) x.bytes) ≡ device_tick limit (with_device x (listening_device x.device Passing) x.bytes) Silence no_call = refl in
      ap (λ (d : Device). quiet_device (with_device x (counted_device d) x.bytes)) e ∙ known ∙ ap (λ (d : Device). device_tick limit (with_device x d x.bytes) Silence no_call) (sym e)
  counts_at Idle o at calm turn_is =
      let e = listening_device_lem Idle at calm turn_is in
      let known : quiet_device (with_device x (counted_device (listening_device x.device Idle)) x.bytes) ≡ device_tick limit (with_device x (listening_device x.device Idle) x.bytes) Silence no_call = refl in
      ap (λ (d : Device). quiet_device (with_device x (counted_device d) x.bytes)) e ∙ known ∙ ap (λ (d : Device). device_tick limit (with_device x d x.bytes) Silence no_call) (sym e)
  counts_at (Preamble n) o at calm turn_is = absurd (true_false o)
  counts_at First o at calm turn_is = absurd (true_false o)
  counts_at (Address n) o at calm turn_is = absurd (true_false o)
  counts_at (Expansion n) o at calm turn_is = absurd (true_false o)
  counts_at Command o at calm turn_is = absurd (true_false o)
  counts_at Count o at calm turn_is = absurd (true_false o)
  counts_at (Data n) o at calm turn_is = absurd (true_false o)
  counts_at Check o at calm turn_is = absurd (true_false o)

  -- a character, by the reader's step
  abbrev heard_by : Device → Taken → List ℕ → DeviceStep
  heard_by d t bytes = device_calls limit (D.on_character d t.receiver t.event) no_call (error_frame d (D.on_character d t.receiver t.event).event x.frame) bytes x.contents

  hears_at : (c : ℕ) (r : Receiver) → taken x.device.receiver (Character c) ≡ R.tells r Nothing
      → quiet_device (with_device x (heard_device x.device r) (taken_data x.device.receiver (Character c) x.bytes)) ≡ device_tick limit x (Character c) no_call
  unfolding device_tick device_takes device_sends when◌then◌else◌
  hears_at c r k =
      let d = x.device in
      let e = hearing_device_lem in
      let bytes = taken_data d.receiver (Character c) x.bytes in
      let known : quiet_device (with_device x (heard_device (hearing_device d) r) bytes) ≡ heard_by (hearing_device d) (R.tells r Nothing) bytes = refl in
      let whole : heard_by (hearing_device d) (taken d.receiver (Character c)) bytes ≡ device_tick limit (with_device x (hearing_device d) x.bytes) (Character c) no_call = refl in
      ap (λ (y : Device). quiet_device (with_device x (heard_device y r) bytes)) e
      ∙ known
      ∙ ap (λ (t : Taken). heard_by (hearing_device d) t bytes) (sym k)
      ∙ whole
      ∙ ap (λ (y : Device). device_tick limit (with_device x y x.bytes) (Character c) no_call) (sym e)

module _ (limit : ℕ) (x : DeviceSide) (heard : Heard) (call : DeviceCall) (put : List ℕ) (follows quiet : Bool) (reader : Receiver) where
  -- what is left of a way that is not to act
  open_way : (w : Way) → device_way x.device heard call follows quiet reader ≡ w → (Acts ≡ w → ⊥) → (x.device.deaf ≡ false) × ((calls_device call ≡ false) × (device_hears x.device heard follows quiet reader ≡ w))
  unfolding device_way
  open_way w e f =
      let a = went_else x.device.deaf Acts _ w e f in
      let b = went_else (calls_device call) Acts _ w a.1 f in
      (a.0, (b.0, b.1))

  pub device_counts_lem : device_way x.device heard call follows quiet reader ≡ Counts → quiet_device (with_device x (counted_device x.device) x.bytes) ≡ device_tick limit x heard (DT.call_of call put)
  device_counts_lem e =
      let o = open_way Counts e acts_counts in
      by call heard o.1.0 o.1.1
    where
      by : (c : DeviceCall) (h : Heard) → calls_device c ≡ false → device_hears x.device h follows quiet reader ≡ Counts
          → quiet_device (with_device x (counted_device x.device) x.bytes) ≡ device_tick limit x h (DT.call_of c put)
      by DeviceCall.Nothing Silence k l =
          let o = open_way Counts e acts_counts in
          let a = not_first x.device.burst (when inside_frame x.device.receiver.place then false else is_listening x.device.turn) (went_then (device_counts x.device) Counts Acts Counts l acts_counts).0 in
          let b = not_first (inside_frame x.device.receiver.place) (is_listening x.device.turn) a.1 in
          counts_at limit x o.0 x.device.receiver.place b.0 refl a.0 (listening_is x.device.turn b.1)
      by DeviceCall.Nothing (Character c) k l = absurd (character_counts follows quiet (same_reader x.device.receiver reader) l)
      by DeviceCall.Nothing (Heard.Damaged c kind) k l = absurd (acts_counts l)
      by (DeviceCall.Answers w) h k l = absurd (true_false k)
      by (DeviceCall.Content n) h k l = absurd (true_false k)

  pub device_hears_lem : (r : Receiver) → device_way x.device heard call follows quiet reader ≡ Hears
      → (follows ≡ true → x.device.receiver ≡ reader) → (quiet ≡ true → taken reader heard ≡ R.tells r Nothing)
      → quiet_device (with_device x (heard_device x.device r) (taken_data x.device.receiver heard x.bytes)) ≡ device_tick limit x heard (DT.call_of call put)
  device_hears_lem r e same step =
      let o = open_way Hears e acts_hears in
      by call heard o.1.0 o.1.1 step
    where
      by : (c : DeviceCall) (h : Heard) → calls_device c ≡ false → device_hears x.device h follows quiet reader ≡ Hears
          → (quiet ≡ true → taken reader h ≡ R.tells r Nothing)
          → quiet_device (with_device x (heard_device x.device r) (taken_data x.device.receiver h x.bytes)) ≡ device_tick limit x h (DT.call_of c put)
      by DeviceCall.Nothing Silence k l f = absurd (silence_hears (device_counts x.device) l)
      by DeviceCall.Nothing (Character c) k l f =
          let o = open_way Hears e acts_hears in
          let both = character_hears follows quiet (same_reader x.device.receiver reader) (x.device.receiver ≡ reader) same (readers_equal x.device.receiver reader) l in
          hears_at limit x o.0 c r (ap (λ (q : Receiver). taken q (Character c)) both.0 ∙ f both.1)
      by DeviceCall.Nothing (Heard.Damaged c kind) k l f = absurd (acts_hears l)
      by (DeviceCall.Answers w) h k l f = absurd (true_false k)
      by (DeviceCall.Content n) h k l f = absurd (true_false k)

-- ---- a master

abbrev pub quiet_master : MasterSide → MasterStep
quiet_master x = record { side = x; sent = Silent; told = MasterTold.Nothing; result = CallResult.Nothing }

abbrev pub with_master : MasterSide → Master → List ℕ → MasterSide
with_master x m bytes = record { master = m; frame = x.frame; bytes = bytes }

abbrev free_master : Master → Place → Master
free_master m p = record {
  primary = m.primary;
  profile = m.profile;
  retries = m.retries;
  receiver = record { place = p; header = m.receiver.header; expansion = m.receiver.expansion; count = m.receiver.count; sum = m.receiver.sum; damage = m.receiver.damage; gap = m.receiver.gap };
  deaf = false;
  burst = false;
  noted = m.noted;
  timer = m.timer;
  message = record { stage = Free; header = m.message.header; length = m.message.length; attempts = m.message.attempts };
}

abbrev hearing_master : Master → Stage → Master
hearing_master m s = record {
  primary = m.primary;
  profile = m.profile;
  retries = m.retries;
  receiver = m.receiver;
  deaf = false;
  burst = m.burst;
  noted = m.noted;
  timer = m.timer;
  message = record { stage = s; header = m.message.header; length = m.message.length; attempts = m.message.attempts };
}

module _ (limit : ℕ) (x : MasterSide) (deaf : x.master.deaf ≡ false) where
  free_master_lem : (p : Place) → x.master.receiver.place ≡ p → x.master.burst ≡ false → x.master.message.stage ≡ Free → x.master ≡ free_master x.master p
  free_master_lem p at clear free = let m = x.master in λ i. record {
    primary = m.primary;
    profile = m.profile;
    retries = m.retries;
    receiver = at_place m.receiver p at i;
    deaf = deaf i;
    burst = clear i;
    noted = m.noted;
    timer = m.timer;
    message = record { stage = free i; header = m.message.header; length = m.message.length; attempts = m.message.attempts };
  }

  hearing_master_lem : (s : Stage) → x.master.message.stage ≡ s → x.master ≡ hearing_master x.master s
  hearing_master_lem s e = let m = x.master in λ i. record {
    primary = m.primary;
    profile = m.profile;
    retries = m.retries;
    receiver = m.receiver;
    deaf = deaf i;
    burst = m.burst;
    noted = m.noted;
    timer = m.timer;
    message = record { stage = e i; header = m.message.header; length = m.message.length; attempts = m.message.attempts };
  }

  clear_at : (p : Place) → inside_frame p ≡ false → x.master.receiver.place ≡ p → x.master.burst ≡ false → x.master.message.stage ≡ Free
      → quiet_master (with_master x (counted_master x.master) x.bytes) ≡ master_tick limit x Silence no_request
  unfolding master_tick master_takes master_sends taken taken_data when◌then◌else◌
  clear_at Passing o at clear free =
      let e = free_master_lem Passing at clear free in
      let known : quiet_master (with_master x (counted_master (free_master x.master Passing)) x.bytes) ≡ master_tick limit (with_master x (free_master x.master Passing) x.bytes) Silence no_request = refl in
      ap (λ (m : Master). quiet_master (with_master x (counted_master m) x.bytes)) e ∙ known ∙ ap (λ (m : Master). master_tick limit (with_master x m x.bytes) Silence no_request) (sym e)
  clear_at Idle o at clear free =
      let e = free_master_lem Idle at clear free in
      let known : quiet_master (with_master x (counted_master (free_master x.master Idle)) x.bytes) ≡ master_tick limit (with_master x (free_master x.master Idle) x.bytes) Silence no_request = refl in
      ap (λ (m : Master). quiet_master (with_master x (counted_master m) x.bytes)) e ∙ known ∙ ap (λ (m : Master). master_tick limit (with_master x m x.bytes) Silence no_request) (sym e)
  clear_at (Preamble n) o at clear free = absurd (true_false o)
  clear_at First o at clear free = absurd (true_false o)
  clear_at (Address n) o at clear free = absurd (true_false o)
  clear_at (Expansion n) o at clear free = absurd (true_false o)
  clear_at Command o at clear free = absurd (true_false o)
  clear_at Count o at clear free = absurd (true_false o)
  clear_at (Data n) o at clear free = absurd (true_false o)
  clear_at Check o at clear free = absurd (true_false o)

  abbrev master_by : Master → Taken → List ℕ → MasterStep
  master_by m t bytes = master_calls limit (M.on_character m t.receiver t.event bytes) no_request x.frame bytes

  -- a character, at a stage in which nothing is sent
  abbrev Quiet : ℕ → Receiver → Stage → Type 0
  Quiet c r s =
      quiet_master (with_master x (heard_master (hearing_master x.master s) r) (taken_data x.master.receiver (Character c) x.bytes))
      ≡ master_by (hearing_master x.master s) (R.tells r Nothing) (taken_data x.master.receiver (Character c) x.bytes)

  quiet_at : (c : ℕ) (r : Receiver) (s : Stage) → is_sending s ≡ false → Quiet c r s
  unfolding master_sends when◌then◌else◌
  quiet_at c r Free k = refl
  quiet_at c r Waiting k = refl
  quiet_at c r (Sending n) k = absurd (true_false k)
  quiet_at c r (Awaiting n) k = refl

  heard_at : (c : ℕ) (r : Receiver) → is_sending x.master.message.stage ≡ false → taken x.master.receiver (Character c) ≡ R.tells r Nothing
      → quiet_master (with_master x (heard_master x.master r) (taken_data x.master.receiver (Character c) x.bytes)) ≡ master_tick limit x (Character c) no_request
  unfolding master_tick master_takes when◌then◌else◌
  heard_at c r k l =
      let m = x.master in
      let s = m.message.stage in
      let e = hearing_master_lem s refl in
      let bytes = taken_data m.receiver (Character c) x.bytes in
      let whole : master_by (hearing_master m s) (taken m.receiver (Character c)) bytes ≡ master_tick limit (with_master x (hearing_master m s) x.bytes) (Character c) no_request = refl in
      ap (λ (y : Master). quiet_master (with_master x (heard_master y r) bytes)) e
      ∙ quiet_at c r s k
      ∙ ap (λ (t : Taken). master_by (hearing_master m s) t bytes) (sym l)
      ∙ whole
      ∙ ap (λ (y : Master). master_tick limit (with_master x y x.bytes) (Character c) no_request) (sym e)

module _ (limit : ℕ) (x : MasterSide) (heard : Heard) (call : Option Request) (put : List ℕ) (follows quiet : Bool) (reader : Receiver) where
  opened_way : (w : Way) → master_way x.master heard call follows quiet reader ≡ w → (Acts ≡ w → ⊥) → (x.master.deaf ≡ false) × ((calls_master call ≡ false) × (master_hears x.master heard follows quiet reader ≡ w))
  unfolding master_way
  opened_way w e f =
      let a = went_else x.master.deaf Acts _ w e f in
      let b = went_else (calls_master call) Acts _ w a.1 f in
      (a.0, (b.0, b.1))

  pub master_counts_lem : master_way x.master heard call follows quiet reader ≡ Counts → quiet_master (with_master x (counted_master x.master) x.bytes) ≡ master_tick limit x heard (MT.call_of call put)
  master_counts_lem e =
      let o = opened_way Counts e acts_counts in
      by call heard o.1.0 o.1.1
    where
      by : (c : Option Request) (h : Heard) → calls_master c ≡ false → master_hears x.master h follows quiet reader ≡ Counts
          → quiet_master (with_master x (counted_master x.master) x.bytes) ≡ master_tick limit x h (MT.call_of c put)
      by None Silence k l =
          let o = opened_way Counts e acts_counts in
          let a = not_first x.master.burst (when inside_frame x.master.receiver.place then false else is_free x.master.message.stage) (went_then (master_counts x.master) Counts Acts Counts l acts_counts).0 in
          let b = not_first (inside_frame x.master.receiver.place) (is_free x.master.message.stage) a.1 in
          clear_at limit x o.0 x.master.receiver.place b.0 refl a.0 (free_is x.master.message.stage b.1)
      by None (Character c) k l =
          absurd (character_counts follows quiet (same_reader x.master.receiver reader) (went_else (is_sending x.master.message.stage) Acts _ Counts l acts_counts).1)
      by None (Heard.Damaged c kind) k l = absurd (acts_counts l)
      by (Some q) h k l = absurd (true_false k)

  pub master_hears_lem : (r : Receiver) → master_way x.master heard call follows quiet reader ≡ Hears
      → (follows ≡ true → x.master.receiver ≡ reader) → (quiet ≡ true → taken reader heard ≡ R.tells r Nothing)
      → quiet_master (with_master x (heard_master x.master r) (taken_data x.master.receiver heard x.bytes)) ≡ master_tick limit x heard (MT.call_of call put)
  master_hears_lem r e same step =
      let o = opened_way Hears e acts_hears in
      by call heard o.1.0 o.1.1 step
    where
      by : (c : Option Request) (h : Heard) → calls_master c ≡ false → master_hears x.master h follows quiet reader ≡ Hears
          → (quiet ≡ true → taken reader h ≡ R.tells r Nothing)
          → quiet_master (with_master x (heard_master x.master r) (taken_data x.master.receiver h x.bytes)) ≡ master_tick limit x h (MT.call_of c put)
      by None Silence k l f = absurd (silence_hears (master_counts x.master) l)
      by None (Character c) k l f =
          let o = opened_way Hears e acts_hears in
          let s = went_else (is_sending x.master.message.stage) Acts _ Hears l acts_hears in
          let both = character_hears follows quiet (same_reader x.master.receiver reader) (x.master.receiver ≡ reader) same (readers_equal x.master.receiver reader) s.1 in
          heard_at limit x o.0 c r s.0 (ap (λ (q : Receiver). taken q (Character c)) both.0 ∙ f both.1)
      by None (Heard.Damaged c kind) k l f = absurd (acts_hears l)
      by (Some q) h k l f = absurd (true_false k)
