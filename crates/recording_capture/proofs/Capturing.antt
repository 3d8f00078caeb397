-- Laws of the packets: by what a tick tells, a tick, and the loop over a piece.
use mathlib.Core.Logic.{◌⊎◌, inl, inr}
use Rattle.std.proofs.Common.{◌≡◌, ℕ, ◌+◌, ◌*◌, ◌/◌, ◌<◌, ◌≤◌, List, [], ◌∷◌, ◌++◌, length, get_or, take, drop, sym, refl, ap, ◌∙◌, subst, append_assoc, append-nil, arith}
use Rattle.line.specs.Reader.{passing, taken, ReaderTakeIs}
use Rattle.line.specs.declared.Damage.{Damage}
use Rattle.line.specs.declared.Event.{Event}
use Rattle.line.specs.declared.Event.TheVariants.{Nothing, PassedOver, Broken, Frame, Damaged}
use Rattle.line.specs.declared.FrameDamage.{FrameDamage}
use Rattle.line.specs.declared.Heard.{Heard}
use Rattle.line.specs.declared.Heard.TheVariants as Variant
use Rattle.line.specs.declared.Receiver.{Receiver}
use Rattle.line.specs.declared.Taken.{Taken}
use Rattle.line.specs.declared.Whole.{Whole}
use Rattle.texts.specs.Put.{Out, PutIs}
use Rattle.texts.proofs.Puts.{put_then, put_none, put_length}
use Rattle.line.specs.Heard.{heard_of}
use Rattle.recording.specs.Form.{ticks_of}
use Rattle.recording.proofs.Forms.{ticks_on, ticks_over}
use Rattle.recording_capture.specs.Capture.{heard_text, grown, message_of, held_behind, packet_by, number_after, next_tick, progress_behind, Kept, stepped, packet_at, packets_from, kept_behind, start_of}
use Rattle.recording_capture.specs.Packet.{packet}
use Rattle.recording_capture.specs.Promises.{keep, TickIs, PacketsAre}
use Rattle.recording_capture.specs.declared.Captured.{Captured}
use Rattle.recording_capture.specs.declared.Clock.{Clock}
use Rattle.recording_capture.specs.declared.Progress.{Progress}

pub started : (r : Receiver) (clock : Clock) → r ≡ passing → record { receiver = r; clock = clock; tick = 0; number = 0; held = 0 } ≡ start_of clock
started r clock e = ap (λ (x : Receiver). record { receiver = x; clock = clock; tick = 0; number = 0; held = 0 }) e

-- ---- by what is told

module _ (clock : Clock) (tick number : ℕ) (e : Event) (message before : List ℕ) (at : ℕ) where
  abbrev Told : ℕ → List ℕ → Event → Type 0
  Told r after x = PutIs (packet_by clock tick number x message) before at r after

  pub packet_whole : (w : Whole) (r : ℕ) (after : List ℕ) → e ≡ Frame w → PutIs (packet clock tick number w.header message) before at r after → Told r after e
  packet_whole w r after f p = subst (Told r after) (sym f) p

  pub none_told : e ≡ Nothing → Told at before e
  none_told f = subst (Told at before) (sym f) (put_none before at)

  pub none_passed : e ≡ PassedOver → Told at before e
  none_passed f = subst (Told at before) (sym f) (put_none before at)

  pub none_broken : e ≡ Broken → Told at before e
  none_broken f = subst (Told at before) (sym f) (put_none before at)

  pub none_damaged : (w : Whole) (m : FrameDamage) → e ≡ Damaged w m → Told at before e
  none_damaged w m f = subst (Told at before) (sym f) (put_none before at)

pub ruleset put_events = (refl, packet_whole, none_told, none_passed, none_broken, none_damaged)

pub number_at_lem : (e f : Event) (n x : ℕ) → e ≡ f → x ≡ number_after f n → x ≡ number_after e n
number_at_lem e f n x p q = q ∙ ap (λ (y : Event). number_after y n) (sym p)

-- ---- what is heard

module _ (h : Heard) (frame : List ℕ) (held : ℕ) where
  abbrev Grows : ℕ → List ℕ → Heard → Type 0
  Grows r after x = PutIs (heard_text x) frame held r after

  pub hears_silence : h ≡ Variant.Silence → Grows held frame h
  unfolding heard_text
  hears_silence e = subst (Grows held frame) (sym e) (put_none frame held)

  pub hears_character : (c r : ℕ) (after : List ℕ) → h ≡ Variant.Character c → PutIs (c ∷ []) frame held r after → Grows r after h
  unfolding heard_text
  hears_character c r after e p = subst (Grows r after) (sym e) p

  pub hears_damaged : (c : ℕ) (kind : Damage) (r : ℕ) (after : List ℕ) → h ≡ Variant.Damaged c kind → PutIs (c ∷ []) frame held r after → Grows r after h
  unfolding heard_text
  hears_damaged c kind r after e p = subst (Grows r after) (sym e) p

  -- a character, damaged or not
  pub hears_either : (c r : ℕ) (after : List ℕ) → (h ≡ Variant.Character c) ⊎ ((kind : Damage) × (h ≡ Variant.Damaged c kind)) → PutIs (c ∷ []) frame held r after → Grows r after h
  hears_either c r after (inl e) p = hears_character c r after e p
  hears_either c r after (inr d) p = hears_damaged c d.0 r after d.1 p

pub ruleset heards = (refl, hears_silence, hears_either)

-- ---- a tick

pub behind_is : (p : Progress) (t : Taken) (held x n m : ℕ) → x ≡ next_tick p.tick → n ≡ number_after t.event p.number → m ≡ held_behind t.receiver.place held
    → record { receiver = t.receiver; clock = p.clock; tick = x; number = n; held = m } ≡ progress_behind p t held
unfolding progress_behind
behind_is p t held x n m ex en em = λ i. record { receiver = t.receiver; clock = p.clock; tick = ex i; number = en i; held = em i }

pub taken_progress : (p : Progress) (h : Heard) (bytes after frame grew : List ℕ) (t : Taken) (m : ℕ) (x : Progress) → ReaderTakeIs p.receiver h bytes t after
    → PutIs (heard_text h) frame p.held m grew → x ≡ progress_behind p t m → x ≡ progress_behind p (taken p.receiver h) (grown frame p.held h).at
taken_progress p h bytes after frame grew t m x v g e = e ∙ both
  where
    both : progress_behind p t m ≡ progress_behind p (taken p.receiver h) (grown frame p.held h).at
    both = λ i. progress_behind p (v.reader i) (g.out i).at

pub grown_at : (h : Heard) (frame grew : List ℕ) (held m : ℕ) → PutIs (heard_text h) frame held m grew → PutIs (heard_text h) frame held (grown frame held h).at grew
grown_at h frame grew held m g = subst (λ (x : ℕ). PutIs (heard_text h) frame held x grew) (ap (λ (o : Out). o.at) g.out) g

pub taken_packet : (p : Progress) (h : Heard) (bytes after frame grew message before : List ℕ) (at m : ℕ) (t : Taken) (r : ℕ) (out : List ℕ)
    → ReaderTakeIs p.receiver h bytes t after → PutIs (heard_text h) frame p.held m grew → message ≡ take m grew
    → PutIs (packet_by p.clock p.tick p.number t.event message) before at r out → PutIs (packet_at (keep p bytes frame) h) before at r out
unfolding packet_at
taken_packet p h bytes after frame grew message before at m t r out v g e l = subst (λ (x : List ℕ). PutIs x before at r out) same l
  where
    whole : message ≡ message_of (grown frame p.held h)
    whole = e ∙ ap (λ (o : Out). message_of o) g.out

    same : packet_by p.clock p.tick p.number t.event message ≡ packet_by p.clock p.tick p.number (taken p.receiver h).event (message_of (grown frame p.held h))
    same = λ i. packet_by p.clock p.tick p.number (v.reader i).event (whole i)

tick_kept : (p : Progress) (h : Heard) (bytes after frame grew before : List ℕ) (at : ℕ) (r : Captured) (out : List ℕ) → TickIs p h bytes after frame grew before at r out
    → keep r.progress after grew ≡ stepped (keep p bytes frame) h
unfolding stepped
tick_kept p h bytes after frame grew before at r out k = λ i. record {
  progress = k.progress_is i;
  bytes = k.bytes_are i;
  message = (k.frame_is.out i).bytes;
}

-- ---- the loop: the packets so far, and those that are left, are the packets

pub record Capturing (p : Progress) (piece bytes frame before : List ℕ) (ticks : ℕ) (q : Progress) (held grew out : List ℕ) (at t : ℕ) : Type 0 where
  pub count : ticks ≡ length piece / 2
  pub within : 2 * t ≤ length piece
  pub lent : length out ≡ length before
  pub lent_frame : length grew ≡ length frame
  pub so_far : List ℕ
  pub put : PutIs so_far before 0 at out
  pub packets : so_far ++ packets_from (keep q held grew) (ticks_of (drop (2 * t) piece)) ≡ packets_from (keep p bytes frame) (ticks_of piece)
  pub kept : kept_behind (keep q held grew) (ticks_of (drop (2 * t) piece)) ≡ kept_behind (keep p bytes frame) (ticks_of piece)

pub capturing_none : (p : Progress) (piece bytes frame before : List ℕ) (ticks : ℕ) → ticks ≡ length piece / 2 → Capturing p piece bytes frame before ticks p bytes frame before 0 0
capturing_none p piece bytes frame before ticks e =
    record { count = e; within = omega arith; lent = refl; lent_frame = refl; so_far = []; put = put_none before 0; packets = refl; kept = refl }

packets_tick : (k l : Kept) (h : Heard) (hs : List Heard) → l ≡ stepped k h → packets_from k (h ∷ hs) ≡ packet_at k h ++ packets_from l hs
unfolding packets_from
packets_tick k l h hs e = ap (λ (x : Kept). packet_at k h ++ packets_from x hs) (sym e)

kept_tick : (k l : Kept) (h : Heard) (hs : List Heard) → l ≡ stepped k h → kept_behind k (h ∷ hs) ≡ kept_behind l hs
unfolding kept_behind
kept_tick k l h hs e = ap (λ (x : Kept). kept_behind x hs) (sym e)

pub capturing_more : (p : Progress) (piece bytes frame before : List ℕ) (ticks : ℕ) (q : Progress) (held grew out : List ℕ) (at t : ℕ) (g : Heard) (r : Captured) (z : Progress) (after more next : List ℕ) (m : ℕ)
    → Capturing p piece bytes frame before ticks q held grew out at t → t < ticks
    → g ≡ heard_of (get_or piece (2 * t) 0 / 32) (get_or piece (2 * t + 1) 0) → TickIs q g held after grew more out at r next → z ≡ r.progress → m ≡ r.at
    → Capturing p piece bytes frame before ticks z after more next m (t + 1)
capturing_more p piece bytes frame before ticks q held grew out at t g r z after more next m v h eg kg ez em = record {
  count = v.count;
  within = omega (arith, v.count);
  lent = put_length (packet_at (keep q held grew) heard) out at r.at next k.text ∙ v.lent;
  lent_frame = put_length (heard_text heard) grew q.held (grown grew q.held heard).at more k.frame_is ∙ v.lent_frame;
  so_far = v.so_far ++ packet_at (keep q held grew) heard;
  put = subst (λ (x : ℕ). PutIs (v.so_far ++ packet_at (keep q held grew) heard) before 0 x next) (sym em) (put_then v.so_far (packet_at (keep q held grew) heard) before out next 0 at r.at v.put k.text);
  packets = append_assoc v.so_far (packet_at (keep q held grew) heard) (packets_from (keep z after more) left)
      ∙ ap (λ (l : List ℕ). v.so_far ++ l) (sym (packets_tick (keep q held grew) (keep z after more) heard left stepped_on) ∙ ap (packets_from (keep q held grew)) (sym here))
      ∙ v.packets;
  kept = sym (kept_tick (keep q held grew) (keep z after more) heard left stepped_on) ∙ ap (kept_behind (keep q held grew)) (sym here) ∙ v.kept;
}
  where
    heard : Heard
    heard = heard_of (get_or piece (2 * t) 0 / 32) (get_or piece (2 * t + 1) 0)

    k : TickIs q heard held after grew more out at r next
    k = subst (λ (x : Heard). TickIs q x held after grew more out at r next) eg kg

    left : List Heard
    left = ticks_of (drop (2 * (t + 1)) piece)

    here : ticks_of (drop (2 * t) piece) ≡ heard ∷ left
    here = ticks_on piece t (omega (arith, v.count))

    stepped_on : keep z after more ≡ stepped (keep q held grew) heard
    stepped_on = ap (λ (x : Progress). keep x after more) ez ∙ tick_kept q heard held after grew more out at r next k

pub capturing_all : (p : Progress) (piece bytes frame before : List ℕ) (ticks : ℕ) (q : Progress) (held grew out : List ℕ) (at t : ℕ) (r : Captured)
    → Capturing p piece bytes frame before ticks q held grew out at t → ticks ≤ t → r.progress ≡ q → r.at ≡ at → PacketsAre p (ticks_of piece) bytes held frame grew before r out
unfolding packets_from kept_behind
capturing_all p piece bytes frame before ticks q held grew out at t r v h eq ea = record {
  kept = ap (λ (x : Progress). keep x held grew) eq ∙ sym (ap (kept_behind (keep q held grew)) over) ∙ v.kept;
  text = subst (λ (x : ℕ). PutIs (packets_from (keep p bytes frame) (ticks_of piece)) before 0 x out) (sym ea)
      (subst (λ (l : List ℕ). PutIs l before 0 at out) (sym (append-nil v.so_far) ∙ ap (λ (l : List Heard). v.so_far ++ packets_from (keep q held grew) l) (sym over) ∙ v.packets) v.put);
}
  where
    over : ticks_of (drop (2 * t) piece) ≡ []
    over = ticks_over piece t (omega (arith, v.count))

pub ruleset capturings = (refl, capturing_none, capturing_more, capturing_all)
