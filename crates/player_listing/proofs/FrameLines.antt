-- Theorems: the claims of specs/FrameLines. What a master or a device sends from its start on has a line for each frame that it sent to the end alone, and no other.
use Prim.Native.Nat.{ℕ, zero, suc, ◌+◌, ◌-◌, ◌≤◌, ◌<◌}
use native.Mathlib.Omega.{arith}
use mathlib.Core.Path.{◌≡◌, refl, sym, ap, subst, subst₂, ◌∙◌}
use mathlib.Core.Bool.{Bool, true, false}
use mathlib.Core.List.{List, [], ◌∷◌, ◌++◌, append_assoc}
use lib.ListN.{length, take, length-append}
use Rattle.base.specs.Choice.{when◌then◌else◌}
use Rattle.base.proofs.Choices.{if_below}
use Rattle.frame.specs.Check.{exclusive_or}
use Rattle.frame.specs.Frame.{protected_bytes, body_bytes, preamble_bytes, frame_bytes}
use Rattle.frame.specs.declared.Header.{Header}
use Rattle.frame.proofs.Longest.{written_length}
use Rattle.frame.proofs.Taken as Write
use Rattle.line.specs.Reader.{tells, idle, taken}
use Rattle.line.specs.declared.Event.TheVariants.{Nothing, Frame}
use Rattle.line.specs.declared.Heard.TheVariants.{Character}
use Rattle.line.specs.declared.Receiver.{Receiver}
use Rattle.line.specs.declared.Taken.{Taken}
use Rattle.line.specs.declared.Whole.{Whole}
use Rattle.line.proofs.Leads.{Leads, stays, hears}
use Rattle.line.proofs.Hearing.{Heard, whole_message, before_check, frame_leads, frame_told}
use Rattle.turns.specs.Gaps.{master_sents, device_sents, IsFrame, NoGap, no_tick, silent_tick, begins_frame, goes_on as goes_on_later}
use Rattle.turns.specs.declared.Sent.{Sent}
use Rattle.turns.specs.declared.Sent.TheVariants.{Silent}
use Rattle.turns.proofs.NoGaps.{master_leaves_no_gap, device_leaves_no_gap}
use Rattle.player_listing.specs.Lines.{Line, line_of, quiet_monitor, PartyLines, goes_on, frame_ends, ends_by, ends_with, one_more, listens}
use Rattle.player_listing.specs.FrameLines.{sent_characters, alone_for, party_lines, frame_line, Frames, at_stop, silent, sent_to_end, stopped, ListedAsSent, MasterListed, DeviceListed}
use Rattle.player_listing.specs.declared.Monitor.{Monitor}

-- ---- choices

both_then : (a l m : Bool) → (when (when a then l else false) then m else false) ≡ (when a then (when l then m else false) else false)
unfolding when◌then◌else◌
both_then true l m = refl
both_then false l m = refl

itself : (a : Bool) → a ≡ (when a then true else false)
unfolding when◌then◌else◌
itself true = refl
itself false = refl

true_first : (a : Bool) → (when true then a else false) ≡ a
unfolding when◌then◌else◌
true_first a = refl

-- alone in n ticks, and in the next
alone_next : (lone : ℕ → Bool) (tick n : ℕ) → (when alone_for lone tick n then lone (tick + n) else false) ≡ alone_for lone tick (suc n)
unfolding alone_for
alone_next lone tick zero = true_first (lone (tick + 0)) ∙ ap lone (omega arith) ∙ itself (lone tick)
alone_next lone tick (suc n) =
    let there : tick + suc n ≡ tick + 1 + n = omega arith in
    both_then (lone tick) (alone_for lone (tick + 1) n) (lone (tick + suc n))
    ∙ ap (λ (m : ℕ). when lone tick then (when alone_for lone (tick + 1) n then lone m else false) else false) there
    ∙ ap (λ (b : Bool). when lone tick then b else false) (alone_next lone (tick + 1) n)

-- ---- the characters of a frame

-- the last of them
characters_end : (cs : List ℕ) (c : ℕ) (us : List Sent) → sent_characters (cs ++ (c ∷ [])) ++ us ≡ sent_characters cs ++ (Sent.Character c ∷ us)
unfolding sent_characters
characters_end [] c us = refl
characters_end (d ∷ cs) c us = ap (λ (l : List Sent). Sent.Character d ∷ l) (characters_end cs c us)

-- a written frame: the characters of which the reader tells nothing, and the last
record WholeAtLast (w : List ℕ) (h : Header) : Type 0 where
  front : List ℕ
  last : ℕ
  reader : Receiver
  buffer : List ℕ
  whole : Whole
  leads : Leads idle [] front reader buffer
  told : taken reader (Character last) ≡ tells idle (Frame whole)
  header_is : whole.header ≡ h
  is : w ≡ front ++ (last ∷ [])
  short : length w ≤ 284

whole_at_last : (w : List ℕ) (f : IsFrame w) → WholeAtLast w f.header
unfolding frame_bytes body_bytes
whole_at_last w f =
    let n = f.preamble in
    let h = f.header in
    let bytes = f.bytes in
    let fits = (Write.taken n h (length bytes) (length w) 0 (length w) f.taken_by_writer).fits in
    let ok : Heard h bytes = record { typed = fits.typed; address_high = fits.address_high; count_high = fits.count_high; enough = fits.enough } in
    let long = written_length n h bytes (length w) 0 (length w) f.taken_by_writer in
    record {
      front = preamble_bytes n ++ protected_bytes h bytes;
      last = exclusive_or (protected_bytes h bytes);
      reader = before_check h bytes;
      buffer = _;
      whole = whole_message h bytes;
      leads = frame_leads n h bytes [] (omega (arith, fits.preamble_low)) ok;
      told = frame_told h bytes;
      header_is = refl;
      is = f.written ∙ sym (append_assoc (preamble_bytes n) (protected_bytes h bytes) (exclusive_or (protected_bytes h bytes) ∷ []));
      short = omega (arith, long.as_the_fields_say, long.at_most);
    }

-- ---- the monitor

abbrev monitor_at : Receiver → ℕ → Bool → Monitor
monitor_at r k alone = record { receiver = r; count = k; alone = alone }

more : (k : ℕ) → k < 65535 → one_more k ≡ k + 1
more k h = sym (if_below k 65535 (k + 1) (k + 1) 65535 h refl)

module _ (lone : ℕ → Bool) (party : ℕ) where
  -- a character of which the reader tells nothing, and the last of a frame
  hears_nothing : (tick : ℕ) (r s : Receiver) (k c : ℕ) (alone : Bool) → taken r (Character c) ≡ tells s Nothing
      → listens tick party (lone tick) (monitor_at r k alone) (Sent.Character c) ≡ goes_on s (one_more k) (when alone then lone tick else false)
  unfolding listens ends_with
  hears_nothing tick r s k c alone e = ap (λ (t : Taken). ends_by tick party (one_more k) (when alone then lone tick else false) t.receiver t.event) e

  hears_last : (tick : ℕ) (r : Receiver) (k c : ℕ) (alone : Bool) (w : Whole) → taken r (Character c) ≡ tells idle (Frame w)
      → listens tick party (lone tick) (monitor_at r k alone) (Sent.Character c) ≡ frame_ends (line_of tick party w.header (one_more k)) (when alone then lone tick else false)
  unfolding listens ends_with
  hears_last tick r k c alone w e = ap (λ (t : Taken). ends_by tick party (one_more k) (when alone then lone tick else false) t.receiver t.event) e

  -- the lines behind a tick
  behind_tick : ℕ → List Sent → PartyLines → List Line
  behind_tick tick us x = x.lines ++ party_lines lone party (tick + 1) x.monitor us

  -- characters of which the reader tells nothing
  no_line : {r s : Receiver} {b d cs : List ℕ} (tick k : ℕ) (alone : Bool) (us : List Sent) → Leads r b cs s d → k + length cs ≤ 65535
      → party_lines lone party tick (monitor_at r k alone) (sent_characters cs ++ us)
      ≡ party_lines lone party (tick + length cs) (monitor_at s (k + length cs) (when alone then alone_for lone tick (length cs) else false)) us
  unfolding party_lines sent_characters alone_for behind_tick
  no_line {r} tick k alone us stays small =
      let t : tick ≡ tick + 0 = omega arith in
      let n : k ≡ k + 0 = omega arith in
      λ i. party_lines lone party (t i) (monitor_at r (n i) (itself alone i)) us
  no_line {r} tick k alone us (hears {s = s} {t = t} {c = c} {cs = cs} p q l) small =
      let below : k < 65535 = omega arith in
      let ticks : tick + 1 + length cs ≡ tick + suc (length cs) = omega arith in
      let counts : k + 1 + length cs ≡ k + suc (length cs) = omega arith in
      let now : Bool = when alone then lone tick else false in
      ap (behind_tick tick (sent_characters cs ++ us)) (hears_nothing tick r s k c alone p)
      ∙ ap (λ (n : ℕ). party_lines lone party (tick + 1) (monitor_at s n now) (sent_characters cs ++ us)) (more k below)
      ∙ no_line (tick + 1) (k + 1) now us l (omega arith)
      ∙ (λ i. party_lines lone party (ticks i) (monitor_at t (counts i) (both_then alone (lone tick) (alone_for lone (tick + 1) (length cs)) i)) us)

  -- the stop comes before the last character
  no_line_at_stop : {r s : Receiver} {b d cs : List ℕ} (tick k n : ℕ) (alone : Bool) (us : List ℕ) → Leads r b cs s d → n ≤ length cs
      → party_lines lone party tick (monitor_at r k alone) (sent_characters (take n (cs ++ us))) ≡ []
  unfolding party_lines sent_characters behind_tick
  no_line_at_stop tick k zero alone us l small = refl
  no_line_at_stop tick k (suc n) alone us stays small = absurd (omega arith)
  no_line_at_stop {r} tick k (suc n) alone us (hears {s = s} {c = c} {cs = cs} p q l) small =
      ap (behind_tick tick (sent_characters (take n (cs ++ us)))) (hears_nothing tick r s k c alone p)
      ∙ no_line_at_stop (tick + 1) (one_more k) n (when alone then lone tick else false) us l (omega arith)

  -- a frame from its first character to its last
  one_line : (tick : ℕ) (w : List ℕ) (f : IsFrame w) (us : List Sent)
      → party_lines lone party tick quiet_monitor (sent_characters w ++ us) ≡ frame_line lone party tick w f ++ party_lines lone party (tick + length w) quiet_monitor us
  unfolding party_lines frame_line frame_ends behind_tick
  one_line tick w f us =
      let x = whole_at_last w f in
      let n : ℕ = length x.front in
      let c : ℕ = x.last in
      let long : length w ≡ n + 1 = ap (λ (l : List ℕ). length l) x.is ∙ length-append x.front (c ∷ []) in
      let before : Bool = when true then alone_for lone tick n else false in
      let alone : (when before then lone (tick + n) else false) ≡ alone_for lone tick (length w) =
      ap (λ (b : Bool). when b then lone (tick + n) else false) (true_first (alone_for lone tick n)) ∙ alone_next lone tick n ∙ ap (alone_for lone tick) (omega (arith, long)) in
      let last : tick + n ≡ tick + length w - 1 = omega (arith, long) in
      let behind : tick + n + 1 ≡ tick + length w = omega (arith, long) in
      let count : one_more (0 + n) ≡ length w = more (0 + n) (omega (arith, long, x.short)) ∙ (omega (arith, long)) in
      ap (λ (l : List ℕ). party_lines lone party tick quiet_monitor (sent_characters l ++ us)) x.is
      ∙ ap (party_lines lone party tick quiet_monitor) (characters_end x.front c us)
      ∙ no_line tick 0 true (Sent.Character c ∷ us) x.leads (omega (arith, long, x.short))
      ∙ ap (behind_tick (tick + n) us) (hears_last (tick + n) x.reader (0 + n) c before x.whole x.told)
      ∙ (λ i. (when alone i then line_of (last i) party (x.header_is i) (count i) ∷ [] else []) ++ party_lines lone party (behind i) quiet_monitor us)

  -- ---- what a party sends, as silent ticks and frames

  -- where so much is left of a frame
  data Behind (tick : ℕ) (left : List ℕ) (ss : List Sent) : Type 0 where
    ends : (rest : List Sent) (ls : List Line) (at : ℕ) → at ≡ tick + length left → sent_characters left ++ rest ≡ ss → Frames lone party at rest ls → Behind tick left ss
    stops : (n : ℕ) → n < length left → sent_characters (take n left) ≡ ss → Behind tick left ss

  behind_silent : {tick : ℕ} {ss : List Sent} → Behind (tick + 1) [] ss → Behind tick [] (Silent ∷ ss)
  unfolding sent_characters
  behind_silent {tick} (ends rest ls at t e f) =
      let next : at ≡ tick + 1 = omega (arith, t) in
      ends (Silent ∷ rest) ls tick (omega arith) (ap (λ (l : List Sent). Silent ∷ l) e) (silent (subst (λ (n : ℕ). Frames lone party n rest ls) next f))
  behind_silent (stops n below e) = absurd (omega arith)

  behind_character : {tick c : ℕ} {left : List ℕ} {ss : List Sent} → Behind (tick + 1) left ss → Behind tick (c ∷ left) (Sent.Character c ∷ ss)
  unfolding sent_characters
  behind_character {c = c} (ends rest ls at t e f) = ends rest ls at (omega (arith, t)) (ap (λ (l : List Sent). Sent.Character c ∷ l) e) f
  behind_character {c = c} (stops n below e) = stops (suc n) (omega arith) (ap (λ (l : List Sent). Sent.Character c ∷ l) e)

  behind_frame : {tick : ℕ} {w : List ℕ} {ss : List Sent} → IsFrame w → Behind tick w ss → Behind tick [] ss
  unfolding sent_characters
  behind_frame {tick} {w} {ss} g (ends rest ls at t e f) =
      ends ss (frame_line lone party tick w g ++ ls) tick (omega arith) refl
      (subst (λ (l : List Sent). Frames lone party tick l (frame_line lone party tick w g ++ ls)) e (sent_to_end g (subst (λ (n : ℕ). Frames lone party n rest ls) t f)))
  behind_frame {tick} {w} {ss} g (stops n below e) = ends ss [] tick (omega arith) refl (subst (λ (l : List Sent). Frames lone party tick l []) e (stopped g below))

  behind : {left : List ℕ} {ss : List Sent} (tick : ℕ) → NoGap left ss → Behind tick left ss
  unfolding sent_characters
  behind tick (no_tick {left = []}) = ends [] [] tick (omega arith) refl at_stop
  behind tick (no_tick {left = c ∷ left}) = stops 0 (omega arith) refl
  behind tick (silent_tick g) = behind_silent (behind (tick + 1) g)
  behind tick (begins_frame f g) = behind_frame f (behind_character (behind (tick + 1) g))
  behind tick (goes_on_later g) = behind_character (behind (tick + 1) g)

-- the theorems
pub listed_as_sent : ListedAsSent
unfolding party_lines listens
listed_as_sent lone party tick _ _ at_stop = refl
listed_as_sent lone party tick _ _ (silent {ss = ss} {ls = ls} f) = listed_as_sent lone party (tick + 1) ss ls f
listed_as_sent lone party tick _ _ (sent_to_end {w = w} {ss = ss} {ls = ls} f fs) =
    one_line lone party tick w f ss ∙ ap (λ (l : List Line). frame_line lone party tick w f ++ l) (listed_as_sent lone party (tick + length w) ss ls fs)
listed_as_sent lone party tick _ _ (stopped {n = n} {w = w} f below) =
    let x = whole_at_last w f in
    let long : length w ≡ length x.front + 1 = ap (λ (l : List ℕ). length l) x.is ∙ length-append x.front (x.last ∷ []) in
    ap (λ (l : List ℕ). party_lines lone party tick quiet_monitor (sent_characters (take n l))) x.is
    ∙ no_line_at_stop lone party tick 0 n true (x.last ∷ []) x.leads (omega (arith, long))

pub no_gap_listed : (lone : ℕ → Bool) (party tick : ℕ) (ss : List Sent) → NoGap [] ss → Frames lone party tick ss (party_lines lone party tick quiet_monitor ss)
unfolding sent_characters
no_gap_listed lone party tick ss g = go (behind lone party tick g)
  where
    go : Behind lone party tick [] ss → Frames lone party tick ss (party_lines lone party tick quiet_monitor ss)
    go (ends rest ls at t e f) =
        let now : at ≡ tick = omega (arith, t) in
        let here : Frames lone party tick ss ls = subst₂ (λ (n : ℕ) (l : List Sent). Frames lone party n l ls) now e f in
        subst (λ (l : List Line). Frames lone party tick ss l) (sym (listed_as_sent lone party tick ss ls here)) here
    go (stops n below e) = absurd (omega arith)

pub master_listed : (limit : ℕ) → limit ≤ 255 → MasterListed limit
master_listed limit small lone party tick p primary retries x inputs made s = no_gap_listed lone party tick (master_sents limit x inputs) (master_leaves_no_gap limit small p primary retries x inputs made s)

pub device_listed : (limit : ℕ) → 2 ≤ limit → limit ≤ 255 → DeviceListed limit
device_listed limit low high lone party tick p x inputs made s = no_gap_listed lone party tick (device_sents limit x inputs) (device_leaves_no_gap limit low high p x inputs made s)
