-- Theorem: a tick's line has at most 900 bytes, so that with room for these nothing is left out.
use Prim.Native.Nat.{ℕ, ◌*◌, ◌≤◌}
use native.Mathlib.Omega.{arith}
use mathlib.Core.Bool.{Bool, true, false}
use mathlib.Core.Path.{◌≡◌, refl, ap, ◌∙◌}
use mathlib.Core.List.{List, [], ◌∷◌, ◌++◌}
use lib.ListN.{length, take, length-append, length-take}
use Rattle.base.specs.Choice.{when◌then◌else◌, ◌<?◌, ◌=?◌}
use Rattle.base.specs.Store.{stored}
use Rattle.base.proofs.Stores.{length_stored, stored_front}
use Rattle.frame.specs.Limits.{most_data}
use Rattle.frame.specs.declared.Header.{Header}
use Rattle.line.specs.Reader.{taken, taken_data, kept}
use Rattle.line.specs.declared.Event.{Event}
use Rattle.line.specs.declared.Event.TheVariants.{Nothing, PassedOver, Broken, Frame, Damaged}
use Rattle.line.specs.declared.Heard.{Heard}
use Rattle.line.specs.declared.Heard.TheVariants as Variant
use Rattle.line.specs.declared.Place.{Place}
use Rattle.line.specs.declared.Place.TheVariants.{Passing, Idle, Preamble, First, Address, Expansion, Command, Count, Data, Check}
use Rattle.line.specs.declared.Receiver.{Receiver}
use Rattle.line.specs.declared.Whole.{Whole}
use Rattle.player_listing.specs.Text.{type_name, master_digit, word}
use Rattle.player_listing.proofs.Lengths.{if_most, decimal_most, type_most, word_length}
use Rattle.texts.specs.Digits.{decimal, hexadecimal, spaced}
use Rattle.texts.specs.Put.{Out, out_of}
use Rattle.texts.proofs.Puts.{put_front}
use Rattle.recording_lines.specs.Claims.{LinesFit}
use Rattle.recording_lines.specs.Lines.{ticks_text, broken_line, damaged_line, fields_text, whole_line, line_by, Kept, stepped, first_of, line_at, lines_from}
use Rattle.recording_lines.specs.Promises.{keep}

-- ---- the bytes keep their number

if_same : (t : Bool) (a b : List ℕ) (n : ℕ) → length a ≡ n → length b ≡ n → length (when t then a else b) ≡ n
unfolding when◌then◌else◌
if_same true a b n p q = p
if_same false a b n p q = q

kept_length : (place : Place) (c : ℕ) (b : List ℕ) → length (kept place c b) ≡ length b
kept_length Passing c b = refl
kept_length Idle c b = refl
kept_length (Preamble n) c b = refl
kept_length First c b = refl
kept_length (Address n) c b = refl
kept_length (Expansion n) c b = refl
kept_length Command c b = refl
kept_length Count c b = refl
kept_length (Data n) c b = if_same (n <? most_data) (stored b n (c ∷ [])) b (length b) (length_stored b n (c ∷ [])) refl
kept_length Check c b = refl

data_length : (r : Receiver) (h : Heard) (b : List ℕ) → length (taken_data r h b) ≡ length b
unfolding taken_data
data_length r Variant.Silence b = refl
data_length r (Variant.Character c) b = kept_length r.place c b
data_length r (Variant.Damaged c kind) b = kept_length r.place c b

-- ---- a line

number_most : (n : ℕ) → length (word (decimal n)) ≤ 21
number_most n = omega (arith, word_length (decimal n), decimal_most 20 n)

ticks_most : (first last : ℕ) → length (ticks_text first last) ≤ 42
ticks_most first last = omega (arith, length-append (word (decimal first)) (word (decimal last)), number_most first, number_most last)

broken_most : (first last : ℕ) → length (broken_line first last) ≤ 900
unfolding broken_line
broken_most first last = omega (arith, length-append (ticks_text first last) (98 ∷ 114 ∷ 111 ∷ 107 ∷ 101 ∷ 110 ∷ 10 ∷ []), ticks_most first last)

damaged_most : (first last : ℕ) → length (damaged_line first last) ≤ 900
unfolding damaged_line
damaged_most first last = omega (arith, length-append (ticks_text first last) (100 ∷ 97 ∷ 109 ∷ 97 ∷ 103 ∷ 101 ∷ 100 ∷ 10 ∷ []), ticks_most first last)

fields_most : (h : Header) (count : ℕ) → length (fields_text h count) ≤ 69
unfolding fields_text
fields_most h count =
    let type = word (type_name h.kind) in
    let master = word (master_digit h.primary ∷ []) in
    let address = word (decimal h.address) in
    let command = word (decimal h.command) in
    omega (
      arith,
      length-append type (master ++ (address ++ (command ++ decimal count))),
      length-append master (address ++ (command ++ decimal count)),
      length-append address (command ++ decimal count),
      length-append command (decimal count),
      word_length (type_name h.kind),
      type_most h.kind,
      word_length (master_digit h.primary ∷ []),
      number_most h.address,
      number_most h.command,
      decimal_most 20 count,
    )

spaced_length : (bytes : List ℕ) → length (spaced bytes) ≡ 3 * length bytes
unfolding spaced
spaced_length [] = refl
spaced_length (b ∷ bytes) = omega (arith, length-append (hexadecimal false b) (spaced bytes), spaced_length bytes)

whole_most : (first last : ℕ) (w : Whole) (bytes : List ℕ) → length bytes ≡ 255 → length (whole_line first last w bytes) ≤ 900
unfolding whole_line
whole_most first last w bytes e =
    let name : List ℕ = 119 ∷ 104 ∷ 111 ∷ 108 ∷ 101 ∷ 32 ∷ [] in
    let fields = fields_text w.header w.count in
    let shown = spaced (take w.count bytes) in
    omega (
      arith,
      length-append (ticks_text first last) (name ++ (fields ++ (shown ++ (10 ∷ [])))),
      length-append name (fields ++ (shown ++ (10 ∷ []))),
      length-append fields (shown ++ (10 ∷ [])),
      length-append shown (10 ∷ []),
      ticks_most first last,
      fields_most w.header w.count,
      spaced_length (take w.count bytes),
      length-take w.count bytes,
    )

line_most : (first last : ℕ) (e : Event) (bytes : List ℕ) → length bytes ≡ 255 → length (line_by first last e bytes) ≤ 900
line_most first last Nothing bytes h = omega arith
line_most first last PassedOver bytes h = if_most (last =? 0) (broken_line first last) [] 900 (broken_most first last) (omega arith)
line_most first last Broken bytes h = broken_most first last
line_most first last (Frame w) bytes h = whole_most first last w bytes h
line_most first last (Damaged w m) bytes h = damaged_most first last

-- ---- the lines

tick_most : (k : Kept) (h : Heard) → length k.bytes ≡ 255 → length (line_at k h) ≤ 900
unfolding line_at
tick_most k h e =
    line_most (first_of k.progress) k.progress.tick (taken k.progress.receiver h).event (taken_data k.progress.receiver h k.bytes) (data_length k.progress.receiver h k.bytes ∙ e)

stepped_length : (k : Kept) (h : Heard) → length (stepped k h).bytes ≡ length k.bytes
unfolding stepped
stepped_length k h = data_length k.progress.receiver h k.bytes

lines_most : (hs : List Heard) (k : Kept) → length k.bytes ≡ 255 → length (lines_from k hs) ≤ 900 * length hs
unfolding lines_from
lines_most [] k e = omega arith
lines_most (h ∷ hs) k e = omega (arith, length-append (line_at k h) (lines_from (stepped k h) hs), tick_most k h e, lines_most hs (stepped k h) (stepped_length k h ∙ e))

pub lines_fit : LinesFit
lines_fit p hs bytes after before r out e h v =
    let text : List ℕ = lines_from (keep p bytes) hs in
    let fits : length text ≤ length before = omega (arith, lines_most hs (keep p bytes) e) in
    let all : out_of out r.at ≡ out_of (stored before 0 text) (length text) = v.text.out ∙ put_front text before fits in
    stored_front r.at before out text (ap (λ (o : Out). o.bytes) all) (ap (λ (o : Out). o.at) all) (omega (arith, ap (λ (o : Out). o.at) all, fits))
