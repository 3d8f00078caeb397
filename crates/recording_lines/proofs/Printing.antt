-- Laws of the lines as they are put into the output: a line part by part, a tick, and the loop over a piece.
use Prim.Native.Nat.{ℕ, ◌+◌, ◌*◌, ◌/◌, ◌≤◌, ◌<◌}
use native.Mathlib.Omega.{arith}
use mathlib.Core.Path.{◌≡◌, refl, sym, ap, ap₂, subst, ◌∙◌}
use mathlib.Core.List.{List, [], ◌∷◌, ◌++◌, append-nil, append_assoc}
use lib.ListN.{length, take, drop, get_or}
use Rattle.base.specs.Choice.{◌=?◌}
use Rattle.base.proofs.Choices.{if_is_true, if_is_false}
use borrow.Author.Tests.{eq-eqb, ne_eqb}
use Rattle.frame.specs.declared.Header.{Header}
use Rattle.line.specs.Reader.{passing, taken, taken_data, ReaderTakeIs}
use Rattle.line.specs.declared.Event.{Event}
use Rattle.line.specs.declared.Event.TheVariants.{Nothing, PassedOver, Broken, Frame, Damaged}
use Rattle.line.specs.declared.FrameDamage.{FrameDamage}
use Rattle.line.specs.declared.Heard.{Heard}
use Rattle.line.specs.declared.Receiver.{Receiver}
use Rattle.line.specs.declared.Taken.{Taken}
use Rattle.line.specs.declared.Whole.{Whole}
use Rattle.player_listing.specs.Text.{type_name, master_digit, word}
use Rattle.texts.specs.Digits.{decimal, spaced}
use Rattle.texts.specs.Put.{PutIs}
use Rattle.texts.proofs.Puts.{put_then, put_none, put_length}
use Rattle.line.specs.Heard.{heard_of}
use Rattle.recording.specs.Form.{ticks_of}
use Rattle.recording.proofs.Forms.{ticks_on, ticks_over}
use Rattle.recording_lines.specs.Lines.{ticks_text, broken_line, damaged_line, fields_text, whole_line, line_by, Kept, first_of, stepped, line_at, lines_from, kept_behind, start_of}
use Rattle.recording_lines.specs.Promises.{keep, TickIs, LinesAre}
use Rattle.recording_lines.specs.declared.Printed.{Printed}
use Rattle.recording_lines.specs.declared.Progress.{Progress}

-- ---- a line

pub started : (r : Receiver) → r ≡ passing → record { receiver = r; tick = 0; first = 0 } ≡ start_of
started r e = ap (λ (x : Receiver). record { receiver = x; tick = 0; first = 0 }) e

pub put_broken : (first last : ℕ) (before a after : List ℕ) (at i r : ℕ) → PutIs (ticks_text first last) before at i a → PutIs (98 ∷ 114 ∷ 111 ∷ 107 ∷ 101 ∷ 110 ∷ 10 ∷ []) a i r after
    → PutIs (broken_line first last) before at r after
unfolding broken_line
put_broken first last before a after at i r p q = put_then (ticks_text first last) _ before a after at i r p q

pub put_damaged : (first last : ℕ) (before a after : List ℕ) (at i r : ℕ) → PutIs (ticks_text first last) before at i a → PutIs (100 ∷ 97 ∷ 109 ∷ 97 ∷ 103 ∷ 101 ∷ 100 ∷ 10 ∷ []) a i r after
    → PutIs (damaged_line first last) before at r after
unfolding damaged_line
put_damaged first last before a after at i r p q = put_then (ticks_text first last) _ before a after at i r p q

pub put_fields : (h : Header) (count : ℕ) (before a b c d after : List ℕ) (at i j k m r : ℕ)
    → PutIs (word (type_name h.kind)) before at i a → PutIs (word (master_digit h.primary ∷ [])) a i j b → PutIs (word (decimal h.address)) b j k c
    → PutIs (word (decimal h.command)) c k m d → PutIs (decimal count) d m r after → PutIs (fields_text h count) before at r after
unfolding fields_text
put_fields h count before a b c d after at i j k m r p q s t u =
    put_then (word (type_name h.kind)) _ before a after at i r p
    (put_then (word (master_digit h.primary ∷ [])) _ a b after i j r q
    (put_then (word (decimal h.address)) _ b c after j k r s
    (put_then (word (decimal h.command)) (decimal count) c d after k m r t u)))

pub put_whole : (first last : ℕ) (w : Whole) (bytes front before a b c d after : List ℕ) (at i j k m r : ℕ)
    → PutIs (ticks_text first last) before at i a → PutIs (119 ∷ 104 ∷ 111 ∷ 108 ∷ 101 ∷ 32 ∷ []) a i j b → PutIs (fields_text w.header w.count) b j k c
    → PutIs (spaced front) c k m d → PutIs (10 ∷ []) d m r after → front ≡ take w.count bytes → PutIs (whole_line first last w bytes) before at r after
unfolding whole_line
put_whole first last w bytes front before a b c d after at i j k m r p q s t u e =
    subst (λ (l : List ℕ). PutIs (ticks_text first last ++ ((119 ∷ 104 ∷ 111 ∷ 108 ∷ 101 ∷ 32 ∷ []) ++ (fields_text w.header w.count ++ (spaced l ++ (10 ∷ []))))) before at r after) e
    (put_then (ticks_text first last) _ before a after at i r p
    (put_then (119 ∷ 104 ∷ 111 ∷ 108 ∷ 101 ∷ 32 ∷ []) _ a b after i j r q
    (put_then (fields_text w.header w.count) _ b c after j k r s
    (put_then (spaced front) (10 ∷ []) c d after k m r t u))))

pub ruleset put_lines = (refl, put_then, put_broken, put_damaged, put_fields, put_whole)

-- ---- by what is told

module _ (first last : ℕ) (e : Event) (bytes before : List ℕ) (at r : ℕ) (after : List ℕ) where
  abbrev Line : Event → Type 0
  Line x = PutIs (line_by first last x bytes) before at r after

  pub line_whole : (w : Whole) → e ≡ Frame w → PutIs (whole_line first last w bytes) before at r after → Line e
  line_whole w f p = subst Line (sym f) p

  pub line_damaged : (w : Whole) (m : FrameDamage) → e ≡ Damaged w m → PutIs (damaged_line first last) before at r after → Line e
  line_damaged w m f p = subst Line (sym f) p

  pub line_broken : e ≡ Broken → PutIs (broken_line first last) before at r after → Line e
  line_broken f p = subst Line (sym f) p

  pub line_start : e ≡ PassedOver → last ≡ 0 → PutIs (broken_line first last) before at r after → Line e
  line_start f z p = subst Line (sym f) (subst (λ (l : List ℕ). PutIs l before at r after) (sym (if_is_true (last =? 0) (broken_line first last) [] (eq-eqb last 0 z))) p)

pub line_passed : (first last : ℕ) (e : Event) (bytes before : List ℕ) (at : ℕ) → e ≡ PassedOver → (last ≡ 0 → ⊥) → PutIs (line_by first last e bytes) before at at before
line_passed first last e bytes before at f n =
    subst (λ (x : Event). PutIs (line_by first last x bytes) before at at before) (sym f)
    (subst (λ (l : List ℕ). PutIs l before at at before) (sym (if_is_false (last =? 0) (broken_line first last) [] (ne_eqb last 0 n))) (put_none before at))

pub line_none : (first last : ℕ) (e : Event) (bytes before : List ℕ) (at : ℕ) → e ≡ Nothing → PutIs (line_by first last e bytes) before at at before
line_none first last e bytes before at f = subst (λ (x : Event). PutIs (line_by first last x bytes) before at at before) (sym f) (put_none before at)

pub ruleset put_events = (refl, line_whole, line_damaged, line_broken, line_start, line_passed, line_none)

-- ---- a tick

pub hears : (r : Receiver) (g h : Heard) (bytes after : List ℕ) (t : Taken) → g ≡ h → ReaderTakeIs r g bytes t after → ReaderTakeIs r h bytes t after
hears r g h bytes after t e v = subst (λ (x : Heard). ReaderTakeIs r x bytes t after) e v

module _ (r : Receiver) (h : Heard) (bytes after : List ℕ) (t : Taken) (v : ReaderTakeIs r h bytes t after) where
  pub taken_reader : t.receiver ≡ (taken r h).receiver
  taken_reader = ap (λ (x : Taken). x.receiver) v.reader

  pub taken_bytes : after ≡ taken_data r h bytes
  taken_bytes = v.buffer

pub taken_line : (p : Progress) (h : Heard) (bytes after before : List ℕ) (at begun : ℕ) (t : Taken) (r : ℕ) (out : List ℕ)
    → ReaderTakeIs p.receiver h bytes t after → begun ≡ first_of p → PutIs (line_by begun p.tick t.event after) before at r out → PutIs (line_at (keep p bytes) h) before at r out
unfolding line_at
taken_line p h bytes after before at begun t r out k f l = subst (λ (x : List ℕ). PutIs x before at r out) same l
  where
    same : line_by begun p.tick t.event after ≡ line_by (first_of p) p.tick (taken p.receiver h).event (taken_data p.receiver h bytes)
    same = λ i. line_by (f i) p.tick (k.reader i).event (k.buffer i)

pub ruleset ticked = (refl, taken_reader, taken_bytes, taken_line)

tick_kept : (p : Progress) (h : Heard) (bytes after before : List ℕ) (at : ℕ) (r : Printed) (out : List ℕ) → TickIs p h bytes after before at r out → keep r.progress after ≡ stepped (keep p bytes) h
unfolding stepped
tick_kept p h bytes after before at r out k = λ i. record { progress = record { receiver = k.receiver_is i; tick = k.tick_is i; first = k.first_is i }; bytes = k.bytes_are i }

-- ---- the loop: the lines so far, and those that are left, are the lines

pub record Printing (p : Progress) (piece bytes before : List ℕ) (ticks : ℕ) (q : Progress) (held out : List ℕ) (at t : ℕ) : Type 0 where
  pub count : ticks ≡ length piece / 2
  pub within : 2 * t ≤ length piece
  pub lent : length out ≡ length before
  pub so_far : List ℕ
  pub put : PutIs so_far before 0 at out
  pub lines : so_far ++ lines_from (keep q held) (ticks_of (drop (2 * t) piece)) ≡ lines_from (keep p bytes) (ticks_of piece)
  pub kept : kept_behind (keep q held) (ticks_of (drop (2 * t) piece)) ≡ kept_behind (keep p bytes) (ticks_of piece)

pub printing_none : (p : Progress) (piece bytes before : List ℕ) (ticks : ℕ) → ticks ≡ length piece / 2 → Printing p piece bytes before ticks p bytes before 0 0
printing_none p piece bytes before ticks e = record { count = e; within = omega arith; lent = refl; so_far = []; put = put_none before 0; lines = refl; kept = refl }

lines_tick : (k l : Kept) (h : Heard) (hs : List Heard) → l ≡ stepped k h → lines_from k (h ∷ hs) ≡ line_at k h ++ lines_from l hs
unfolding lines_from
lines_tick k l h hs e = ap (λ (x : Kept). line_at k h ++ lines_from x hs) (sym e)

kept_tick : (k l : Kept) (h : Heard) (hs : List Heard) → l ≡ stepped k h → kept_behind k (h ∷ hs) ≡ kept_behind l hs
unfolding kept_behind
kept_tick k l h hs e = ap (λ (x : Kept). kept_behind x hs) (sym e)

pub printing_more : (p : Progress) (piece bytes before : List ℕ) (ticks : ℕ) (q : Progress) (held out : List ℕ) (at t : ℕ) (r : Printed) (z : Progress) (after next : List ℕ) (m : ℕ)
    → Printing p piece bytes before ticks q held out at t → t < ticks → TickIs q (heard_of (get_or piece (2 * t) 0 / 32) (get_or piece (2 * t + 1) 0)) held after out at r next → z ≡ r.progress → m ≡ r.at
    → Printing p piece bytes before ticks z after next m (t + 1)
printing_more p piece bytes before ticks q held out at t r z after next m v h k ez em = record {
  count = v.count;
  within = omega (arith, v.count);
  lent = put_length (line_at (keep q held) heard) out at r.at next k.text ∙ v.lent;
  so_far = v.so_far ++ line_at (keep q held) heard;
  put = subst (λ (x : ℕ). PutIs (v.so_far ++ line_at (keep q held) heard) before 0 x next) (sym em) (put_then v.so_far (line_at (keep q held) heard) before out next 0 at r.at v.put k.text);
  lines = append_assoc v.so_far (line_at (keep q held) heard) (lines_from (keep z after) left)
      ∙ ap (λ (l : List ℕ). v.so_far ++ l) (sym (lines_tick (keep q held) (keep z after) heard left stepped_on) ∙ ap (lines_from (keep q held)) (sym here))
      ∙ v.lines;
  kept = sym (kept_tick (keep q held) (keep z after) heard left stepped_on) ∙ ap (kept_behind (keep q held)) (sym here) ∙ v.kept;
}
  where
    heard : Heard
    heard = heard_of (get_or piece (2 * t) 0 / 32) (get_or piece (2 * t + 1) 0)

    left : List Heard
    left = ticks_of (drop (2 * (t + 1)) piece)

    here : ticks_of (drop (2 * t) piece) ≡ heard ∷ left
    here = ticks_on piece t (omega (arith, v.count))

    stepped_on : keep z after ≡ stepped (keep q held) heard
    stepped_on = ap (λ (x : Progress). keep x after) ez ∙ tick_kept q heard held after out at r next k

pub printing_all : (p : Progress) (piece bytes before : List ℕ) (ticks : ℕ) (q : Progress) (held out : List ℕ) (at t : ℕ) (r : Printed) → Printing p piece bytes before ticks q held out at t → ticks ≤ t
    → r.progress ≡ q → r.at ≡ at → LinesAre p (ticks_of piece) bytes held before r out
unfolding lines_from kept_behind
printing_all p piece bytes before ticks q held out at t r v h eq ea = record {
  kept = ap (λ (x : Progress). keep x held) eq ∙ sym (ap (kept_behind (keep q held)) over) ∙ v.kept;
  text = subst (λ (x : ℕ). PutIs (lines_from (keep p bytes) (ticks_of piece)) before 0 x out) (sym ea)
      (subst (λ (l : List ℕ). PutIs l before 0 at out) (sym (append-nil v.so_far) ∙ ap (λ (l : List Heard). v.so_far ++ lines_from (keep q held) l) (sym over) ∙ v.lines) v.put);
}
  where
    over : ticks_of (drop (2 * t) piece) ≡ []
    over = ticks_over piece t (omega (arith, v.count))

pub ruleset printings = (refl, printing_none, printing_more, printing_all)
