-- A play in pieces: what a piece leaves; and the theorem that the header line and the pieces are the listing.
use Prim.Native.Nat.{ℕ, ◌+◌, ◌-◌, ◌≤◌, ◌<◌}
use native.Mathlib.Omega.{arith}
use borrow.Author.Tests.{ltb-true, ltb-false, leb-true, leb-false}
use mathlib.Core.Bool.{Bool, true, false}
use mathlib.Core.List.{List, [], ◌++◌, append_assoc}
use mathlib.Core.Path.{◌≡◌, refl, sym, ap, subst, ◌∙◌}
use lib.ListN.{length, length-append}
use Rattle.base.specs.Choice.{when◌then◌else◌, ◌<?◌, ◌≤?◌}
use Rattle.base.specs.Store.{stored}
use Rattle.base.proofs.Choices.{true_false, went_else}
use Rattle.base.proofs.Stores.{stored_front, stored_none}
use Rattle.texts.specs.Put.{Out, out_of, PutIs}
use Rattle.texts.proofs.Puts.{put_then, put_front}
use Rattle.player_listing.specs.Text.{head_line, lines_text}
use Rattle.link_parties.specs.Stands.{Rows}
use Rattle.player.specs.Ticks.{text_left, lines_of, Stands, PlaysOn, Onward, at_front, has_room}
use Rattle.player.specs.Pieces.{told_of, first_play, Piece, PieceIs, Written, over, next, PiecesJoin}
use Rattle.player.specs.declared.Playing.{Playing}
use Rattle.player.specs.declared.Told.{Told}
use Rattle.player.proofs.Going.{text_on, none_left}
use Rattle.player.proofs.Started.{first_stands, first_text}
use Rattle.player.proofs.Turned.{play_good}

-- ---- the room

room_is : (n at : ℕ) → has_room n at ≡ true → at + 2560 ≤ n
room_is n at e =
    let w = went_else (n <? at) false (2560 ≤? n - at) true e (λ f. true_false (sym f)) in
    omega (arith, ltb-false n at w.0, leb-true 2560 (n - at) w.1)

no_room : (n at : ℕ) → has_room n at ≡ false → n < at + 2560
unfolding when◌then◌else◌
no_room n at e = by (n <? at) refl e
  where
    by : (t : Bool) → (n <? at) ≡ t → (when t then false else 2560 ≤? n - at) ≡ false → n < at + 2560
    by true h f = omega (arith, ltb-true n at h)
    by false h f = omega (arith, leb-false 2560 (n - at) f)

-- ---- the loop

pub record Piecing (told : Told) (script : List ℕ) (start : Playing) (x-start : Rows) (before : List ℕ) (p : Playing) (x : Rows) (out : List ℕ) : Type 0 where
  pub within : start.tick ≤ told.stop → p.tick ≤ told.stop
  pub not_back : start.tick ≤ p.tick
  pub still : p.tick ≤ start.tick → p.at ≡ 0
  pub same_length : length out ≡ length before
  pub piece : Stands told.form script start → Piece told script start x-start before p x out

pub piece_begun : (told : Told) (script : List ℕ) (start p : Playing) (x : Rows) (out : List ℕ) → p ≡ at_front start → Piecing told script p x out p x out
piece_begun told script start p x out e = record {
  within = λ h. h;
  not_back = omega arith;
  still = λ h. ap (λ (q : Playing). q.at) e;
  same_length = refl;
  piece = λ k. record {
    text = [];
    end = ap (λ (q : Playing). q.at) e;
    whole = omega (arith, ap (λ (q : Playing). q.at) e);
    bytes = stored_none out 0;
    left = refl;
    stands = k;
  };
}

module _ (told : Told) (script : List ℕ) (start : Playing) (x-start : Rows) (before : List ℕ) (p : Playing) (x : Rows) (out : List ℕ) (v : Piecing told script start x-start before p x out) where
  abbrev left_of : Playing → Rows → List ℕ
  left_of q y = text_left told.form script told.stop q y

  -- a piece, and the lines of some ticks more
  longer : (r : Playing) (x_after : Rows) (out_after : List ℕ) → p.at + 2560 ≤ length out → Piece told script start x-start before p x out
      → PlaysOn told.form script told.stop p x out r x_after out_after → Piece told script start x-start before r x_after out_after
  longer r x_after out_after room q is =
      let lines : List ℕ = lines_text (lines_of told.form script is.ticks p x).lines in
      let text : List ℕ = q.text ++ lines in
      let size : length (q.text ++ lines) ≡ length q.text + length lines = length-append q.text lines in
      let fits : length (q.text ++ lines) ≤ length before = omega (arith, size, q.end, is.short, room, v.same_length) in
      let so_far : PutIs q.text before 0 p.at out =
      record { out = (λ i. out_of (q.bytes i) (q.end i)) ∙ sym (put_front q.text before (omega (arith, q.end, room, v.same_length))) } in
      let all : out_of out_after r.at ≡ out_of (stored before 0 (q.text ++ lines)) (length (q.text ++ lines)) =
      (put_then q.text lines before out out_after 0 p.at r.at so_far is.lines_are.text).out ∙ put_front (q.text ++ lines) before fits in
      record {
        text = q.text ++ lines;
        end = ap (λ (o : Out). o.at) all;
        whole = omega (arith, ap (λ (o : Out). o.at) all, fits);
        bytes = ap (λ (o : Out). o.bytes) all;
        left =
            q.left
            ∙ ap (λ (l : List ℕ). q.text ++ l) (text_on told.form script told.stop p x out r x_after out_after is)
            ∙ sym (append_assoc q.text lines (left_of r x_after));
        stands = is.stands;
      }

  pub piece_more : (b : Bool) (r : Playing) (x_after : Rows) (out_after : List ℕ) → b ≡ has_room (length out) p.at → b ≡ true → Onward told script p x out r x_after out_after
      → Piecing told script start x-start before r x_after out_after
  piece_more b r x_after out_after e f o = record {
    within = λ h. o.before_stop;
    not_back = omega (arith, v.not_back, o.later);
    still = λ h. absurd (omega (arith, v.not_back, o.later, h));
    same_length = o.same_length ∙ v.same_length;
    piece = λ k. let q = v.piece k in longer r x_after out_after (room_is (length out) p.at (sym e ∙ f)) q (o.on q.stands);
  }

  ended : (s : Playing) → start ≡ at_front s → (start.tick < told.stop → 2560 ≤ length before → start.tick < p.tick) → (p.tick < told.stop → length before < p.at + 2560)
      → PieceIs told script (at_front s) x-start before p x out
  ended s e later full = subst (λ (z : Playing). PieceIs told script z x-start before p x out) e (record { later = later; before_stop = v.within; full = full; piece = v.piece })

  -- the place of its output is no part of what a play prints
  anew : (s : Playing) → PieceIs told script (at_front s) x-start before p x out → PieceIs told script s x-start before p x out
  anew s h = record {
    later = h.later;
    before_stop = h.before_stop;
    full = h.full;
    piece = λ k.
        let q = h.piece (record { reads = k.reads; there = k.there }) in
        record { text = q.text; end = q.end; whole = q.whole; bytes = q.bytes; left = q.left; stands = q.stands };
  }

  pub piece_over : (s : Playing) → start ≡ at_front s → told.stop ≤ p.tick → PieceIs told script s x-start before p x out
  piece_over s e h = anew s (ended s e (λ k room. omega (arith, h, k)) (λ k. absurd (omega (arith, h, k))))

  moved : has_room (length out) p.at ≡ false → 2560 ≤ length before → start.tick < p.tick
  moved n room = by (start.tick <? p.tick) refl
    where
      by : (t : Bool) → (start.tick <? p.tick) ≡ t → start.tick < p.tick
      by true h = ltb-true start.tick p.tick h
      by false h = absurd (omega (arith, no_room (length out) p.at n, v.still (ltb-false start.tick p.tick h), v.same_length, room))

  pub piece_full : (b : Bool) (s : Playing) → b ≡ has_room (length out) p.at → b ≡ false → start ≡ at_front s → PieceIs told script s x-start before p x out
  piece_full b s f g e =
      anew s (ended s e (λ k room. moved (sym f ∙ g) room) (λ k. omega (arith, no_room (length out) p.at (sym f ∙ g), v.same_length)))

pub ruleset pieces = (refl, piece_begun, piece_more, piece_over, piece_full)

-- ---- the pieces are the listing

joined : (told : Told) (script : List ℕ) (p : Playing) (x : Rows) (rest : List ℕ) → Stands told.form script p → Written told script p x rest → text_left told.form script told.stop p x ≡ rest
joined told script p x rest k (over h) = none_left told.form script told.stop p x h
joined told script p x rest k (next {r = r} {x_after = y} {out = out} {out_after = out_after} {rest = more} i w) =
    let q = i.piece k in
    q.left
    ∙ (λ j. sym (stored_front r.at out out_after q.text q.bytes q.end q.whole) j ++ joined told script r y more q.stands w j)

pub pieces_join : PiecesJoin
pieces_join form script rest at g w =
    ap (λ (l : List ℕ). head_line ++ l) (sym (joined (told_of form script) script (first_play at) _ rest (first_stands form script at g) w) ∙ first_text form script at)
    ∙ sym (play_good form script g)
