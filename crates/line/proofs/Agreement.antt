-- Theorem: what the tick reader calls whole and undamaged is what the slice reader reads from the same bytes, fields and data.
use Rattle.std.specs.Prelude.{Option, Some, None}
use Prim.Native.Nat.{ℕ, suc, ◌+◌, ◌-◌, ◌*◌, ◌/◌, ◌%◌, ◌^◌, ◌≤◌, ◌<◌}
use native.Mathlib.Omega.{arith}
use native.Mathlib.Nat.{add-zero}
use native.Mathlib.Numerals.{add-one}
use mathlib.Core.Path.{◌≡◌, refl, sym, ap, ap₂, subst, ◌∙◌}
use mathlib.Core.Bool.{Bool, true, false}
use mathlib.Core.List.{List, [], ◌∷◌, ◌++◌, append_assoc}
use lib.ListN.{length, take, drop, set, length-append}
use lib.Seq.{take_all, take_at, drop_at, drop-append-add, get_or-append-add}
use lib.Bits.{bit_xor, xor_zero_l}
use borrow.Author.Tests.{lt-ltb, ltb-true, ltb-false, eqb-true, eqb-false}
use Rattle.base.specs.Choice.{when◌then◌else◌, ◌=?◌, ◌<?◌}
use Rattle.base.specs.Refusal.{accepted}
use Rattle.base.specs.Store.{stored}
use Rattle.base.proofs.Choices.{if_is_true, if_is_false, if_at_most}
use Rattle.base.proofs.Stores.{stored_front}
use Rattle.frame.specs.Address.{address_length, byte_at, master_bit, burst_flag, address_of}
use Rattle.frame.specs.Check.{xor_from, exclusive_or}
use Rattle.frame.specs.Delimiter.{delimiter_of, delimiter_with}
use Rattle.frame.specs.Frame.{too_few, preamble_bytes}
use Rattle.frame.specs.declared.Delimiter.{Delimiter}
use Rattle.frame.specs.Read.{preambles, command_place, header_of, found_at, read_frame, part_of}
use Rattle.frame.specs.declared.Header.{Header}
use Rattle.frame.specs.declared.Found.{Found}
use Rattle.frame.proofs.Sound.{Sound, sound_frame}
use Rattle.frame.proofs.Preambles.{preambles_are, no_preamble}
use Rattle.frame.proofs.Prefix.{delimited_no_preamble}
use Rattle.frame.proofs.Checks.{xor_append}
use Rattle.frame.proofs.Lengths.{preamble_count}
use Rattle.line.specs.Reader.{idle, blank, no_damage, taken, taken_data, tells, breaks, at_count, at_data, at_check, ended, with_check, at_idle, at_preamble, begins, at_first, at_address, at_command, at_expansion, first_header, address_header, command_header}
use Rattle.line.specs.declared.Event.{Event}
use Rattle.line.specs.declared.Event.TheVariants.{Nothing, Broken, Frame}
use Rattle.line.specs.declared.Heard.TheVariants.{Character}
use Rattle.line.specs.declared.Place.{Place}
use Rattle.line.specs.declared.Place.TheVariants.{Preamble, First, Expansion, Command, Count}
use Rattle.line.specs.declared.Receiver.{Receiver}
use Rattle.line.specs.declared.Taken.{Taken}
use Rattle.line.specs.declared.Whole.{Whole}
use Rattle.line.proofs.Leads.{reader_after, data_after, in_data, at_end}

-- the reader tells nothing at any of these characters
abbrev pub Quiet : Receiver → List ℕ → Type 0
Quiet r [] = Unit {0}
Quiet r (c ∷ cs) = ((taken r (Character c)).event ≡ Nothing) × Quiet (taken r (Character c)).receiver cs

nothing_frame : (w : Whole) → Nothing ≡ Frame w → ⊥
nothing_frame w e = let z : ◌≡◌ {A = ℕ} 0 1 = cc in omega arith

broken_nothing : Broken ≡ Nothing → ⊥
broken_nothing e = let z : ◌≡◌ {A = ℕ} 0 1 = cc in omega arith

broken_frame : (w : Whole) → Broken ≡ Frame w → ⊥
broken_frame w e = let z : ◌≡◌ {A = ℕ} 0 1 = cc in omega arith

-- what the check byte tells of a frame without damage, by whether the exclusive-or is zero
checked : Whole → Bool → Event
checked w right = ended w (with_check no_damage (when right then false else true))

checked_nothing : (w : Whole) (right : Bool) → checked w right ≡ Nothing → ⊥
unfolding checked when◌then◌else◌
checked_nothing w true e = let z : ◌≡◌ {A = ℕ} 0 1 = cc in omega arith
checked_nothing w false e = let z : ◌≡◌ {A = ℕ} 0 1 = cc in omega arith

checked_right : (v w : Whole) (right : Bool) → checked v right ≡ Frame w → right ≡ true
unfolding checked when◌then◌else◌
checked_right v w true e = refl
checked_right v w false e = absurd (let z : ◌≡◌ {A = ℕ} 0 1 = cc in omega arith)

checked_same : (v w : Whole) (right : Bool) → checked v right ≡ Frame w → v ≡ w
unfolding checked when◌then◌else◌
checked_same v w true e = cc
checked_same v w false e = absurd (let z : ◌≡◌ {A = ℕ} 0 1 = cc in omega arith)

-- a step that tells nothing, taken off the front
step : (r s : Receiver) (x : ℕ) (cs : List ℕ) → taken r (Character x) ≡ tells s Nothing → Quiet r (x ∷ cs) → Quiet s cs
step r s x cs p q = subst (λ (z : Receiver). Quiet z cs) (ap (λ (t : Taken). t.receiver) p) q.1

step_end : (r s : Receiver) (x : ℕ) (cs : List ℕ) (c : ℕ) (e : Event) → taken r (Character x) ≡ tells s Nothing
    → (taken (reader_after r (x ∷ cs)) (Character c)).event ≡ e → (taken (reader_after s cs) (Character c)).event ≡ e
unfolding reader_after
step_end r s x cs c e p q = subst (λ (z : Receiver). (taken (reader_after z cs) (Character c)).event ≡ e) (ap (λ (t : Taken). t.receiver) p) q

step_data : (r s : Receiver) (x : ℕ) (cs b d : List ℕ) → taken r (Character x) ≡ tells s Nothing → taken_data r (Character x) b ≡ d → data_after r (x ∷ cs) b ≡ data_after s cs d
unfolding data_after
step_data r s x cs b d p k = ap₂ (λ (z : Receiver) (y : List ℕ). data_after z cs y) (ap (λ (t : Taken). t.receiver) p) k

-- a data byte is stored at its number
keeps_byte : (h : Header) (expansion count n sum x : ℕ) (b : List ℕ) → n < 255 → taken_data (in_data h expansion count n sum) (Character x) b ≡ set b n x
unfolding taken_data stored
keeps_byte h expansion count n sum x b small = if_is_true (n <? 255) (set b n x) b (lt-ltb n 255 small)

-- a reader that tells nothing at c does not end a frame with it
no_end : (r s : Receiver) (c : ℕ) (w : Whole) → taken r (Character c) ≡ tells s Nothing → (taken r (Character c)).event ≡ Frame w → ⊥
no_end r s c w p e = nothing_frame w (sym (ap (λ (t : Taken). t.event) p) ∙ e)

-- a data byte leads to the next one, or to the check byte
data NextData (h : Header) (expansion count n sum x : ℕ) : Type 0 where
  to_data : n + 1 < count → taken (in_data h expansion count n sum) (Character x) ≡ tells (in_data h expansion count (n + 1) (bit_xor sum x)) Nothing → NextData h expansion count n sum x
  to_check : count ≤ n + 1 → taken (in_data h expansion count n sum) (Character x) ≡ tells (at_end h expansion count (bit_xor sum x)) Nothing → NextData h expansion count n sum x

next_data : (h : Header) (expansion count n sum x : ℕ) → NextData h expansion count n sum x
unfolding taken at_data
next_data h expansion count n sum x = go (n + 1 <? count) refl
  where
    go : (t : Bool) → (n + 1 <? count) ≡ t → NextData h expansion count n sum x
    go true q = to_data (ltb-true (n + 1) count q) (if_is_true (n + 1 <? count) _ _ q)
    go false q = to_check (ltb-false (n + 1) count q) (if_is_false (n + 1 <? count) _ _ q)

positive : (k : ℕ) → (k ≡ 0 → ⊥) → 0 < k
positive k f = omega arith

-- every character is a byte
abbrev pub AllBytes : List ℕ → Type 0
AllBytes [] = Unit {0}
AllBytes (x ∷ xs) = (x ≤ 255) × AllBytes xs

-- a reader behind the delimiter and before the byte count, of a frame without damage
abbrev at_place : Place → Header → ℕ → ℕ → Receiver
at_place place h expansion sum = record { place = place; header = h; expansion = expansion; count = 0; sum = sum; damage = no_damage; gap = false }

-- the byte count breaks the frame, or leads to the check byte or the data
data NextCount (h : Header) (expansion sum k : ℕ) : Type 0 where
  broke : taken (at_place Count h expansion sum) (Character k) ≡ breaks → NextCount h expansion sum k
  empty : too_few h.kind k ≡ false → k ≡ 0 → taken (at_place Count h expansion sum) (Character k) ≡ tells (at_end h expansion k (bit_xor sum k)) Nothing → NextCount h expansion sum k
  some : too_few h.kind k ≡ false → 0 < k → taken (at_place Count h expansion sum) (Character k) ≡ tells (in_data h expansion k 0 (bit_xor sum k)) Nothing → NextCount h expansion sum k

next_count : (h : Header) (expansion sum k : ℕ) → NextCount h expansion sum k
unfolding taken at_count
next_count h expansion sum k = first (too_few h.kind k) refl
  where
    second : (t : Bool) → (k =? 0) ≡ t → too_few h.kind k ≡ false → NextCount h expansion sum k
    second true z f = empty f (eqb-true k 0 z) (if_is_false (too_few h.kind k) _ _ f ∙ if_is_true (k =? 0) _ _ z)
    second false z f = let nonzero : k ≡ 0 → ⊥ = eqb-false k 0 z in some f (positive k nonzero) (if_is_false (too_few h.kind k) _ _ f ∙ if_is_false (k =? 0) _ _ z)

    first : (t : Bool) → too_few h.kind k ≡ t → NextCount h expansion sum k
    first true f = broke (if_is_true (too_few h.kind k) _ _ f)
    first false f = second (k =? 0) refl f

-- an expansion byte leads to the next one, or to the command
data NextExpansion (h : Header) (expansion n sum x : ℕ) : Type 0 where
  to_expansion : 1 < n → taken (at_place (Expansion n) h expansion sum) (Character x) ≡ tells (at_place (Expansion (n - 1)) h expansion (bit_xor sum x)) Nothing → NextExpansion h expansion n sum x
  to_command : n ≤ 1 → taken (at_place (Expansion n) h expansion sum) (Character x) ≡ tells (at_place Command h expansion (bit_xor sum x)) Nothing → NextExpansion h expansion n sum x

next_expansion : (h : Header) (expansion n sum x : ℕ) → NextExpansion h expansion n sum x
unfolding taken at_expansion
next_expansion h expansion n sum x = go (1 <? n) refl
  where
    go : (t : Bool) → (1 <? n) ≡ t → NextExpansion h expansion n sum x
    go true q = to_expansion (ltb-true 1 n q) (if_is_true (1 <? n) _ _ q)
    go false q = to_command (ltb-false 1 n q) (if_is_false (1 <? n) _ _ q)

-- the reader behind the address
abbrev behind : Header → ℕ → ℕ → Receiver
behind h expansion sum = at_place (when expansion =? 0 then Command else Expansion expansion) h expansion sum

-- the reader behind a delimiter d
abbrev bare_header : ℕ → Bool → Header
bare_header frame long = record { kind = frame; long = long; primary = false; burst = false; address = 0; command = 0 }

abbrev opened : ℕ → Bool → ℕ → ℕ → Receiver
opened frame long expansion d = at_place First (bare_header frame long) expansion d

-- the address that the reader puts together is the one that the bytes give
address_heard : (x b2 b3 b4 b5 : ℕ) → x < 64 → b2 ≤ 255 → b3 ≤ 255 → b4 ≤ 255 → b5 ≤ 255
    → (((x % 2 ^ 32 * 256 + b2) % 2 ^ 32 * 256 + b3) % 2 ^ 32 * 256 + b4) % 2 ^ 32 * 256 + b5 ≡ x * 2 ^ 32 + b2 * 2 ^ 24 + b3 * 2 ^ 16 + b4 * 2 ^ 8 + b5
address_heard x b2 b3 b4 b5 hx h2 h3 h4 h5 =
    let y : ℕ = x % 2 ^ 32 * 256 + b2 in
    let z : ℕ = y % 2 ^ 32 * 256 + b3 in
    let v : ℕ = z % 2 ^ 32 * 256 + b4 in
    let ey : y ≡ x * 256 + b2 = keeps_bits x b2 (omega arith) in
    let ez : z ≡ y * 256 + b3 = keeps_bits y b3 (omega (arith, ey)) in
    let ev : v ≡ z * 256 + b4 = keeps_bits z b4 (omega (arith, ey, ez)) in
    let eu : v % 2 ^ 32 * 256 + b5 ≡ v * 256 + b5 = keeps_bits v b5 (omega (arith, ey, ez, ev)) in
    omega (arith, ey, ez, ev, eu)
  where
    keeps_bits : (a k : ℕ) → a < 2 ^ 32 → a % 2 ^ 32 * 256 + k ≡ a * 256 + k
    keeps_bits a k h = omega arith

-- in the preamble: another 0xFF, a delimiter, or a break
data NextPreamble (x : ℕ) : Type 0 where
  another : x ≡ 0xFF → taken (blank (Preamble 2)) (Character x) ≡ tells (blank (Preamble 2)) Nothing → NextPreamble x
  broke : taken (blank (Preamble 2)) (Character x) ≡ breaks → NextPreamble x
  delimiter : (frame : ℕ) (long : Bool) (expansion : ℕ) → delimiter_of x ≡ delimiter_with frame long expansion
      → taken (blank (Preamble 2)) (Character x) ≡ tells (opened frame long expansion x) Nothing → NextPreamble x

next_preamble : (x : ℕ) → NextPreamble x
unfolding taken at_preamble
next_preamble x = go (x =? 0xFF) refl (delimiter_of x) refl
  where
    two : {A : Type 0} (a b : A) → (when 2 <? 2 then a else b) ≡ b
    two a b = if_is_false (2 <? 2) a b refl

    go : (t : Bool) → (x =? 0xFF) ≡ t → (d : Option Delimiter) → delimiter_of x ≡ d → NextPreamble x
    go true q d z = another (eqb-true x 0xFF q) (if_is_true (x =? 0xFF) _ _ q)
    go false q None z = broke (if_is_false (x =? 0xFF) _ _ q ∙ two _ _ ∙ ap (begins x) z)
    go false q (Some d) z = delimiter d.kind d.long d.expansion z (if_is_false (x =? 0xFF) _ _ q ∙ two _ _ ∙ ap (begins x) z)

-- behind one 0xFF: another, or a break; and before a frame
data NextSecond (x : ℕ) : Type 0 where
  follows : x ≡ 0xFF → taken (blank (Preamble 1)) (Character x) ≡ tells (blank (Preamble 2)) Nothing → NextSecond x
  broke : taken (blank (Preamble 1)) (Character x) ≡ breaks → NextSecond x

next_second : (x : ℕ) → NextSecond x
unfolding taken at_preamble
next_second x = go (x =? 0xFF) refl
  where
    go : (t : Bool) → (x =? 0xFF) ≡ t → NextSecond x
    go true q = follows (eqb-true x 0xFF q) (if_is_true (x =? 0xFF) _ _ q)
    go false q = broke (if_is_false (x =? 0xFF) _ _ q ∙ if_is_true (1 <? 2) _ _ refl)

data NextIdle (x : ℕ) : Type 0 where
  starts : x ≡ 0xFF → taken idle (Character x) ≡ tells (blank (Preamble 1)) Nothing → NextIdle x
  broke : taken idle (Character x) ≡ breaks → NextIdle x

next_idle : (x : ℕ) → NextIdle x
unfolding taken at_idle
next_idle x = go (x =? 0xFF) refl
  where
    go : (t : Bool) → (x =? 0xFF) ≡ t → NextIdle x
    go true q = starts (eqb-true x 0xFF q) (if_is_true (x =? 0xFF) _ _ q)
    go false q = broke (if_is_false (x =? 0xFF) _ _ q)

-- a frame that ends as whole behind the characters cs, with the character c
module _ (c : ℕ) (w : Whole) where
  -- at the check byte: it comes at once, and makes the exclusive-or zero
  record EndRead (h : Header) (expansion count sum : ℕ) (cs : List ℕ) : Type 0 where
    at_once : cs ≡ []
    whole : record { header = h; expansion = expansion; count = count } ≡ w
    zero_sum : bit_xor sum c ≡ 0

  from_check : (h : Header) (expansion count sum : ℕ) (cs : List ℕ) → Quiet (at_end h expansion count sum) cs
      → (taken (reader_after (at_end h expansion count sum) cs) (Character c)).event ≡ Frame w → EndRead h expansion count sum cs
  unfolding taken reader_after at_check checked
  from_check h expansion count sum [] q e =
      let v : Whole = record { header = h; expansion = expansion; count = count } in
      record {
        at_once = refl;
        whole = checked_same v w (bit_xor sum c =? 0) e;
        zero_sum = eqb-true (bit_xor sum c) 0 (checked_right v w (bit_xor sum c =? 0) e);
      }
  from_check h expansion count sum (x ∷ cs) q e =
      absurd (checked_nothing (record { header = h; expansion = expansion; count = count }) (bit_xor sum x =? 0) q.0)

  -- in the data: as many characters as the count says, and then the check byte
  record DataRead (h : Header) (expansion count n sum : ℕ) (cs : List ℕ) : Type 0 where
    as_many : n + length cs ≡ count
    whole : record { header = h; expansion = expansion; count = count } ≡ w
    zero_sum : bit_xor (xor_from sum cs) c ≡ 0
    stores : (b : List ℕ) → data_after (in_data h expansion count n sum) cs b ≡ stored b n cs

  from_data : (h : Header) (expansion count n sum : ℕ) (cs : List ℕ) → n < count → count ≤ 255 → Quiet (in_data h expansion count n sum) cs
      → (taken (reader_after (in_data h expansion count n sum) cs) (Character c)).event ≡ Frame w → DataRead h expansion count n sum cs
  unfolding xor_from reader_after data_after stored
  from_data h expansion count n sum [] below small q e = absurd (go (next_data h expansion count n sum c))
    where
      go : NextData h expansion count n sum c → ⊥
      go (to_data a p) = no_end _ _ c w p e
      go (to_check a p) = no_end _ _ c w p e
  from_data h expansion count n sum (x ∷ cs) below small q e =
      go (next_data h expansion count n sum x) (λ a. from_data h expansion count (n + 1) (bit_xor sum x) cs a small)
    where
      r : Receiver
      r = in_data h expansion count n sum

      keeps : (b : List ℕ) → taken_data r (Character x) b ≡ set b n x
      keeps b = keeps_byte h expansion count n sum x b (omega arith)

      More : Type 0
      More = n + 1 < count → Quiet (in_data h expansion count (n + 1) (bit_xor sum x)) cs
          → (taken (reader_after (in_data h expansion count (n + 1) (bit_xor sum x)) cs) (Character c)).event ≡ Frame w
          → DataRead h expansion count (n + 1) (bit_xor sum x) cs

      go : NextData h expansion count n sum x → More → DataRead h expansion count n sum (x ∷ cs)
      go (to_data a p) more =
          let rest = more a (step r _ x cs p q) (step_end r _ x cs c (Frame w) p e) in
          record {
            as_many = omega (arith, rest.as_many);
            whole = rest.whole;
            zero_sum = rest.zero_sum;
            stores = λ b. step_data r _ x cs b (set b n x) p (keeps b) ∙ rest.stores (set b n x) ∙ ap (λ (k : ℕ). stored (set b n x) k cs) (add-one n);
          }
      go (to_check a p) more =
          let rest = from_check h expansion count (bit_xor sum x) cs (step r _ x cs p q) (step_end r _ x cs c (Frame w) p e) in
          let none : length cs ≡ 0 = ap length rest.at_once in
          record {
            as_many = omega (arith, none);
            whole = rest.whole;
            zero_sum = ap (λ (l : List ℕ). bit_xor (xor_from (bit_xor sum x) l) c) rest.at_once ∙ rest.zero_sum;
            stores = λ b.
                step_data r _ x cs b (set b n x) p (keeps b)
                ∙ ap (λ (l : List ℕ). data_after (at_end h expansion count (bit_xor sum x)) l (set b n x)) rest.at_once
                ∙ ap (λ (l : List ℕ). stored (set b n x) (suc n) l) (sym rest.at_once);
          }

  -- what follows the address: expansion bytes, command, byte count, data; the reader's header h has no command yet
  record TailRead (h : Header) (expansion to-come sum : ℕ) (r : Receiver) (cs : List ℕ) : Type 0 where
    extra : List ℕ
    command : ℕ
    count : ℕ
    bytes : List ℕ
    split : cs ≡ extra ++ (command ∷ count ∷ bytes)
    extra_long : length extra ≡ to-come
    as_many : length bytes ≡ count
    count_small : count ≤ 255
    enough : too_few h.kind count ≡ false
    whole : record { header = command_header h command; expansion = expansion; count = count } ≡ w
    zero_sum : bit_xor (xor_from sum cs) c ≡ 0
    stores : (b : List ℕ) → data_after r cs b ≡ stored b 0 bytes

  -- the byte count
  record CountRead (h : Header) (expansion sum : ℕ) (cs : List ℕ) : Type 0 where
    count : ℕ
    bytes : List ℕ
    split : cs ≡ count ∷ bytes
    as_many : length bytes ≡ count
    count_small : count ≤ 255
    enough : too_few h.kind count ≡ false
    whole : record { header = h; expansion = expansion; count = count } ≡ w
    zero_sum : bit_xor (xor_from sum cs) c ≡ 0
    stores : (b : List ℕ) → data_after (at_place Count h expansion sum) cs b ≡ stored b 0 bytes

  from_count : (h : Header) (expansion sum : ℕ) (cs : List ℕ) → AllBytes cs → Quiet (at_place Count h expansion sum) cs
      → (taken (reader_after (at_place Count h expansion sum) cs) (Character c)).event ≡ Frame w → CountRead h expansion sum cs
  unfolding reader_after data_after xor_from stored taken_data
  from_count h expansion sum [] small q e = absurd (go (next_count h expansion sum c))
    where
      go : NextCount h expansion sum c → ⊥
      go (broke p) = broken_frame w (sym (ap (λ (t : Taken). t.event) p) ∙ e)
      go (empty f z p) = no_end _ _ c w p e
      go (some f z p) = no_end _ _ c w p e
  from_count h expansion sum (k ∷ cs) small q e = go (next_count h expansion sum k)
    where
      r : Receiver
      r = at_place Count h expansion sum

      go : NextCount h expansion sum k → CountRead h expansion sum (k ∷ cs)
      go (broke p) = absurd (broken_nothing (sym (ap (λ (t : Taken). t.event) p) ∙ q.0))
      go (empty f z p) =
          let rest = from_check h expansion k (bit_xor sum k) cs (step r _ k cs p q) (step_end r _ k cs c (Frame w) p e) in
          let none : length cs ≡ 0 = ap length rest.at_once in
          record {
            count = k;
            bytes = cs;
            split = refl;
            as_many = omega (arith, none);
            count_small = small.0;
            enough = f;
            whole = rest.whole;
            zero_sum = ap (λ (l : List ℕ). bit_xor (xor_from (bit_xor sum k) l) c) rest.at_once ∙ rest.zero_sum;
            stores = λ b.
                step_data r _ k cs b b p refl
                ∙ ap (λ (l : List ℕ). data_after (at_end h expansion k (bit_xor sum k)) l b) rest.at_once
                ∙ ap (λ (l : List ℕ). stored b 0 l) (sym rest.at_once);
          }
      go (some f z p) =
          let rest = from_data h expansion k 0 (bit_xor sum k) cs z small.0 (step r _ k cs p q) (step_end r _ k cs c (Frame w) p e) in
          record {
            count = k;
            bytes = cs;
            split = refl;
            as_many = omega (arith, rest.as_many);
            count_small = small.0;
            enough = f;
            whole = rest.whole;
            zero_sum = rest.zero_sum;
            stores = λ b. step_data r _ k cs b b p refl ∙ rest.stores b;
          }

  -- the command
  from_command : (h : Header) (expansion sum : ℕ) (cs : List ℕ) → AllBytes cs → Quiet (at_place Command h expansion sum) cs
      → (taken (reader_after (at_place Command h expansion sum) cs) (Character c)).event ≡ Frame w → TailRead h expansion 0 sum (at_place Command h expansion sum) cs
  unfolding reader_after data_after xor_from taken_data taken at_command
  from_command h expansion sum [] small q e = absurd (nothing_frame w e)
  from_command h expansion sum (x ∷ cs) small q e =
      let rest = from_count (command_header h x) expansion (bit_xor sum x) cs small.1 q.1 e in
      record {
        extra = [];
        command = x;
        count = rest.count;
        bytes = rest.bytes;
        split = ap (λ (l : List ℕ). x ∷ l) rest.split;
        extra_long = refl;
        as_many = rest.as_many;
        count_small = rest.count_small;
        enough = rest.enough;
        whole = rest.whole;
        zero_sum = rest.zero_sum;
        stores = rest.stores;
      }

  -- the expansion bytes, with n to come
  from_expansion : (h : Header) (expansion n sum : ℕ) (cs : List ℕ) → 0 < n → AllBytes cs → Quiet (at_place (Expansion n) h expansion sum) cs
      → (taken (reader_after (at_place (Expansion n) h expansion sum) cs) (Character c)).event ≡ Frame w → TailRead h expansion n sum (at_place (Expansion n) h expansion sum) cs
  unfolding reader_after xor_from taken_data
  from_expansion h expansion n sum [] left small q e = absurd (go (next_expansion h expansion n sum c))
    where
      go : NextExpansion h expansion n sum c → ⊥
      go (to_expansion a p) = no_end _ _ c w p e
      go (to_command a p) = no_end _ _ c w p e
  from_expansion h expansion n sum (x ∷ cs) left small q e =
      go (next_expansion h expansion n sum x) (λ a. from_expansion h expansion (n - 1) (bit_xor sum x) cs a small.1)
    where
      r : Receiver
      r = at_place (Expansion n) h expansion sum

      More : Type 0
      More = 0 < n - 1 → Quiet (at_place (Expansion (n - 1)) h expansion (bit_xor sum x)) cs
          → (taken (reader_after (at_place (Expansion (n - 1)) h expansion (bit_xor sum x)) cs) (Character c)).event ≡ Frame w
          → TailRead h expansion (n - 1) (bit_xor sum x) (at_place (Expansion (n - 1)) h expansion (bit_xor sum x)) cs

      longer : (k : ℕ) (s : Receiver) → suc k ≡ n → taken r (Character x) ≡ tells s Nothing → TailRead h expansion k (bit_xor sum x) s cs → TailRead h expansion n sum r (x ∷ cs)
      longer k s one p rest = record {
        extra = x ∷ rest.extra;
        command = rest.command;
        count = rest.count;
        bytes = rest.bytes;
        split = ap (λ (l : List ℕ). x ∷ l) rest.split;
        extra_long = ap suc rest.extra_long ∙ one;
        as_many = rest.as_many;
        count_small = rest.count_small;
        enough = rest.enough;
        whole = rest.whole;
        zero_sum = rest.zero_sum;
        stores = λ b. step_data r s x cs b b p refl ∙ rest.stores b;
      }

      go : NextExpansion h expansion n sum x → More → TailRead h expansion n sum r (x ∷ cs)
      go (to_expansion a p) more = longer (n - 1) _ (omega arith) p (more (omega arith) (step r _ x cs p q) (step_end r _ x cs c (Frame w) p e))
      go (to_command a p) more = longer 0 _ (omega arith) p (from_command h expansion (bit_xor sum x) cs small.1 (step r _ x cs p q) (step_end r _ x cs c (Frame w) p e))

  -- behind the address
  from_behind : (h : Header) (expansion sum : ℕ) (cs : List ℕ) → AllBytes cs → Quiet (behind h expansion sum) cs
      → (taken (reader_after (behind h expansion sum) cs) (Character c)).event ≡ Frame w → TailRead h expansion expansion sum (behind h expansion sum) cs
  unfolding when◌then◌else◌
  from_behind h expansion sum cs small q e = go (expansion =? 0) refl q e
    where
      At : Bool → Receiver
      At t = at_place (when t then Command else Expansion expansion) h expansion sum

      go : (t : Bool) → (expansion =? 0) ≡ t → Quiet (At t) cs → (taken (reader_after (At t) cs) (Character c)).event ≡ Frame w → TailRead h expansion expansion sum (At t) cs
      go true z q e = subst (λ (n : ℕ). TailRead h expansion n sum (At true) cs) (sym (eqb-true expansion 0 z)) (from_command h expansion sum cs small q e)
      go false z q e = from_expansion h expansion expansion sum cs (positive expansion (eqb-false expansion 0 z)) small q e

  -- the address: a reader behind the delimiter d
  record AddressRead (frame : ℕ) (long : Bool) (expansion d : ℕ) (cs : List ℕ) : Type 0 where
    address : List ℕ
    tail : List ℕ
    h : Header
    r : Receiver
    split : cs ≡ address ++ tail
    address_long : length address ≡ address_length long
    rest : TailRead h expansion expansion (xor_from d address) r tail
    no_data : (b : List ℕ) → data_after (opened frame long expansion d) cs b ≡ data_after r tail b
    -- what the slice reader finds in these bytes
    fields : (u : List ℕ) → h ≡ record { kind = frame; long = long; primary = master_bit (d ∷ (address ++ u)); burst = burst_flag (d ∷ (address ++ u)); address = address_of long (d ∷ (address ++ u)); command = 0 }

  from_short : (frame expansion d : ℕ) (cs : List ℕ) → AllBytes cs → Quiet (opened frame false expansion d) cs
      → (taken (reader_after (opened frame false expansion d) cs) (Character c)).event ≡ Frame w → AddressRead frame false expansion d cs
  unfolding reader_after data_after xor_from taken_data taken at_first when◌then◌else◌
  from_short frame expansion d [] small q e = absurd (nothing_frame w e)
  from_short frame expansion d (x ∷ cs) small q e = record {
    address = x ∷ [];
    tail = cs;
    h = first_header (bare_header frame false) x;
    r = behind (first_header (bare_header frame false) x) expansion (bit_xor d x);
    split = refl;
    address_long = refl;
    rest = from_behind (first_header (bare_header frame false) x) expansion (bit_xor d x) cs small.1 q.1 e;
    no_data = λ b. refl;
    fields = λ u. refl;
  }

  from_long : (frame expansion d : ℕ) (cs : List ℕ) → AllBytes cs → Quiet (opened frame true expansion d) cs
      → (taken (reader_after (opened frame true expansion d) cs) (Character c)).event ≡ Frame w → AddressRead frame true expansion d cs
  unfolding reader_after data_after xor_from taken_data taken at_first at_address when◌then◌else◌
  from_long frame expansion d [] small q e = absurd (nothing_frame w e)
  from_long frame expansion d (x ∷ []) small q e = absurd (nothing_frame w e)
  from_long frame expansion d (x ∷ b2 ∷ []) small q e = absurd (nothing_frame w e)
  from_long frame expansion d (x ∷ b2 ∷ b3 ∷ []) small q e = absurd (nothing_frame w e)
  from_long frame expansion d (x ∷ b2 ∷ b3 ∷ b4 ∷ []) small q e = absurd (nothing_frame w e)
  from_long frame expansion d (x ∷ b2 ∷ b3 ∷ b4 ∷ b5 ∷ cs) small q e =
      let h : Header = address_header (address_header (address_header (address_header (first_header (bare_header frame true) x) b2) b3) b4) b5 in
      let sum : ℕ = bit_xor (bit_xor (bit_xor (bit_xor (bit_xor d x) b2) b3) b4) b5 in
      let a = address_heard (x % 64) b2 b3 b4 b5 (omega arith) small.1.0 small.1.1.0 small.1.1.1.0 small.1.1.1.1.0 in
      record {
        address = x ∷ b2 ∷ b3 ∷ b4 ∷ b5 ∷ [];
        tail = cs;
        h = h;
        r = behind h expansion sum;
        split = refl;
        address_long = refl;
        rest = from_behind h expansion sum cs small.1.1.1.1.1 q.1.1.1.1.1 e;
        no_data = λ b. refl;
        fields = λ u. ap (λ (n : ℕ). record { kind = frame; long = true; primary = (x / 128 =? 1); burst = (x / 64 % 2 =? 1); address = n; command = 0 }) a;
      }

  from_first : (frame : ℕ) (long : Bool) (expansion d : ℕ) (cs : List ℕ) → AllBytes cs → Quiet (opened frame long expansion d) cs
      → (taken (reader_after (opened frame long expansion d) cs) (Character c)).event ≡ Frame w → AddressRead frame long expansion d cs
  from_first frame true expansion d cs small q e = from_long frame expansion d cs small q e
  from_first frame false expansion d cs small q e = from_short frame expansion d cs small q e

  -- two preambles and more, and the delimiter
  record PreambleRead (cs : List ℕ) : Type 0 where
    more : ℕ
    frame : ℕ
    long : Bool
    expansion : ℕ
    d : ℕ
    tail : List ℕ
    split : cs ≡ preamble_bytes more ++ (d ∷ tail)
    delimited : delimiter_of d ≡ delimiter_with frame long expansion
    body : AddressRead frame long expansion d tail
    no_data : (b : List ℕ) → data_after (blank (Preamble 2)) cs b ≡ data_after (opened frame long expansion d) tail b

  from_preamble : (cs : List ℕ) → AllBytes cs → Quiet (blank (Preamble 2)) cs → (taken (reader_after (blank (Preamble 2)) cs) (Character c)).event ≡ Frame w → PreambleRead cs
  unfolding reader_after taken_data preamble_bytes
  from_preamble [] small q e = absurd (go (next_preamble c))
    where
      go : NextPreamble c → ⊥
      go (another z p) = no_end _ _ c w p e
      go (broke p) = broken_frame w (sym (ap (λ (t : Taken). t.event) p) ∙ e)
      go (delimiter frame long expansion z p) = no_end _ _ c w p e
  from_preamble (x ∷ cs) small q e = go (next_preamble x) (from_preamble cs small.1)
    where
      r : Receiver
      r = blank (Preamble 2)

      More : Type 0
      More = Quiet r cs → (taken (reader_after r cs) (Character c)).event ≡ Frame w → PreambleRead cs

      go : NextPreamble x → More → PreambleRead (x ∷ cs)
      go (another z p) again =
          let rest = again (step r _ x cs p q) (step_end r _ x cs c (Frame w) p e) in
          record {
            more = suc rest.more;
            frame = rest.frame;
            long = rest.long;
            expansion = rest.expansion;
            d = rest.d;
            tail = rest.tail;
            split = ap₂ (λ (y : ℕ) (l : List ℕ). y ∷ l) z rest.split;
            delimited = rest.delimited;
            body = rest.body;
            no_data = λ b. step_data r r x cs b b p refl ∙ rest.no_data b;
          }
      go (broke p) again = absurd (broken_nothing (sym (ap (λ (t : Taken). t.event) p) ∙ q.0))
      go (delimiter frame long expansion z p) again = record {
        more = 0;
        frame = frame;
        long = long;
        expansion = expansion;
        d = x;
        tail = cs;
        split = refl;
        delimited = z;
        body = from_first frame long expansion x cs small.1 (step r _ x cs p q) (step_end r _ x cs c (Frame w) p e);
        no_data = λ b. step_data r _ x cs b b p refl;
      }

  -- from the idle reader: two preambles first
  record FrameRead (cs : List ℕ) : Type 0 where
    tail : List ℕ
    split : cs ≡ 0xFF ∷ 0xFF ∷ tail
    rest : PreambleRead tail
    no_data : (b : List ℕ) → data_after idle cs b ≡ data_after (blank (Preamble 2)) tail b

  from_idle : (cs : List ℕ) → AllBytes cs → Quiet idle cs → (taken (reader_after idle cs) (Character c)).event ≡ Frame w → FrameRead cs
  unfolding reader_after taken_data
  from_idle [] small q e = absurd (go (next_idle c))
    where
      go : NextIdle c → ⊥
      go (starts z p) = no_end _ _ c w p e
      go (broke p) = broken_frame w (sym (ap (λ (t : Taken). t.event) p) ∙ e)
  from_idle (x ∷ cs) small q e = go (next_idle x)
    where
      second : (cs : List ℕ) → AllBytes cs → Quiet (blank (Preamble 1)) cs → (taken (reader_after (blank (Preamble 1)) cs) (Character c)).event ≡ Frame w
          → (rest : List ℕ) × (cs ≡ 0xFF ∷ rest) × PreambleRead rest × ((b : List ℕ) → data_after (blank (Preamble 1)) cs b ≡ data_after (blank (Preamble 2)) rest b)
      second [] small q e = absurd (last (next_second c))
        where
          last : NextSecond c → ⊥
          last (follows z p) = no_end _ _ c w p e
          last (broke p) = broken_frame w (sym (ap (λ (t : Taken). t.event) p) ∙ e)
      second (y ∷ cs) small q e = turn (next_second y)
        where
          turn : NextSecond y → (rest : List ℕ) × (y ∷ cs ≡ 0xFF ∷ rest) × PreambleRead rest × ((b : List ℕ) → data_after (blank (Preamble 1)) (y ∷ cs) b ≡ data_after (blank (Preamble 2)) rest b)
          turn (follows z p) =
              (cs, ap (λ (n : ℕ). n ∷ cs) z, from_preamble cs small.1 (step (blank (Preamble 1)) _ y cs p q) (step_end (blank (Preamble 1)) _ y cs c (Frame w) p e), λ b. step_data (blank (Preamble 1)) _ y cs b b p refl)
          turn (broke p) = absurd (broken_nothing (sym (ap (λ (t : Taken). t.event) p) ∙ q.0))

      go : NextIdle x → FrameRead (x ∷ cs)
      go (starts z p) =
          let s = second cs small.1 (step idle _ x cs p q) (step_end idle _ x cs c (Frame w) p e) in
          record { tail = s.0; split = ap₂ (λ (y : ℕ) (l : List ℕ). y ∷ l) z s.1; rest = s.2; no_data = λ b. step_data idle _ x cs b b p refl ∙ s.3 b }
      go (broke p) = absurd (broken_nothing (sym (ap (λ (t : Taken). t.event) p) ∙ q.0))

-- what the theorem says: the slice reader finds a frame in the characters that were heard, with the same fields and the same data
pub record SliceReads (cs : List ℕ) (c : ℕ) (w : Whole) (b : List ℕ) : Type 0 where
  pub found : Found
  pub reads : read_frame (cs ++ (c ∷ [])) ≡ accepted found
  pub same_header : found.header ≡ w.header
  pub same_expansion : found.expansion ≡ w.expansion
  pub same_count : found.count ≡ w.count
  pub same_data : part_of (cs ++ (c ∷ [])) found.start found.count ≡ take w.count (data_after idle cs b)

-- the body of the frame, from its parts: delimiter and address and expansion bytes, then command, count, data and check byte
module _ (frame : ℕ) (long : Bool) (expansion d command count : ℕ) (address extra bytes : List ℕ) (c : ℕ) where
  front : List ℕ
  front = d ∷ (address ++ extra)

  back : List ℕ
  back = command ∷ count ∷ (bytes ++ (c ∷ []))

  body : List ℕ
  body = front ++ back

  place : ℕ
  place = command_place long expansion

  front_long : length address ≡ address_length long → length extra ≡ expansion → length front ≡ place
  unfolding front place
  front_long p q = omega (arith, length-append address extra)

  body_long : length address ≡ address_length long → length extra ≡ expansion → length bytes ≡ count → length body ≡ place + 3 + count
  unfolding body back
  body_long p q n = omega (arith, length-append front back, length-append bytes (c ∷ []), front_long p q)

  sound : (preamble : ℕ) → delimiter_of d ≡ delimiter_with frame long expansion → length address ≡ address_length long → length extra ≡ expansion → length bytes ≡ count
      → too_few frame count ≡ false → exclusive_or body ≡ 0 → Sound preamble body (found_at preamble body frame long expansion place count)
  unfolding body front back place
  sound preamble delimited p q n enough zero_sum = record {
    frame = frame;
    long = long;
    expansion = expansion;
    place = place;
    count = count;
    delimited = delimited;
    placed = refl;
    counted = sym (ap (λ (k : ℕ). byte_at body (k + 1)) (sym (front_long p q)) ∙ get_or-append-add front back 1 0);
    inside = omega (arith, body_long p q n);
    enough = enough;
    zero = ap exclusive_or (take_all (place + 3 + count) body (omega (arith, body_long p q n))) ∙ zero_sum;
    found = refl;
  }

  command_at : length address ≡ address_length long → length extra ≡ expansion → byte_at body place ≡ command
  unfolding body back
  command_at p q = ap (byte_at body) (sym (front_long p q)) ∙ ap (byte_at body) (sym (add-zero (length front))) ∙ get_or-append-add front back 0 0

  data_at : length address ≡ address_length long → length extra ≡ expansion → length bytes ≡ count → take count (drop (place + 2) body) ≡ bytes
  unfolding body back
  data_at p q n =
      ap (λ (k : ℕ). take count (drop (k + 2) body)) (sym (front_long p q))
      ∙ ap (take count) (drop-append-add front back 2)
      ∙ take_at bytes (c ∷ []) count n

-- the theorem: from the idle reader, with a buffer of at least 255 bytes
pub slice_reads : (cs : List ℕ) (c : ℕ) (w : Whole) (b : List ℕ) → AllBytes cs → Quiet idle cs → (taken (reader_after idle cs) (Character c)).event ≡ Frame w → 255 ≤ length b → SliceReads cs c w b
unfolding body front back place preamble_bytes xor_from
slice_reads cs c w b small quiet e room =
    let fr = from_idle c w cs small quiet e in
    let pr = fr.rest in
    let ar = pr.body in
    let tr = ar.rest in
    let d = pr.d in
    let p : ℕ = suc (suc pr.more) in
    let t : List ℕ = body pr.frame pr.long pr.expansion d tr.command tr.count ar.address tr.extra tr.bytes c in
    let k : ℕ = command_place pr.long pr.expansion in
    let tail_split : ar.tail ≡ tr.extra ++ (tr.command ∷ tr.count ∷ tr.bytes) = tr.split in
    let behind_d : pr.tail ++ (c ∷ []) ≡ ar.address ++ (tr.extra ++ (tr.command ∷ tr.count ∷ (tr.bytes ++ (c ∷ [])))) =
    ap (λ (l : List ℕ). l ++ (c ∷ [])) (ar.split ∙ ap (λ (l : List ℕ). ar.address ++ l) tail_split)
    ∙ append_assoc ar.address (tr.extra ++ (tr.command ∷ tr.count ∷ tr.bytes)) (c ∷ [])
    ∙ ap (λ (l : List ℕ). ar.address ++ l) (append_assoc tr.extra (tr.command ∷ tr.count ∷ tr.bytes) (c ∷ [])) in
    let body_is : d ∷ (pr.tail ++ (c ∷ [])) ≡ t =
    ap (λ (l : List ℕ). d ∷ l) (behind_d ∙ sym (append_assoc ar.address tr.extra (tr.command ∷ tr.count ∷ (tr.bytes ++ (c ∷ []))))) in
    let all : cs ++ (c ∷ []) ≡ preamble_bytes p ++ t =
    ap (λ (l : List ℕ). l ++ (c ∷ [])) fr.split
    ∙ ap (λ (l : List ℕ). 0xFF ∷ 0xFF ∷ (l ++ (c ∷ []))) pr.split
    ∙ ap (λ (l : List ℕ). 0xFF ∷ 0xFF ∷ l) (append_assoc (preamble_bytes pr.more) (d ∷ pr.tail) (c ∷ []))
    ∙ ap (λ (l : List ℕ). 0xFF ∷ 0xFF ∷ (preamble_bytes pr.more ++ l)) body_is in
    let zero_sum : exclusive_or t ≡ 0 =
    ap exclusive_or (sym body_is)
    ∙ ap (λ (x : ℕ). xor_from x (pr.tail ++ (c ∷ []))) (xor_zero_l d)
    ∙ xor_append d pr.tail (c ∷ [])
    ∙ ap (λ (l : List ℕ). bit_xor (xor_from d l) c) ar.split
    ∙ ap (λ (x : ℕ). bit_xor x c) (xor_append d ar.address ar.tail)
    ∙ tr.zero_sum in
    let header-parts = ar.fields (tr.extra ++ (tr.command ∷ tr.count ∷ (tr.bytes ++ (c ∷ [])))) in
    let same_type : ar.h.kind ≡ pr.frame = ap (λ (h : Header). h.kind) header-parts in
    let s : Sound p t (found_at p t pr.frame pr.long pr.expansion k tr.count) =
    sound pr.frame pr.long pr.expansion d tr.command tr.count ar.address tr.extra tr.bytes c
    p pr.delimited ar.address_long tr.extra_long tr.as_many (ap (λ (n : ℕ). too_few n tr.count) (sym same_type) ∙ tr.enough) zero_sum in
    let no_more : preambles t ≡ 0 = no_preamble t (delimited_no_preamble d pr.frame pr.long pr.expansion pr.delimited) in
    let reads : read_frame (cs ++ (c ∷ [])) ≡ accepted (found_at p t pr.frame pr.long pr.expansion k tr.count) =
    ap read_frame all
    ∙ sound_frame (preamble_bytes p ++ t) p t _ (preambles_are p t no_more) (drop_at (preamble_bytes p) t p (sym (preamble_count p))) (omega arith) s in
    let whole : Whole = record { header = command_header ar.h tr.command; expansion = pr.expansion; count = tr.count } in
    let parts : List ℕ = d ∷ (ar.address ++ (tr.extra ++ (tr.command ∷ tr.count ∷ (tr.bytes ++ (c ∷ []))))) in
    let regrouped : t ≡ parts = ap (λ (l : List ℕ). d ∷ l) (append_assoc ar.address tr.extra (tr.command ∷ tr.count ∷ (tr.bytes ++ (c ∷ [])))) in
    let command_is : byte_at t k ≡ tr.command = command_at pr.frame pr.long pr.expansion d tr.command tr.count ar.address tr.extra tr.bytes c ar.address_long tr.extra_long in
    let header_is : header_of pr.frame pr.long k t ≡ command_header ar.h tr.command =
    (λ i. record { kind = pr.frame; long = pr.long; primary = master_bit (regrouped i); burst = burst_flag (regrouped i); address = address_of pr.long (regrouped i); command = command_is i })
    ∙ ap (λ (h : Header). command_header h tr.command) (sym header-parts) in
    let data_is : take tr.count (drop (k + 2) t) ≡ tr.bytes = data_at pr.frame pr.long pr.expansion d tr.command tr.count ar.address tr.extra tr.bytes c ar.address_long tr.extra_long tr.as_many in
    let t_long : length t ≡ k + 3 + tr.count = body_long pr.frame pr.long pr.expansion d tr.command tr.count ar.address tr.extra tr.bytes c ar.address_long tr.extra_long tr.as_many in
    let all_long : length (cs ++ (c ∷ [])) ≡ p + (k + 3 + tr.count) = ap length all ∙ length-append (preamble_bytes p) t ∙ ap₂ (λ (m n : ℕ). m + n) (sym (preamble_count p)) t_long in
    let slice : part_of (cs ++ (c ∷ [])) (p + (k + 2)) tr.count ≡ tr.bytes =
    sym (if_at_most (p + (k + 2) + tr.count) (length (cs ++ (c ∷ []))) tr.bytes _ [] (omega (arith, all_long))
    (sym (ap (λ (l : List ℕ). take tr.count (drop (p + (k + 2)) l)) all
    ∙ ap (λ (n : ℕ). take tr.count (drop (n + (k + 2)) (preamble_bytes p ++ t))) (preamble_count p)
    ∙ ap (take tr.count) (drop-append-add (preamble_bytes p) t (k + 2))
    ∙ data_is))) in
    let kept_is : data_after idle cs b ≡ stored b 0 tr.bytes = fr.no_data b ∙ pr.no_data b ∙ ar.no_data b ∙ tr.stores b in
    let count_small : tr.count ≤ 255 = tr.count_small in
    let same_count : tr.count ≡ w.count = ap (λ (v : Whole). v.count) tr.whole in
    record {
      found = found_at p t pr.frame pr.long pr.expansion k tr.count;
      reads = reads;
      same_header = header_is ∙ ap (λ (v : Whole). v.header) tr.whole;
      same_expansion = ap (λ (v : Whole). v.expansion) tr.whole;
      same_count = same_count;
      same_data = slice ∙ sym (ap₂ (λ (n : ℕ) (l : List ℕ). take n l) (sym same_count) kept_is ∙ stored_front tr.count b (stored b 0 tr.bytes) tr.bytes refl (sym tr.as_many) (omega arith));
    }
