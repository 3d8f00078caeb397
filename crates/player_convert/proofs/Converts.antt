-- The answer of a conversion, by the code's tests.
use Rattle.std.specs.Prelude.{Result, Ok, Err}
use Prim.Native.Nat.{ℕ, ◌*◌, ◌/◌, ◌%◌, ◌≤◌, ◌<◌}
use native.Mathlib.Omega.{arith}
use borrow.Author.Tests.{lt-ltb, le-ltb}
use mathlib.Core.Bool.{Bool, true, false}
use mathlib.Core.List.{List}
use mathlib.Core.Path.{◌≡◌, refl, sym, ap, subst, ◌∙◌}
use lib.ListN.{length}
use Rattle.base.specs.Choice.{when◌then◌else◌, ◌<?◌}
use Rattle.base.specs.Refusal.{number, Called, accepted, refused, called_as}
use Rattle.base.specs.declared.Refusal.{Refusal}
use Rattle.base.specs.declared.Refusal.TheVariants.{BufferShort, BadScript, TickTooLarge}
use Rattle.base.proofs.Choices.{if_is_true, if_is_false}
use Rattle.player_script.specs.Script.{width, records_of, long_records_of, records_in, good_in, stop_of, form_of}
use Rattle.player_script.specs.declared.Form.{Form}
use Rattle.player_script.specs.declared.Form.TheVariants.{Old, New}
use Rattle.player_convert.specs.Turn.{turned, any_above, by_room, by_ticks, converted, converted_in, conversion, ConvertIs, Sayable, PutsRecords}
use Rattle.player_convert.specs.Kept.{Bytes}
use Rattle.player_convert.proofs.Kept.{old_length, new_length, old_count, new_count, good_whole}
use Rattle.player_convert.proofs.Fits.{stop_decides, fits_other, old_fits_new}

same_result : (c d : Called (List ℕ)) (out : List ℕ) (r : Result ℕ Refusal) (after : List ℕ) → c ≡ d → ConvertIs c out r after → ConvertIs d out r after
same_result c d out r after e h = subst (λ (x : Called (List ℕ)). ConvertIs x out r after) e h

-- a refusal leaves the lent bytes
refuses : (c : Called (List ℕ)) (out : List ℕ) (why : Refusal) → refused (number why) ≡ c → ConvertIs c out (Err why) out
refuses c out why e = same_result (refused (number why)) c out (Err why) out e (record { answer = refl; bytes = refl })

-- ---- 15, or the bytes

module _ (script out : List ℕ) where
  new_size : length (turned New (records_in Old script)) ≡ 6 * (length script / 4)
  unfolding records_in
  new_size = omega (arith, new_length (records_of script), old_count script)

  old_size : length (turned Old (records_in New script)) ≡ 4 * (length script / 6)
  unfolding records_in
  old_size = omega (arith, old_length (long_records_of script), new_count script)

  room_by : (bytes : List ℕ) (b : Bool) → (length out <? length bytes) ≡ b → by_room bytes (length out) ≡ (when b then refused 15 else accepted bytes)
  room_by bytes b e = ap (λ (t : Bool). when t then refused 15 else accepted bytes) e

  pub new_short : length out / 6 < length script / 4 → ConvertIs (by_room (turned New (records_in Old script)) (length out)) out (Err BufferShort) out
  new_short h = refuses _ out BufferShort (sym (if_is_true (length out <? length (turned New (records_in Old script))) _ _ (lt-ltb (length out) _ (omega (arith, new_size, h)))))

  pub old_short : length out / 4 < length script / 6 → ConvertIs (by_room (turned Old (records_in New script)) (length out)) out (Err BufferShort) out
  old_short h = refuses _ out BufferShort (sym (if_is_true (length out <? length (turned Old (records_in New script))) _ _ (lt-ltb (length out) _ (omega (arith, old_size, h)))))

  pub new_room : length script % 4 ≡ 0 → length script / 4 ≤ length out / 6 → (length script % 4 ≡ 0) × (3 * length script ≤ 2 * length out)
  new_room e h = (e, omega (arith, e, h))

  pub old_room : (length script % 6 ≡ 0) × Sayable Old (records_in New script) → length script / 6 ≤ length out / 4
      → (length script % 6 ≡ 0) × ((2 * length script ≤ 3 * length out) × Sayable Old (records_in New script))
  old_room e h = (e.0, (omega (arith, e.0, h), e.1))

  puts : (f g : Form) (r : ℕ) (after : List ℕ) → length (turned g (records_in f script)) ≤ length out → PutsRecords f g script out r after
      → ConvertIs (by_room (turned g (records_in f script)) (length out)) out (Ok r) after
  puts f g r after h p =
      same_result (accepted (turned g (records_in f script))) _ out (Ok r) after
      (sym (if_is_false (length out <? length (turned g (records_in f script))) _ _ (le-ltb (length out) _ h)))
      (record { answer = ap accepted p.count; bytes = p.bytes })

  pub new_put : (r : ℕ) (after : List ℕ) → length script / 4 ≤ length out / 6 → PutsRecords Old New script out r after
      → ConvertIs (by_room (turned New (records_in Old script)) (length out)) out (Ok r) after
  new_put r after h p = puts Old New r after (omega (arith, new_size, h)) p

  pub old_put : (r : ℕ) (after : List ℕ) → length script / 6 ≤ length out / 4 → PutsRecords New Old script out r after
      → ConvertIs (by_room (turned Old (records_in New script)) (length out)) out (Ok r) after
  old_put r after h p = puts New Old r after (omega (arith, old_size, h)) p

pub ruleset rooms = (new_short, old_short, new_room, old_room, new_put, old_put)

-- ---- 25, or by the room

module _ (script out : List ℕ) (stop : ℕ) (g : good_in New script ≡ true) (s : stop ≡ stop_of (records_in New script)) where
  above_is : any_above 65535 (records_in New script) ≡ (65535 <? stop)
  above_is = stop_decides New 65535 script g ∙ ap (λ (n : ℕ). 65535 <? n) (sym s)

  pub ticks_above : 65535 < stop → ConvertIs (by_ticks New script (length out)) out (Err TickTooLarge) out
  ticks_above h = refuses _ out TickTooLarge (sym (if_is_true (any_above 65535 (records_in New script)) _ _ (above_is ∙ lt-ltb 65535 stop h)))

  ticks_fit : stop ≤ 65535 → any_above 65535 (records_in New script) ≡ false
  ticks_fit h = above_is ∙ le-ltb 65535 stop h

  pub new_fits : stop ≤ 65535 → Sayable Old (records_in New script)
  new_fits h = fits_other New Old script (ticks_fit h)

  pub into_old_is : (r : Result ℕ Refusal) (after : List ℕ) → stop ≤ 65535
      → ConvertIs (by_room (turned Old (records_in New script)) (length out)) out r after → ConvertIs (by_ticks New script (length out)) out r after
  into_old_is r after h p = same_result _ _ out r after (sym (if_is_false (any_above 65535 (records_in New script)) _ _ (ticks_fit h))) p

pub whole_new : (script : List ℕ) → good_in New script ≡ true → length script % 6 ≡ 0
unfolding width
whole_new script g = good_whole New script g

pub whole_old : (form : Form) (script : List ℕ) → good_in form script ≡ true → form ≡ Old → length script % 4 ≡ 0
unfolding width
whole_old form script g e = good_whole Old script (subst (λ (f : Form). good_in f script ≡ true) e g)

pub good_new : (form : Form) (script : List ℕ) → good_in form script ≡ true → form ≡ New → good_in New script ≡ true
good_new form script g e = subst (λ (f : Form). good_in f script ≡ true) e g

pub into_new_is : (form : Form) (script out : List ℕ) (r : Result ℕ Refusal) (after : List ℕ) → form ≡ Old → Bytes script
    → ConvertIs (by_room (turned New (records_in Old script)) (length out)) out r after → ConvertIs (by_ticks form script (length out)) out r after
into_new_is form script out r after e bytes p =
    subst (λ (f : Form). ConvertIs (by_ticks f script (length out)) out r after) (sym e)
    (same_result _ _ out r after (sym (if_is_false (any_above 4294967295 (records_in Old script)) _ _ (old_fits_new script bytes))) p)

pub turned_back : (form : Form) (script out : List ℕ) (r : Result ℕ Refusal) (after : List ℕ) → form ≡ New → ConvertIs (by_ticks New script (length out)) out r after → ConvertIs (by_ticks form script (length out)) out r after
turned_back form script out r after e p = subst (λ (f : Form). ConvertIs (by_ticks f script (length out)) out r after) (sym e) p

-- ---- 16, or by the ticks

pub good_is : (form : Form) (script : List ℕ) (b : Bool) → b ≡ good_in form script → b ≡ true → good_in form script ≡ true
good_is form script b e f = sym e ∙ f

pub good_converted : (form : Form) (script out : List ℕ) (r : Result ℕ Refusal) (after : List ℕ) (b : Bool) → b ≡ good_in form script → b ≡ true
    → ConvertIs (by_ticks form script (length out)) out r after → ConvertIs (converted form script (length out)) out r after
good_converted form script out r after b e f h = same_result _ _ out r after (sym (if_is_true (good_in form script) _ _ (sym e ∙ f))) h

pub bad_converted : (form : Form) (script out : List ℕ) (b : Bool) → b ≡ good_in form script → b ≡ false → ConvertIs (converted form script (length out)) out (Err BadScript) out
bad_converted form script out b e f = refuses _ out BadScript (sym (if_is_false (good_in form script) _ _ (sym e ∙ f)))

-- ---- 24, or by the form

pub size_is : (size : ℕ) (script out : List ℕ) (form : Form) (s : Result Form Refusal) (r : Result ℕ Refusal) (after : List ℕ) → s ≡ Ok form → called_as s ≡ form_of size
    → ConvertIs (converted form script (length out)) out r after → ConvertIs (conversion size script (length out)) out r after
unfolding conversion
size_is size script out form s r after e q h = same_result _ _ out r after (ap (λ (x : Result Form Refusal). converted_in (called_as x) script (length out)) (sym e) ∙ ap (λ (c : Called Form). converted_in c script (length out)) q) h

pub size_refused : (size : ℕ) (script out : List ℕ) (why : Refusal) (s : Result Form Refusal) → s ≡ Err why → called_as s ≡ form_of size
    → ConvertIs (conversion size script (length out)) out (Err why) out
unfolding conversion
size_refused size script out why s e q = refuses _ out why (ap (λ (x : Result Form Refusal). converted_in (called_as x) script (length out)) (sym e) ∙ ap (λ (c : Called Form). converted_in c script (length out)) q)

pub ruleset converts = (refl, whole_old, whole_new, ticks_above, new_fits, into_old_is, good_new, turned_back, good_is, good_converted, bad_converted, size_is, size_refused)
