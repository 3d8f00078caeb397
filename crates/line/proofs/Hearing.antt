-- Theorem: the characters of a written frame, taken one a tick from the idle reader, tell nothing before the last, and at the last the message that was written, with its data in the buffer.
use Prim.Native.Nat.{ℕ, zero, suc, ◌+◌, ◌*◌, ◌-◌, ◌/◌, ◌%◌, ◌^◌, ◌≤◌, ◌<◌}
use native.Mathlib.Omega.{arith}
use native.Mathlib.Nat.{div-div-eq-div-mul}
use mathlib.Core.Path.{◌≡◌, refl, sym, ap, subst, ◌∙◌}
use mathlib.Core.Bool.{Bool, true, false}
use mathlib.Core.List.{List, [], ◌∷◌, ◌++◌, append_assoc}
use lib.ListN.{length}
use lib.Bits.{bit_xor, xor_self, xor_zero_l}
use borrow.Author.Tests.{eq-eqb}
use Rattle.base.specs.Choice.{when◌then◌else◌, ◌=?◌}
use Rattle.base.specs.Store.{stored}
use Rattle.base.proofs.Choices.{if_is_true, if_is_false, if_false, if_not_below, if_unequal, if_equal}
use Rattle.frame.specs.Delimiter.{is_type, delimiter_byte, delimiter_with}
use Rattle.frame.specs.Address.{largest_address, address_bytes}
use Rattle.frame.specs.Check.{xor_from, exclusive_or}
use Rattle.frame.specs.Frame.{too_few, header_bytes, protected_bytes, preamble_bytes}
use Rattle.frame.specs.declared.Header.{Header}
use Rattle.frame.proofs.Checks.{xor_append}
use Rattle.frame.proofs.Reread.{delimiter_back, delimiter_no_preamble, first, master_back, burst_back, bits_back}
use Rattle.line.specs.Reader.{tells, idle, blank, no_damage, taken, taken_data, begins, at_preamble, at_first, at_address, at_command, at_count, at_check, ended, with_check}
use Rattle.line.specs.declared.Event.TheVariants.{Frame}
use Rattle.line.specs.declared.Heard.TheVariants.{Character}
use Rattle.line.specs.declared.Place.TheVariants.{Preamble, First, Count}
use Rattle.line.specs.declared.Receiver.{Receiver}
use Rattle.line.specs.declared.Whole.{Whole}
use Rattle.line.proofs.Leads.{Leads, stays, hears, leads_on, preamble_leads, at_end, data_leads}

-- the reader behind a delimiter, and at the command, the byte count
abbrev opened : ℕ → Bool → ℕ → Receiver
opened frame long sum = record { place = First; header = record { kind = frame; long = long; primary = false; burst = false; address = 0; command = 0 }; expansion = 0; count = 0; sum = sum; damage = no_damage; gap = false }

abbrev at_count_with : Header → ℕ → Receiver
at_count_with h sum = record { place = Count; header = h; expansion = 0; count = 0; sum = sum; damage = no_damage; gap = false }

-- the delimiter
delimiter_leads : (b : List ℕ) (frame : ℕ) (long : Bool) → is_type frame ≡ true
    → Leads (blank (Preamble 2)) b (delimiter_byte frame long ∷ []) (opened frame long (delimiter_byte frame long)) b
unfolding taken taken_data at_preamble
delimiter_leads b frame long typed =
    let d : ℕ = delimiter_byte frame long in
    let at : begins d (delimiter_with frame long 0) ≡ taken (blank (Preamble 2)) (Character d) =
    if_unequal d 0xFF _ _ _ (delimiter_no_preamble frame long typed)
    (if_not_below 2 2 _ _ _ (omega arith) (ap (begins d) (sym (delimiter_back frame long typed)))) in
    hears (sym at) refl stays

-- what the address's bytes and the command give
heard_short : ℕ → ℕ → ℕ → Header
heard_short frame x command = record { kind = frame; long = false; primary = (x / 128 =? 1); burst = (x / 64 % 2 =? 1); address = x % 64; command = command }

short_leads : (b : List ℕ) (frame sum x command : ℕ) → Leads (opened frame false sum) b (x ∷ command ∷ []) (at_count_with (heard_short frame x command) (xor_from sum (x ∷ command ∷ []))) b
unfolding taken taken_data at_first at_command when◌then◌else◌ heard_short xor_from
short_leads b frame sum x command = hears refl refl (hears refl refl stays)

more : ℕ → ℕ → ℕ
more a c = a % 2 ^ 32 * 256 + c

heard_long : ℕ → ℕ → ℕ → ℕ → ℕ → ℕ → ℕ → Header
heard_long frame x b2 b3 b4 b5 command =
    record { kind = frame; long = true; primary = (x / 128 =? 1); burst = (x / 64 % 2 =? 1); address = more (more (more (more (x % 64) b2) b3) b4) b5; command = command }

long_leads : (b : List ℕ) (frame sum x b2 b3 b4 b5 command : ℕ)
    → Leads (opened frame true sum) b (x ∷ b2 ∷ b3 ∷ b4 ∷ b5 ∷ command ∷ []) (at_count_with (heard_long frame x b2 b3 b4 b5 command) (xor_from sum (x ∷ b2 ∷ b3 ∷ b4 ∷ b5 ∷ command ∷ []))) b
unfolding taken taken_data at_first at_address at_command when◌then◌else◌ heard_long more xor_from
long_leads b frame sum x b2 b3 b4 b5 command = hears refl refl (hears refl refl (hears refl refl (hears refl refl (hears refl refl (hears refl refl stays)))))

-- the address that its bytes give
more_byte : (x : ℕ) → x < 2 ^ 40 → more (x / 2 ^ 8) (x % 256) ≡ x
unfolding more
more_byte x h = omega arith

address_more : (a : ℕ) → a < 2 ^ 38 → more (more (more (more (a / 2 ^ 32) (a / 2 ^ 24 % 256)) (a / 2 ^ 16 % 256)) (a / 2 ^ 8 % 256)) (a % 256) ≡ a
address_more a h =
    let third : more (a / 2 ^ 32) (a / 2 ^ 24 % 256) ≡ a / 2 ^ 24 = ap (λ (n : ℕ). more n (a / 2 ^ 24 % 256)) (sym (div-div-eq-div-mul a (2 ^ 24) (2 ^ 8))) ∙ more_byte (a / 2 ^ 24) (omega arith) in
    let second : more (a / 2 ^ 24) (a / 2 ^ 16 % 256) ≡ a / 2 ^ 16 = ap (λ (n : ℕ). more n (a / 2 ^ 16 % 256)) (sym (div-div-eq-div-mul a (2 ^ 16) (2 ^ 8))) ∙ more_byte (a / 2 ^ 16) (omega arith) in
    let first : more (a / 2 ^ 16) (a / 2 ^ 8 % 256) ≡ a / 2 ^ 8 = ap (λ (n : ℕ). more n (a / 2 ^ 8 % 256)) (sym (div-div-eq-div-mul a (2 ^ 8) (2 ^ 8))) ∙ more_byte (a / 2 ^ 8) (omega arith) in
    ap (λ (n : ℕ). more (more (more n (a / 2 ^ 16 % 256)) (a / 2 ^ 8 % 256)) (a % 256)) third
    ∙ ap (λ (n : ℕ). more (more n (a / 2 ^ 8 % 256)) (a % 256)) second
    ∙ ap (λ (n : ℕ). more n (a % 256)) first
    ∙ more_byte a (omega arith)

-- behind the delimiter, address and command lead to the byte count, with the header that was written
AtCount : Header → List ℕ → Type 0
AtCount h b =
    Leads (opened h.kind h.long (delimiter_byte h.kind h.long)) b (address_bytes h ++ (h.command ∷ []))
    (at_count_with h (xor_from (delimiter_byte h.kind h.long) (address_bytes h ++ (h.command ∷ [])))) b

module _ (b : List ℕ) (frame : ℕ) (primary burst : Bool) (address command : ℕ) where
  header : Bool → Header
  header long = record { kind = frame; long = long; primary = primary; burst = burst; address = address; command = command }

  at_count_short : address ≤ 63 → AtCount (header false) b
  unfolding AtCount heard_short header when◌then◌else◌
  at_count_short small =
      let x : ℕ = first primary burst address in
      let below : address < 64 = omega arith in
      let p : (x / 128 =? 1) ≡ primary = master_back primary burst address below in
      let q : (x / 64 % 2 =? 1) ≡ burst = burst_back primary burst address below in
      let a : x % 64 ≡ address = bits_back primary burst address below in
      let d : ℕ = delimiter_byte frame false in
      let same : heard_short frame x command ≡ header false = λ i. record { kind = frame; long = false; primary = p i; burst = q i; address = a i; command = command } in
      subst (λ (h : Header). Leads (opened frame false d) b (x ∷ command ∷ []) (at_count_with h (xor_from d (x ∷ command ∷ []))) b) same (short_leads b frame d x command)

  at_count_long : address < 2 ^ 38 → AtCount (header true) b
  unfolding AtCount heard_long header when◌then◌else◌
  at_count_long small =
      let bits : ℕ = address / 2 ^ 32 in
      let x : ℕ = first primary burst bits in
      let b2 : ℕ = address / 2 ^ 24 % 256 in
      let b3 : ℕ = address / 2 ^ 16 % 256 in
      let b4 : ℕ = address / 2 ^ 8 % 256 in
      let b5 : ℕ = address % 256 in
      let below : bits < 64 = omega arith in
      let p : (x / 128 =? 1) ≡ primary = master_back primary burst bits below in
      let q : (x / 64 % 2 =? 1) ≡ burst = burst_back primary burst bits below in
      let a : more (more (more (more (x % 64) b2) b3) b4) b5 ≡ address =
      ap (λ (n : ℕ). more (more (more (more n b2) b3) b4) b5) (bits_back primary burst bits below) ∙ address_more address small in
      let d : ℕ = delimiter_byte frame true in
      let bytes : List ℕ = x ∷ b2 ∷ b3 ∷ b4 ∷ b5 ∷ command ∷ [] in
      let same : heard_long frame x b2 b3 b4 b5 command ≡ header true = λ i. record { kind = frame; long = true; primary = p i; burst = q i; address = a i; command = command } in
      subst (λ (h : Header). Leads (opened frame true d) b bytes (at_count_with h (xor_from d bytes)) b) same (long_leads b frame d x b2 b3 b4 b5 command)

at_count_lem : (h : Header) (b : List ℕ) → h.address ≤ largest_address h.long → AtCount h b
unfolding header
at_count_lem h b small = go h.long refl
  where
    go : (l : Bool) → h.long ≡ l → AtCount h b
    go true e =
        let same : h ≡ header b h.kind h.primary h.burst h.address h.command true =
        λ i. record { kind = h.kind; long = e i; primary = h.primary; burst = h.burst; address = h.address; command = h.command } in
        subst (λ (g : Header). AtCount g b) (sym same) (at_count_long b h.kind h.primary h.burst h.address h.command (omega (arith, if_is_true {A = ℕ} h.long (2 ^ 38 - 1) 63 e)))
    go false e =
        let same : h ≡ header b h.kind h.primary h.burst h.address h.command false =
        λ i. record { kind = h.kind; long = e i; primary = h.primary; burst = h.burst; address = h.address; command = h.command } in
        subst (λ (g : Header). AtCount g b) (sym same) (at_count_short b h.kind h.primary h.burst h.address h.command (omega (arith, if_is_false {A = ℕ} h.long (2 ^ 38 - 1) 63 e)))

-- the byte count and the data
count_leads : (h : Header) (sum : ℕ) (b bytes : List ℕ) → too_few h.kind (length bytes) ≡ false → length bytes ≤ 255
    → Leads (at_count_with h sum) b (length bytes ∷ bytes) (at_end h 0 (length bytes) (xor_from sum (length bytes ∷ bytes))) (stored b 0 bytes)
unfolding taken taken_data at_count xor_from stored
count_leads h sum b [] enough small = hears (sym (if_false (too_few h.kind 0) _ _ _ enough (if_equal 0 0 _ _ _ refl refl))) refl stays
count_leads h sum b (c ∷ cs) enough small =
    let n : ℕ = length (c ∷ cs) in
    hears (sym (if_false (too_few h.kind n) _ _ _ enough (if_unequal n 0 _ _ _ (omega arith) refl))) refl
    (data_leads h 0 n 0 (bit_xor sum n) b c cs (omega arith) small)

-- the protected bytes, as the reader goes through them
regroup : (h : Header) (bytes : List ℕ)
    → protected_bytes h bytes ≡ delimiter_byte h.kind h.long ∷ ((address_bytes h ++ (h.command ∷ [])) ++ (length bytes ∷ bytes))
unfolding protected_bytes header_bytes
regroup h bytes =
    let tail : List ℕ = length bytes ∷ bytes in
    ap (λ (l : List ℕ). delimiter_byte h.kind h.long ∷ l)
    (append_assoc (address_bytes h) (h.command ∷ length bytes ∷ []) bytes ∙ sym (append_assoc (address_bytes h) (h.command ∷ []) tail))

sum_is : (h : Header) (bytes : List ℕ)
    → xor_from (xor_from (delimiter_byte h.kind h.long) (address_bytes h ++ (h.command ∷ []))) (length bytes ∷ bytes) ≡ exclusive_or (protected_bytes h bytes)
unfolding xor_from
sum_is h bytes =
    let d : ℕ = delimiter_byte h.kind h.long in
    sym (xor_append d (address_bytes h ++ (h.command ∷ [])) (length bytes ∷ bytes))
    ∙ ap (λ (x : ℕ). xor_from x ((address_bytes h ++ (h.command ∷ [])) ++ (length bytes ∷ bytes))) (sym (xor_zero_l d))
    ∙ ap exclusive_or (sym (regroup h bytes))

-- a message that can be heard: the fields of a frame that can be written, whatever its preamble
pub record Heard (h : Header) (bytes : List ℕ) : Type 0 where
  pub typed : is_type h.kind ≡ true
  pub address_high : h.address ≤ largest_address h.long
  pub count_high : length bytes ≤ 255
  pub enough : too_few h.kind (length bytes) ≡ false

abbrev pub whole_message : Header → List ℕ → Whole
whole_message h bytes = record { header = h; expansion = 0; count = length bytes }

-- the reader before the check byte
abbrev pub before_check : Header → List ℕ → Receiver
before_check h bytes = at_end h 0 (length bytes) (exclusive_or (protected_bytes h bytes))

-- the theorem: all characters but the last
pub frame_leads : (preamble : ℕ) (h : Header) (bytes b : List ℕ) → 2 ≤ preamble → Heard h bytes
    → Leads idle b (preamble_bytes preamble ++ protected_bytes h bytes) (before_check h bytes) (stored b 0 bytes)
unfolding AtCount
frame_leads preamble h bytes b two ok = go preamble two
  where
    body : Leads (blank (Preamble 2)) b (protected_bytes h bytes) (before_check h bytes) (stored b 0 bytes)
    body =
        subst (λ (l : List ℕ). Leads (blank (Preamble 2)) b l (before_check h bytes) (stored b 0 bytes)) (sym (regroup h bytes))
        (subst (λ (x : ℕ). Leads (blank (Preamble 2)) b (delimiter_byte h.kind h.long ∷ ((address_bytes h ++ (h.command ∷ [])) ++ (length bytes ∷ bytes))) (at_end h 0 (length bytes) x) (stored b 0 bytes)) (sum_is h bytes)
        (leads_on (delimiter_leads b h.kind h.long ok.typed)
        (leads_on (at_count_lem h b ok.address_high) (count_leads h _ b bytes ok.enough ok.count_high))))

    go : (n : ℕ) → 2 ≤ n → Leads idle b (preamble_bytes n ++ protected_bytes h bytes) (before_check h bytes) (stored b 0 bytes)
    go zero l = absurd (omega arith)
    go (suc zero) l = absurd (omega arith)
    go (suc (suc n)) l = leads_on (preamble_leads b n) body

-- the theorem: the last character
pub frame_told : (h : Header) (bytes : List ℕ) → taken (before_check h bytes) (Character (exclusive_or (protected_bytes h bytes))) ≡ tells idle (Frame (whole_message h bytes))
unfolding taken at_check when◌then◌else◌
frame_told h bytes =
    let x : ℕ = exclusive_or (protected_bytes h bytes) in
    let right : (bit_xor x x =? 0) ≡ true = eq-eqb (bit_xor x x) 0 (xor_self x) in
    ap (λ (t : Bool). tells idle (ended (whole_message h bytes) (with_check no_damage (when t then false else true)))) right
