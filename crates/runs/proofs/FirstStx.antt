-- Theorem: the first character that a master sends from the tick on in which its message was accepted is 0xFF, the first of the message's first STX.
use Prim.Native.Nat.{ℕ, zero, suc, ◌+◌, ◌-◌, ◌≤◌}
use native.Mathlib.Omega.{arith}
use mathlib.Core.Path.{◌≡◌, refl, sym, ap, subst, ◌∙◌}
use mathlib.Core.Bool.{Bool, true, false}
use mathlib.Core.List.{List, [], ◌∷◌, ◌++◌}
use lib.ListN.{length, drop}
use Rattle.frame.specs.Frame.{frame_bytes, preamble_bytes, body_bytes}
use Rattle.frame.proofs.Taken.{taken}
use Rattle.line.specs.declared.Heard.{Heard}
use Rattle.line.specs.declared.Profile.{Profile}
use Rattle.turns.specs.Party.{is_broadcast}
use Rattle.turns.specs.Link.{MasterCall, requests, MasterSide, MasterStep, master_tick, Link, LinkStep, Calls, link_after}
use Rattle.turns.specs.Run.{MasterStarts}
use Rattle.turns.specs.Demand3 as D
use Rattle.turns.specs.Demand3.{master_in, AcceptedIn}
use Rattle.runs.specs.Late.{late_master, late_tick, late_run, FirstStxInALateRun}
use Rattle.turns.specs.Gaps.{IsFrame}
use Rattle.turns.specs.Attempts as Q
use Rattle.turns.specs.Attempts.{MessageLog, no_message, in_hand, stx_header, Reports, no_report, is_answered, is_given_up, is_sent_once, behind_report, Asked, asks_nothing, Sends}
use Rattle.runs.specs.FirstStx as F
use Rattle.runs.specs.FirstStx.{call_in, GoesOut, FirstStx, FirstStxIn, FirstStxInARun, CharacterIsFirst}
use Rattle.turns.specs.declared.CallResult.{CallResult}
use Rattle.turns.specs.declared.Request.{Request}
use Rattle.turns.specs.declared.Sent.{Sent}
use Rattle.turns.specs.declared.Master.{Master}
use Rattle.turns.specs.declared.MasterTold.{MasterTold}
use Rattle.turns.proofs.Attempts.{Phase, is_free, Ticks, ticks}
use Rattle.turns.proofs.Listening.{frame_room}
use Rattle.turns.proofs.Fresh.{master_is}
use Rattle.runs.proofs.Late.{common_start}

-- ---- the log of a message whose first STX is to come, or is being sent

-- every frame begins with a preamble
frame_first : {c : ℕ} {left : List ℕ} → IsFrame (c ∷ left) → c ≡ 0xFF
unfolding frame_bytes preamble_bytes
frame_first {c} {left} f = go f.preamble (taken f.preamble f.header (length f.bytes) (length (c ∷ left)) 0 (length (c ∷ left)) f.taken_by_writer).fits.preamble_low f.written
  where
    go : (n : ℕ) → 5 ≤ n → c ∷ left ≡ preamble_bytes n ++ body_bytes f.header f.bytes → c ≡ 0xFF
    go zero low e = absurd (omega arith)
    go (suc n) low e = cc

none_stays : {told : MasterTold} {w : List ℕ} {b : Bool} → {retries : ℕ} → Reports retries (in_hand w b [] 0) told → told ≡ MasterTold.Nothing
none_stays no_report = refl
none_stays (is_answered w some) = absurd (omega arith)
none_stays (is_given_up e) = absurd (omega arith)
none_stays (is_sent_once e) = absurd (omega arith)

inside_stays : {told : MasterTold} {w left : List ℕ} {b : Bool} {n c : ℕ} {retries : ℕ} → Reports retries (in_hand w b (c ∷ left) n) told → told ≡ MasterTold.Nothing
inside_stays no_report = refl

-- no request is taken while it is in hand
asked_stays : {primary : Bool} {call : MasterCall} {result : CallResult} {w left : List ℕ} {b : Bool} {n : ℕ} {asked : MessageLog} → Asked primary call result (in_hand w b left n) asked → asked ≡ in_hand w b left n
asked_stays asks_nothing = refl
asked_stays Q.is_refused = refl

-- a request that was taken
asked_taken : {primary : Bool} {q : Request} {put : List ℕ} {g asked : MessageLog} → Asked primary (requests q put) CallResult.Taken g asked → asked ≡ in_hand (frame_bytes q.preamble (stx_header primary q) put) (is_broadcast (stx_header primary q)) [] 0
asked_taken Q.is_taken = refl

data First (w : List ℕ) (b : Bool) : Sent → MessageLog → Type 0 where
  rests_on : First w b Sent.Silent (in_hand w b [] 0)
  begins_with : {left : List ℕ} → w ≡ 0xFF ∷ left → First w b (Sent.Character 0xFF) (in_hand w b left 0)

first_view : {retries : ℕ} {w : List ℕ} {b : Bool} {sent : Sent} {after : MessageLog} → Sends retries (in_hand w b [] 0) sent after → First w b sent after
first_view Q.rests = rests_on
first_view {b = b} (Q.begins {c} {left} f most) = go c (frame_first f)
  where
    go : (c : ℕ) → c ≡ 0xFF → First (c ∷ left) b (Sent.Character c) (in_hand (c ∷ left) b left 0)
    go c e = subst (λ (z : ℕ). First (z ∷ left) b (Sent.Character z) (in_hand (z ∷ left) b left 0)) (sym e) (begins_with refl)

data Next (w : List ℕ) (b : Bool) (n c : ℕ) (left : List ℕ) : Sent → MessageLog → Type 0 where
  goes_to : (m : ℕ) → Next w b n c left (Sent.Character c) (in_hand w b left m)

next_view : {retries : ℕ} {w left : List ℕ} {b : Bool} {n c : ℕ} {sent : Sent} {after : MessageLog} → Sends retries (in_hand w b (c ∷ left) n) sent after → Next w b n c left sent after
next_view {n = n} Q.goes_on = goes_to n
next_view {n = n} Q.ends = goes_to (n + 1)

-- ---- a master in the link

abbrev side_in : Bool → Link → MasterSide
side_in true l = l.primary
side_in false l = l.secondary

none_more : {A : Type 0} {y : A} {ys : List A} → [] ≡ y ∷ ys → ⊥
none_more e = let z : ◌≡◌ {A = ℕ} 0 1 = cc in omega arith

head_is : {A : Type 0} {x y : A} {xs ys : List A} → x ∷ xs ≡ y ∷ ys → x ≡ y
head_is e = cc

side_in_lem : (primary : Bool) (s : LinkStep) → side_in primary (link_after s) ≡ (master_in primary s).side
side_in_lem true s = refl
side_in_lem false s = refl

-- the ticks until it starts
abbrev until_in : Bool → ℕ → ℕ → ℕ
until_in true i j = i
until_in false i j = j

later_on : (primary : Bool) (i j : ℕ) → until_in primary i j ≡ 0 → until_in primary (i - 1) (j - 1) ≡ 0
later_on true i j e = omega (arith, e)
later_on false i j e = omega (arith, e)

none_taken : CallResult.Nothing ≡ CallResult.Taken → ⊥
none_taken e = let z : ◌≡◌ {A = ℕ} 0 1 = cc in omega arith

module _ (limit : ℕ) (small : limit ≤ 255) (retries : ℕ) where
  record Stands (primary : Bool) (log : MessageLog) (x : MasterSide) : Type 0 where
    bit : x.master.primary ≡ primary
    same : x.master.retries ≡ retries
    room : 284 ≤ length x.frame
    phase : Phase retries x.frame x.master.message log

  record TicksIn (primary : Bool) (call : MasterCall) (log : MessageLog) (step : MasterStep) : Type 0 where
    does : Ticks limit primary retries small call log step
    stands : Stands primary does.after step.side

  alone : (primary : Bool) (x : MasterSide) (heard : Heard) (call : MasterCall) (log : MessageLog) → Stands primary log x → TicksIn primary call log (master_tick limit x heard call)
  alone primary x heard call log s =
      let t = ticks limit primary retries small x log heard call s.bit s.same s.room s.phase in
      record { does = t; stands = record { bit = t.same_primary; same = t.same_retries; room = omega (arith, s.room, frame_room limit x heard call); phase = t.phase } }

  ticks_in : (primary : Bool) (i j : ℕ) (l : Link) (c : Calls) (log : MessageLog) → until_in primary i j ≡ 0 → Stands primary log (side_in primary l) → TicksIn primary (call_in primary c) log (master_in primary (late_tick limit i j l c))
  unfolding late_tick
  ticks_in true i j l c log e s = subst (λ (n : ℕ). TicksIn true c.for_primary log (late_master limit n l.primary l.line c.for_primary)) (sym e) (alone true l.primary l.line c.for_primary log s)
  ticks_in false i j l c log e s = subst (λ (n : ℕ). TicksIn false c.for_secondary log (late_master limit n l.secondary l.line c.for_secondary)) (sym e) (alone false l.secondary l.line c.for_secondary log s)

  -- the link behind the tick
  stands_after : (primary : Bool) (i j : ℕ) (l : Link) (c : Calls) (log : MessageLog) → Stands primary log (master_in primary (late_tick limit i j l c)).side → Stands primary log (side_in primary (link_after (late_tick limit i j l c)))
  stands_after primary i j l c log s = subst (Stands primary log) (sym (side_in_lem primary (late_tick limit i j l c))) s

  -- with a message in hand that is not reported, nothing else is asked
  sends_of : {primary : Bool} {call : MasterCall} {w left : List ℕ} {b : Bool} {n : ℕ} {step : MasterStep} (t : Ticks limit primary retries small call (in_hand w b left n) step) → step.told ≡ MasterTold.Nothing
      → Sends retries (in_hand w b left n) step.sent t.after
  sends_of {primary} {call} {w} {left} {b} {n} {step} t e =
      subst (λ (g : MessageLog). Sends retries g step.sent t.after) (asked_stays (subst (λ (told : MasterTold). Asked primary call step.result (behind_report told (in_hand w b left n)) t.asked) e t.is_asked)) t.sends

  goes_out : (primary : Bool) (i j : ℕ) (l : Link) (ticks : List Calls) (w : List ℕ) (b : Bool) (left : List ℕ) (n : ℕ) → until_in primary i j ≡ 0 → Stands primary (in_hand w b left n) (side_in primary l) → GoesOut primary left (late_run limit i j l ticks)
  unfolding late_run
  goes_out primary i j l [] w b left n o s = F.list_ends
  goes_out primary i j l (c ∷ cs) w b [] n o s = F.is_out
  goes_out primary i j l (c ∷ cs) w b (e ∷ left) n o s = go (next_view (sends_of t.does (inside_stays t.does.reports))) refl t.stands (λ m z. goes_out primary (i - 1) (j - 1) (link_after (late_tick limit i j l c)) cs w b left m (later_on primary i j o) z)
    where
      t : TicksIn primary (call_in primary c) (in_hand w b (e ∷ left) n) (master_in primary (late_tick limit i j l c))
      t = ticks_in primary i j l c (in_hand w b (e ∷ left) n) o s

      go : {sent : Sent} {after : MessageLog} → Next w b n e left sent after → (master_in primary (late_tick limit i j l c)).sent ≡ sent → Stands primary after (master_in primary (late_tick limit i j l c)).side
          → ((m : ℕ) → Stands primary (in_hand w b left m) (side_in primary (link_after (late_tick limit i j l c))) → GoesOut primary left (late_run limit (i - 1) (j - 1) (link_after (late_tick limit i j l c)) cs))
          → GoesOut primary (e ∷ left) (late_tick limit i j l c ∷ late_run limit (i - 1) (j - 1) (link_after (late_tick limit i j l c)) cs)
      go (goes_to m) q z on = F.next q (on m (stands_after primary i j l c _ z))

  -- behind a tick of a message that is in hand, with no STX sent before
  behind_first : (primary : Bool) (i j : ℕ) (l : Link) (c : Calls) (cs : List Calls) (w : List ℕ) (b : Bool) {sent : Sent} {after : MessageLog} → until_in primary i j ≡ 0 → First w b sent after → (master_in primary (late_tick limit i j l c)).sent ≡ sent
      → Stands primary after (master_in primary (late_tick limit i j l c)).side
      → (Stands primary (in_hand w b [] 0) (side_in primary (link_after (late_tick limit i j l c))) → FirstStx primary w (late_run limit (i - 1) (j - 1) (link_after (late_tick limit i j l c)) cs))
      → FirstStx primary w (late_tick limit i j l c ∷ late_run limit (i - 1) (j - 1) (link_after (late_tick limit i j l c)) cs)
  behind_first primary i j l c cs w b o rests_on q z on = F.waits q (on (stands_after primary i j l c _ z))
  behind_first primary i j l c cs w b o (begins_with {left} e) q z on =
      subst (λ (v : List ℕ). FirstStx primary v (late_tick limit i j l c ∷ late_run limit (i - 1) (j - 1) (link_after (late_tick limit i j l c)) cs)) (sym e)
      (F.begins q (goes_out primary (i - 1) (j - 1) (link_after (late_tick limit i j l c)) cs w b left 0 (later_on primary i j o) (stands_after primary i j l c _ z)))

  first_run : (primary : Bool) (i j : ℕ) (l : Link) (ticks : List Calls) (w : List ℕ) (b : Bool) → until_in primary i j ≡ 0 → Stands primary (in_hand w b [] 0) (side_in primary l) → FirstStx primary w (late_run limit i j l ticks)
  unfolding late_run
  first_run primary i j l [] w b o s = F.list_ends
  first_run primary i j l (c ∷ cs) w b o s =
      let t = ticks_in primary i j l c (in_hand w b [] 0) o s in
      behind_first primary i j l c cs w b o (first_view (sends_of t.does (none_stays t.does.reports))) refl t.stands (λ z. first_run primary (i - 1) (j - 1) (link_after (late_tick limit i j l c)) cs w b (later_on primary i j o) z)

  -- the tick of acceptance
  at_tick : (primary : Bool) (i j : ℕ) (l : Link) (c : Calls) (cs : List Calls) (log : MessageLog) (q : Request) (put : List ℕ) → until_in primary i j ≡ 0 → Stands primary log (side_in primary l) → call_in primary c ≡ requests q put → AcceptedIn primary (late_tick limit i j l c)
      → FirstStx primary (frame_bytes q.preamble (stx_header primary q) put) (late_tick limit i j l c ∷ late_run limit (i - 1) (j - 1) (link_after (late_tick limit i j l c)) cs)
  at_tick primary i j l c cs log q put o s e acc =
      let t = ticks_in primary i j l c log o s in
      let step : MasterStep = master_in primary (late_tick limit i j l c) in
      let asked = asked_taken (subst (λ (a : CallResult). Asked primary (requests q put) a (behind_report step.told log) t.does.asked) acc (subst (λ (k : MasterCall). Asked primary k step.result (behind_report step.told log) t.does.asked) e t.does.is_asked)) in
      behind_first primary i j l c cs _ (is_broadcast (stx_header primary q)) o (first_view (subst (λ (g : MessageLog). Sends retries g step.sent t.does.after) asked t.does.sends)) refl t.stands
      (λ z. first_run primary (i - 1) (j - 1) (link_after (late_tick limit i j l c)) cs _ (is_broadcast (stx_header primary q)) (later_on primary i j o) z)

  -- a master that has not started takes no request, and stays as it is
  off_tick : (primary : Bool) (i j n : ℕ) (l : Link) (c : Calls) → until_in primary i j ≡ suc n → master_in primary (late_tick limit i j l c) ≡ record { side = side_in primary l; sent = Sent.Silent; told = MasterTold.Nothing; result = CallResult.Nothing }
  unfolding late_tick
  off_tick true i j n l c e = ap (λ (m : ℕ). late_master limit m l.primary l.line c.for_primary) e
  off_tick false i j n l c e = ap (λ (m : ℕ). late_master limit m l.secondary l.line c.for_secondary) e

  at_any : (primary : Bool) (i j : ℕ) (l : Link) (c : Calls) (cs : List Calls) (log : MessageLog) (q : Request) (put : List ℕ) → Stands primary log (side_in primary l) → call_in primary c ≡ requests q put → AcceptedIn primary (late_tick limit i j l c)
      → FirstStx primary (frame_bytes q.preamble (stx_header primary q) put) (late_tick limit i j l c ∷ late_run limit (i - 1) (j - 1) (link_after (late_tick limit i j l c)) cs)
  at_any primary i j l c cs log q put s e acc = go (until_in primary i j) refl
    where
      go : (n : ℕ) → until_in primary i j ≡ n → FirstStx primary (frame_bytes q.preamble (stx_header primary q) put) (late_tick limit i j l c ∷ late_run limit (i - 1) (j - 1) (link_after (late_tick limit i j l c)) cs)
      go zero o = at_tick primary i j l c cs log q put o s e acc
      go (suc n) o = absurd (none_taken (ap (λ (m : MasterStep). m.result) (sym (off_tick primary i j n l c o)) ∙ acc))

  record StandsNext (primary : Bool) (i j : ℕ) (l : Link) (c : Calls) : Type 0 where
    log : MessageLog
    stands : Stands primary log (side_in primary (link_after (late_tick limit i j l c)))

  next_stands : (primary : Bool) (i j : ℕ) (l : Link) (c : Calls) (log : MessageLog) → Stands primary log (side_in primary l) → StandsNext primary i j l c
  next_stands primary i j l c log s = go (until_in primary i j) refl
    where
      go : (n : ℕ) → until_in primary i j ≡ n → StandsNext primary i j l c
      go zero o = let t = ticks_in primary i j l c log o s in record { log = t.does.after; stands = stands_after primary i j l c _ t.stands }
      go (suc n) o = record { log = log; stands = stands_after primary i j l c log (subst (Stands primary log) (ap (λ (m : MasterStep). m.side) (sym (off_tick primary i j n l c o))) s) }

  found : (primary : Bool) (t i j : ℕ) (l : Link) (ticks : List Calls) (c : Calls) (later : List Calls) (s : LinkStep) (after : List LinkStep) (q : Request) (put : List ℕ) (log : MessageLog) → Stands primary log (side_in primary l)
      → drop t ticks ≡ c ∷ later → drop t (late_run limit i j l ticks) ≡ s ∷ after → call_in primary c ≡ requests q put → AcceptedIn primary s → FirstStx primary (frame_bytes q.preamble (stx_header primary q) put) (s ∷ after)
  unfolding late_run
  found primary zero i j l [] c later s after q put log z e f call acc = absurd (none_more e)
  found primary (suc t) i j l [] c later s after q put log z e f call acc = absurd (none_more e)
  found primary zero i j l (d ∷ ds) c later s after q put log z e f call acc =
      subst (FirstStx primary (frame_bytes q.preamble (stx_header primary q) put)) f
      (at_any primary i j l d ds log q put z (ap (call_in primary) (head_is e) ∙ call) (subst (AcceptedIn primary) (sym (head_is f)) acc))
  found primary (suc t) i j l (d ∷ ds) c later s after q put log z e f call acc =
      let a = next_stands primary i j l d log z in found primary t (i - 1) (j - 1) (link_after (late_tick limit i j l d)) ds c later s after q put a.log a.stands e f call acc

  fresh : {p : Profile} (primary : Bool) (x : MasterSide) → MasterStarts p primary retries x → Stands primary no_message x
  fresh {p} primary x s =
      let e = master_is p primary retries x.master s.starts in
      record { bit = ap (λ (m : Master). m.primary) e; same = ap (λ (m : Master). m.retries) e; room = s.room; phase = is_free (ap (λ (m : Master). m.message.stage) e) }

  fresh_in : {p : Profile} (primary : Bool) (l : Link) → MasterStarts p true retries l.primary → MasterStarts p false retries l.secondary → Stands primary no_message (side_in primary l)
  fresh_in true l x y = fresh true l.primary x
  fresh_in false l x y = fresh false l.secondary y

pub first_stx_late : (limit : ℕ) → limit ≤ 255 → FirstStxInALateRun limit
first_stx_late limit small p retries a b l ticks x y primary t c later s after q put e f call acc =
    found limit small retries primary t a b l ticks c later s after q put no_message (fresh_in limit small retries primary l x y) e f call acc

pub first_stx : (limit : ℕ) → limit ≤ 255 → FirstStxInARun limit
first_stx limit small p retries l ticks s = subst (FirstStxIn ticks) (common_start limit l ticks) (first_stx_late limit small p retries 0 0 l ticks s.primary s.secondary)

-- ---- the character that BeginsWithin speaks of

silent_character : {c : ℕ} → Sent.Silent ≡ Sent.Character c → ⊥
silent_character e = let z : ◌≡◌ {A = ℕ} 0 1 = cc in omega arith

same_character : {c d : ℕ} → Sent.Character c ≡ Sent.Character d → c ≡ d
same_character e = cc

pub character_is_first : CharacterIsFirst
character_is_first primary n stx ss (F.waits e f) (D.begins m c z) = absurd (silent_character (sym e ∙ z))
character_is_first primary n stx ss (F.waits e f) (D.waits z b) = character_is_first primary _ stx _ f b
character_is_first primary n stx ss (F.begins e g) (D.begins m c z) = same_character (sym z ∙ e)
character_is_first primary n stx ss (F.begins e g) (D.waits z b) = absurd (silent_character (sym z ∙ e))
character_is_first primary n _ _ (Rattle.runs.specs.FirstStx.list_ends {stx = stx}) b = elim b [ ]
