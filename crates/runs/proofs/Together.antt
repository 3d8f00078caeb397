-- "each command 11": in every tick of a run under demand 3's premises all devices are told the same command 11 by broadcast, or none is told one. So no entry in the ledgers outlives the command 11 that it answers.
use Prim.Native.Nat.{ℕ, suc, ◌-◌, ◌≤◌, ◌<◌}
use native.Mathlib.Omega.{arith}
use mathlib.Core.Path.{◌≡◌, refl, sym, ap, subst, ◌∙◌}
use mathlib.Core.Bool.{Bool, true, false}
use mathlib.Core.List.{List, [], ◌∷◌}
use mathlib.Core.Logic.{◌⊎◌, inl, inr}
use lib.ListN.{length, take, get_or}
use borrow.Author.Tests.{eq-eqb}
use Rattle.base.specs.Refusal.{Called, accepted, refused}
use Rattle.base.specs.Choice.{◌=?◌}
use Rattle.base.proofs.Choices.{if_is_true, if_is_false}
use Rattle.frame.specs.Delimiter.{stx}
use Rattle.frame.specs.declared.Header.{Header}
use Rattle.line.specs.Reader.{idle, tells, taken, inside_frame}
use Rattle.line.specs.declared.Event.TheVariants.{Nothing, Frame}
use Rattle.line.specs.declared.Heard.{Heard}
use Rattle.line.specs.declared.Heard.TheVariants.{Silence, Character}
use Rattle.line.specs.declared.Profile.{Profile}
use Rattle.line.specs.declared.Receiver.{Receiver}
use Rattle.line.specs.declared.Taken.{Taken}
use Rattle.line.specs.declared.Whole.{Whole}
use Rattle.line.proofs.Leads.{reader_after}
use Rattle.turns.specs.Party.{is_broadcast, seeks_tag}
use Rattle.turns.specs.Device.{may_answer, on_silence, on_character, after_frame, device_takes, answered, answer_frame, content_given}
use Rattle.turns.specs.Link.{DeviceCall, no_call, gives_answer, gives_content, MasterSide, DeviceSide, DeviceStep, Link, LinkStep, Calls, answer_called, content_called, device_tick, device_ticks, device_data, heard_frame, link_tick, link_after, run}
use Rattle.turns.specs.Run.{All, none, and, DeviceStarts, EachTick, no_tick, tick_and}
use Rattle.turns.specs.Ledgers.{Ledger, blank, told_by, called_by, ledgers_after}
use Rattle.runs.specs.Credit.{closed}
use Rattle.turns.specs.Demand3.{Premises}
use Rattle.turns.specs.declared.Device.{Device}
use Rattle.turns.specs.declared.DeviceTaken.{DeviceTaken}
use Rattle.turns.specs.declared.DeviceTold.{DeviceTold}
use Rattle.turns.specs.declared.DeviceTold.TheVariants.{Request, Broadcast}
use Rattle.turns.proofs.Bursting.{if_both}
use Rattle.turns.proofs.Spoken.{Spoken}
use Rattle.turns.proofs.Phases.{OneOf}
use Rattle.turns.proofs.Sending.{MasterPlace}
use Rattle.turns.proofs.Sending as S
use Rattle.runs.proofs.Beginning.{DeviceSpeaks, DeviceHears}
use Rattle.turns.proofs.DeviceSpeaking.{Frames, an_ack, a_back}
use Rattle.turns.proofs.DeviceTaking.{takes_nothing}
use Rattle.runs.proofs.SilentTick.{FrameIs, is_ack, is_back}
use Rattle.runs.proofs.AckBack.{spoken_of, place_of}
use Rattle.runs.proofs.Booked.{one_all}
use Rattle.turns.proofs.Windows.{Valid}
use Rattle.turns.proofs.Fresh.{valid, device_is}
use Rattle.runs.proofs.Fair.{Fair}
use Rattle.runs.proofs.Tags.{fair_run}
use Rattle.runs.proofs.NoTwoSend.{Phase, silent, primary_sends, secondary_sends, ack_sent, back_sent, heard_tick, tick_is, phase_tick, phase_first}
use Rattle.turns.specs.declared.Change.{Change}

-- ---- what the hosts are told in a tick

pub data EachTold (P : DeviceTold → Type 0) : List DeviceStep → Type 0 where
  no_device : EachTold P []
  told_and : {s : DeviceStep} {ss : List DeviceStep} → P s.told → EachTold P ss → EachTold P (s ∷ ss)

-- no command 11 by broadcast
abbrev pub NoTag : DeviceTold → Type 0
NoTag t = (w : Whole) → t ≡ Request w → seeks_tag w.header ≡ false

pub data ToldTogether (ss : List DeviceStep) : Type 0 where
  all_told : (w : Whole) → seeks_tag w.header ≡ true → EachTold (λ (t : DeviceTold). t ≡ Request w) ss → ToldTogether ss
  none_told : EachTold NoTag ss → ToldTogether ss

-- ---- a device by itself

no_request : NoTag DeviceTold.Nothing
no_request w e = absurd (let z : ◌≡◌ {A = ℕ} 0 1 = cc in omega arith)

is_nothing : {t : DeviceTold} → t ≡ DeviceTold.Nothing → NoTag t
is_nothing e = subst NoTag (sym e) no_request

same_request : (v w : Whole) → Request v ≡ Request w → v ≡ w
same_request v w e = ap by e
  where
    by : DeviceTold → Whole
    by DeviceTold.Nothing = v
    by (Request x) = x
    by (Broadcast x) = x

-- its host's call does not change what it is told
pub tick_told : (limit : ℕ) (x : DeviceSide) (heard : Heard) (call : DeviceCall) → (device_tick limit x heard call).told ≡ (device_takes x.device heard).told
unfolding device_tick
tick_told limit x heard no_call = refl
tick_told limit x heard (gives_answer wish put) = go (answered limit (device_takes x.device heard).device wish (length put))
  where
    go : (c : Called Device) → (answer_called c (device_takes x.device heard).device (answer_frame (device_takes x.device heard).device wish put (heard_frame x heard)) (heard_frame x heard) (device_data x heard) x.contents (device_takes x.device heard).told).told ≡ (device_takes x.device heard).told
    go (accepted d) = refl
    go (refused why) = refl
tick_told limit x heard (gives_content command put) = go (content_given limit (device_takes x.device heard).device command (length put))
  where
    go : (c : Called Device) → (content_called c (device_takes x.device heard).device put (heard_frame x heard) (device_data x heard) x.contents (device_takes x.device heard).told).told ≡ (device_takes x.device heard).told
    go (accepted d) = refl
    go (refused why) = refl

module _ (d : Device) where
  deaf_told : (heard : Heard) → d.deaf ≡ true → NoTag (device_takes d heard).told
  deaf_told heard e = is_nothing (ap (λ (t : DeviceTaken). t.told) (takes_nothing d heard e))

  nobody_told : DeviceTaken → Type 0
  nobody_told t = NoTag t.told

  silence_told : (r : Receiver) → nobody_told (on_silence d r)
  unfolding nobody_told
  silence_told r = if_both nobody_told (inside_frame d.receiver.place) _ _ (if_both nobody_told d.receiver.gap _ _ no_request no_request) no_request

  hears_silence : NoTag (device_takes d Silence).told
  unfolding device_takes nobody_told
  hears_silence = if_both nobody_told d.deaf _ _ no_request (silence_told (taken d.receiver Silence).receiver)

  -- what a listening device makes of a character
  hears_character : (c : ℕ) (t : Taken) → d.deaf ≡ false → taken d.receiver (Character c) ≡ t → device_takes d (Character c) ≡ on_character d t.receiver t.event
  unfolding device_takes
  hears_character c t e q = if_is_false d.deaf _ _ e ∙ ap (λ (z : Taken). on_character d z.receiver z.event) q

  -- every device may answer a command 11
  stx_told : (w : Whole) → w.header.kind ≡ stx → w.expansion ≡ 0 → seeks_tag w.header ≡ true → (after_frame d w).told ≡ Request w
  stx_told w type none_more tag =
      ap (λ (c : Change). c.told)
      (if_is_true (w.header.kind =? stx) _ _ (eq-eqb w.header.kind stx type)
      ∙ (if_is_true (w.expansion =? 0) _ _ (eq-eqb w.expansion 0 none_more) ∙ if_is_true (may_answer d w.header) _ _ (if_is_true (seeks_tag w.header) true _ tag)))

  other_told : (w : Whole) → seeks_tag w.header ≡ false → NoTag (after_frame d w).told
  other_told w other =
      let P : Change → Type 0 = λ c. NoTag c.told in
      if_both P (w.header.kind =? stx) _ _
      (if_both P (w.expansion =? 0) _ _
      (if_both P (may_answer d w.header) _ _ (λ v e. ap (λ (z : Whole). seeks_tag z.header) (sym (same_request w v e)) ∙ other)
      (if_both P (is_broadcast w.header) _ _ (λ v e. absurd (let z : ◌≡◌ {A = ℕ} 0 1 = cc in omega arith)) no_request))
      no_request)
      no_request

  not_stx_told : (w : Whole) → (w.header.kind =? stx) ≡ false → NoTag (after_frame d w).told
  not_stx_told w other = is_nothing (ap (λ (c : Change). c.told) (if_is_false (w.header.kind =? stx) _ _ other))

-- ---- all devices

module _ (limit : ℕ) (heard : Heard) where
  each_told : {P : DeviceTold → Type 0} {Q : DeviceSide → Type 0} {xs : List DeviceSide} (cs : List DeviceCall) → ((x : DeviceSide) → Q x → P (device_takes x.device heard).told) → All Q xs → EachTold P (device_ticks limit heard xs cs)
  unfolding device_ticks
  each_told cs f none = no_device
  each_told {P} [] f (and {x = x} q qs) = told_and (subst P (sym (tick_told limit x heard no_call)) (f x q)) (each_told [] f qs)
  each_told {P} (c ∷ cs) f (and {x = x} q qs) = told_and (subst P (sym (tick_told limit x heard c)) (f x q)) (each_told cs f qs)

any_device : (xs : List DeviceSide) → All (λ (x : DeviceSide). x ≡ x) xs
any_device [] = none
any_device (x ∷ xs) = and refl (any_device xs)

pub silence_untold : (limit : ℕ) (xs : List DeviceSide) (cs : List DeviceCall) → EachTold NoTag (device_ticks limit Silence xs cs)
silence_untold limit xs cs = each_told limit Silence cs (λ x q. hears_silence x.device) (any_device xs)

-- a frame w that says `message`, behind its first k characters
module _ (limit : ℕ) (p : Profile) (w : List ℕ) (message : Whole) (k : ℕ) (sp : Spoken w message) (u : ℕ) (cs : List DeviceCall) where
  Hears : DeviceSide → Type 0
  Hears x = DeviceHears p (reader_after idle (take k w)) u x

  mid_told : suc k < length w → (x : DeviceSide) → Hears x → NoTag (device_takes x.device (Character (get_or w k 0))).told
  unfolding Hears
  mid_told below x h =
      let e = subst (λ (r : Receiver). taken r (Character (get_or w k 0)) ≡ tells (reader_after idle (take (suc k) w)) Nothing) (sym h.receiver_is) (sp.mid k below) in
      is_nothing (ap (λ (t : DeviceTaken). t.told) (hears_character x.device (get_or w k 0) _ h.listens.hears e))

  end_told : suc k ≡ length w → (x : DeviceSide) → Hears x → (device_takes x.device (Character (get_or w k 0))).told ≡ (after_frame x.device message).told
  unfolding Hears
  end_told last x h =
      let e = subst (λ (r : Receiver). taken r (Character (get_or w k 0)) ≡ tells idle (Frame message)) (sym h.receiver_is) (sp.end k last) in
      ap (λ (t : DeviceTaken). t.told) (hears_character x.device (get_or w k 0) _ h.listens.hears e)

  -- an STX
  pub stx_untold : (suc k < length w) ⊎ (suc k ≡ length w) → seeks_tag message.header ≡ false → {xs : List DeviceSide} → All (DeviceHears p (reader_after idle (take k w)) u) xs → EachTold NoTag (device_ticks limit (Character (get_or w k 0)) xs cs)
  unfolding Hears
  stx_untold (inl below) tag hs = each_told limit (Character (get_or w k 0)) cs (mid_told below) hs
  stx_untold (inr last) tag hs = each_told limit (Character (get_or w k 0)) cs (λ x h. subst NoTag (sym (end_told last x h)) (other_told x.device message tag)) hs

  stx_together : (suc k < length w) ⊎ (suc k ≡ length w) → message.header.kind ≡ stx → message.expansion ≡ 0 → {xs : List DeviceSide} → All (DeviceHears p (reader_after idle (take k w)) u) xs → ToldTogether (device_ticks limit (Character (get_or w k 0)) xs cs)
  unfolding Hears
  stx_together (inl below) type none_more hs = none_told (each_told limit (Character (get_or w k 0)) cs (mid_told below) hs)
  stx_together (inr last) type none_more {xs} hs = go (seeks_tag message.header) refl
    where
      go : (tag : Bool) → seeks_tag message.header ≡ tag → ToldTogether (device_ticks limit (Character (get_or w k 0)) xs cs)
      go true tag = all_told message tag (each_told limit (Character (get_or w k 0)) cs (λ x h. end_told last x h ∙ stx_told x.device message type none_more tag) hs)
      go false tag = none_told (stx_untold (inr last) tag hs)

  -- an ACK or a BACK
  pub device_untold : (f : Frames) (on : Bool) → (message.header.kind =? stx) ≡ false → {xs : List DeviceSide} → OneOf (DeviceSpeaks p f k w message u on) (DeviceHears p (reader_after idle (take k w)) u) xs → EachTold NoTag (device_ticks limit (Character (get_or w k 0)) xs cs)
  unfolding Hears
  device_untold f on type {xs} o = each_told limit (Character (get_or w k 0)) cs (λ x q. by x (place_of o) q) (one_all o)
    where
      by : (x : DeviceSide) → (suc k < length w) ⊎ (suc k ≡ length w) → DeviceSpeaks p f k w message u on x ⊎ DeviceHears p (reader_after idle (take k w)) u x → NoTag (device_takes x.device (Character (get_or w k 0))).told
      by x place (inl s) = deaf_told x.device (Character (get_or w k 0)) s.deaf_is
      by x (inl below) (inr h) = mid_told below x h
      by x (inr last) (inr h) = subst NoTag (sym (end_told last x h)) (not_stx_told x.device message type)

-- ---- a tick, and a run

pub master_place : {k : ℕ} {w : List ℕ} {x : MasterSide} → MasterPlace k w x → (suc k < length w) ⊎ (suc k ≡ length w)
master_place (S.MasterPlace.inside below t) = inl below
master_place (S.MasterPlace.finished last t u v) = inr last

pub is_not_stx : {on burst next : Bool} {h : Header} {a b : MasterSide} {f : Frames} → FrameIs on burst next h a b f → (h.kind =? stx) ≡ false
is_not_stx {h = h} (is_ack e pa pb) = ap (λ (n : ℕ). n =? stx) e
is_not_stx {h = h} (is_back e on set turn) = ap (λ (n : ℕ). n =? stx) e

phase_together : (limit : ℕ) (p : Profile) (e : ℕ) (l : Link) (c : Calls) → Phase p e l → ToldTogether (link_tick limit l c).for_devices
unfolding heard_tick
phase_together limit p e l c (silent q o) = subst (λ (s : LinkStep). ToldTogether s.for_devices) (sym (tick_is limit l Silence c q)) (none_told (silence_untold limit l.devices c.for_devices))
phase_together limit p e l c (primary_sends burst noted next k w message q o) =
    subst (λ (s : LinkStep). ToldTogether s.for_devices) (sym (tick_is limit l (Character (get_or w k 0)) c q))
    (stx_together limit p w message k o.speaks.held.speaks 0 c.for_devices (master_place o.speaks.place) o.speaks.type_is o.speaks.no_expansion o.devices)
phase_together limit p e l c (secondary_sends burst noted next k w message q o) =
    subst (λ (s : LinkStep). ToldTogether s.for_devices) (sym (tick_is limit l (Character (get_or w k 0)) c q))
    (stx_together limit p w message k o.speaks.held.speaks 0 c.for_devices (master_place o.speaks.place) o.speaks.type_is o.speaks.no_expansion o.devices)
phase_together limit p e l c (ack_sent burst noted next k w message u on q o) =
    subst (λ (s : LinkStep). ToldTogether s.for_devices) (sym (tick_is limit l (Character (get_or w k 0)) c q))
    (none_told (device_untold limit p w message k (spoken_of o.devices) u c.for_devices an_ack on (is_not_stx o.frame_is) o.devices))
phase_together limit p e l c (back_sent burst noted next k w message u q o) =
    subst (λ (s : LinkStep). ToldTogether s.for_devices) (sym (tick_is limit l (Character (get_or w k 0)) c q))
    (none_told (device_untold limit p w message k (spoken_of o.devices) u c.for_devices a_back true (is_not_stx o.frame_is) o.devices))

together_run : (limit : ℕ) → 2 ≤ limit → limit ≤ 255 → (p : Profile) → Valid p → (e : ℕ) (l : Link) (ticks : List Calls) → Phase p e l → EachTick Fair (run limit l ticks) → EachTick (λ (s : LinkStep). ToldTogether s.for_devices) (run limit l ticks)
unfolding run
together_run limit low high p v e l [] q b = no_tick
together_run limit low high p v e l (c ∷ cs) q (tick_and b bs) =
    tick_and (phase_together limit p e l c q) (together_run limit low high p v (e - 1) (link_after (link_tick limit l c)) cs (phase_tick limit low high p v e l c q b) bs)

-- in its first tick every device is deaf
fresh_deaf : {p : Profile} {xs : List DeviceSide} → All (DeviceStarts p) xs → All (λ (x : DeviceSide). x.device.deaf ≡ true) xs
fresh_deaf none = none
fresh_deaf {p} (and {x = x} s ss) = and (ap (λ (d : Device). d.deaf) (device_is p s.preamble s.polling s.unique x.device s.starts).is) (fresh_deaf ss)

pub told_together : (limit : ℕ) → 2 ≤ limit → limit ≤ 255 → (p : Profile) (retries : ℕ) (l : Link) (ticks : List Calls) → Premises limit p retries l ticks → EachTick (λ (s : LinkStep). ToldTogether s.for_devices) (run limit l ticks)
unfolding run link_tick
told_together limit low high p retries l [] k = no_tick
told_together limit low high p retries l (c ∷ cs) k = go (fair_run limit p retries l (c ∷ cs) k)
  where
    go : EachTick Fair (run limit l (c ∷ cs)) → EachTick (λ (s : LinkStep). ToldTogether s.for_devices) (run limit l (c ∷ cs))
    go (tick_and b bs) =
        tick_and (none_told (each_told limit l.line c.for_devices (λ x e. deaf_told x.device l.line e) (fresh_deaf k.starts.devices)))
        (together_run limit low high p (valid p k.made) p.rt1s (link_after (link_tick limit l c)) cs (phase_first limit low high p (valid p k.made) retries l c k.starts) bs)

-- ---- the ledgers: where a command 11 is told, what stood in them before goes for nothing

told_anew : {t : DeviceTold} (w : Whole) (g : Ledger) → t ≡ Request w → told_by t g ≡ told_by t blank
told_anew w g e = ap (λ (t : DeviceTold). told_by t g) e ∙ sym (ap (λ (t : DeviceTold). told_by t blank) e)

pub none_outlives : (w : Whole) {ss : List DeviceStep} → EachTold (λ (t : DeviceTold). t ≡ Request w) ss → (cs : List DeviceCall) (gs : List Ledger) → ledgers_after cs ss gs ≡ ledgers_after cs ss (closed gs)
unfolding ledgers_after closed
none_outlives w no_device cs gs = refl
none_outlives w (told_and e es) cs [] = refl
none_outlives w (told_and {s} e es) [] (g ∷ gs) = λ i. called_by no_call s.result (told_anew w g e i) ∷ none_outlives w es [] gs i
none_outlives w (told_and {s} e es) (c ∷ cs) (g ∷ gs) = λ i. called_by c s.result (told_anew w g e i) ∷ none_outlives w es cs gs i
