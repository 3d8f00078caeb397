-- A master sends its STX, and everyone else hears it: each tick of that, to the silent line behind it.
use Prim.Native.Nat.{ℕ, suc, ◌≤◌, ◌<◌}
use native.Mathlib.Omega.{arith}
use mathlib.Core.Path.{◌≡◌, refl, sym, ap, subst, ◌∙◌}
use mathlib.Core.Bool.{Bool, true}
use mathlib.Core.List.{List}
use lib.ListN.{length, get_or, take}
use Rattle.frame.specs.Delimiter.{stx}
use Rattle.frame.specs.declared.Header.{Header}
use Rattle.line.specs.Reader.{idle, passing}
use Rattle.line.specs.declared.Heard.{Heard}
use Rattle.line.specs.declared.Heard.TheVariants.{Character}
use Rattle.line.specs.declared.Profile.{Profile}
use Rattle.line.specs.declared.Receiver.{Receiver}
use Rattle.line.specs.declared.Whole.{Whole}
use Rattle.line.proofs.Leads.{reader_after}
use Rattle.turns.specs.Master.{any_stx, timer_after, own_rt1}
use Rattle.turns.specs.Link.{MasterCall, MasterSide, MasterStep, master_tick}
use Rattle.turns.specs.declared.Sent.{Sent}
use Rattle.turns.specs.declared.Sent.TheVariants.{Silent}
use Rattle.turns.specs.declared.Stage.TheVariants.{Sending}
use Rattle.turns.specs.declared.Timer.{Timer}
use Rattle.turns.specs.declared.Noted.{Noted}
use Rattle.turns.specs.declared.Message.{Message}
use Rattle.turns.specs.declared.Master.{Master}
use Rattle.turns.proofs.Masters.{Holds, Formed, stands, left, Rested, Still, is_awaiting}
use Rattle.turns.proofs.Taking as T
use Rattle.turns.proofs.Taking.{master_speaks}
use Rattle.turns.proofs.Listening.{timer_shut, master_mid, master_finished}
use Rattle.turns.proofs.Phases.{MasterIs, MasterListens, MasterQuiet, Ready, passing_ready}

-- ---- the master that sends

-- behind k + 1 characters of its STX w
pub data MasterPlace (k : ℕ) (w : List ℕ) (x : MasterSide) : Type 0 where
  inside : suc k < length w → x.master.message.stage ≡ Sending (suc k) → MasterPlace k w x
  finished : suc k ≡ length w → x.master.timer ≡ timer_after x.master.profile x.master.primary any_stx x.master.burst → Still x.master.message.stage → left x.master.message.stage ≡ own_rt1 x.master.profile x.master.primary → MasterPlace k w x

pub record MasterSpeaks (p : Profile) (primary burst : Bool) (noted : Noted) (k : ℕ) (w : List ℕ) (message : Whole) (x : MasterSide) : Type 0 where
  pub is_it : MasterIs p primary x
  pub deaf_is : x.master.deaf ≡ true
  pub receiver_is : x.master.receiver ≡ passing
  pub burst_is : x.master.burst ≡ burst
  pub noted_is : x.master.noted ≡ noted
  pub held : Holds x.frame x.master.message.length w message
  pub header_is : message.header ≡ x.master.message.header
  pub no_expansion : message.expansion ≡ 0
  pub type_is : message.header.kind ≡ stx
  pub bit_is : message.header.primary ≡ primary
  pub place : MasterPlace k w x

-- the other one
pub record MasterHears (p : Profile) (primary burst : Bool) (noted : Noted) (r : Receiver) (x : MasterSide) : Type 0 where
  pub listens : MasterListens p primary x
  pub receiver_is : x.master.receiver ≡ r
  pub burst_is : x.master.burst ≡ burst
  pub noted_is : x.master.noted ≡ noted

module _ (limit : ℕ) (small : limit ≤ 255) (p : Profile) (primary burst : Bool) (noted : Noted) (w : List ℕ) (message : Whole) where
  -- the next character of the STX
  pub speaks_on : (k : ℕ) (x : MasterSide) (heard : Heard) (call : MasterCall) → suc k < length w → x.master.message.stage ≡ Sending (suc k) → MasterSpeaks p primary burst noted k w message x
      → ((master_tick limit x heard call).sent ≡ Sent.Character (get_or w (suc k) 0)) × MasterSpeaks p primary burst noted (suc k) w message (master_tick limit x heard call).side
      × ((master_tick limit x heard call).side.master.message.attempts ≡ x.master.message.attempts)
  speaks_on k x heard call below stage s = (at.character, go at.speaks, tried at.speaks)
    where
      step : MasterStep
      step = master_tick limit x heard call

      at : T.SpeaksAt x (suc k) w step
      at = master_speaks limit x heard call (suc k) w message small s.deaf_is stage s.held below

      put : (g : Message) (m : Master) → step.side.master ≡ m → m.profile ≡ x.master.profile → m.primary ≡ x.master.primary → m.deaf ≡ true → m.receiver ≡ passing → m.burst ≡ x.master.burst → m.noted ≡ x.master.noted
          → m.message.header ≡ x.master.message.header → m.message.length ≡ x.master.message.length → MasterPlace (suc k) w step.side → MasterSpeaks p primary burst noted (suc k) w message step.side
      put g m e profile pri deaf rec bur not hd len place = record {
        is_it = record {
          profile_is = ap (λ (m : Master). m.profile) e ∙ profile ∙ s.is_it.profile_is;
          primary_is = ap (λ (m : Master). m.primary) e ∙ pri ∙ s.is_it.primary_is;
          room = subst (λ (f : List ℕ). 284 ≤ length f) (sym at.same_frame) s.is_it.room;
        };
        deaf_is = ap (λ (m : Master). m.deaf) e ∙ deaf;
        receiver_is = ap (λ (m : Master). m.receiver) e ∙ rec;
        burst_is = ap (λ (m : Master). m.burst) e ∙ bur ∙ s.burst_is;
        noted_is = ap (λ (m : Master). m.noted) e ∙ not ∙ s.noted_is;
        held = subst (λ (f : List ℕ). Holds f step.side.master.message.length w message) (sym at.same_frame)
            (subst (λ (n : ℕ). Holds x.frame n w message) (sym (ap (λ (m : Master). m.message.length) e ∙ len)) s.held);
        header_is = s.header_is ∙ sym (ap (λ (m : Master). m.message.header) e ∙ hd);
        no_expansion = s.no_expansion;
        type_is = s.type_is;
        bit_is = s.bit_is;
        place = place;
      }

      tried : T.Speaks x.master (suc k) w step → step.side.master.message.attempts ≡ x.master.message.attempts
      tried (T.goes_on g more e st hd len n) = ap (λ (m : Master). m.message.attempts) e ∙ n
      tried (T.is_out g last e st hd len n) = ap (λ (m : Master). m.message.attempts) e ∙ n

      go : T.Speaks x.master (suc k) w step → MasterSpeaks p primary burst noted (suc k) w message step.side
      go (T.goes_on g more e st hd len n) = put g _ e refl refl refl refl refl refl hd len (inside more (ap (λ (m : Master). m.message.stage) e ∙ st))
      go (T.is_out g last e st hd len n) =
          put g _ e refl refl refl refl refl refl hd len
          (finished last (ap (λ (m : Master). m.timer) e ∙ sym (ap (λ (m : Master). timer_after m.profile m.primary any_stx m.burst) e)) (subst Still (sym (ap (λ (m : Master). m.message.stage) e ∙ st)) (is_awaiting (own_rt1 x.master.profile x.master.primary)))
          (ap left (ap (λ (m : Master). m.message.stage) e ∙ st) ∙ (λ i. own_rt1 (sym e i).profile (sym e i).primary)))

  -- behind its last one
  pub speaks_out : (k : ℕ) (x : MasterSide) (heard : Heard) (call : MasterCall) → x.master.timer ≡ timer_after x.master.profile x.master.primary any_stx x.master.burst → Still x.master.message.stage → left x.master.message.stage ≡ own_rt1 x.master.profile x.master.primary → MasterSpeaks p primary burst noted k w message x
      → ((master_tick limit x heard call).sent ≡ Silent) × MasterQuiet p primary burst noted (master_tick limit x heard call).side × ((master_tick limit x heard call).side.master.timer ≡ timer_after x.master.profile x.master.primary any_stx x.master.burst)
      × (left (master_tick limit x heard call).side.master.message.stage ≡ own_rt1 x.master.profile x.master.primary) × (1 ≤ own_rt1 x.master.profile x.master.primary → (master_tick limit x heard call).side.master.message.attempts ≡ x.master.message.attempts)
      × (1 ≤ own_rt1 x.master.profile x.master.primary → (master_tick limit x heard call).side.master.message.header ≡ x.master.message.header)
  speaks_out k x heard call t still l s =
      let formed : Formed x.master.primary x.frame x.master.message = stands w message s.held s.header_is s.no_expansion (ap (λ (h : Header). h.kind) (sym s.header_is) ∙ s.type_is)
      (ap (λ (h : Header). h.primary) (sym s.header_is) ∙ s.bit_is ∙ sym s.is_it.primary_is) in
      let f = master_finished limit p primary x heard call small s.is_it s.deaf_is still formed (ap (λ (t : Timer). t.window) t ∙ timer_shut x.master.profile x.master.primary any_stx x.master.burst) in (
        f.silent,
        record { listens = f.listens; ready = subst Ready (sym (f.same_receiver ∙ s.receiver_is)) passing_ready; burst_is = f.same_burst ∙ s.burst_is; noted_is = f.same_noted ∙ s.noted_is },
        f.same_timer ∙ t,
        f.rested.same_left ∙ l,
        λ z. f.rested.same_attempts (omega (arith, f.rested.same_left, l)),
        λ z. f.rested.same_header (omega (arith, f.rested.same_left, l)),
      )

  -- the other master inside the frame
  pub hears_on : (k : ℕ) (x : MasterSide) (call : MasterCall) {r : Receiver} → r ≡ reader_after idle (take k w) → Rattle.turns.proofs.Spoken.Spoken w message → suc k < length w → MasterHears p primary burst noted r x
      → ((master_tick limit x (Character (get_or w k 0)) call).sent ≡ Silent) × MasterHears p primary burst noted (reader_after idle (take (suc k) w)) (master_tick limit x (Character (get_or w k 0)) call).side
      × Rested x.master (master_tick limit x (Character (get_or w k 0)) call).side.master.message
  hears_on k x call e sp below s =
      let m = master_mid limit small p primary x call s.listens w message k sp below (s.receiver_is ∙ e) in
      (m.silent, record { listens = m.listens; receiver_is = m.receiver_is; burst_is = m.same_burst ∙ s.burst_is; noted_is = m.same_noted ∙ s.noted_is }, m.rested)
