-- How the code stands for what is to be believed.
-- What a master's start and its host's request answer, by the definitions of crates/turns.
use Rattle.std.specs.Prelude.{ℕ, ◌≡◌, List, length, Result}
use Rattle.base.specs.Refusal.{Called, accepted, refused, called_as}
use Rattle.base.specs.Store.{stored}
use Rattle.frame.specs.Frame.{frame_bytes}
use Rattle.turns.specs.Master.{request_header, requested, requested_up_to}
use Rattle.turns.specs.declared.Master.{Master}
use Rattle.turns.specs.declared.Request.{Request}
use Rattle.base.specs.declared.Refusal.{Refusal}

-- the lent frame buffer: with the STX where the request is accepted, as it was where it is refused
abbrev pub asked_frame : Called Master → List ℕ → List ℕ → List ℕ
asked_frame (accepted m) frame put = stored frame 0 put
asked_frame (refused why) frame put = frame

-- a request with this outcome
pub record AskedIs (c : Called Master) (m : Master) (q : Request) (bytes frame : List ℕ) (r : Result Master Refusal) (after : List ℕ) : Type 0 where
  pub result : called_as r ≡ c
  pub buffer : after ≡ asked_frame c frame (frame_bytes q.preamble (request_header m q) bytes)

-- `limit` is the link's data limit
abbrev pub RequestIs : ℕ → Master → Request → List ℕ → List ℕ → Result Master Refusal → List ℕ → Type 0
RequestIs limit m q bytes frame r after = AskedIs (requested limit m q (length bytes)) m q bytes frame r after

-- for the checks from the address on, where polling addresses go up to `polling`
abbrev pub UpToIs : ℕ → ℕ → Master → Request → List ℕ → List ℕ → Result Master Refusal → List ℕ → Type 0
UpToIs limit polling m q bytes frame r after = AskedIs (requested_up_to polling limit m q (length bytes)) m q bytes frame r after
