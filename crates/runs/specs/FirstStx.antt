-- To be believed: what the engine must do, or what is claimed of it.
-- Demand 3, "Its first character is the first of its first STX": the character that BeginsWithin speaks of. From the tick of acceptance on the master sends nothing, and then the message's STX from its first character on, which is 0xFF; so no STX of the message went out before.
use Rattle.std.specs.Prelude.{ℕ, ◌≡◌, Bool, true, false, List, [], ◌∷◌, drop}
use Rattle.frame.specs.Frame.{frame_bytes}
use Rattle.line.specs.declared.Profile.{Profile}
use Rattle.turns.specs.Link.{MasterCall, requests, Link, LinkStep, Calls, run}
use Rattle.turns.specs.Run.{Starts}
use Rattle.turns.specs.Demand3 as Demand3
use Rattle.turns.specs.Demand3.{master_in, AcceptedIn, BeginsWithin}
use Rattle.turns.specs.Attempts.{stx_header}
use Rattle.turns.specs.declared.Request.{Request}
use Rattle.turns.specs.declared.Sent.TheVariants.{Silent, Character}

-- what the primary's host, or the secondary's, asks in a tick
abbrev pub call_in : Bool → Calls → MasterCall
call_in true c = c.for_primary
call_in false c = c.for_secondary

-- what is left of an STX goes out, a character in each tick, until all of it is out or the list ends
pub data GoesOut (primary : Bool) : List ℕ → List LinkStep → Type 0 where
  is_out : {ss : List LinkStep} → GoesOut primary [] ss
  list_ends : {left : List ℕ} → GoesOut primary left []
  next : {c : ℕ} {left : List ℕ} {s : LinkStep} {ss : List LinkStep} → (master_in primary s).sent ≡ Character c
      → GoesOut primary left ss → GoesOut primary (c ∷ left) (s ∷ ss)

-- the master waits, and then its first STX is this one
pub data FirstStx (primary : Bool) : List ℕ → List LinkStep → Type 0 where
  list_ends : {stx : List ℕ} → FirstStx primary stx []
  waits : {stx : List ℕ} {s : LinkStep} {ss : List LinkStep} → (master_in primary s).sent ≡ Silent → FirstStx primary stx ss → FirstStx primary stx (s ∷ ss)
  begins : {left : List ℕ} {s : LinkStep} {ss : List LinkStep} → (master_in primary s).sent ≡ Character 0xFF
      → GoesOut primary left ss → FirstStx primary (0xFF ∷ left) (s ∷ ss)

-- what is claimed of every request that is accepted: tick t of the list is c, and s in the run
abbrev pub FirstStxIn : List Calls → List LinkStep → Type 0
FirstStxIn ticks steps =
    (primary : Bool) (t : ℕ) (c : Calls) (later : List Calls) (s : LinkStep) (after : List LinkStep) (q : Request) (put : List ℕ)
    → drop t ticks ≡ c ∷ later → drop t steps ≡ s ∷ after → call_in primary c ≡ requests q put → AcceptedIn primary s
    → FirstStx primary (frame_bytes q.preamble (stx_header primary q) put) (s ∷ after)

-- in a run; of demand 3's premises only the start is needed
abbrev pub FirstStxInARun : ℕ → Type 0
FirstStxInARun limit = (p : Profile) (retries : ℕ) (l : Link) (ticks : List Calls) → Starts p retries l → FirstStxIn ticks (run limit l ticks)

-- the character that BeginsWithin speaks of
abbrev pub character_of : {primary : Bool} {n : ℕ} {ss : List LinkStep} → BeginsWithin primary n ss → ℕ
character_of (Demand3.begins n c e) = c
character_of (Demand3.waits e b) = character_of b

-- where FirstStx holds, that character is the first of the STX
abbrev pub CharacterIsFirst : Type 0
CharacterIsFirst =
    (primary : Bool) (n : ℕ) (stx : List ℕ) (ss : List LinkStep) → FirstStx primary stx ss → (b : BeginsWithin primary n ss) → character_of b ≡ 0xFF
