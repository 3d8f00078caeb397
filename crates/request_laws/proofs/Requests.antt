-- What a host's request does to a master, whatever it asks: of every revision, and with every limit of the data.
use Prim.Native.Nat.{ℕ}
use mathlib.Core.Bool.{true}
use mathlib.Core.Path.{◌≡◌, refl, sym, subst}
use Rattle.base.specs.Choice.{◌<?◌, ◌outside◌to◌}
use Rattle.base.specs.Refusal.{Called, accepted, refused}
use Rattle.base.proofs.Choices.{if_is_true}
use Rattle.frame.specs.Address.{address_above}
use Rattle.turns.specs.Master.{request_header, has_message, command_refused, polling_up_to, requested, requested_up_to}
use Rattle.turns.specs.declared.Master.{Master}
use Rattle.turns.specs.declared.Request.{Request}
use Rattle.turns.proofs.Bursting.{if_both}

-- ---- the tick of a master that has a message: its host's request is refused

pub data Refuses : Called Master → Type 0 where
  refuses : (why : ℕ) → Refuses (refused why)

pub in_hand : (limit : ℕ) (m : Master) (q : Request) (count : ℕ) → has_message m.message.stage ≡ true → Refuses (requested limit m q count)
unfolding requested requested_up_to
in_hand limit m q count e =
    if_both Refuses (q.preamble outside 5 to 20) _ _ (refuses _)
    (if_both Refuses (q.revision outside 3 to 7) _ _ (refuses _)
    (if_both Refuses (address_above (polling_up_to q.revision) (request_header m q)) _ _ (refuses _)
    (if_both Refuses (command_refused q) _ _ (refuses _)
    (if_both Refuses (limit <? count) _ _ (refuses _)
    (subst Refuses (sym (if_is_true (has_message m.message.stage) _ _ e)) (refuses _))))))

-- ---- a request that is taken leaves reader and timer

pub data Leaves (m : Master) : Called Master → Type 0 where
  leaves : {n : Master} → n.receiver ≡ m.receiver → n.timer ≡ m.timer → Leaves m (accepted n)
  not_taken : {why : ℕ} → Leaves m (refused why)

pub request_leaves : (limit : ℕ) (m : Master) (q : Request) (n : ℕ) → Leaves m (requested limit m q n)
unfolding requested requested_up_to
request_leaves limit m q n =
    if_both (Leaves m) (q.preamble outside 5 to 20) _ _ not_taken
    (if_both (Leaves m) (q.revision outside 3 to 7) _ _ not_taken
    (if_both (Leaves m) (address_above (polling_up_to q.revision) (request_header m q)) _ _ not_taken
    (if_both (Leaves m) (command_refused q) _ _ not_taken
    (if_both (Leaves m) (limit <? n) _ _ not_taken
    (if_both (Leaves m) (has_message m.message.stage) _ _ not_taken (leaves refl refl))))))
