-- Document 02, item 2: a request's revision. "One proof covers both rules, with the largest address as its parameter."
use Prim.Native.Nat.{ℕ, ◌≤◌}
use native.Mathlib.Omega.{arith}
use mathlib.Core.Path.{◌≡◌, refl, sym, ap, subst, ◌∙◌}
use mathlib.Core.Bool.{Bool, true, false}
use mathlib.Core.List.{List}
use mathlib.Core.Logic.{◌⊎◌, inl, inr}
use lib.ListN.{length}
use borrow.Author.Tests.{lt-ltb, le-ltb, eq-eqb, le-leb, lt-leb}
use Rattle.base.specs.Choice.{when◌then◌else◌, ◌<?◌, ◌≤?◌, ◌=?◌, ◌outside◌to◌}
use Rattle.base.specs.Refusal.{Called, refused}
use Rattle.base.proofs.Choices.{if_is_true, if_is_false, inside_is}
use Rattle.frame.specs.Limits.{fewest_preambles, most_preambles, largest_polling, reserved_command}
use Rattle.frame.specs.Address.{largest_with, address_above}
use Rattle.frame.specs.Frame.{frame_bytes}
use Rattle.line.specs.declared.Heard.{Heard}
use Rattle.turns.specs.Master.{request_header, has_message, command_refused, polling_up_to, requested, requested_up_to, master_takes}
use Rattle.turns.specs.Link.{MasterSide, master_data, master_called, master_tick}
use Rattle.turns.specs.Revisions.{KnownUpTo, PollingRule, OldRule, LaterRule}
use Rattle.turns.specs.declared.CallResult.{CallResult}
use Rattle.turns.specs.declared.CallResult.TheVariants.{Taken, Refused}
use Rattle.turns.specs.declared.Master.{Master}
use Rattle.turns.specs.declared.Request.{Request}
use Rattle.turns.specs.declared.Stage.TheVariants.{Free}
use Rattle.turns.specs.Settled.{Outcome, taken, refuses, outcome}
use Rattle.turns.proofs.Bursting.{if_both}

-- "refuses a revision outside 3 to 7 with 17, checked after 3", whatever else the request says
pub revision_first : (limit : ℕ) (m : Master) (q : Request) (count : ℕ) → (q.preamble outside fewest_preambles to most_preambles) ≡ false → (q.revision outside 3 to 7) ≡ true → requested limit m q count ≡ refused 17
unfolding requested
revision_first limit m q count written none-such = if_is_false (q.preamble outside fewest_preambles to most_preambles) _ _ written ∙ if_is_true (q.revision outside 3 to 7) _ _ none-such

-- the largest polling address is that of the request's revision
pub by_revision : (limit : ℕ) (m : Master) (q : Request) (count : ℕ) → (q.preamble outside fewest_preambles to most_preambles) ≡ false → (q.revision outside 3 to 7) ≡ false
    → requested limit m q count ≡ requested_up_to (polling_up_to q.revision) limit m q count
unfolding requested
by_revision limit m q count written known = if_is_false (q.preamble outside fewest_preambles to most_preambles) _ _ written ∙ if_is_false (q.revision outside 3 to 7) _ _ known

module _ (limit largest : ℕ) (x : MasterSide) (heard : Heard) (q : Request) (put : List ℕ) where
  abbrev master_then : Master
  master_then = (master_takes x.master heard (master_data x heard)).master

  abbrev result_of : Called Master → CallResult
  result_of c = (master_called c master_then (frame_bytes q.preamble (request_header master_then q) put) x.frame (master_data x heard) (master_takes x.master heard (master_data x heard)).told).result

  abbrev number : CallResult → ℕ
  number CallResult.Nothing = 0
  number Taken = 0
  number (Refused why) = why

  -- from the address on
  up_to : q.long ≡ false → KnownUpTo largest limit q put (result_of (requested_up_to largest limit master_then q (length put)))
  unfolding requested_up_to
  up_to short = record {
    above = λ more. ap result_of (if_is_true (address_above largest (request_header master_then q)) _ _ (by_largest ∙ lt-ltb largest q.address more));
    not_above = λ few.
        subst Not4 (sym (if_is_false (address_above largest (request_header master_then q)) _ _ (known few)))
        (if_both Not4 (command_refused q) _ _ (λ e. omega (arith, ap number e))
        (if_both Not4 (limit <? length put) _ _ (λ e. omega (arith, ap number e))
        (if_both Not4 (has_message master_then.message.stage) _ _ (λ e. omega (arith, ap number e)) (λ e. omega (arith, ap number e)))));
    asked = λ few zero fits.
        subst Asked
        (sym
        (if_is_false (address_above largest (request_header master_then q)) _ _ (known few)
        ∙ if_is_false (command_refused q) _ _ (command_taken zero)
        ∙ if_is_false (limit <? length put) _ _ (le-ltb limit (length put) fits)))
        (if_both Asked (has_message master_then.message.stage) _ _ (inr refl) (inl refl));
  }
    where
      by_largest : address_above largest (request_header master_then q) ≡ (largest <? q.address)
      by_largest = ap (λ (n : ℕ). n <? q.address) (if_is_false q.long _ largest short)

      known : q.address ≤ largest → address_above largest (request_header master_then q) ≡ false
      known few = by_largest ∙ le-ltb largest q.address few

      command_taken : q.command ≡ 0 → command_refused q ≡ false
      command_taken zero =
          if_is_false (q.command =? reserved_command) _ _ (ap (λ (c : ℕ). c =? reserved_command) zero)
          ∙ if_is_false q.long _ _ short
          ∙ if_is_true (q.command =? 0) _ _ (eq-eqb q.command 0 zero)

      Not4 : Called Master → Type 0
      Not4 c = result_of c ≡ Refused 4 → ⊥

      Asked : Called Master → Type 0
      Asked c = (result_of c ≡ Taken) ⊎ (result_of c ≡ Refused 7)

-- one proof for both rules, with the largest polling address as its parameter
pub polling_rule_told : (limit largest : ℕ) → PollingRule limit (λ (r : ℕ). (3 ≤ r) × (r ≤ 7) × (polling_up_to r ≡ largest)) largest
unfolding master_tick
polling_rule_told limit largest x heard q put low high of short =
    let m = master_then limit largest x heard q put in
    subst (λ (c : Called Master). KnownUpTo largest limit q put (result_of limit largest x heard q put c))
    (sym
    (by_revision limit m q (length put) (inside_is q.preamble fewest_preambles most_preambles low high) (inside_is q.revision 3 7 of.0 of.1)
    ∙ ap (λ (n : ℕ). requested_up_to n limit m q (length put)) of.2))
    (up_to limit largest x heard q put short)

-- "HART revisions 3 to 5 know polling addresses 0 to 15, later ones 0 to 63"
pub old_rule : (limit : ℕ) → OldRule limit
old_rule limit x heard q put low high of = polling_rule_told limit 15 x heard q put low high (of.0, omega (arith, of.1), if_is_true (q.revision ≤? 5) 15 largest_polling (le-leb q.revision 5 of.1))

pub later_rule : (limit : ℕ) → LaterRule limit
later_rule limit x heard q put low high of = polling_rule_told limit 63 x heard q put low high (omega (arith, of.0), of.1, if_is_false (q.revision ≤? 5) 15 largest_polling (lt-leb q.revision 5 (omega (arith, of.0))))

-- For every largest polling address: a request of command 0 that nothing else speaks against is refused with 4 just where its address is above it.
pub polling_rule : (polling limit : ℕ) (m : Master) (q : Request) (count : ℕ) → q.long ≡ false → q.command ≡ 0 → count ≤ limit → m.message.stage ≡ Free
    → outcome (requested_up_to polling limit m q count) ≡ (when polling <? q.address then refuses 4 else taken)
unfolding requested_up_to when◌then◌else◌
polling_rule polling limit m q count short zero few none_in_hand =
    by (address_above polling (request_header m q)) refl ∙ ap (λ (long : Bool). when largest_with polling long <? q.address then refuses 4 else taken) short
  where
    command_taken : command_refused q ≡ false
    command_taken =
        ap (λ (c : ℕ). when c =? reserved_command then true else when q.long then false else (when c =? 0 then false else true)) zero
        ∙ ap (λ (long : Bool). when long then false else false) short

    by : (above : Bool) → address_above polling (request_header m q) ≡ above → outcome (requested_up_to polling limit m q count) ≡ (when above then refuses 4 else taken)
    by true e = ap outcome (if_is_true (address_above polling (request_header m q)) _ _ e)
    by false e =
        ap outcome
        (if_is_false (address_above polling (request_header m q)) _ _ e ∙ if_is_false (command_refused q) _ _ command_taken ∙ if_is_false (limit <? count) _ _ (le-ltb limit count few)
        ∙ if_is_false (has_message m.message.stage) _ _ (ap has_message none_in_hand))

-- a long address is refused or taken alike for every revision of 3 to 7
module _ (limit : ℕ) (m : Master) (preamble address command count : ℕ) where
  abbrev pub long_request : ℕ → Request
  long_request revision = record { preamble = preamble; revision = revision; long = true; address = address; command = command }

  for_any : (revision : ℕ) → 3 ≤ revision → revision ≤ 7
      → requested limit m (long_request revision) count ≡ (when preamble outside fewest_preambles to most_preambles then refused 3 else requested_up_to 0 limit m (long_request 3) count)
  unfolding requested requested_up_to when◌then◌else◌
  for_any revision low high =
      ap (λ (c : Called Master). when preamble outside fewest_preambles to most_preambles then refused 3 else c)
      (if_is_false (revision outside 3 to 7) (refused 17) (requested_up_to 0 limit m (long_request 3) count) (inside_is revision 3 7 low high))

  pub revision_long : (r s : ℕ) → 3 ≤ r → r ≤ 7 → 3 ≤ s → s ≤ 7 → requested limit m (long_request r) count ≡ requested limit m (long_request s) count
  revision_long r s low high low' high' = for_any r low high ∙ sym (for_any s low' high')
