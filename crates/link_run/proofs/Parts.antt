-- Laws of what is made of its parts: the start ticks a tick later, the calls that are taken, and the link behind a tick.
use Prim.Native.Nat.{ℕ, ◌-◌}
use native.Mathlib.Omega.{arith}
use mathlib.Core.List.{List, [], ◌∷◌}
use mathlib.Core.Path.{◌≡◌, ap, ◌∙◌}
use lib.ListN.{length, get_or}
use Rattle.std.specs.Prelude.{Option}
use Rattle.line.specs.declared.Heard.{Heard}
use Rattle.turns.specs.declared.Device.{Device}
use Rattle.turns.specs.declared.Master.{Master}
use Rattle.link_parties.specs.Stands.{any_master, no_master_call}
use Rattle.link_parties.specs.declared.Calls.{Calls}
use Rattle.link_parties.specs.declared.DeviceCallWithPart.{DeviceCallWithPart}
use Rattle.link_parties.specs.declared.Link.{Link}
use Rattle.link_parties.specs.declared.MasterCallWithPart.{MasterCallWithPart}
use Rattle.link_ticks.proofs.Lists.{any_default}
use Rattle.link_run.specs.Step.{starts_left, call_taken, ticked_master}
use Rattle.link_run.specs.declared.StartTicks.{StartTicks}

pub starts_later : (s : StartTicks) (p q : ℕ) → p ≡ s.primary - 1 → q ≡ s.secondary - 1 → ◌≡◌ {A = StartTicks} (record { primary = p; secondary = q }) (starts_left s)
starts_later s p q e f = λ i. record { primary = e i; secondary = f i }

-- x and y are in how many ticks the masters start
module _ (x y : ℕ) where
  pub requests_are_taken : (cs : List MasterCallWithPart) (d e : MasterCallWithPart) (p q : MasterCallWithPart) → length cs ≡ 2 → p ≡ call_taken x (get_or cs 0 d) → q ≡ call_taken y (get_or cs 1 e)
      → p ∷ q ∷ [] ≡ call_taken x (get_or cs 0 no_master_call) ∷ call_taken y (get_or cs 1 no_master_call) ∷ []
  requests_are_taken cs d e p q two f g = λ i.
      (f ∙ ap (call_taken x) (any_default cs 0 d no_master_call (omega (arith, two)))) i ∷ (g ∙ ap (call_taken y) (any_default cs 1 e no_master_call (omega (arith, two)))) i ∷ []

  pub masters_are_behind : (ms ts : List Master) (a b c d : Master) (p q : Master) → length ms ≡ 2 → length ts ≡ 2
      → p ≡ ticked_master x (get_or ms 0 a) (get_or ts 0 b) → q ≡ ticked_master y (get_or ms 1 c) (get_or ts 1 d)
      → p ∷ q ∷ [] ≡ ticked_master x (get_or ms 0 any_master) (get_or ts 0 any_master) ∷ ticked_master y (get_or ms 1 any_master) (get_or ts 1 any_master) ∷ []
  masters_are_behind ms ts a b c d p q two ticked f g = λ i.
      (f ∙ (λ j. ticked_master x (any_default ms 0 a any_master (omega (arith, two)) j) (any_default ts 0 b any_master (omega (arith, ticked)) j))) i
      ∷ (g ∙ (λ j. ticked_master y (any_default ms 1 c any_master (omega (arith, two)) j) (any_default ts 1 d any_master (omega (arith, ticked)) j))) i
      ∷ []

pub calls_made : (cs ds : List MasterCallWithPart) (others : List DeviceCallWithPart) → cs ≡ ds → ◌≡◌ {A = Calls} (record { masters = cs; devices = others }) (record { masters = ds; devices = others })
calls_made cs ds others e = λ i. record { masters = e i; devices = others }

pub link_made : (ms ns : List Master) (others : List (Option Device)) (line : Heard) → ms ≡ ns
    → ◌≡◌ {A = Link} (record { masters = ms; devices = others; line = line }) (record { masters = ns; devices = others; line = line })
link_made ms ns others line e = λ i. record { masters = e i; devices = others; line = line }

pub ruleset parts = (starts_later, requests_are_taken, masters_are_behind, calls_made, link_made)
