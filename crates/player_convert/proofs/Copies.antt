-- Bytes that are copied into a part of the lent bytes are stored from there on.
use Prim.Native.Nat.{ℕ, ◌+◌, ◌≤◌}
use mathlib.Core.List.{List, ◌++◌}
use mathlib.Core.Path.{◌≡◌, sym, ap, ◌∙◌}
use lib.ListN.{length, take, drop}
use lib.Seq.{drop-drop}
use borrow.Rule.Slice.PartMut.{put_mid}
use Rattle.base.specs.Store.{stored}
use Rattle.base.proofs.Stores.{stored_between}

pub put_stored : (out : List ℕ) (at k : ℕ) (part bytes : List ℕ) → k ≡ length bytes → part ≡ bytes → at + length bytes ≤ length out → put_mid at k out part ≡ stored out at bytes
put_stored out at k part bytes s p h =
    (λ i. take at out ++ (p i ++ drop (s i) (drop at out)))
    ∙ ap (λ (l : List ℕ). take at out ++ (bytes ++ l)) (drop-drop (length bytes) at out)
    ∙ sym (stored_between out at bytes h)
