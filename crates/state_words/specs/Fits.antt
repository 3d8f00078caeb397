-- How the code stands for what is to be believed.
-- Values within their types: what the code's structs can hold, whose numbers have 8, 16 or 32 bits. proofs/Kept.antt says that such a value is what its words are unpacked to.
use Rattle.std.specs.Prelude.{◌<◌, ◌^◌}
use Rattle.frame.specs.declared.Header.{Header}
use Rattle.line.specs.declared.Event.{Event}
use Rattle.line.specs.declared.Event.TheVariants.{Nothing, PassedOver, Broken, Frame, Damaged}
use Rattle.line.specs.declared.Place.{Place}
use Rattle.line.specs.declared.Place.TheVariants.{Passing, Idle, Preamble, First, Address, Expansion, Command, Count, Data, Check}
use Rattle.line.specs.declared.Profile.{Profile}
use Rattle.line.specs.declared.Receiver.{Receiver}
use Rattle.line.specs.declared.Whole.{Whole}

pub record HeaderFits (h : Header) : Type 0 where
  pub kind : h.kind < 2 ^ 8
  pub command : h.command < 2 ^ 8

pub record ProfileFits (p : Profile) : Type 0 where
  pub sto : p.sto < 2 ^ 16
  pub hold : p.hold < 2 ^ 16
  pub rt2 : p.rt2 < 2 ^ 16
  pub rt1p : p.rt1p < 2 ^ 16
  pub rt1s : p.rt1s < 2 ^ 16

abbrev pub PlaceFits : Place → Type 0
PlaceFits Passing = Unit {0}
PlaceFits Idle = Unit {0}
PlaceFits (Preamble n) = n < 2 ^ 8
PlaceFits First = Unit {0}
PlaceFits (Address n) = n < 2 ^ 8
PlaceFits (Expansion n) = n < 2 ^ 8
PlaceFits Command = Unit {0}
PlaceFits Count = Unit {0}
PlaceFits (Data n) = n < 2 ^ 8
PlaceFits Check = Unit {0}

pub record ReceiverFits (r : Receiver) : Type 0 where
  pub header : HeaderFits r.header
  pub place : PlaceFits r.place
  pub expansion : r.expansion < 2 ^ 8
  pub count : r.count < 2 ^ 8
  pub sum : r.sum < 2 ^ 8

pub record WholeFits (w : Whole) : Type 0 where
  pub header : HeaderFits w.header
  pub expansion : w.expansion < 2 ^ 8
  pub count : w.count < 2 ^ 8

abbrev pub EventFits : Event → Type 0
EventFits Nothing = Unit {0}
EventFits PassedOver = Unit {0}
EventFits Broken = Unit {0}
EventFits (Frame w) = WholeFits w
EventFits (Damaged w m) = WholeFits w
