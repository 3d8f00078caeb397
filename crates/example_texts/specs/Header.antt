-- Inner contracts: nothing that is to be believed rests on them.
-- A frame's header as text: the name and the number of each field but the command.
use Rattle.std.specs.Prelude.{ℕ, List, [], ◌∷◌, ◌++◌}
use Rattle.texts.specs.Digits.{decimal, bit_of}
use Rattle.frame.specs.declared.Header.{Header}

-- " type ", " long ", " primary ", " burst ", " address "
abbrev pub type_name : List ℕ
type_name = 32 ∷ 116 ∷ 121 ∷ 112 ∷ 101 ∷ 32 ∷ []

abbrev pub long_name : List ℕ
long_name = 32 ∷ 108 ∷ 111 ∷ 110 ∷ 103 ∷ 32 ∷ []

abbrev pub primary_name : List ℕ
primary_name = 32 ∷ 112 ∷ 114 ∷ 105 ∷ 109 ∷ 97 ∷ 114 ∷ 121 ∷ 32 ∷ []

abbrev pub burst_name : List ℕ
burst_name = 32 ∷ 98 ∷ 117 ∷ 114 ∷ 115 ∷ 116 ∷ 32 ∷ []

abbrev pub address_name : List ℕ
address_name = 32 ∷ 97 ∷ 100 ∷ 100 ∷ 114 ∷ 101 ∷ 115 ∷ 115 ∷ 32 ∷ []

unfoldable pub header_text : Header → List ℕ
header_text h =
    (type_name ++ decimal h.kind)
    ++ ((long_name ++ decimal (bit_of h.long))
    ++ ((primary_name ++ decimal (bit_of h.primary))
    ++ ((burst_name ++ decimal (bit_of h.burst))
    ++ (address_name ++ decimal h.address))))
