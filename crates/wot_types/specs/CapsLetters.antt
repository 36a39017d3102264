-- The letters of a key's capabilities as they are kept.
use Rattle.std.specs.Prelude.{◌≤◌, ℕ, List, take}
use Rattle.wot_types.specs.declared.caps.Letters.{Letters}
use Rattle.wot_types.specs.declared.caps.Letters.TheVariants.{Few, Many}

abbrev pub letters_of : Letters → List ℕ
letters_of (Few few) = take few.count few.bytes
letters_of (Many text) = text.value

-- a count of letters that there is room for
abbrev pub HaveRoom : Letters → Type 0
HaveRoom (Few few) = few.count ≤ 14
HaveRoom (Many text) = Unit {0}
