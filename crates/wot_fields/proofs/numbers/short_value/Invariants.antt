use Rattle.std.proofs.Common.{◌≡◌, ◌≤◌, true, take}
use Rattle.std.specs.List.{list_all}
use Rattle.wot_types.specs.Numbers.{is_digit, digits_value}
use Rattle.wot_fields.proofs.NumberLemmas.{most_of}
use Rattle.wot_fields.proofs.numbers.short_value.Given as goal

-- the bytes so far are digits, and the value, which is no greater than so many digits make it, is theirs
abbrev pub invariant-loop-b : goal.invariant-loop-b
invariant-loop-b l = record {
  digits : list_all is_digit (take l.b-index l.f) ≡ true;
  value_is : l.value ≡ digits_value (take l.b-index l.f);
  small : l.value ≤ most_of l.b-index;
}
