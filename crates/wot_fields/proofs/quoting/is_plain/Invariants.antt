use Rattle.std.proofs.Common.{◌≡◌, not, take}
use Rattle.std.specs.List.{list_all}
use Rattle.wot_types.specs.Quotes.{is_escaped}
use Rattle.wot_fields.proofs.quoting.is_plain.Given as goal

abbrev pub invariant-loop-b : goal.invariant-loop-b
invariant-loop-b l = l.plain ≡ list_all (λ b. not (is_escaped b)) (take l.b-index l.text)
