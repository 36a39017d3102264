use Rattle.std.proofs.Common.{◌≡◌, ◌++◌, take}
use Rattle.std.specs.List.{flat_map}
use Rattle.wot_types.specs.WhyText.{by_line}
use Rattle.wot_print.specs.ToldText.{shown_counted}
use Rattle.wot_print.proofs.explanation.push_counted.Given as goal

abbrev pub invariant-loop-candidate : goal.invariant-loop-candidate
invariant-loop-candidate l = l.text ≡ l.initial.text ++ flat_map (λ c. by_line (shown_counted c)) (take l.candidate-index l.counted)
