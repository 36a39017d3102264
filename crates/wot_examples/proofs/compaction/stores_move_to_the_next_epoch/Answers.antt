use Rattle.std.proofs.Common.{◌≡◌, ◌+◌, Bool, true, false, [], if◌then◌else◌, refl, ap, arith}
use Rattle.std.specs.Prelude.{◌==◌}
use Rattle.std.proofs.lemmas.Bool.Decides.{nat_tests}
use Rattle.wot_types.specs.Compaction.{base_end, compacted_base, compacted_edits, compacted_end, last_epoch, next_epoch}
use Rattle.wot_types.specs.Store.{Store}
use Rattle.wot_examples.proofs.compaction.stores_move_to_the_next_epoch.Goals as goal

pub returns-clause-epoch : goal.returns-clause-epoch
unfolding next_epoch
returns-clause-epoch c s is = ap (λ n. if n == last_epoch then n else n + 1) is

stays : (s t : Store) (last : Bool) → last ≡ true
    → record { state = s.state; epoch = if last then s.epoch else t.epoch; end = if last then s.end else t.end; base = if last then s.base else t.base; edits = if last then s.edits else t.edits } ≡ s
stays s t true is = refl
stays s t false is = cc

pub returns-clause-last : goal.returns-clause-last
unfolding next_epoch compacted_end compacted_base compacted_edits
returns-clause-last c s is =
    stays s (record { state = s.state; epoch = s.epoch + 1; end = base_end s.state; base = s.state; edits = [] }) (s.epoch == last_epoch) (grind (arith, nat_tests))
