use Rattle.std.proofs.Common.{sym, ap, ◌∙◌}
use Rattle.wot_types.specs.State.{State}
use Rattle.wot_suppose.proofs.SameKeys.{same_keys}
use Rattle.wot_suppose.proofs.supposing.suppose.Goals as goal

pub make-requires : goal.make-requires
make-requires g c = record { allowed = c.in_ok-edit.ensures.back.edit_allowed c.args.engine }

pub make-requires-2 : goal.make-requires-2
make-requires-2 g c = record { allowed = c.in_ok-edit.ensures.back.back_allowed c.in_ok-supposed.supposed }

pub changes_since-requires : goal.changes_since-requires
changes_since-requires g c =
    let after = c.in_ok-supposed.ensures.state ∙ c.in_ok-edit.ensures.after in
    record {
      known = (
        c.args.engine,
        sym (ap (λ (s : State). s.keys) after ∙ same_keys c.args.engine c.args.edit c.requires.supposable),
        c.deref.ensures.value ∙ c.in_ok-former.ensures,
      );
    }
