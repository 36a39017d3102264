use Rattle.std.proofs.Common.{refl, subst}
use Rattle.wot_types.specs.Touched.{is_touched}
use Rattle.wot_live.specs.Follows.{IsDueSince, uncounted_state}
use Rattle.wot_live.proofs.EditLemmas.{all_bound, named_touched}
use Rattle.wot_live.proofs.uncounted.Uncounted.count.Goals as goal

pub returns-in-All-clause-ticks : goal.returns-in-All-clause-ticks
returns-in-All-clause-ticks g c = λ s names due.
    let t = uncounted_state c.args.self in
    let all = subst (IsDueSince s names t) c.in-All.is (c.all_if_whole.ensures s t names refl due) in
    all_bound (is_touched names s t) t.keys t.options.depth c.args.steps.now c.count_anew.new.steps (λ x there. named_touched names s t x (all x there)) c.count_anew.ensures.ticks

pub count_listed-requires : goal.count_listed-requires
count_listed-requires g c =
    let t = uncounted_state c.args.self in
    let since = c.requires.due.since in
    record {
      due = record {
        ranges = c.requires.due.ranges;
        since = (since.0, since.1, subst (IsDueSince since.0 since.1 t) c.in-Named.is (c.all_if_whole.ensures since.0 t since.1 refl since.2));
      };
    }

pub returns-in-Named-clause-ticks : goal.returns-in-Named-clause-ticks
returns-in-Named-clause-ticks g c = λ s names due.
    let t = uncounted_state c.args.self in
    c.count_listed.ensures.ticks s names (subst (IsDueSince s names t) c.in-Named.is (c.all_if_whole.ensures s t names refl due))
