use Rattle.std.proofs.Common.{◌≡◌, ◌+◌, ◌≤◌, suc, take, length, sym, ap, subst, ◌∙◌, arith}
use Rattle.wot_levels.specs.Frontier.{weight}
use Rattle.wot_levels.proofs.Weights.{take_all, weight_both, weight_one, weight_take}
use Rattle.wot_live.specs.Agenda.{AreDue, HasMoreOf}
use Rattle.wot_live.specs.Recounting.{ids_at}
use Rattle.wot_live.proofs.Passes.{take_at}
use Rattle.wot_live.proofs.Plans.{due_both, due_kept, within_more}
use Rattle.wot_live.proofs.planning.plan.Goals as goal

pub returns-in_err-agenda-clause-ticks : goal.returns-in_err-agenda-clause-ticks
returns-in_err-agenda-clause-ticks g c =
    let keys = c.args.state.now.keys in
    let todo = c.args.course.todo in
    let i = c.loop-i.i in
    let both = weight_both keys (take i todo) (ids_at todo i) in
    let next = ap (weight keys) (take_at todo i) in
    let within = weight_take keys todo (suc i) in
    let sofar = c.loop-i.invariant.ticks in
    let here = ap (weight keys) c.id.ensures in
    let one = weight_one keys c.id.result in
    let cost = c.plan_key.ensures.ticks in
    omega (arith, both, next, within, here, one, sofar, cost)

pub loop-i-preserved : goal.loop-i-preserved
loop-i-preserved g c =
    let keys = c.args.state.now.keys in
    let rows = c.args.course.rows in
    let todo = c.args.course.todo in
    let n = c.args.level in
    let i = c.loop-i.i in
    let old = c.loop-i.agenda in
    let new = c.in_ok-agenda.agenda in
    let more = subst (λ ids. HasMoreOf ids old new) (sym c.id.ensures) c.in_ok-agenda.ensures.more in
    let planned = subst (λ ids. AreDue keys rows n ids new) (sym c.id.ensures) c.in_ok-agenda.ensures.due in
    let one : i + 1 ≡ suc i = omega arith in
    let next = ap (λ k. take k todo) one ∙ take_at todo i in
    let both = weight_both keys (take i todo) (ids_at todo i) in
    let there = ap (weight keys) next in
    let sofar = c.loop-i.invariant.ticks in
    let here = ap (weight keys) c.id.ensures in
    let single = weight_one keys c.id.result in
    let cost = c.in_ok-agenda.ensures.ticks in
    record {
      due = subst (λ ids. AreDue keys rows n ids new) (sym next)
          (due_both keys rows n (take i todo) (ids_at todo i) new (due_kept keys rows n (take i todo) (ids_at todo i) old new more c.loop-i.invariant.due) planned);
      within = within_more todo i old new more c.loop-i.invariant.within;
      ticks = omega (arith, both, there, here, single, sofar, cost);
    }

pub returns-clause-due : goal.returns-clause-due
returns-clause-due g c =
    let todo = c.args.course.todo in
    let whole : length todo ≤ c.loop-i.i = let many = c.len-count.ensures.len in let test = c.loop-i-test.false in omega (arith, many, test) in
    subst (λ ids. AreDue c.args.state.now.keys c.args.course.rows c.args.level ids c.loop-i.agenda) (take_all todo c.loop-i.i whole) c.loop-i.invariant.due

pub returns-clause-ticks : goal.returns-clause-ticks
returns-clause-ticks g c =
    let within = weight_take c.args.state.now.keys c.args.course.todo c.loop-i.i in
    let sofar = c.loop-i.invariant.ticks in
    omega (arith, within, sofar)
