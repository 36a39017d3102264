use Rattle.std.proofs.Common.{◌≡◌, ◌+◌, ◌-◌, ◌≤◌, ◌||◌, ℕ, suc, nat_eq, [], false, length, take, sym, ap, subst, ◌∙◌, arith}
use Rattle.std.specs.List.{IsDistinct}
use Rattle.std.proofs.Math.Seq.{take-append_seam}
use Rattle.wot_types.specs.declared.options.Options.{Options}
use Rattle.wot_types.specs.State.{State}
use Rattle.wot_types.specs.Explanation.{KeySet}
use Rattle.wot_types.specs.Levels.{rows_of}
use Rattle.wot_types.specs.Touched.{certs_on, is_touched}
use Rattle.wot_live.specs.declared.moved.Moved.{Moved}
use Rattle.wot_levels.specs.Frontier.{weight}
use Rattle.wot_live.specs.Agenda.{AreDue, IsWithin, due_at}
use Rattle.wot_live.specs.Recounting.{IntroducersStay, IsBegun, IsRecounted, IsTouchedList, among}
use Rattle.wot_live.proofs.BeforeLevels.{IsStage}
use Rattle.wot_live.proofs.Agendas.{all_recounted}
use Rattle.wot_live.proofs.EditLemmas.{low_of}
use Rattle.wot_live.proofs.Passes.{step_low}
use Rattle.wot_live.proofs.Plans.{due_none, within_none}
use Rattle.wot_live.proofs.Rounds.{counted_from, next_ticks, out_before, within_depth}
use Rattle.wot_live.proofs.Stages.{IsLow, final_at_the_end, first_stage, next_stage, next_touched}
use Rattle.wot_live.proofs.Weights.{weight_within}
use Rattle.wot_live.proofs.row_changes.recount_levels.Goals as goal

pub loop-level-init : goal.loop-level-init
loop-level-init g c =
    let t = c.args.state.now in
    let rows = c.args.found.rows in
    let todo = c.args.found.todo in
    record {
      due = due_none c.args.state.now.keys rows 0 c.new-agenda.result;
      within = subst (IsWithin todo) (sym c.new-agenda.ensures) (within_none todo);
      low = λ s begun. let depth = ap (λ (o : Options). o.depth) begun.options in low_of s rows _ begun.rows (omega (arith, depth));
      stage = λ s begun. subst (λ r. IsStage s t 0 r todo c.new-moved.result.before) (sym begun.rows) (subst (IsStage s t 0 (rows_of s) todo) (sym c.new-moved.ensures.before) (first_stage s t todo));
      here = c.new-moved.ensures.here;
      longer = λ x out. out;
      touched = λ s named begun h. h;
      few = λ s named begun h. omega arith;
      ticks = λ s named begun h. omega arith;
    }

pub returns-in_err-course-clause-ticks : goal.returns-in_err-course-clause-ticks
returns-in_err-course-clause-ticks g c = λ s named begun h.
    let t = c.args.state.now in
    let keys = c.args.state.now.keys in
    let set = is_touched named s t in
    let less = weight_within set keys c.loop-level.course.todo c.plan.ensures.distinct (c.loop-level.invariant.touched s named begun h) in
    let sofar = c.loop-level.invariant.ticks s named begun h in
    let cost = c.plan.ensures.ticks in
    let all = within_depth c.loop-level.level c.args.state.now.options.depth (certs_on set keys) (omega (arith, c.loop-level-test.true, ap (λ (o : Options). o.depth) c.options.ensures)) c.requires.ranges.depth in
    omega (arith, less, sofar, cost, all)

pub returns-in_err-done-clause-ticks : goal.returns-in_err-done-clause-ticks
returns-in_err-done-clause-ticks g c = λ s named begun h.
    let t = c.args.state.now in
    let keys = c.args.state.now.keys in
    let n = c.loop-level.level in
    let m = c.in_ok-course.course in
    let start = c.args.steps.now in
    let planned = weight keys c.loop-level.course.todo in
    let set = is_touched named s t in
    let certs = certs_on set keys in
    let touched = c.loop-level.invariant.touched s named begun h in
    let less = weight_within set keys c.loop-level.course.todo c.in_ok-course.ensures.distinct touched in
    let sofar = c.loop-level.invariant.ticks s named begun h in
    let plan = c.in_ok-course.ensures.ticks in
    let cost = c.recount_level.ensures.ticks set (λ x its. touched x (sym (ap (λ xs. among xs x) c.in_ok-course.ensures.todo) ∙ c.in_ok-course.ensures.within n x its)) in
    let next = next_ticks n certs start planned _ _ (omega (arith, sofar, plan)) c.recount_level.ensures.unread cost in
    let all = within_depth (n + 1) c.args.state.now.options.depth certs (omega (arith, c.loop-level-test.true, ap (λ (o : Options). o.depth) c.options.ensures)) c.requires.ranges.depth in
    omega (arith, less, next, all)

pub returns-in_err-moved-clause-ticks : goal.returns-in_err-moved-clause-ticks
returns-in_err-moved-clause-ticks g c = λ s named begun h.
    let t = c.args.state.now in
    let keys = c.args.state.now.keys in
    let n = c.loop-level.level in
    let m = c.in_ok-course.course in
    let start = c.args.steps.now in
    let planned = weight keys c.loop-level.course.todo in
    let set = is_touched named s t in
    let certs = certs_on set keys in
    let touched = c.loop-level.invariant.touched s named begun h in
    let less = weight_within set keys c.loop-level.course.todo c.in_ok-course.ensures.distinct touched in
    let sofar = c.loop-level.invariant.ticks s named begun h in
    let plan = c.in_ok-course.ensures.ticks in
    let cost = c.in_ok-done.ensures.ticks set (λ x its. touched x (sym (ap (λ xs. among xs x) c.in_ok-course.ensures.todo) ∙ c.in_ok-course.ensures.within n x its)) in
    let next = next_ticks n certs start planned _ _ (omega (arith, sofar, plan)) c.in_ok-done.ensures.unread cost in
    let all = within_depth (n + 1) c.args.state.now.options.depth certs (omega (arith, c.loop-level-test.true, ap (λ (o : Options). o.depth) c.options.ensures)) c.requires.ranges.depth in
    omega (arith, less, next, all)

pub loop-level-preserved : goal.loop-level-preserved
loop-level-preserved g c =
    let t = c.args.state.now in
    let keys = c.args.state.now.keys in
    let now = c.loop-level.course in
    let m = c.in_ok-course.course in
    let new = c.in_ok-done.done in
    let moved = c.in_ok-moved.moved in
    let n = c.loop-level.level in
    let start = c.args.found.todo in
    let inv = c.loop-level.invariant in
    let some = c.requires.ranges.depth in
    let test = c.loop-level-test.true in
    let bound = ap (λ (o : Options). o.depth) c.options.ensures in
    let within : suc n ≤ c.args.state.now.options.depth = omega (arith, test, bound) in
    let one : suc n ≡ n + 1 = omega arith in
    let pass = c.in_ok-done.ensures.pass in
    let rows_same = c.in_ok-course.ensures.rows in
    let todo_same = c.in_ok-course.ensures.todo in
    let due = c.in_ok-course.ensures.due in
    let inside = c.in_ok-course.ensures.within in
    let apart : (x : ℕ) → among m.todo x ≡ false → among start x ≡ false = λ x out. inv.longer x (sym (ap (λ xs. among xs x) todo_same) ∙ out) in
    let planned : take c.len-planned.result new.todo ≡ m.todo =
    ap (λ k. take k new.todo) c.len-planned.ensures.len ∙ ap (take (length m.todo)) pass.longer.1 ∙ take-append_seam m.todo pass.longer.0 in
    let fprs : (s : State) → IsBegun s t c.args.found.rows start → IntroducersStay (rows_of s) s.keys t.keys = λ s begun. subst (λ r. IntroducersStay r s.keys t.keys) begun.rows begun.fprs in
    let moved_same = c.in_ok-course.ensures.moved in
    let before = m.moved.before in
    let after = new.moved.here in
    let none : m.moved.here ≡ [] = ap (λ (x : Moved). x.here) moved_same ∙ inv.here in
    let stage : (s : State) → IsBegun s t c.args.found.rows start → IsStage s t n m.rows m.todo before =
    λ s begun. subst (λ r. IsStage s t n r m.todo before) (sym rows_same) (subst (λ d. IsStage s t n now.rows d before) (sym todo_same) (subst (λ (x : Moved). IsStage s t n now.rows now.todo x.before) (sym moved_same) (inv.stage s begun))) in
    let from_none = subst (λ xs. IsRecounted t n before (due_at m.agenda n) m.rows m.todo xs new.rows new.todo after) none pass in
    let all : (s : State) → IsBegun s t c.args.found.rows start → IsRecounted t n before m.todo m.rows m.todo [] new.rows new.todo after =
    λ s begun. all_recounted t n before m.rows m.todo [] m.agenda new.rows new.todo after (stage s begun).below due inside from_none in
    let joined : (y : ℕ) → among moved.before y ≡ (among before y || among after y) =
    λ y. c.in_ok-moved.ensures.before y ∙ ap (λ xs. among xs y || among after y) c.in_ok-done.ensures.before in
    let touched : (s : State) (named : KeySet) → IsBegun s t c.args.found.rows start → IsTouchedList named s t start → IsTouchedList named s t m.todo =
    λ s named begun h. subst (λ xs. IsTouchedList named s t xs) (sym todo_same) (inv.touched s named begun h) in
    let distinct : IsDistinct nat_eq m.todo = subst (IsDistinct nat_eq) (sym todo_same) c.in_ok-course.ensures.distinct in
    record {
      due = subst (λ ids. AreDue keys new.rows (n + 1) ids new.agenda) (sym planned) (c.in_ok-done.ensures.due m.todo due);
      within = c.in_ok-done.ensures.within inside;
      low = λ s begun. step_low t n (c.args.state.now.options.depth - 1) before (due_at m.agenda n) m.rows m.todo m.moved.here new.rows new.todo after pass (omega (arith, test, bound))
          (subst (λ r. IsLow (c.args.state.now.options.depth - 1) r) (sym rows_same) (inv.low s begun));
      stage = λ s begun. subst (λ k. IsStage s t k new.rows new.todo moved.before) one (next_stage s t begun.options (fprs s begun) start begun.alike some n within m.rows m.todo before (stage s begun) apart new.rows new.todo after (all s begun) moved.before joined);
      here = c.in_ok-moved.ensures.here;
      longer = λ x out. apart x (out_before t n before (due_at m.agenda n) m.rows new.rows m.todo new.todo m.moved.here after pass x out);
      touched = λ s named begun h. next_touched s t begun.options (fprs s begun) start begun.alike some n within m.rows m.todo before (stage s begun) apart new.rows new.todo after (all s begun) named (touched s named begun h);
      few = λ s named begun h.
          let less = weight_within (is_touched named s t) keys m.todo distinct (touched s named begun h) in
          let here = ap (weight keys) planned in
          omega (arith, less, here);
      ticks = λ s named begun h.
          let set = is_touched named s t in
          let certs = certs_on set keys in
          let sofar = inv.ticks s named begun h in
          let plan = c.in_ok-course.ensures.ticks in
          let cost = c.in_ok-done.ensures.ticks set (λ x its. touched s named begun h x (inside n x its)) in
          let here = ap (weight keys) planned in
          let same = ap (weight keys) todo_same in
          let next = next_ticks n certs c.args.steps.now (weight keys m.todo) _ _ (omega (arith, sofar, plan, same)) c.in_ok-done.ensures.unread cost in
          omega (arith, next, here);
    }

pub returns-clause-counted : goal.returns-clause-counted
returns-clause-counted g c = λ s begun.
    let t = c.args.state.now in
    let now = c.loop-level.course in
    let n = c.loop-level.level in
    let some = c.requires.ranges.depth in
    let stage = c.loop-level.invariant.stage s begun in
    let low = c.loop-level.invariant.low s begun in
    let past = c.loop-level-test.false in
    let end = c.loop-level.auto.level-end in
    let bound = ap (λ (o : Options). o.depth) c.options.ensures in
    let top = c.args.state.now.options.depth - 1 in
    let last : n ≡ c.args.state.now.options.depth = omega (arith, past, end, bound) in
    let final = final_at_the_end s t some n now.rows now.todo now.moved.before stage top low last (omega (arith, past, some, bound)) in
    counted_from s t begun.options some n now.rows c.args.found.todo now.todo now.moved.before stage top low last final c.loop-level.invariant.longer

pub returns-clause-ticks : goal.returns-clause-ticks
returns-clause-ticks g c = λ s named begun h.
    let t = c.args.state.now in
    let end = c.loop-level.auto.level-end in
    let bound = ap (λ (o : Options). o.depth) c.options.ensures in
    let few = c.loop-level.invariant.few s named begun h in
    let sofar = c.loop-level.invariant.ticks s named begun h in
    let all = within_depth c.loop-level.level c.args.state.now.options.depth (certs_on (is_touched named s t) c.args.state.now.keys) (omega (arith, end, bound)) c.requires.ranges.depth in
    omega (arith, few, sofar, all)
