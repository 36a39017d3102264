use Rattle.std.proofs.Common.{◌-◌, ◌≤◌, [], length, drop, sym, ap, subst, ◌∙◌, arith}
use Rattle.std.specs.List.{list_any}
use Rattle.std.proofs.Math.Seq.{drop-length}
use Rattle.wot_types.specs.Listing.{is_same_user}
use Rattle.wot_marks.specs.Marks.{AreMarked}
use Rattle.wot_marks.proofs.MarkLemmas.{stay_marked}
use Rattle.wot_spelling.specs.Checks.{are_distinct}
use Rattle.wot_spelling.proofs.Distinct.{behind, few_distinct, found_once, found_twice, here}
use Rattle.wot_spelling.proofs.checks.are_found_once.Goals as goal

pub loop-place-init : goal.loop-place-init
loop-place-init c =
    let users = c.args.users.now in
    let none = drop-length users in
    (omega arith, subst (AreMarked c.new-marks.result) (sym none) tt, ap are_distinct none ∙ sym (few_distinct [] (omega arith)))

pub returns-then-branch : goal.returns-then-branch
returns-then-branch c =
    let users = c.args.users.now in
    let place = c.loop-place.place in
    let user = c.index-users-place.result in
    let some = c.loop-place-test.true in
    let twice = ap (list_any (λ other. is_same_user other user)) (sym (behind users place some)) ∙ sym c.in_ok-is_among_marked.ensures ∙ c.if-branch.true in
    sym (found_twice users place user some c.loop-place.invariant.0 c.index-users-place.is twice)

pub loop-place-preserved : goal.loop-place-preserved
loop-place-preserved c =
    let users = c.args.users.now in
    let place = c.loop-place.place in
    let user = c.index-users-place.result in
    let some = c.loop-place-test.true in
    let kept = c.loop-place.invariant in
    let marks = c.add_mark.new.marks in
    let once = ap (list_any (λ other. is_same_user other user)) (sym (behind users place some)) ∙ sym c.in_ok-is_among_marked.ensures ∙ c.if-branch.false in
    let marked = stay_marked c.loop-place.marks marks (drop place users) c.in_ok-add_mark.ensures.keeps kept.1 in
    let within : place - 1 ≤ length users = let most = kept.0 in omega arith in (
      within,
      subst (AreMarked marks) (sym (here users place user some kept.0 c.index-users-place.is)) (c.in_ok-add_mark.ensures.there, marked),
      found_once users place user some kept.0 c.index-users-place.is once kept.2,
    )
