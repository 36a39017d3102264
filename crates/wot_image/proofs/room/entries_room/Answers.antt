use Rattle.std.proofs.Common.{◌≡◌, ◌+◌, List, ℕ, length, ap, arith}
use Rattle.std.specs.FinMap as finmap
use Rattle.std.specs.FinMap.{len-entries}
use Rattle.wot_image.proofs.Bounds.{few_trusts}
use Rattle.wot_image.proofs.Rooms.{next_small, room_next}
use Rattle.wot_image.proofs.room.entries_room.Goals as goal

pub overflow_add-room-in-loop-fpr : goal.overflow_add-room-in-loop-fpr
overflow_add-room-in-loop-fpr c =
    let all = finmap.entries c.args.trusts.now in
    let long : length c.as_bytes.result.now ≡ length c.in-Some.fpr.now = ap (λ (l : List ℕ). length l) c.as_bytes.ensures.same in
    let few = few_trusts c.args.trusts.now c.requires.few in
    let small =
    next_small all c.loop-fpr.fpr-iterator c.loop-fpr.room c.loop-fpr.invariant c.next.new.self (c.in-Some.fpr.now, c.in-Some.field-0-1.now)
    c.in-Some.ensures.steps c.as_bytes.ensures.sized (omega (arith, few, len-entries c.args.trusts.now)) in
    omega (arith, long, small)

pub loop-fpr-preserved : goal.loop-fpr-preserved
loop-fpr-preserved c =
    let room = c.loop-fpr.room in
    room_next (finmap.entries c.args.trusts.now) c.loop-fpr.fpr-iterator room c.loop-fpr.invariant c.next.new.self (c.in-Some.fpr.now, c.in-Some.field-0-1.now)
    (room + (2 + length c.as_bytes.result.now)) c.in-Some.ensures.steps c.as_bytes.ensures.sized (ap (λ (l : List ℕ). room + (2 + length l)) c.as_bytes.ensures.same)
