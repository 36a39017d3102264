use Rattle.std.proofs.Common.{inl, inr, subst, arith, rules}
use Rattle.wot_site.proofs.Honest.{honest_then, honest_with}
use Rattle.wot_session.specs.SessionState.{IsOver}
use Rattle.wot_session.specs.Turn.{StoppedTurn}
use Rattle.wot_session.specs.declared.stop.Stop.TheVariants.{TooLong}
use Rattle.wot_session.proofs.Feeds.{is_over, not_over, said_known}
use Rattle.wot_session.proofs.Turns.{all_read, few, less_room, taken_here, turn_broken, turn_failed, turn_long, turn_read}
use Rattle.wot_session.proofs.session.Session.turn.Goals as goal

pub returns-in-Err-clause-stopped : goal.returns-in-Err-clause-stopped
returns-in-Err-clause-stopped g c p here =
    honest_with _ _ _ _ _ here.holds c.in-Err.ensures.err (λ x y stored nothing. turn_failed p c.args.self.now.line c.args.room x y stored nothing)

pub answer_bytes-requires : goal.answer_bytes-requires
answer_bytes-requires g c = (search rules, (search rules, (c.requires.somewhere.0, taken_here _ _ c.in-Ok.n c.take.new.buf _ _ c.requires.somewhere.1 c.in-Ok.ensures.ok)))

pub returns-in-Err-answer_bytes-clause-stopped : goal.returns-in-Err-answer_bytes-clause-stopped
returns-in-Err-answer_bytes-clause-stopped g c p here =
    honest_then _ _ _ _ _ _ c.in-Ok.ensures.ok (c.in-Err-answer_bytes.ensures.prefix p (taken_here _ p c.in-Ok.n c.take.new.buf _ _ here c.in-Ok.ensures.ok))
    (λ x y z takes said. turn_broken c.in-Ok.n c.take.new.buf takes c.first_of-read.result (few c.in-Ok.n c.args.room _ c.first_of-read.ensures) p c.args.self.now.line c.args.room c.in-Err-answer_bytes.stop z c.in-Err-answer_bytes.ensures.cause.kinds said)

pub returns-then-is_over-clause-at : goal.returns-then-is_over-clause-at
returns-then-is_over-clause-at g c p here = c.in-Ok-answer_bytes.ensures.at p (taken_here _ p c.in-Ok.n c.take.new.buf _ _ here c.in-Ok.ensures.ok)

pub returns-then-is_over-clause-turned : goal.returns-then-is_over-clause-turned
returns-then-is_over-clause-turned g c p here =
    let there = taken_here _ p c.in-Ok.n c.take.new.buf _ _ here c.in-Ok.ensures.ok in
    let ended : IsOver c.answer_bytes.new.self = search rules in
    let quits = is_over c.answer_bytes.new.self _ (c.in-Ok-answer_bytes.ensures.at p there).at ended in
    honest_then _ _ _ _ _ _ c.in-Ok.ensures.ok (c.in-Ok-answer_bytes.ensures.told p there)
    (λ x y z takes said. turn_read c.in-Ok.n c.take.new.buf takes c.first_of-read.result (few c.in-Ok.n c.args.room _ c.first_of-read.ensures) p c.args.self.now.line z
    (omega (arith, c.requires.some, c.take.auto.buf)) (omega (arith, c.in-Ok.ensures.fits, c.take.auto.buf)) (inr quits) said)

pub returns-then-read-taken-clause-stopped : goal.returns-then-read-taken-clause-stopped
returns-then-read-taken-clause-stopped g c p here =
    let there = taken_here _ p c.in-Ok.n c.take.new.buf _ _ here c.in-Ok.ensures.ok in
    let goes : IsOver c.answer_bytes.new.self → ⊥ = search rules in
    let after = c.in-Ok-answer_bytes.ensures.at p there in
    let room = less_room c.in-Ok.n c.args.room _ c.first_of-read.ensures c.if-read-taken.true in
    honest_then _ _ _ _ _ _ c.in-Ok.ensures.ok (said_known _ _ _ _ (c.in-Ok-answer_bytes.ensures.told p there) after.holds)
    (λ x y z takes said. subst (λ room. StoppedTurn p c.args.self.now.line room TooLong x z) room
    (turn_long c.in-Ok.n c.take.new.buf takes c.first_of-read.result (few c.in-Ok.n c.args.room _ c.first_of-read.ensures) p c.args.self.now.line z
    c.if-read-taken.true (not_over c.answer_bytes.new.self _ after.at goes) said.1 said.0))

pub returns-clause-at : goal.returns-clause-at
returns-clause-at g c p here = c.in-Ok-answer_bytes.ensures.at p (taken_here _ p c.in-Ok.n c.take.new.buf _ _ here c.in-Ok.ensures.ok)

pub returns-clause-turned : goal.returns-clause-turned
returns-clause-turned g c p here =
    honest_then _ _ _ _ _ _ c.in-Ok.ensures.ok (c.in-Ok-answer_bytes.ensures.told p (taken_here _ p c.in-Ok.n c.take.new.buf _ _ here c.in-Ok.ensures.ok))
    (λ x y z takes said. turn_read c.in-Ok.n c.take.new.buf takes c.first_of-read.result (few c.in-Ok.n c.args.room _ c.first_of-read.ensures) p c.args.self.now.line z
    (omega (arith, c.requires.some, c.take.auto.buf)) (omega (arith, c.in-Ok.ensures.fits, c.take.auto.buf))
    (inl (all_read c.in-Ok.n c.args.room _ c.first_of-read.ensures c.if-read-taken.false)) said)
