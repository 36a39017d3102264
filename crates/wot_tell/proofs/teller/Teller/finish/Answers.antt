use Rattle.wot_tell.proofs.Taken.{told_in_part, told_quietly, told_whole, told_with_a_fault}
use Rattle.wot_tell.proofs.teller.Teller.finish.Goals.{then-tell_unless, else-tell_unless}
use Rattle.wot_tell.proofs.teller.Teller.finish.Goals as goal

pub returns-clause-told : goal.returns-clause-told
returns-clause-told g c began text taken =
    let all = c.tell_unless.ensures began text (rw c.as_slice.ensures taken) in
    elim c.if-tell_unless.branch [
      | then-tell_unless w ↦ rw w.result-is tt
      | else-tell_unless w ↦ rw w.result-is (told_whole began _ _ text (rw w.if-tell_unless.false at all))
    ]

pub returns-clause-prefix : goal.returns-clause-prefix
returns-clause-prefix g c began text taken =
    let all = c.tell_unless.ensures began text (rw c.as_slice.ensures taken) in
    elim c.if-tell_unless.branch [
      | then-tell_unless w ↦ rw w.result-is (told_in_part began _ _ text (rw w.if-tell_unless.true at all))
      | else-tell_unless w ↦ rw w.result-is tt
    ]

pub returns-clause-cause : goal.returns-clause-cause
returns-clause-cause g c began text taken =
    let all = c.tell_unless.ensures began text (rw c.as_slice.ensures taken) in
    elim c.if-tell_unless.branch [
      | then-tell_unless w ↦ rw w.result-is (told_with_a_fault began _ _ text _ (rw w.if-tell_unless.true at all))
      | else-tell_unless w ↦ rw w.result-is (told_quietly began _ _ text _ (rw w.if-tell_unless.false at all))
    ]
