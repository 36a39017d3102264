use Rattle.wot_store.proofs.rows.standing_rows.Goals as goal

pub returns-in-Some-clause-bad : goal.returns-in-Some-clause-bad
returns-in-Some-clause-bad g c b is =
    let wrong = c.checked_rows.ensures.bad b is in
    (wrong.0, c.in-Some.rows, wrong.1, c.in-Some.is, wrong.2)
