use Rattle.wot_levels.proofs.standing.support_in.Goals as goal

pub look_at-look-requires-clause-text : goal.look_at-look-requires-clause-text
look_at-look-requires-clause-text g c = λ spot is. (c.in-Some.ensures.head spot is).text
