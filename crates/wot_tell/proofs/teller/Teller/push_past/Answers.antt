use Rattle.std.proofs.Common.{[], ◌++◌}
use Rattle.wot_tell.proofs.Taken.{held_more}
use Rattle.wot_tell.proofs.teller.Teller.push_past.Goals as goal

pub returns-clause-taken : goal.returns-clause-taken
returns-clause-taken g c began text taken =
    let bytes = c.args.bytes.now in
    rw c.flush.ensures.empty (c.tell_unless-self.ensures began (text ++ bytes) (held_more began _ _ _ [] text bytes (c.flush.ensures.taken began text taken)))
