use Rattle.wot_tell.proofs.Taken.{held_told}
use Rattle.wot_tell.proofs.teller.tell_unless.Goals as goal

pub returns-else-failed : goal.returns-else-failed
returns-else-failed g c began text taken =
    rw c.is_err.ensures.value (held_told began _ _ _ _ c.args.bytes.now text c.tell_all.result c.tell_all.ensures.told c.tell_all.ensures.prefix c.tell_all.ensures.cause (rw c.if-failed.false at taken))
