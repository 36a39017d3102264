use Rattle.std.proofs.Common.{rules, [], Result, Ok, Err, IsOk, OnOk}
use Rattle.wot_tell.specs.Teller.{HasTaken, Reached, stand}
use Rattle.wot_tell.proofs.Taken.{taken_none}
use Rattle.wot_session.proofs.tell.tell_printout.Goals as goal

-- what follows from an Ok, where it is one
so_far : {T E P : Type 0} (result : Result T E) → IsOk result → OnOk result P → P
so_far (Ok told) ok so = so
so_far (Err fault) ok so = cc

pub returns : goal.returns
returns g c =
    let seen = g.S.Site.seen in
    let faults = g.S.Site.faults in
    let site = c.args.site in
    let teller = c.new-teller.result in
    let began : Reached = record { seen = seen site.now; faults = faults site.now } in
    let start : HasTaken began (stand (seen teller.site.now) (faults teller.site.now) teller.failed teller.held) [] =
    rw (c.new-teller.ensures.site, c.new-teller.ensures.empty, c.new-teller.ensures.going) (taken_none (seen site.now) (faults site.now)) in
    let printed = so_far _ c.taken.ensures c.print.ensures.adds began [] start in
    let all = so_far _ c.taken-2.ensures c.push_bytes.ensures.adds began c.args.printout printed in
    record {
      told = (let ended = c.finish.ensures.told began _ all in search rules);
      prefix = (let ended = c.finish.ensures.prefix began _ all in search rules);
      cause = (let ended = c.finish.ensures.cause began _ all in search rules);
    }
