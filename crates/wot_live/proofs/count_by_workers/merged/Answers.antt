use Rattle.wot_live.proofs.Merging.{found_next}
use Rattle.wot_live.proofs.count_by_workers.merged.Goals as goal

pub loop-piece-preserved : goal.loop-piece-preserved
loop-piece-preserved c =
    let more = found_next c.loop-piece.yielded c.in-Some.piece c.in_ok-piece.field-0 c.loop-piece.pairs.items c.append.new.self.items c.in_ok-piece.was
    c.loop-piece.invariant.whole c.loop-piece.invariant.exact c.in_ok-append.ensures.items in
    record {
      whole = more.0;
      exact = more.1;
    }
