use Rattle.wot_types.specs.PagePlaces.{page_place}
use Rattle.wot_site.specs.Site.{Sizes}
use Rattle.wot_site.proofs.Honest.{Then, honest_joined, honest_then}
use Rattle.wot_history.specs.Reading.{FindsBase, FindsState, LacksBase, LacksIt, Replays, StopsAt}
use Rattle.wot_history.proofs.Earlier.{found_earlier, lacked_earlier}
use Rattle.wot_history.proofs.Wholes.{base_lacks, finds_state, records_lack}
use Rattle.wot_history.proofs.history.state_at.Goals as goal

pub returns-in-Err-load_base-clause-lacks : goal.returns-in-Err-load_base-clause-lacks
returns-in-Err-load_base-clause-lacks g c =
    let side = c.args.side in
    let e = c.in-Err-load_base.e in
    honest_then (Sizes side c.in-Ok.size) (LacksBase side c.args.epoch c.args.pages e) (LacksIt side c.args.epoch c.args.pages c.args.count e) _ _ _ c.in-Ok.ensures.ok c.in-Err-load_base.ensures.lacks
    (λ x y z sizes lacks. base_lacks side c.args.epoch c.args.pages c.args.count c.in-Ok.size x y sizes e z lacks)

pub returns-in-Err-load_base-clause-earlier : goal.returns-in-Err-load_base-clause-earlier
returns-in-Err-load_base-clause-earlier g c place shown asked =
    lacked_earlier place shown c.args.side c.args.epoch c.args.pages c.args.count asked c.in-Err-load_base.e _ _ (returns-in-Err-load_base-clause-lacks g c)

pub returns-in-Err-replay_first-clause-lacks : goal.returns-in-Err-replay_first-clause-lacks
returns-in-Err-replay_first-clause-lacks g c =
    let side = c.args.side in
    let base = c.in-Ok-load_base.loaded.0 in
    let e = c.in-Err-replay_first.e in
    honest_then (Then (Sizes side c.in-Ok.size) (FindsBase side c.args.epoch c.args.pages base)) (StopsAt side (page_place c.args.pages) base c.args.count e) (LacksIt side c.args.epoch c.args.pages c.args.count e) _ _ _
    (honest_joined (Sizes side c.in-Ok.size) (FindsBase side c.args.epoch c.args.pages base) _ _ _ c.in-Ok.ensures.ok c.in-Ok-load_base.ensures.base)
    (rw c.in-Ok-load_base.ensures.start.0 at c.in-Err-replay_first.ensures.stops)
    (λ x z w t stops. records_lack side c.args.epoch c.args.pages c.args.count c.in-Ok.size x t.0 t.1 base z t.2 e w stops)

pub returns-in-Err-replay_first-clause-earlier : goal.returns-in-Err-replay_first-clause-earlier
returns-in-Err-replay_first-clause-earlier g c place shown asked =
    lacked_earlier place shown c.args.side c.args.epoch c.args.pages c.args.count asked c.in-Err-replay_first.e _ _ (returns-in-Err-replay_first-clause-lacks g c)

pub returns-in-Ok-into_engine-clause-found : goal.returns-in-Ok-into_engine-clause-found
returns-in-Ok-into_engine-clause-found g c =
    let side = c.args.side in
    let base = c.in-Ok-load_base.loaded.0 in
    let state = c.in-Ok-replay_first.draft in
    rw c.in-Ok-into_engine.ensures
    (honest_then (Then (Sizes side c.in-Ok.size) (FindsBase side c.args.epoch c.args.pages base)) (Replays side (page_place c.args.pages) base c.args.count state) (FindsState side c.args.epoch c.args.pages c.args.count state) _ _ _
    (honest_joined (Sizes side c.in-Ok.size) (FindsBase side c.args.epoch c.args.pages base) _ _ _ c.in-Ok.ensures.ok c.in-Ok-load_base.ensures.base)
    (rw c.in-Ok-load_base.ensures.start.0 at c.in-Ok-replay_first.ensures.replayed)
    (λ x z w t replays. finds_state side c.args.epoch c.args.pages c.args.count c.in-Ok.size x t.0 t.1 base z t.2 state w replays))

pub returns-in-Ok-into_engine-clause-earlier : goal.returns-in-Ok-into_engine-clause-earlier
returns-in-Ok-into_engine-clause-earlier g c place shown asked =
    found_earlier place shown c.args.side c.args.epoch c.args.pages c.args.count asked c.in-Ok-into_engine.engine _ _ (returns-in-Ok-into_engine-clause-found g c)
