use Rattle.std.proofs.Common.{◌≡◌, ◌∙◌, ◌+◌, ◌<◌, ap, length, arith}
use Rattle.wot_pages.specs.Page.{seal}
use Rattle.wot_pages.specs.Pages.{content_in}
use Rattle.wot_pages.proofs.Checks.{content_cut, wrong_here, right_here}
use Rattle.wot_pages.proofs.checking.first_wrong.Goals as goal

pub returns-then-ne : goal.returns-then-ne
returns-then-ne c =
    let contents = c.args.contents.now in
    let seals = c.args.seals.now in
    let k = c.args.from + c.loop-i.i in
    let inside : c.loop-i.i < length seals = omega arith in
    let right : c.seal.result ≡ seal c.args.epoch k (content_in contents k) = c.seal.ensures ∙ ap (seal c.args.epoch k) (content_cut contents k _ _ (omega arith) (omega arith)) in
    wrong_here c.args.epoch contents seals c.args.from c.loop-i.i inside c.seal.result c.ne.result right c.ne.ensures c.if-ne.true ∙ c.loop-i.invariant

pub loop-i-preserved : goal.loop-i-preserved
loop-i-preserved c =
    let contents = c.args.contents.now in
    let seals = c.args.seals.now in
    let k = c.args.from + c.loop-i.i in
    let inside : c.loop-i.i < length seals = omega arith in
    let right : c.seal.result ≡ seal c.args.epoch k (content_in contents k) = c.seal.ensures ∙ ap (seal c.args.epoch k) (content_cut contents k _ _ (omega arith) (omega arith)) in
    right_here c.args.epoch contents seals c.args.from c.loop-i.i inside c.seal.result c.ne.result right c.ne.ensures c.if-ne.false ∙ c.loop-i.invariant
