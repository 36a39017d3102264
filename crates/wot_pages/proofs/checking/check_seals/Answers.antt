use Rattle.std.proofs.Common.{◌<◌, ◌∙◌, ap, arith}
use Rattle.wot_workers.specs.Pieces.{first_some}
use Rattle.wot_pages.proofs.Checks.{first_of_pieces}
use Rattle.wot_pages.proofs.checking.check_seals.Goals as goal

pub returns : goal.returns
returns g c =
    let size = c.piece_size-size.result in
    let positive : 0 < size = omega (arith, c.piece_size-size.ensures.positive) in
    c.first_some.ensures ∙ ap first_some c.deref.ensures.value
    ∙ first_of_pieces c.args.epoch c.args.contents.now size positive c.args.seals.now c.in_ok-told.told.items c.in_ok-told.ensures
