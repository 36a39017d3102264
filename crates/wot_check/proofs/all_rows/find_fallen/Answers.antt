use Rattle.std.proofs.Common.{◌<◌, not, None, ap, subst, ◌∙◌, arith}
use Rattle.wot_types.specs.Keyring.{Keyring}
use Rattle.wot_check.specs.Comparison.{first_fallen, stands}
use Rattle.wot_check.specs.KeyWalk.{IsWalk, is_checked}
use Rattle.wot_workers.specs.Pieces.{first_some}
use Rattle.wot_check.proofs.Seams.{first_of_pieces}
use Rattle.wot_check.proofs.all_rows.find_fallen.Goals as goal

pub returns : goal.returns
returns g c =
    let s = c.args.state.now in
    let rows = c.args.rows.now in
    let walk = subst (λ (keys : Keyring). IsWalk (is_checked keys rows) None c.in_ok-ids.ids.items) c.table.ensures c.in_ok-ids.ensures in
    let size = c.piece_size-size.result in
    let positive : 0 < size = omega (arith, c.piece_size-size.ensures.positive) in
    let pieces = first_of_pieces (λ id. not (stands s rows id)) size positive c.deref.result.now c.in_ok-found.found.items c.in_ok-found.ensures in
    let first = c.first_some.ensures ∙ ap first_some c.deref-2.ensures.value ∙ pieces ∙ ap (first_fallen s rows) c.deref.ensures.value in
    (c.in_ok-ids.ids.items, walk, first)
