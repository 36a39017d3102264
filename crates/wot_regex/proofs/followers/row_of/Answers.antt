use Rattle.std.proofs.Common.{rules, ◌≡◌, true, length, sym, ap, ap₂, ◌∙◌, arith}
use Rattle.wot_regex.specs.Following.{opened}
use Rattle.wot_regex.specs.Gathering.{all_spread, back_start}
use Rattle.wot_regex.specs.Reaching.{exits}
use Rattle.wot_regex.proofs.Followings.{holds_spread, opened_length}
use Rattle.wot_regex.proofs.followers.row_of.Goals as goal

pub spread-requires-clause-same : goal.spread-requires-clause-same
spread-requires-clause-same c =
    let kept : length c.gather.new.cells ≡ length c.args.cells.now = search rules in
    kept ∙ c.requires.same ∙ sym (opened_length c.args.nodes.now) ∙ sym (ap length c.requires.free)

pub spread-requires-clause-room : goal.spread-requires-clause-room
spread-requires-clause-room c = omega (arith, c.requires.room, ap length c.requires.free, opened_length c.args.nodes.now)

pub returns : goal.returns
returns c = record {
  next =
      holds_spread c.set_of-next.result.words 0 (opened c.args.nodes.now) _ c.spread.new.cells
      (c.spread.ensures ∙ ap₂ (λ x y. (all_spread 0 x y back_start).cells) c.requires.free c.gather.ensures.cells)
      c.set_of-next.ensures;
  found = c.exits-found.ensures ∙ ap (λ r. exits r true) c.gather.ensures.reached;
}
