use Rattle.std.proofs.Common.{Some, option_map, sym, ap, ◌∙◌}
use Rattle.wot_types.specs.Arrangement.{spot_of}
use Rattle.wot_types.specs.Letters.{user_letter}
use Rattle.wot_types.specs.Levels.{rows_of}
use Rattle.wot_live.proofs.HeadLemmas.{head_spot, no_spot}
use Rattle.wot_live.proofs.letters.Letters.letter.Goals as goal

pub returns-in-Some : goal.returns-in-Some
returns-in-Some c =
    let s = c.args.self.now.state in
    let k = c.args.keyblock.now in
    let found = head_spot (spot_of k.1 c.args.user) c.in-Some.head c.in-Some.ensures in
    ap Some (c.letter_on.ensures k found.0 c.requires.told c.key.ensures found.2 found.1)
    ∙ ap (option_map (user_letter s (rows_of s) k.0 k.1)) (sym found.1)

pub returns-in-None : goal.returns-in-None
returns-in-None c =
    let s = c.args.self.now.state in
    let k = c.args.keyblock.now in
    ap (option_map (user_letter s (rows_of s) k.0 k.1)) (no_spot (spot_of k.1 c.args.user) c.in-None.ensures)
