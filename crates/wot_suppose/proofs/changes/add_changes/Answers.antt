use Rattle.std.proofs.Common.{◌+◌, ◌++◌, drop, is_some, map, option_map, sym, ap, ◌∙◌, arith}
use Rattle.std.specs.Prelude.{option_to_list}
use Rattle.wot_types.specs.Arrangement.{spot_of}
use Rattle.wot_types.specs.Letters.{user_letter}
use Rattle.wot_types.specs.Levels.{rows_of}
use Rattle.wot_types.specs.Selection.{spots_from}
use Rattle.wot_types.specs.Supposing.{change_of, changed_letters}
use Rattle.wot_table.proofs.Placement.{length_spots}
use Rattle.wot_levels.proofs.SpotLemmas.{at_place}
use Rattle.wot_live.proofs.KeyWalks.{letter_found}
use Rattle.wot_suppose.proofs.Comparing.{index_is, one_more}
use Rattle.wot_suppose.proofs.changes.add_changes.Goals as goal

pub unwrap-new-requires : goal.unwrap-new-requires
unwrap-new-requires c =
    let i = c.loop-user.user in
    let s = c.args.letters.now.state in
    let key = c.args.keyblock.now in
    let many = length_spots 0 key.1.users in
    let all = c.key-key.ensures.users in
    let at = at_place (spots_from 0 key.1.users) i (omega (arith, c.loop-user-test.true, many, all)) in
    ap is_some (c.letter.ensures ∙ ap (option_map (user_letter s (rows_of s) key.0 key.1)) at.1)

pub loop-user-preserved : goal.loop-user-preserved
loop-user-preserved c =
    let i = c.loop-user.user in
    let s = c.args.letters.now.state in
    let key = c.args.keyblock.now in
    let f = user_letter s (rows_of s) key.0 key.1 in
    let former = c.args.former.now in
    let spots = spots_from 0 key.1.users in
    let many = length_spots 0 key.1.users in
    let all = c.key-key.ensures.users in
    let at = at_place spots i (omega (arith, c.loop-user-test.true, many, all)) in
    let was = at_place former i (omega (arith, c.loop-user-test.true, c.requires.all, all)) in
    let found = c.loop-user.found in
    let letter = letter_found f (spot_of key.1 i) at.0 c.unwrap-new.result at.1 (sym c.letter.ensures ∙ c.unwrap-new.ensures) in
    let letter_before = index_is former i _ was.0 was.1 in
    ap (λ xs. xs ++ changed_letters key.0 (i + 1) (drop (i + 1) former) (map f (drop (i + 1) spots)))
    (c.in_ok-add_change.ensures ∙ (λ j. found ++ option_to_list (change_of (c.id.ensures j) i (letter_before j) (letter j))))
    ∙ one_more found _ key.0 i was.0 (f at.0) (drop (i + 1) former) (map f (drop (i + 1) spots))
    ((λ j. found ++ changed_letters key.0 i (sym was.2 j) (map f (sym at.2 j))) ∙ c.loop-user.invariant)
