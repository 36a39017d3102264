use Rattle.std.proofs.Common.{◌+◌, ◌∷◌, [], ◌++◌, append-nil, drop, is_some, map, option_map, sym, ap, ◌∙◌, arith}
use Rattle.std.proofs.lemmas.List.{append_assoc, drop_all}
use Rattle.wot_types.specs.Arrangement.{spot_of}
use Rattle.wot_types.specs.Letters.{user_letter}
use Rattle.wot_types.specs.Levels.{rows_of}
use Rattle.wot_types.specs.Selection.{spots_from}
use Rattle.wot_table.proofs.Placement.{length_spots}
use Rattle.wot_levels.proofs.SpotLemmas.{at_place}
use Rattle.wot_live.proofs.KeyWalks.{letter_found}
use Rattle.wot_suppose.proofs.letters.push_letters.Goals as goal

pub unwrap-requires : goal.unwrap-requires
unwrap-requires c =
    let i = c.loop-user.user in
    let s = c.args.letters.now.state in
    let key = c.args.keyblock.now in
    let many = length_spots 0 key.1.users in
    let all = c.key-user-end.ensures.users in
    let at = at_place (spots_from 0 key.1.users) i (omega (arith, c.loop-user-test.true, many, all)) in
    ap is_some (c.letter.ensures ∙ ap (option_map (user_letter s (rows_of s) key.0 key.1)) at.1)

pub loop-user-preserved : goal.loop-user-preserved
loop-user-preserved c =
    let i = c.loop-user.user in
    let s = c.args.letters.now.state in
    let key = c.args.keyblock.now in
    let f = user_letter s (rows_of s) key.0 key.1 in
    let spots = spots_from 0 key.1.users in
    let many = length_spots 0 key.1.users in
    let all = c.key-user-end.ensures.users in
    let at = at_place spots i (omega (arith, c.loop-user-test.true, many, all)) in
    let items = c.loop-user.all.items in
    let letter = letter_found f (spot_of key.1 i) at.0 c.unwrap.result at.1 (sym c.letter.ensures ∙ c.unwrap.ensures) in
    ap (λ xs. xs ++ map f (drop (i + 1) spots)) (c.in_ok-push.ensures.items ∙ ap (λ x. items ++ x ∷ []) letter)
    ∙ append_assoc items (f at.0 ∷ []) (map f (drop (i + 1) spots)) ∙ ap (λ xs. items ++ map f xs) (sym at.2) ∙ c.loop-user.invariant

pub returns : goal.returns
returns c =
    let i = c.loop-user.user in
    let s = c.args.letters.now.state in
    let key = c.args.keyblock.now in
    let f = user_letter s (rows_of s) key.0 key.1 in
    let spots = spots_from 0 key.1.users in
    let many = length_spots 0 key.1.users in
    let all = c.key-user-end.ensures.users in
    let items = c.loop-user.all.items in
    let past = drop_all i spots (omega (arith, c.loop-user-test.false, many, all)) in
    sym (append-nil items) ∙ ap (λ xs. items ++ map f xs) (sym past) ∙ c.loop-user.invariant
