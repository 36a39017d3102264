use Rattle.std.proofs.Common.{◌+◌, ◌∷◌, [], ◌++◌, append-nil, drop, is_some, map, option_map, refl, sym, ap, ◌∙◌, arith}
use Rattle.std.proofs.lemmas.List.{append_assoc, drop_all}
use Rattle.wot_types.specs.Arrangement.{spot_of}
use Rattle.wot_types.specs.Letters.{user_letter}
use Rattle.wot_types.specs.Levels.{rows_of}
use Rattle.wot_types.specs.Selection.{spots_from}
use Rattle.wot_table.proofs.Placement.{length_spots}
use Rattle.wot_levels.proofs.SpotLemmas.{at_place}
use Rattle.wot_live.proofs.KeyWalks.{letter_found}
use Rattle.wot_print.specs.Counts.{counts_of}
use Rattle.wot_print.proofs.counts.add_letters.Goals as goal

pub loop-user-init : goal.loop-user-init
loop-user-init c = λ passed counted. (passed, counted, refl)

pub unwrap-requires : goal.unwrap-requires
unwrap-requires c =
    let i = c.loop-user.user in
    let s = c.args.letters.now.state in
    let key = c.args.keyblock.now in
    let many = length_spots 0 key.1.users in
    let all = c.key-user-end.ensures.users in
    let at = at_place (spots_from 0 key.1.users) i (omega (arith, c.loop-user-test.true, many, all)) in
    ap is_some (c.letter.ensures ∙ ap (option_map (user_letter s (rows_of s) key.0 key.1)) at.1)

pub loop-user-preserved : goal.loop-user-preserved
loop-user-preserved c = λ passed counted.
    let i = c.loop-user.user in
    let s = c.args.letters.now.state in
    let key = c.args.keyblock.now in
    let f = user_letter s (rows_of s) key.0 key.1 in
    let spots = spots_from 0 key.1.users in
    let many = length_spots 0 key.1.users in
    let all = c.key-user-end.ensures.users in
    let at = at_place spots i (omega (arith, c.loop-user-test.true, many, all)) in
    let so_far = c.loop-user.invariant passed counted in
    let letter = letter_found f (spot_of key.1 i) at.0 c.unwrap.result at.1 (sym c.letter.ensures ∙ c.unwrap.ensures) in (
      so_far.0 ++ f at.0 ∷ [],
      c.add.ensures so_far.0 so_far.1 ∙ ap (λ x. counts_of (so_far.0 ++ x ∷ [])) letter,
      append_assoc so_far.0 (f at.0 ∷ []) (map f (drop (i + 1) spots)) ∙ ap (λ xs. so_far.0 ++ map f xs) (sym at.2) ∙ so_far.2,
    )

pub returns : goal.returns
returns c = λ passed counted.
    let i = c.loop-user.user in
    let s = c.args.letters.now.state in
    let key = c.args.keyblock.now in
    let f = user_letter s (rows_of s) key.0 key.1 in
    let spots = spots_from 0 key.1.users in
    let many = length_spots 0 key.1.users in
    let all = c.key-user-end.ensures.users in
    let past = drop_all i spots (omega (arith, c.loop-user-test.false, many, all)) in
    let so_far = c.loop-user.invariant passed counted in
    so_far.1 ∙ ap counts_of (sym (append-nil so_far.0) ∙ ap (λ xs. so_far.0 ++ map f xs) (sym past) ∙ so_far.2)
