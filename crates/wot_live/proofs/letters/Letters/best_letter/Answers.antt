use Rattle.std.proofs.Common.{◌≡◌, ◌+◌, ◌-◌, cond, drop, sym, ap, ◌∙◌, arith}
use Rattle.std.proofs.lemmas.List.{drop_all}
use Rattle.wot_types.specs.Expiry.{user_is_live}
use Rattle.wot_types.specs.Letters.{better, user_letter}
use Rattle.wot_types.specs.Levels.{rows_of}
use Rattle.wot_types.specs.Selection.{spots_from}
use Rattle.wot_table.proofs.Placement.{length_spots}
use Rattle.wot_levels.proofs.SpotLemmas.{at_place}
use Rattle.wot_live.proofs.LetterLemmas.{best_in, best_more}
use Rattle.wot_live.proofs.letters.Letters.best_letter.Goals as goal

pub loop-back-init : goal.loop-back-init
loop-back-init c =
    let s = c.args.self.now.state in
    let k = c.args.keyblock.now in
    let spots = spots_from 0 k.1.users in
    let many = length_spots 0 k.1.users in
    let users = c.requires.head.users in
    ap (best_in s (rows_of s) k.0 k.1) (sym (drop_all (c.args.key.now.users - 0) spots (omega (arith, many, users))))

pub loop-back-preserved : goal.loop-back-preserved
loop-back-preserved c =
    let s = c.args.self.now.state in
    let k = c.args.keyblock.now in
    let rows = rows_of s in
    let all = c.args.key.now.users in
    let back = c.loop-back.back in
    let i = all - 1 - back in
    let spots = spots_from 0 k.1.users in
    let many = length_spots 0 k.1.users in
    let users = c.requires.head.users in
    let at = at_place spots i (omega (arith, c.loop-back-test.true, many, users)) in
    let former : all - back ≡ i + 1 = omega (arith, c.loop-back-test.true) in
    let next : i ≡ all - (back + 1) = omega (arith, c.loop-back-test.true) in
    c.with_user-best.ensures at.0 at.1
    ∙ ap (λ b. cond (user_is_live s.date k.1 at.0.user) (better (user_letter s rows k.0 k.1 at.0) b) b) (c.loop-back.invariant ∙ ap (λ n. best_in s rows k.0 k.1 (drop n spots)) former)
    ∙ best_more s rows k.0 k.1 at.0 (drop (i + 1) spots)
    ∙ ap (best_in s rows k.0 k.1) (sym at.2) ∙ ap (λ n. best_in s rows k.0 k.1 (drop n spots)) next

pub returns : goal.returns
returns c =
    let s = c.args.self.now.state in
    let k = c.args.keyblock.now in
    let none : c.args.key.now.users - c.loop-back.back ≡ 0 = omega (arith, c.loop-back-test.false) in
    c.loop-back.invariant ∙ ap (λ n. best_in s (rows_of s) k.0 k.1 (drop n (spots_from 0 k.1.users))) none
