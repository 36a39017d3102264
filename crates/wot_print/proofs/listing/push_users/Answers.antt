use Rattle.std.proofs.Common.{Bool, ℕ, ◌+◌, List, [], ◌++◌, All, drop, is_some, refl, sym, ap, subst, ◌∙◌, arith}
use Rattle.std.proofs.lemmas.List.{drop_all}
use Rattle.std.proofs.lemmas.List.Elements.{All-cons, All-nil}
use Rattle.wot_types.specs.Levels.{rows_of}
use Rattle.wot_types.specs.Printing.{user_lines}
use Rattle.wot_types.specs.Selection.{Spot, spots_from}
use Rattle.wot_table.proofs.Placement.{length_spots}
use Rattle.wot_levels.proofs.SpotLemmas.{at_place}
use Rattle.wot_live.proofs.KeyWalks.{none_of_left, one_of_left}
use Rattle.wot_print_laws.specs.Fits.{FitsUser}
use Rattle.wot_print.proofs.Spots.{spots_all}
use Rattle.wot_print.proofs.listing.push_users.Goals as goal

pub push_user_at-requires-clause-there : goal.push_user_at-requires-clause-there
push_user_at-requires-clause-there g c =
    let users = c.args.keyblock.now.1.users in
    let count = length_spots 0 users in
    let many = c.requires.all in
    let at = at_place (spots_from 0 users) c.loop-user.user (omega (arith, c.loop-user-test.true, count, many)) in
    ap is_some at.1

pub push_user_at-requires-clause-room : goal.push_user_at-requires-clause-room
push_user_at-requires-clause-room g c = λ sigs. let most = c.loop-user.invariant.most in let room = c.requires.room (sym c.loop-user.invariant.sigs ∙ sigs) in omega (arith, most, room)

pub loop-user-init : goal.loop-user-init
loop-user-init g c = record {
  same = refl;
  lines = ([], refl, g.met.W.Sink.none c.args.text.now);
  fits = λ sigs h. h;
  sigs = refl;
  most = refl;
}

pub loop-user-preserved : goal.loop-user-preserved
loop-user-preserved g c =
    let s = c.args.letters.now.state in
    let i = c.loop-user.user in
    let key = c.args.keyblock.now in
    let spots = spots_from 0 key.1.users in
    let count = length_spots 0 key.1.users in
    let many = c.requires.all in
    let at = at_place spots i (omega (arith, c.loop-user-test.true, count, many)) in
    let P = λ (spot : Spot). FitsUser spot.user in
    let f = user_lines s (rows_of s) c.args.sheet.now.sigs key.0 key.1 in
    let so_far = c.loop-user.invariant.lines in
    let told = subst (λ (sigs : Bool). g.W.Sink.adds c.loop-user.text (user_lines s (rows_of s) sigs key.0 key.1 at.0) c.push_user_at.new.text) c.loop-user.invariant.sigs (c.in_ok-push_user_at.ensures.lines at.0 at.1) in
    record {
      same = c.push_user_at.ensures.same ∙ c.loop-user.invariant.same;
      lines = (
        so_far.0 ++ f at.0,
        one_of_left f so_far.0 _ at.0 (drop (i + 1) spots) (drop i spots) at.2 so_far.1,
        g.met.W.Sink.both c.args.text.now c.loop-user.text c.push_user_at.new.text so_far.0 (f at.0) so_far.2 told,
      );
      fits = λ sigs rest. c.loop-user.invariant.fits sigs (subst (All P) (sym at.2) (All-cons P at.0 (drop (i + 1) spots) (c.in_ok-push_user_at.ensures.fits at.0 at.1 (c.loop-user.invariant.sigs ∙ sigs)) rest));
      sigs = c.in_ok-push_user_at.ensures.sigs ∙ c.loop-user.invariant.sigs;
      most = c.in_ok-push_user_at.ensures.most ∙ c.loop-user.invariant.most;
    }

pub returns-clause-lines : goal.returns-clause-lines
returns-clause-lines g c =
    let s = c.args.letters.now.state in
    let key = c.args.keyblock.now in
    let spots = spots_from 0 key.1.users in
    let count = length_spots 0 key.1.users in
    let many = c.requires.all in
    let so_far = c.loop-user.invariant.lines in
    let all = none_of_left (user_lines s (rows_of s) c.args.sheet.now.sigs key.0 key.1) so_far.0 _ (drop c.loop-user.user spots) (drop_all c.loop-user.user spots (omega (arith, c.loop-user-test.false, count, many))) so_far.1 in
    subst (λ (l : List ℕ). g.W.Sink.adds c.args.text.now l c.loop-user.text) all so_far.2

pub returns-clause-fits : goal.returns-clause-fits
returns-clause-fits g c = λ sigs.
    let users = c.args.keyblock.now.1.users in
    let spots = spots_from 0 users in
    let count = length_spots 0 users in
    let many = c.requires.all in
    let P = λ (spot : Spot). FitsUser spot.user in
    spots_all FitsUser 0 users (c.loop-user.invariant.fits sigs (subst (All P) (sym (drop_all c.loop-user.user spots (omega (arith, c.loop-user-test.false, count, many)))) (All-nil P)))
