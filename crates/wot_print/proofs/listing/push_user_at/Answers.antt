use Rattle.std.proofs.Common.{◌≡◌, ◌≤◌, ℕ, true, false, List, Option, Some, All, IfSome, is_some, length, option_map, sym, ap, subst, ◌∙◌}
use Rattle.std.specs.List.{flat_map}
use Rattle.wot_types.specs.declared.placed.Placed.{Placed}
use Rattle.wot_types.specs.Arrangement.{spot_of}
use Rattle.wot_types.specs.Letters.{user_letter}
use Rattle.wot_types.specs.Levels.{rows_of}
use Rattle.wot_types.specs.Printing.{cert_line, user_line, user_lines}
use Rattle.wot_types.specs.Selection.{Spot}
use Rattle.wot_types.proofs.Optionals.{there_is}
use Rattle.wot_table.specs.declared.head.UserHead.{UserHead}
use Rattle.wot_table.specs.Heads.{IsUserHead}
use Rattle.wot_levels.proofs.HeadLemmas.{if_there}
use Rattle.wot_live.proofs.KeyWalks.{letter_found}
use Rattle.wot_print_laws.specs.Fits.{FitsCert}
use Rattle.wot_lines.specs.Shown.{shown_user}
use Rattle.wot_print.proofs.Certified.{with_certs, without_certs}
use Rattle.wot_print.proofs.Room.{room_at}
use Rattle.wot_print.proofs.Shown.{user_shown}
use Rattle.wot_print.proofs.Spots.{placed_all, placed_at, placed_lines}
use Rattle.wot_print.proofs.listing.push_user_at.Goals as goal
use Rattle.wot_print.proofs.listing.push_user_at.Goals.{then-sheet+in_ok-push_certs, else-sheet}

pub unwrap-letter-requires : goal.unwrap-letter-requires
unwrap-letter-requires g c =
    let s = c.args.letters.now.state in
    let key = c.args.keyblock.now in
    let spot = there_is (spot_of key.1 c.args.user) c.requires.there in
    ap is_some (c.letter.ensures ∙ ap (option_map (user_letter s (rows_of s) key.0 key.1)) spot.1)

pub push_certs-requires-clause-room : goal.push_certs-requires-clause-room
push_certs-requires-clause-room g c =
    let key = c.args.keyblock.now.1 in
    let most = c.args.sheet.now.order.most in
    let spot = there_is (spot_of key c.args.user) c.requires.there in
    subst (λ (o : Option Spot). IfSome o (λ spot. length spot.certs ≤ most)) (sym spot.1) (room_at key c.args.user most spot.0 spot.1 (c.requires.room c.if-sheet.true))

pub returns-clause-lines : goal.returns-clause-lines
returns-clause-lines g c = λ spot at.
    let s = c.args.letters.now.state in
    let id = c.args.keyblock.now.0 in
    let key = c.args.keyblock.now.1 in
    let user = c.args.user in
    let old = c.args.text.now in
    let letter = user_letter s (rows_of s) id key spot in
    let line = user_line letter spot.user in
    let certs = flat_map cert_line spot.user.certs in
    let Tells = λ (head : UserHead). (spot : Spot) → spot_of key user ≡ Some spot → IsUserHead spot.user head in
    let head = if_there Tells c.user_in.result c.user_in.ensures.head c.unwrap-head.result c.unwrap-head.ensures spot at in
    let found = letter_found (user_letter s (rows_of s) id key) (spot_of key user) spot c.unwrap-letter.result at (sym c.letter.ensures ∙ c.unwrap-letter.ensures) in
    let first : g.W.Sink.adds old line c.push_user.new.text =
    subst (λ (l : List ℕ). g.W.Sink.adds old l c.push_user.new.text) (ap (λ l. user_line l (shown_user c.unwrap-head.result)) found ∙ user_shown letter spot.user c.unwrap-head.result head) c.in_ok-push_user.ensures.adds in
    let placed = placed_at 0 key.users user spot at in
    elim c.if-sheet.branch [
      | then-sheet+in_ok-push_certs w ↦
          subst (g.W.Sink.adds old (user_lines s (rows_of s) c.args.sheet.now.sigs id key spot)) (sym w.text-is)
          (subst (λ (l : List ℕ). g.W.Sink.adds old l w.push_certs.new.text) (with_certs c.args.sheet.now.sigs line certs w.if-sheet.true)
          (g.met.W.Sink.both old c.push_user.new.text w.push_certs.new.text line certs first
          (subst (λ (l : List ℕ). g.W.Sink.adds c.push_user.new.text l w.push_certs.new.text)
          (ap (flat_map (λ (p : Placed). cert_line p.cert)) (sym placed.1) ∙ placed_lines cert_line placed.0 spot.user.certs) (w.in_ok-push_certs.ensures.lines spot at))))
      | else-sheet w ↦
          subst (g.W.Sink.adds old (user_lines s (rows_of s) c.args.sheet.now.sigs id key spot)) (sym w.text-is)
          (subst (λ (l : List ℕ). g.W.Sink.adds old l c.push_user.new.text) (without_certs c.args.sheet.now.sigs line certs w.if-sheet.false) first)
    ]

pub returns-clause-fits : goal.returns-clause-fits
returns-clause-fits g c = λ spot at sigs.
    let key = c.args.keyblock.now.1 in
    let Tells = λ (head : UserHead). (spot : Spot) → spot_of key c.args.user ≡ Some spot → IsUserHead spot.user head in
    let head = if_there Tells c.user_in.result c.user_in.ensures.head c.unwrap-head.result c.unwrap-head.ensures spot at in
    let placed = placed_at 0 key.users c.args.user spot at in
    elim c.if-sheet.branch [
      | then-sheet+in_ok-push_certs w ↦
          c.user_fits.ensures spot.user head
          (placed_all FitsCert placed.0 spot.user.certs (subst (All (λ (p : Placed). FitsCert p.cert)) (sym placed.1) (w.in_ok-push_certs.ensures.fits spot at)))
      | else-sheet w ↦ absurd (true_false (sym sigs ∙ w.if-sheet.false))
    ]
  where
    true_false : true ≡ false → ⊥
    true_false e = cc
