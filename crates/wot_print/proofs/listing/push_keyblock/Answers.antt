use Rattle.std.proofs.Common.{ℕ, List, ◌++◌, ap, subst, ◌∙◌}
use Rattle.std.specs.List.{flat_map}
use Rattle.wot_types.specs.Letters.{key_letter}
use Rattle.wot_types.specs.Levels.{rows_of}
use Rattle.wot_types.specs.Ownertrust.{ownertrust_of}
use Rattle.wot_types.specs.Printing.{fpr_line, pub_line, user_lines}
use Rattle.wot_types.specs.Selection.{spots_from}
use Rattle.wot_lines.specs.Shown.{shown_key}
use Rattle.wot_print.proofs.Shown.{pub_shown}
use Rattle.wot_print.proofs.listing.push_keyblock.Goals as goal

pub returns-clause-lines : goal.returns-clause-lines
returns-clause-lines g c =
    let s = c.args.letters.now.state in
    let id = c.args.keyblock.now.0 in
    let key = c.args.keyblock.now.1 in
    let old = c.args.text.now in
    let shown = shown_key c.key-head.result in
    let letter = key_letter s (rows_of s) id key in
    let kept = ownertrust_of s.trusts key.fpr in
    let users = flat_map (user_lines s (rows_of s) c.args.sheet.now.sigs id key) (spots_from 0 key.users) in
    let head = c.key-head.ensures in
    let line = pub_line letter kept id key in
    let first : g.W.Sink.adds old line c.push_pub.new.text =
    subst (λ (l : List ℕ). g.W.Sink.adds old l c.push_pub.new.text)
    (ap (λ l. pub_line l c.args.kept c.id-id.result shown) c.key_letter.ensures
    ∙ ap (λ n. pub_line letter c.args.kept n shown) c.id-id.ensures
    ∙ ap (λ k. pub_line letter k id shown) c.requires.kept
    ∙ pub_shown letter kept id key c.key-head.result head) c.in_ok-push_pub.ensures.adds in
    let second : g.W.Sink.adds c.push_pub.new.text (fpr_line key.fpr) c.push_fpr.new.text =
    subst (λ (f : List ℕ). g.W.Sink.adds c.push_pub.new.text (fpr_line f) c.push_fpr.new.text) head.fpr c.in_ok-push_fpr.ensures.adds in
    g.met.W.Sink.both old c.push_fpr.new.text c.push_users.new.text (line ++ fpr_line key.fpr) users
    (g.met.W.Sink.both old c.push_pub.new.text c.push_fpr.new.text line (fpr_line key.fpr) first second) c.in_ok-push_users.ensures.lines
