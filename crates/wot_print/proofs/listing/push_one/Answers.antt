use Rattle.std.proofs.Common.{Bool, OnOk, Some, subst, ℕ, List}
use Rattle.std.specs.List.{flat_map}
use Rattle.std.proofs.lemmas.Result.{on_ok_weaker}
use Rattle.wot_types.specs.Levels.{rows_of}
use Rattle.wot_types.specs.NextCheck.{next_check}
use Rattle.wot_types.specs.Printing.{key_lines, listed_keyblocks, tru_line}
use Rattle.wot_print.proofs.listing.push_one.Goals as goal

pub returns-clause-adds : goal.returns-clause-adds
returns-clause-adds g c =
    let s = c.args.engine.now in
    let line = tru_line s.options s.date (next_check s) in
    let lines = flat_map (key_lines s (rows_of s) c.args.sigs) (listed_keyblocks s (Some c.args.id)) in
    let first : g.W.Sink.adds c.args.text.now line c.push_tru.new.text =
    subst (λ (l : List ℕ). g.W.Sink.adds c.args.text.now l c.push_tru.new.text) (λ i. tru_line (c.options.ensures.options i) (c.date.ensures i) (c.next_check.ensures i)) c.in_ok-push_tru.ensures.adds in
    let key = subst (λ (sigs : Bool). OnOk c.push_key.result (g.W.Sink.adds c.push_tru.new.text (flat_map (key_lines s (rows_of s) sigs) (listed_keyblocks s (Some c.args.id))) c.push_key.new.text)) c.of-sheet.ensures.sigs c.push_key.ensures.adds in
    on_ok_weaker c.push_key.result (g.met.W.Sink.both c.args.text.now c.push_tru.new.text c.push_key.new.text line lines first) key
