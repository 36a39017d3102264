use Rattle.std.proofs.Common.{Bool, subst, ℕ, List}
use Rattle.std.specs.List.{flat_map}
use Rattle.std.specs.FinMap as map
use Rattle.wot_types.specs.Levels.{rows_of}
use Rattle.wot_types.specs.NextCheck.{next_check}
use Rattle.wot_types.specs.Printing.{key_lines, tru_line}
use Rattle.wot_print.proofs.listing.push_all.Goals as goal

pub returns-clause-text : goal.returns-clause-text
returns-clause-text g c =
    let s = c.args.engine.now in
    let first : g.W.Sink.adds c.args.text.now (tru_line s.options s.date (next_check s)) c.push_tru.new.text =
    subst (λ (l : List ℕ). g.W.Sink.adds c.args.text.now l c.push_tru.new.text) (λ i. tru_line (c.options.ensures.options i) (c.date.ensures i) (c.next_check.ensures i)) c.in_ok-push_tru.ensures.adds in
    let keys = subst (λ (sigs : Bool). g.W.Sink.adds c.push_tru.new.text (flat_map (key_lines s (rows_of s) sigs) (map.entries s.keys)) c.push_keys.new.text) c.of-sheet.ensures.sigs c.in_ok-push_keys.ensures.lines in
    g.met.W.Sink.both c.args.text.now c.push_tru.new.text c.push_keys.new.text (tru_line s.options s.date (next_check s)) (flat_map (key_lines s (rows_of s) c.args.sigs) (map.entries s.keys)) first keys
