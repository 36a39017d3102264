use Rattle.std.proofs.Common.{◌++◌, append_assoc, codes, ap, ◌∙◌}
use Rattle.std.specs.Fmt.{decimal}
use Rattle.wot_lines.proofs.refusals.push_no_such_time.Goals as goal

pub returns : goal.returns
returns c =
    let number = decimal c.args.edits in
    c.in_ok-push_number.ensures.adds ∙ ap (λ l. l ++ number) c.in_ok-push_bytes.ensures.adds ∙ append_assoc c.args.text.now (codes "err no-such-time ") number
