use Rattle.std.proofs.Common.{◌+◌, ℕ, List, Option, length, get_or, drop, option_map, sym, ap, ◌∙◌, arith}
use Rattle.std.proofs.lemmas.List.{at_drop_more}
use Rattle.wot_types.specs.DomainForm.{pieces}
use Rattle.wot_scope.proofs.Pieces.{counted-more, left, pieces-escape, pieces-more, pieces-other}
use Rattle.wot_scope.proofs.domain.domain_len.Goals as goal
use Rattle.wot_scope.proofs.domain.domain_len.Goals.{then-is_escape, else-is_escape+then-stands_for_itself}

-- so many bytes and those of a domain
abbrev counted : ℕ → Option (List ℕ) → Option ℕ
counted n o = option_map (λ d. n + length d) o

pub returns-else-stands_for_itself : goal.returns-else-stands_for_itself
returns-else-stands_for_itself c =
    let s = c.args.spelled.now in
    let l = c.loop-b in
    let next = at_drop_more (λ rest. pieces (left l.escaped rest)) s l.b-index 0 c.loop-b-test.true in
    let none = pieces-other l.escaped (get_or s l.b-index 0) (drop (l.b-index + 1) s) (sym c.is_escape.ensures ∙ c.if-is_escape.false) (sym c.stands_for_itself.ensures ∙ c.if-stands_for_itself.false) in
    sym (ap (counted l.len) (next ∙ none)) ∙ l.invariant.counted

pub loop-b-preserved : goal.loop-b-preserved
loop-b-preserved c =
    let s = c.args.spelled.now in
    let l = c.loop-b in
    let b = get_or s l.b-index 0 in
    let rest = drop (l.b-index + 1) s in
    let next = at_drop_more (λ rest. pieces (left l.escaped rest)) s l.b-index 0 c.loop-b-test.true in
    let fits = l.invariant.within in
    elim c.if-is_escape.branch [
      | then-is_escape w ↦
          let read = pieces-escape l.escaped b rest (sym c.is_escape.ensures ∙ w.if-is_escape.true) in
          let is = w.len-is in
          record {
            counted = ap (λ n. counted n (pieces (left c.if-is_escape.escaped rest))) w.len-is ∙ ap (λ e. counted l.len (pieces (left e rest))) w.escaped-is
                ∙ ap (counted l.len) (read ∙ sym next) ∙ l.invariant.counted;
            within = omega (arith, is, fits);
          }
      | else-is_escape+then-stands_for_itself w ↦
          let more = pieces-more l.escaped b rest (sym w.stands_for_itself.ensures ∙ w.if-stands_for_itself.true) in
          let is = w.len-is in
          record {
            counted = ap (λ n. counted n (pieces (left c.if-is_escape.escaped rest))) w.len-is ∙ ap (λ e. counted (l.len + 1) (pieces (left e rest))) w.escaped-is
                ∙ counted-more l.len b (pieces rest) ∙ ap (counted l.len) (sym (next ∙ more)) ∙ l.invariant.counted;
            within = omega (arith, is, fits);
          }
    ]
