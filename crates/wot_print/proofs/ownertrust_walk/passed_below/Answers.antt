use Rattle.std.proofs.Common.{◌≤◌, sym, subst, arith}
use Rattle.std.proofs.lemmas.List.Elements.{at_read}
use Rattle.std.proofs.lemmas.List.Sorted.{IsNonDecreasingBy-from_sort}
use Rattle.wot_print.specs.declared.ownertrust_walk.EntryById.{EntryById}
use Rattle.wot_print.proofs.ownertrust_walk.passed_below.Goals as goal

pub returns-else-entries-passed : goal.returns-else-entries-passed
returns-else-entries-passed c =
    let entries = c.args.entries.now in
    let passed = c.loop-passed.passed in
    let entry = c.index-entries-passed.result in
    let IsFrom = λ (entry : EntryById). c.args.id ≤ entry.id in
    let here = at_read entries IsFrom passed entry c.loop-passed-test.true c.index-entries-passed.is (subst IsFrom (sym c.index-entries-passed.is) c.if-entries-passed.false) in
    let up = IsNonDecreasingBy-from_sort (λ (entry : EntryById). entry.id) entries c.requires.rising in
    (c.loop-passed.invariant, λ k d from l. omega (arith, here d, up passed k d from l))
