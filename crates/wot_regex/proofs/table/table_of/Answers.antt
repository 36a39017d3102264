use Rattle.std.proofs.Common.{rules, false, ◌≡◌, ◌<◌, ◌/◌, ◌%◌, List, ℕ, get_or, length, ap, ◌∙◌, sym, subst, arith}
use Rattle.std.proofs.lemmas.List.{take_at}
use Rattle.wot_regex.specs.Following.{IsRow, cells_by, in_eight}
use Rattle.wot_regex.specs.declared.followers.Row.{Row}
use Rattle.wot_regex.proofs.table.table_of.Goals as goal

pub returns : goal.returns
returns c =
    let nodes = c.args.nodes.now in
    let table = c.fill.new.table in
    let noted : length table ≡ length c.deref_mut.result.now = search rules in
    let len : length table ≡ c.in_ok-table.table.len = search rules in
    let items = take_at table _ c.in_ok-table.table.len len in
    let T : List Row → Type 0 = λ t. (k : ℕ) (d : Row) → k < length t → IsRow nodes false (cells_by (in_eight (k % 64) (k / 64)) (length nodes)) (get_or t k d) in
    record {
      whole = ap length items ∙ len ∙ c.in_ok-table.ensures.len;
      each = subst T (sym items) (λ k d lt. c.fill.ensures k d (omega (arith, lt, noted)));
    }
