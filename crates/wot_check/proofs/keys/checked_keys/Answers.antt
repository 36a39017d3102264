use Rattle.std.proofs.Common.{rules, ℕ, ◌<◌, ◌^◌, map, None, ap, subst, sym, ◌∙◌}
use Rattle.std.specs.FinMap as finmap
use Rattle.wot_check.specs.KeyWalk.{IsWalk, ids_left}
use Rattle.wot_check.proofs.Merging.{last_of, merge_end, merge_later, merge_less, merge_on, merge_start}
use Rattle.wot_check.proofs.Walked.{keys_walk}
use Rattle.wot_check.proofs.keys.checked_keys.Goals as goal

pub loop-id-init : goal.loop-id-init
loop-id-init c =
    let keys = c.args.table.now in
    let rows = c.args.rows.now in
    let of_keys = λ (x : ℕ). finmap.contains_key keys x in
    let of_rows = λ (x : ℕ). finmap.contains_key rows x in
    let walked = subst (IsWalk of_keys None) (sym (ap (map (λ e. e.0)) c.walk-walk.ensures.whole) ∙ c.next_of-key.ensures) (keys_walk keys) in
    let rowed = subst (IsWalk of_rows None) (sym (ap (map (λ e. e.0)) c.iter-left.ensures.rows) ∙ c.next_row-row.ensures) (keys_walk rows) in
    merge_start of_keys of_rows c.new-ids.result.items (ids_left c.next_of-key.result c.next_of-key.new.walk) (ids_left c.next_row-row.result c.next_row-row.new.rows) c.new-ids.ensures.items walked rowed

pub loop-id-smaller : goal.loop-id-smaller
loop-id-smaller c =
    let l = c.loop-id in
    let small : c.in-Some.id < 2 ^ 64 = search rules in
    merge_less (λ x. finmap.contains_key c.args.table.now x) (λ x. finmap.contains_key c.args.rows.now x) l.ids.items l.key l.walk l.row l.left l.invariant c.in-Some.id c.in-Some.ensures c.push.new.self.items
    c.in_ok-push.ensures.items small

pub loop-id-preserved : goal.loop-id-preserved
loop-id-preserved c =
    let l = c.loop-id in
    let of_keys = λ (x : ℕ). finmap.contains_key c.args.table.now x in
    let of_rows = λ (x : ℕ). finmap.contains_key c.args.rows.now x in
    let before = last_of None l.ids.items in
    let later = merge_later of_keys of_rows l.ids.items l.key l.walk l.row l.left l.invariant c.in-Some.id c.in-Some.ensures in
    merge_on of_keys of_rows l.ids.items l.key l.walk l.row l.left l.invariant c.in-Some.id c.in-Some.ensures c.push.new.self.items
    (ids_left c.key_behind-key.result c.key_behind-key.new.walk) (ids_left c.row_behind-row.result c.row_behind-row.new.rows)
    c.in_ok-push.ensures.items (c.key_behind-key.ensures of_keys before later l.invariant.of_keys) (c.row_behind-row.ensures of_rows before later l.invariant.of_rows)

pub returns : goal.returns
returns c =
    let l = c.loop-id in
    merge_end (λ x. finmap.contains_key c.args.table.now x) (λ x. finmap.contains_key c.args.rows.now x) l.ids.items l.key l.walk l.row l.left l.invariant c.in_default.ensures
