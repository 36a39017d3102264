use Rattle.std.proofs.Common.{arith}
use Rattle.wot_image.proofs.Bounds.{rows_few}
use Rattle.wot_image.proofs.Rooms.{counted_for, entries_small, keys_small, room_enough}
use Rattle.wot_image.proofs.room.room_for.Goals as goal

pub overflow_mul-stored : goal.overflow_mul-stored
overflow_mul-stored c =
    let few = rows_few c.args.state.now c.args.rows.now c.requires.sound c.requires.of_keys in
    omega (arith, few, c.len.ensures)

pub overflow_add-result : goal.overflow_add-result
overflow_add-result c =
    let s = c.args.state.now in
    let counted =
    counted_for s _ _ _ c.entries_room-entries.result c.keys_room-keys.result c.trusts.ensures c.table.ensures c.totals.ensures.totals
    c.entries_room-entries.ensures.fits c.entries_room-entries.ensures.bytes c.keys_room-keys.ensures in
    omega (arith, entries_small s c.entries_room-entries.result c.keys_room-keys.result c.requires.sound counted)

pub overflow_add-result-2 : goal.overflow_add-result-2
overflow_add-result-2 c =
    let s = c.args.state.now in
    let counted =
    counted_for s _ _ _ c.entries_room-entries.result c.keys_room-keys.result c.trusts.ensures c.table.ensures c.totals.ensures.totals
    c.entries_room-entries.ensures.fits c.entries_room-entries.ensures.bytes c.keys_room-keys.ensures in
    omega (arith, entries_small s c.entries_room-entries.result c.keys_room-keys.result c.requires.sound counted, keys_small s c.entries_room-entries.result c.keys_room-keys.result c.requires.sound counted)

pub overflow_add-result-3 : goal.overflow_add-result-3
overflow_add-result-3 c =
    let s = c.args.state.now in
    let counted =
    counted_for s _ _ _ c.entries_room-entries.result c.keys_room-keys.result c.trusts.ensures c.table.ensures c.totals.ensures.totals
    c.entries_room-entries.ensures.fits c.entries_room-entries.ensures.bytes c.keys_room-keys.ensures in
    let few = rows_few s c.args.rows.now c.requires.sound c.requires.of_keys in
    omega (arith, entries_small s c.entries_room-entries.result c.keys_room-keys.result c.requires.sound counted, keys_small s c.entries_room-entries.result c.keys_room-keys.result c.requires.sound counted, few, c.len.ensures)

pub returns : goal.returns
returns c =
    let s = c.args.state.now in
    let counted =
    counted_for s _ _ _ c.entries_room-entries.result c.keys_room-keys.result c.trusts.ensures c.table.ensures c.totals.ensures.totals
    c.entries_room-entries.ensures.fits c.entries_room-entries.ensures.bytes c.keys_room-keys.ensures in
    record { enough = room_enough s c.entries_room-entries.result c.keys_room-keys.result c.requires.sound counted c.args.rows.now c.len.result c.requires.scopes c.len.ensures }
