-- What an edit would change, and on whose ownertrust a letter hangs, as it is printed. (All of this is this project's own.)
use Rattle.std.specs.Prelude.{ℕ, ◌+◌, List, [], ◌∷◌, ◌++◌, length, codes}
use Rattle.std.specs.Fmt.{decimal}
use Rattle.std.specs.List.{flat_map}
use Rattle.hex.specs.Hex.{encode_upper}
use Rattle.wot_types.specs.declared.change.Change.{Change}
use Rattle.wot_types.specs.declared.change.Loss.{Loss}
use Rattle.wot_types.specs.Bytes.{newline}
use Rattle.wot_types.specs.Printing.{ended_field, key_id_text, letter_text, number_field}
use Rattle.wot_types.specs.Refusals.{reply_line}

-- change:KEYID:PLACE:OLD:NEW:
abbrev pub change_line : Change → List ℕ
change_line change = codes "change:" ++ ended_field (key_id_text change.key) ++ number_field (change.user + 1) ++ ended_field (letter_text change.old) ++ ended_field (letter_text change.new) ++ newline ∷ []

-- the changes, and how many they are
abbrev pub changes_text : List Change → List ℕ
changes_text changes = flat_map change_line changes ++ reply_line (codes "ok changes " ++ decimal (length changes))

-- critical:FINGERPRINT:LETTER:
abbrev pub loss_line : Loss → List ℕ
loss_line loss = codes "critical:" ++ ended_field (encode_upper loss.fpr) ++ ended_field (letter_text loss.letter) ++ newline ∷ []

-- the entries, and how many they are
abbrev pub losses_text : List Loss → List ℕ
losses_text losses = flat_map loss_line losses ++ reply_line (codes "ok critical " ++ decimal (length losses))
