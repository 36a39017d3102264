-- The entries that are tried on a letter.
use Rattle.std.specs.Prelude.{ℕ, ◌&&◌, List, if◌then◌else◌, Option, None}
use Rattle.std.specs.FinMap as map
use Rattle.wot_types.specs.declared.ownertrust.Ownertrust.{Ownertrust}
use Rattle.wot_types.specs.Candidates.{RowMap}
use Rattle.wot_types.specs.Explanation.{KeySet}
use Rattle.wot_types.specs.Fingerprint.{key_id_of}
use Rattle.wot_types.specs.Supposing.{if_trusted}

-- the fingerprint of an entry whose ownertrust is known, and whose key ID has one of these rows and is one of these keys
abbrev pub if_introducing : RowMap → KeySet → List ℕ × Ownertrust → Option (List ℕ)
if_introducing rows near entry = if map.contains_key rows (key_id_of entry.0) && near (key_id_of entry.0) then if_trusted entry else None
