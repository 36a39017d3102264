-- What an edit would change, and on whose ownertrust a letter hangs. (All of this is this project's own.)
use Rattle.std.specs.Prelude.{ℕ, ◌+◌, nat_lt, List, [], ◌∷◌, if◌then◌else◌, Option, Some, None, option_map}
use Rattle.std.specs.FinMap as map
use Rattle.std.specs.List.{cons_option, filter_map, flat_map}
use Rattle.wot_types.specs.declared.change.Change.{Change}
use Rattle.wot_types.specs.declared.change.Loss.{Loss}
use Rattle.wot_types.specs.declared.edit.Edit.{Edit}
use Rattle.wot_types.specs.declared.edit.Edit.TheVariants.{Set, Date, Options}
use Rattle.wot_types.specs.declared.key.Key.{Key}
use Rattle.wot_types.specs.declared.letter.Letter.{Letter}
use Rattle.wot_types.specs.declared.ownertrust.Ownertrust.{Ownertrust}
use Rattle.wot_types.specs.declared.trust.Trust.TheVariants.{Unknown}
use Rattle.wot_types.specs.Letters.{letter_at, letter_rank, user_letters}
use Rattle.wot_types.specs.Levels.{rows_of}
use Rattle.wot_types.specs.Ownertrust.{OwnertrustMap, with_trust}
use Rattle.wot_types.specs.State.{State}
use Rattle.wot_types.specs.Tally.{same_letter}
use Rattle.wot_types.specs.Trust.{is_unknown}

-- the edits that may be supposed: of ownertrust, of the date and of the options
abbrev pub IsSupposable : Edit → Type 0
IsSupposable (Set fpr trust) = Unit {0}
IsSupposable (Date date) = Unit {0}
IsSupposable (Options options) = Unit {0}
IsSupposable _ = ⊥

-- ---- the letters that differ from one state to another

-- a user ID, numbered from 0 in its key, has these letters in the two states
abbrev pub change_of : ℕ → ℕ → Letter → Letter → Option Change
change_of id user old new = if same_letter old new then None else Some (record { key = id; user = user; old = old; new = new })

-- the letters of a key's user IDs in the two states, from the one with this number on, in the block's order
abbrev pub changed_letters : ℕ → ℕ → List Letter → List Letter → List Change
changed_letters id user (old ∷ olds) (new ∷ news) = cons_option (change_of id user old new) (changed_letters id (user + 1) olds news)
changed_letters id user olds news = []

-- the changes on a key
abbrev pub changes_on : State → State → ℕ × Key → List Change
changes_on s t entry = changed_letters entry.0 0 (user_letters s (rows_of s) entry.0 entry.1) (user_letters t (rows_of t) entry.0 entry.1)

-- all changes from one state to another of the same keys, in rising order of key ID and place
abbrev pub changes : State → State → List Change
changes s t = flat_map (changes_on s t) (map.entries s.keys)

-- ---- the ownertrust on which a letter hangs

-- the state in which the ownertrust of this fingerprint alone is unknown; its disabled flag stays
abbrev pub without_trust : State → List ℕ → State
without_trust s fpr = record s { trusts = with_trust s.trusts fpr Unknown }

-- the new letter, where it is further back than the old one in `u f m q -`
abbrev pub if_worse : Option Letter → Option Letter → Option Letter
if_worse (Some old) (Some new) = if nat_lt (letter_rank new) (letter_rank old) then Some new else None
if_worse _ _ = None

-- the letter that a user ID falls to without the ownertrust of a fingerprint
abbrev pub letter_without : State → ℕ → ℕ → List ℕ → Option Letter
letter_without s id user fpr = if_worse (letter_at s id user) (letter_at (without_trust s fpr) id user)

abbrev pub loss_by : State → ℕ → ℕ → List ℕ → Option Loss
loss_by s id user fpr = option_map (λ letter. record { fpr = fpr; letter = letter }) (letter_without s id user fpr)

-- the fingerprints of the entries whose ownertrust is known, in rising order of (length, bytes)
abbrev pub if_trusted : List ℕ × Ownertrust → Option (List ℕ)
if_trusted entry = if is_unknown entry.1.trust then None else Some entry.0

abbrev pub trusted_fprs : OwnertrustMap → List (List ℕ)
trusted_fprs trusts = filter_map if_trusted (map.entries trusts)

-- those without whose ownertrust the letter of a user ID is further back, and that letter
abbrev pub critical : State → ℕ → ℕ → List Loss
critical s id user = filter_map (loss_by s id user) (trusted_fprs s.trusts)
