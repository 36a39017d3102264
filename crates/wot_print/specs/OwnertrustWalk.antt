-- Ownertrust that is walked beside fingerprints whose key IDs rise.
use Rattle.std.specs.Prelude.{ℕ, ◌<◌, ◌≤◌, List, map, refl}
use Rattle.std.specs.Coded.{Coded, code_by, coded×, coded_list, coded_ℕ}
use Rattle.std.specs.FinMap as finmap
use Rattle.std.specs.List.Sorted.{IsPartitionPoint, IsPermutation, IsSortedByKey}
use Rattle.std.specs.Ordering.{nat_cmp}
use Rattle.wot_types.specs.declared.ownertrust.Ownertrust.{Ownertrust}
use Rattle.wot_types.specs.contracts.ownertrust.Ownertrust as ownertrust_struct
use Rattle.wot_types.specs.Fingerprint.{key_id_of}
use Rattle.wot_types.specs.Ownertrust.{OwnertrustMap}
use Rattle.wot_print.specs.declared.ownertrust_walk.EntryById.{EntryById}

-- an entry beside its key ID
abbrev pub by_id : List ℕ × Ownertrust → ℕ × List ℕ × Ownertrust
by_id e = (key_id_of e.0, e.0, e.1)

-- the same of one that is held
abbrev pub seen : EntryById → ℕ × List ℕ × Ownertrust
seen entry = (entry.id, entry.fpr.now, entry.kept)

-- what tells the ownertrust of fingerprints from one key ID on
pub record TrustsFrom : Type 0 where
  pub trusts : OwnertrustMap
  pub from : ℕ

abbrev pub trusts_code : Coded TrustsFrom
trusts_code = code_by (OwnertrustMap × ℕ) (coded× (finmap.code (coded_list coded_ℕ) ownertrust_struct.the_row.coded) coded_ℕ) (λ t. (t.trusts, t.from)) (λ p. record { trusts = p.0; from = p.1 }) (λ _. refl)

-- the entries in another order, that of the key IDs, of which so many are lower
pub record AreWalked (trusts : OwnertrustMap) (from : ℕ) (entries : List EntryById) (passed : ℕ) : Type 0 where
  pub rising : IsSortedByKey (λ entry. entry.id) nat_cmp entries
  pub whole : IsPermutation (map by_id (finmap.entries trusts)) (map seen entries)
  pub parted : IsPartitionPoint (λ entry. entry.id < from) (λ entry. from ≤ entry.id) entries passed
