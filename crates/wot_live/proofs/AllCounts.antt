-- The counts of all keys, made by a walk over the keyring, or of those keys alone that introducers certified.
use Rattle.std.proofs.Common.{◌≡◌, ◌+◌, ◌==◌, ◌||◌, ℕ, true, false, cond, List, [], ◌∷◌, map, sum_by, Option, Some, None, option_and_then, is_some, refl, sym, ap, subst, ◌∙◌}
use Rattle.std.specs.FinMap as finmap
use Rattle.std.specs.FinMap.{find, get-empty, get-remove, nat_cmp-IsAntisymmetric, same_map}
use Rattle.std.specs.List.{Contains, list_any}
use Rattle.std.specs.Cmp.{nat_cmp_total, nat_eq_equiv}
use Rattle.std.specs.Ordering.{eq_by_cmp, nat_cmp}
use Rattle.std.proofs.lemmas.Bool.{cond-true, false≢true}
use Rattle.std.proofs.lemmas.List.Sums.{sum_by-cons}
use Rattle.std.proofs.lemmas.Map.Views.{list_any-from_Contains}
use Rattle.wot_types.specs.declared.count.Count.{Count}
use Rattle.wot_types.specs.declared.key.Key.{Key}
use Rattle.wot_types.specs.State.{State}
use Rattle.wot_types.specs.Candidates.{RowMap, count_of}
use Rattle.wot_types.specs.Keyring.{Keyring, cert_total, key_certs}
use Rattle.wot_types.specs.NextCheck.{key_expiries}
use Rattle.wot_types.specs.Selection.{Spot, spots_from}
use Rattle.wot_types.proofs.Frames.{key_counts_frame}
use Rattle.wot_types.proofs.MapBy.{get-map_by}
use Rattle.wot_types.proofs.Tests.{is_key, key_itself, same_key}
use Rattle.wot_levels.specs.Frontier.{AreCertified}
use Rattle.wot_levels.specs.Walk.{with_found}
use Rattle.wot_levels.proofs.Halfway.{WalksOn}
use Rattle.wot_levels.proofs.Uncertified.{count_without, no_rows, same_dates, without_chain}
use Rattle.wot_levels.proofs.WalksOn.{walk_put}
use Rattle.wot_live.specs.Counts.{AreCountedAt, CountMap, counts_over, counts_rule, has_candidate, kept_counts, key_counts, with_counts}
use Rattle.wot_live.specs.Recounting.{among}
use Rattle.wot_live.proofs.Naming.{each_way}

-- ---- a walk

-- the certifications on the keys that are left
abbrev pub left_certs : List (ℕ × Key) → ℕ
left_certs es = sum_by (λ (e : ℕ × Key). key_certs e.1) es

all_left : (es : List (ℕ × Key)) → left_certs es ≡ sum_by key_certs (map (λ e. e.1) es)
all_left [] = refl
all_left (e ∷ es) = sum_by-cons (λ (e : ℕ × Key). key_certs e.1) e es ∙ ap (λ n. key_certs e.1 + n) (all_left es) ∙ sym (sum_by-cons key_certs e.1 (map (λ e. e.1) es))

pub all_certs_left : (keys : Keyring) → left_certs (finmap.entries keys) ≡ cert_total keys
all_certs_left keys = all_left (finmap.entries keys)

-- where nothing is kept of a key, nothing is taken away
nothing_lost : (m : CountMap) (id : ℕ) → finmap.get m id ≡ None → finmap.remove m id ≡ m
nothing_lost m id none = same_map nat_cmp_total nat_cmp-IsAntisymmetric (finmap.remove m id) m (λ x.
    get-remove nat_cmp_total m id x
    ∙ elim (id == x) as (λ b. (id == x) ≡ b → cond (eq_by_cmp nat_cmp x id) None (finmap.get m x) ≡ finmap.get m x) [
      | true ↦ λ same. ap (λ b. cond b None (finmap.get m x)) (same_key x id ∙ same) ∙ sym none ∙ ap (finmap.get m) (is_key id x same)
      | false ↦ λ other. ap (λ b. cond b None (finmap.get m x)) (same_key x id ∙ other)
    ] refl)

put_anew : (m : CountMap) (id : ℕ) (found : Option (List Count)) → finmap.get m id ≡ None → with_found m id found ≡ with_counts m id found
put_anew m id None none = sym (nothing_lost m id none)
put_anew m id (Some counts) none = refl

module _ (s : State) (rows : RowMap) where
  -- what is kept of a key
  abbrev pub counts_by : ℕ → Key → Option (List Count)
  counts_by id key = kept_counts (key_counts s rows key)

  module _ (e : ℕ × Key) (rest : List (ℕ × Key)) (m : CountMap) (walk : WalksOn counts_by s.keys (e ∷ rest) m) where
    none_yet : finmap.get m e.0 ≡ None
    none_yet =
        walk.made e.0
        ∙ ap (λ (r : Option Key). cond (is_some r) None (option_and_then (counts_by e.0) (finmap.get s.keys e.0))) (cond-true (eq_by_cmp nat_cmp e.0 e.0) (Some e.1) (find nat_cmp e.0 rest) (key_itself e.0))

    pub walk_counted : WalksOn counts_by s.keys rest (with_counts m e.0 (counts_by e.0 e.1))
    walk_counted = subst (WalksOn counts_by s.keys rest) (put_anew m e.0 (counts_by e.0 e.1) none_yet) (walk_put counts_by s.keys e rest m (counts_by e.0 e.1) walk refl)

  -- ---- the keys that introducers certified

  none_counted : (spots : List Spot) → list_any has_candidate (map (λ spot. count_of s spot no_rows) spots) ≡ false
  none_counted [] = refl
  none_counted (spot ∷ spots) = λ i. has_candidate (count_without s spot i) || none_counted spots i

  module _ (ids : List ℕ) (all : AreCertified s.keys rows ids) where
    not_in : (x : ℕ) → among ids x ≡ false → Contains ids x → ⊥
    not_in x out there = false≢true (sym out ∙ each_way x ids ∙ list_any-from_Contains nat_eq_equiv x ids there)

    -- of any other key nothing is kept
    no_counts : (x : ℕ) → among ids x ≡ false → counts_rule s rows x ≡ None
    no_counts x out = elim (finmap.get s.keys x) as (λ k. finmap.get s.keys x ≡ k → option_and_then (λ key. kept_counts (key_counts s rows key)) k ≡ None) [
      | None ↦ λ _. refl
      | Some key ↦ λ is.
          let same : key_counts s rows key ≡ key_counts s no_rows key = key_counts_frame s s refl rows no_rows key (same_dates s.date (key_expiries key)) (without_chain s rows ids all x (not_in x out) key is) (λ y _ _. refl) in
          let none = none_counted (spots_from 0 key.users) in
          ap kept_counts same ∙ ap (λ b. cond b (Some (key_counts s no_rows key)) None) none
    ] refl

    pub counted_certified : (new : CountMap) → AreCountedAt s rows ids finmap.empty new → new ≡ counts_over s rows
    counted_certified new counted = same_map nat_cmp_total nat_cmp-IsAntisymmetric new (counts_over s rows) (λ x.
        counted x
        ∙ elim (among ids x) as (λ b. among ids x ≡ b → cond b (counts_rule s rows x) (finmap.get (finmap.empty {X = List Count} {R = nat_cmp}) x) ≡ counts_rule s rows x) [
          | true ↦ λ _. refl
          | false ↦ λ out. get-empty nat_cmp x ∙ sym (no_counts x out)
        ] refl
        ∙ sym (get-map_by counts_by s.keys x))
