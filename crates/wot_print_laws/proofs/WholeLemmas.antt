-- A listing that is written block after block has no fault, and the keys of its blocks.
use Rattle.std.proofs.Common.{◌≡◌, ℕ, ◌+◌, ◌<◌, ◌==◌, false, T, List, [], ◌∷◌, ◌++◌, append_assoc, append-nil, map, length, fold, All, Some, None, if◌then◌else◌, is_none, refl, sym, ap, subst, ◌∙◌, arith}
use Rattle.std.specs.List.{list_any}
use Rattle.std.specs.Option.{option_or}
use Rattle.std.specs.FinMap as finmap
use Rattle.std.specs.FinMap.{put, is_sorted, entries-insert, len-empty, len-entries, same_entries_map}
use Rattle.std.specs.FinMap.Entries.{below_all, by_order}
use Rattle.std.specs.Ordering.{nat_cmp}
use Rattle.std.specs.Cmp.{nat_cmp_is}
use Rattle.std.specs.declared.cmp.Ordering.TheVariants.{Less, Greater}
use Rattle.std.proofs.lemmas.Bool.{or_from, ne_eqb}
use Rattle.std.proofs.lemmas.Cmp.{nat_cmp_total, ranked}
use Rattle.std.proofs.lemmas.List.{nil_from_length}
use Rattle.wot_types.specs.declared.key.Key.{Key}
use Rattle.wot_types.specs.declared.fault.ListingWhat.TheVariants.{NoFingerprint, RepeatedKey}
use Rattle.wot_types.specs.declared.record.RecordKind.TheVariants.{Other}
use Rattle.wot_types.specs.Fingerprint.{key_id_of}
use Rattle.wot_types.specs.Keyring as keyring
use Rattle.wot_types.specs.Listing.{Line, begins_keyblock, block_id, blocks, checks_of, ends_keyblock, failed_check, fault_after, fault_at, fault_at_end, first_failing, is_repeated_key, keys_of, lacks_fingerprint, listed_keys, open_block, pub_checks, with_keyblock}
use Rattle.wot_types.specs.Records as record_of
use Rattle.wot_types.specs.Records.{is_primary, key_id_at, kind_of}
use Rattle.wot_types.specs.Runs.{Run}
use Rattle.wot_types.specs.WellFormed.{IsUser, IsWellFormed}
use Rattle.wot_types.proofs.RunEnds.{block_ends}
use Rattle.wot_types.proofs.LineChecks.{passes_more}
use Rattle.wot_types.proofs.Tests.{first_part, second_part, less_from}
use Rattle.wot_print_laws.proofs.BlockLemmas.{AreUsers, block_of, fpr_line_is, key_is, of_kind, users_free}
use Rattle.wot_print_laws.proofs.FaultLemmas.{block_faultless, block_open, fault_step}
use Rattle.wot_print_laws.proofs.PrintedLines.{IsFpr, IsPub}
use Rattle.wot_print_laws.proofs.RunLemmas.{AreRuns, open_none, pieces, runs_pieces}

-- a key's lines: its `pub`, its `fpr` and the runs of its user IDs
pub record Written : Type 0 where
  pub p : Line
  pub f : Line
  pub rs : List (Run Line)

abbrev pub block : Written → Run Line
block w = block_of w.p w.f w.rs

abbrev pub Entries : Type 0
Entries = List (ℕ × Key)

abbrev pub AreWritten : Entries → List Written → Type 0
AreWritten [] [] = Unit {0}
AreWritten (e ∷ es) (w ∷ ws) = IsPub e.0 e.1 w.p × IsFpr e.1 w.f × AreUsers e.1.revoked e.1.users w.rs × AreWritten es ws
AreWritten _ _ = ⊥

-- each key is well formed and stands under its own key ID
abbrev pub AreFiled : Entries → Type 0
AreFiled [] = Unit {0}
AreFiled (e ∷ es) = (key_id_of e.1.fpr ≡ e.0) × IsWellFormed e.1 × AreFiled es

-- ---- key IDs that rise

-- all of these go before a key ID
abbrev pub Before : Entries → ℕ → Type 0
Before [] id = Unit {0}
Before (e ∷ es) id = (e.0 < id) × Before es id

-- all of the first go before all of the second
abbrev pub AllBefore : Entries → Entries → Type 0
AllBefore es [] = Unit {0}
AllBefore es (f ∷ fs) = Before es f.0 × AllBefore es fs

abbrev pub AreRising : Entries → Entries → Type 0
AreRising before [] = Unit {0}
AreRising before (e ∷ es) = Before before e.0 × AreRising (before ++ e ∷ []) es

pub all_before_start : (fs : Entries) → AllBefore [] fs
all_before_start [] = tt
all_before_start (f ∷ fs) = (tt, all_before_start fs)

before_more : (es : Entries) (e : ℕ × Key) (id : ℕ) → Before es id → e.0 < id → Before (es ++ e ∷ []) id
before_more [] e id h l = (l, tt)
before_more (x ∷ es) e id h l = (h.0, before_more es e id h.1 l)

all_before_more : (es : Entries) (e : ℕ × Key) (fs : Entries) → AllBefore es fs → T (below_all nat_cmp e.0 fs) → AllBefore (es ++ e ∷ []) fs
all_before_more es e [] h b = tt
all_before_more es e (f ∷ fs) h b =
    (before_more es e f.0 h.0 (ranked e.0 f.0 Less (sym (less_from (nat_cmp e.0 f.0) (first_part _ _ b)))), all_before_more es e fs h.1 (second_part _ _ b))

pub rising_from : (before es : Entries) → AllBefore before es → T (is_sorted nat_cmp es) → AreRising before es
rising_from before [] h s = tt
rising_from before (e ∷ es) h s = (h.0, rising_from (before ++ e ∷ []) es (all_before_more before e es h.1 (first_part _ _ s)) (second_part _ _ s))

-- ---- the keys

put_last : (es : Entries) (id : ℕ) (key : Key) → Before es id → put nat_cmp id key es ≡ es ++ (id, key) ∷ []
put_last [] id key h = refl
put_last (e ∷ es) id key h =
    ap (λ r. by_order r ((id, key) ∷ e ∷ es) ((e.0, key) ∷ es) (e ∷ put nat_cmp id key es)) (sym (nat_cmp_is id e.0 Greater h.0))
    ∙ ap (λ l. e ∷ l) (put_last es id key h.1)

entries_folded : (es : Entries) (ws : List Written) → AreWritten es ws → AreFiled es → (m : keyring.Keyring) (before : Entries) → finmap.entries m ≡ before → AreRising before es
    → finmap.entries (fold with_keyblock m (map block ws)) ≡ before ++ es
entries_folded [] [] p g m before e r = e ∙ sym (append-nil before)
entries_folded [] (w ∷ ws) p g m before e r = absurd p
entries_folded (x ∷ es) [] p g m before e r = absurd p
entries_folded (x ∷ es) (w ∷ ws) p g m before e r =
    let key = key_is x.0 w.p w.f x.1 w.rs p.0 p.1 p.2 (subst (λ n. All (IsUser n) x.1.users) g.0 g.1.each) g.1.marks in
    let one : finmap.entries (with_keyblock m (block w)) ≡ before ++ x ∷ [] =
    (λ i. finmap.entries (finmap.insert m (p.0.own_id i) (key i))) ∙ entries-insert nat_cmp_total m x.0 x.1 ∙ ap (put nat_cmp x.0 x.1) e ∙ put_last before x.0 x.1 r.0 in
    entries_folded es ws p.3 g.2 (with_keyblock m (block w)) (before ++ x ∷ []) one r.1 ∙ append_assoc before (x ∷ []) es

keys_folded : (es : Entries) → AreFiled es → (m : keyring.Keyring) (before : Entries) → finmap.entries m ≡ before → AreRising before es
    → finmap.entries (keyring.with_keys m (map (λ e. e.1) es)) ≡ before ++ es
keys_folded [] g m before e r = e ∙ sym (append-nil before)
keys_folded (x ∷ es) g m before e r =
    let one : finmap.entries (keyring.with_key m x.1) ≡ before ++ x ∷ [] =
    ap (λ n. finmap.entries (finmap.insert m n x.1)) g.0 ∙ entries-insert nat_cmp_total m x.0 x.1 ∙ ap (put nat_cmp x.0 x.1) e ∙ put_last before x.0 x.1 r.0 in
    keys_folded es g.2 (keyring.with_key m x.1) (before ++ x ∷ []) one r.1 ∙ append_assoc before (x ∷ []) es

none_at_start : finmap.entries (finmap.empty {X = Key} {R = nat_cmp}) ≡ []
none_at_start = nil_from_length (finmap.entries finmap.empty) (sym (len-entries finmap.empty) ∙ len-empty nat_cmp Key)

-- the keys of a keyring, imported into an empty one, are the keyring
pub same_again : (keys : keyring.Keyring) → AreFiled (finmap.entries keys) → AreRising [] (finmap.entries keys) → keyring.with_keys finmap.empty (finmap.values keys) ≡ keys
same_again keys g r = same_entries_map (keyring.with_keys finmap.empty (finmap.values keys)) keys (keys_folded (finmap.entries keys) g finmap.empty [] none_at_start r)

pub keys_are : (es : Entries) (ws : List Written) → AreWritten es ws → AreFiled es → AreRising [] es → finmap.entries (keys_of (map block ws)) ≡ es
keys_are es ws p g r = entries_folded es ws p g finmap.empty [] none_at_start r

-- ---- the blocks

blocks_are_runs : (es : Entries) (ws : List Written) → AreWritten es ws → AreRuns begins_keyblock ends_keyblock (map block ws)
blocks_are_runs [] [] p = tt
blocks_are_runs [] (w ∷ ws) p = absurd p
blocks_are_runs (e ∷ es) [] p = absurd p
blocks_are_runs (e ∷ es) (w ∷ ws) p = (
  record {
    begun = ap is_primary p.0.kind;
    goes_on = or_from (ends_keyblock w.f) (list_any ends_keyblock (pieces w.rs)) (of_kind record_of.ends_keyblock w.f p.1.kind refl) (users_free record_of.ends_keyblock refl (λ kind. refl) e.1.revoked e.1.users w.rs p.2);
  },
  blocks_are_runs es ws p.3,
)

pub blocks_are : (t : List Line) → list_any ends_keyblock t ≡ false → (es : Entries) (ws : List Written) → AreWritten es ws → blocks (t ++ pieces (map block ws)) ≡ map block ws
blocks_are t free es ws p = runs_pieces begins_keyblock ends_keyblock block_ends t free (map block ws) (blocks_are_runs es ws p)

none_repeated : (es : Entries) (ws : List Written) → AreWritten es ws → (id n : ℕ) → n ≡ id → Before es id → list_any (λ b. n == block_id b) (map block ws) ≡ false
none_repeated [] [] p id n e h = refl
none_repeated [] (w ∷ ws) p id n e h = absurd p
none_repeated (x ∷ es) [] p id n e h = absurd p
none_repeated (x ∷ es) (w ∷ ws) p id n e h =
    or_from (n == key_id_at w.p) (list_any (λ b. n == block_id b) (map block ws))
    ((λ i. e i == p.0.own_id i) ∙ ne_eqb id x.0 (λ q. omega (arith, h.0)))
    (none_repeated es ws p.3 id n e h.1)

-- ---- faults

pub_passes : (before : List Line) (id : ℕ) (key : Key) (p : Line) → IsPub id key p → lacks_fingerprint (open_block before) ≡ false → is_repeated_key before p ≡ false → failed_check before p ≡ None
pub_passes before id key p h named new =
    ap (λ k. first_failing (checks_of k before p)) h.kind
    ∙ ap (λ b. first_failing ((b, NoFingerprint) ∷ pub_checks p ++ (is_repeated_key before p, RepeatedKey) ∷ [])) named
    ∙ passes_more (pub_checks p) ((is_repeated_key before p, RepeatedKey) ∷ []) h.passes
    ∙ ap (λ b. first_failing ((b, RepeatedKey) ∷ [])) new

written_more : (es : Entries) (ws : List Written) (e : ℕ × Key) (w : Written) → AreWritten es ws → IsPub e.0 e.1 w.p → IsFpr e.1 w.f → AreUsers e.1.revoked e.1.users w.rs
    → AreWritten (es ++ e ∷ []) (ws ++ w ∷ [])
written_more [] [] e w h p f us = (p, f, us, tt)
written_more [] (x ∷ ws) e w h p f us = absurd h
written_more (x ∷ es) [] e w h p f us = absurd h
written_more (x ∷ es) (y ∷ ws) e w h p f us = (h.0, h.1, h.2, written_more es ws e w h.3 p f us)

pieces_block : (ws : List Written) (w : Written) → pieces (map block (ws ++ w ∷ [])) ≡ pieces (map block ws) ++ w.p ∷ w.f ∷ pieces w.rs
pieces_block [] w = append-nil (w.p ∷ w.f ∷ pieces w.rs)
pieces_block (x ∷ ws) w =
    ap (λ l. (x.p ∷ x.f ∷ pieces x.rs) ++ l) (pieces_block ws w)
    ∙ sym (append_assoc (x.p ∷ x.f ∷ pieces x.rs) (pieces (map block ws)) (w.p ∷ w.f ∷ pieces w.rs))

module _ (t : List Line) (free : list_any ends_keyblock t ≡ false) where
  abbrev listed : List Written → List Line
  listed ws = t ++ pieces (map block ws)

  listed_more : (ws : List Written) (w : Written) → listed ws ++ w.p ∷ w.f ∷ pieces w.rs ≡ listed (ws ++ w ∷ [])
  listed_more ws w = append_assoc t (pieces (map block ws)) (w.p ∷ w.f ∷ pieces w.rs) ∙ ap (λ l. t ++ l) (sym (pieces_block ws w))

  named_after : (ws : List Written) (e : ℕ × Key) (w : Written) → (key_id_of e.1.fpr ≡ e.0) → IsPub e.0 e.1 w.p → IsFpr e.1 w.f → AreUsers e.1.revoked e.1.users w.rs
      → lacks_fingerprint (open_block (listed (ws ++ w ∷ []))) ≡ false
  named_after ws e w own p f us =
      ap (λ l. lacks_fingerprint (open_block l)) (sym (listed_more ws w))
      ∙ ap lacks_fingerprint (block_open (listed ws) w.p w.f e.0 e.1 p f (sym own) e.1.users w.rs us)
      ∙ ap is_none (fpr_line_is w.p w.f e.1.revoked e.1.users w.rs f.kind us)

  pub blocks_faultless : (es : Entries) (ws : List Written) → AreWritten es ws → lacks_fingerprint (open_block (listed ws)) ≡ false
      → (more : Entries) (next : List Written) → AreWritten more next → AreFiled more → AreRising es more
      → (fault_after (listed ws) (pieces (map block next)) ≡ None) × (lacks_fingerprint (open_block (listed (ws ++ next))) ≡ false)
  blocks_faultless es ws h named [] [] p g r = (refl, ap (λ l. lacks_fingerprint (open_block (listed l))) (append-nil ws) ∙ named)
  blocks_faultless es ws h named [] (w ∷ next) p g r = absurd p
  blocks_faultless es ws h named (x ∷ more) [] p g r = absurd p
  blocks_faultless es ws h named (x ∷ more) (w ∷ next) p g r =
      let new : is_repeated_key (listed ws) w.p ≡ false =
      ap (list_any (λ b. key_id_at w.p == block_id b)) (blocks_are t free es ws h) ∙ none_repeated es ws h x.0 (key_id_at w.p) p.0.own_id r.0 in
      let after = blocks_faultless (es ++ x ∷ []) (ws ++ w ∷ []) (written_more es ws x w h p.0 p.1 p.2) (named_after ws x w g.0 p.0 p.1 p.2) more next p.3 g.2 r.1 in (
        block_faultless (listed ws) w.p w.f x.0 x.1 p.0 p.1 (sym g.0) (pub_passes (listed ws) x.0 x.1 w.p p.0 named new) w.rs p.2
            (subst (λ n. All (IsUser n) x.1.users) g.0 g.1.each) g.1.distinct g.1.few_users g.1.few_certs (pieces (map block next))
            (ap (λ b. fault_after b (pieces (map block next))) (listed_more ws w) ∙ after.0),
        ap (λ l. lacks_fingerprint (open_block (listed l))) (sym (append_assoc ws (w ∷ []) next)) ∙ after.1,
      )

-- a line that counts for nothing, and then the blocks
module _ (line : Line) (kind : kind_of line ≡ Other) where
  pub first_free : list_any ends_keyblock (line ∷ []) ≡ false
  first_free = or_from (ends_keyblock line) false (of_kind record_of.ends_keyblock line kind refl) refl

  pub faultless : (es : Entries) (ws : List Written) → AreWritten es ws → AreFiled es → AreRising [] es → fault_at_end (line ∷ pieces (map block ws)) ≡ None
  faultless es ws p g r =
      let lines = line ∷ pieces (map block ws) in
      let named : lacks_fingerprint (open_block (line ∷ [])) ≡ false = ap lacks_fingerprint (open_none begins_keyblock ends_keyblock block_ends (line ∷ []) first_free) in
      let both = blocks_faultless (line ∷ []) first_free [] [] tt named es ws p g r in
      let none : fault_after [] lines ≡ None = fault_step [] line (pieces (map block ws)) (ap (λ k. first_failing (checks_of k [] line)) kind) both.0 in
      λ i. option_or (none i) (if both.1 i then Some (fault_at (length lines + 1) NoFingerprint) else None)

  pub listed_keys_are : (es : Entries) (ws : List Written) → AreWritten es ws → AreFiled es → AreRising [] es → listed_keys (line ∷ pieces (map block ws)) ≡ map (λ e. e.1) es
  listed_keys_are es ws p g r =
      ap (λ bs. finmap.values (keys_of bs)) (blocks_are (line ∷ []) first_free es ws p)
      ∙ ap (map (λ (e : ℕ × Key). e.1)) (keys_are es ws p g r)
