-- How what commands write composes, and that those that change nothing write nothing.
use Rattle.std.proofs.Common.{◌≡◌, ◌≢◌, ◌⊎◌, inl, inr, ℕ, ◌+◌, Bool, true, false, List, [], ◌∷◌, ◌++◌, if◌then◌else◌, refl, sym, ap, ◌∙◌, subst, append_assoc, arith}
use Rattle.std.specs.List.{All}
use Rattle.std.specs.Prelude.{nat_eq}
use Rattle.std.proofs.lemmas.List.{append-nil}
use Rattle.std.proofs.lemmas.List.Elements.{All-append, All-nil, All-weaker}
use Rattle.wot_types.specs.Commands.{Command}
use Rattle.wot_types.specs.Compaction.{compacted_store, last_epoch}
use Rattle.wot_types.specs.Outcome.{edited_store, outcome, store_after}
use Rattle.wot_types.specs.Session.{Progress, after_command, after_all, replies, reply_to}
use Rattle.wot_types.specs.Store.{Change, Store}
use Rattle.wot_types.specs.Store.Change.{keeps, makes, compacts}
use Rattle.wot_site.specs.Disk.{Disks}
use Rattle.wot_site.specs.Seen.{Moment, Seen}
use Rattle.wot_site.specs.Work.{Quiet, Since}
use Rattle.wot_session.specs.Written.{IsAnswered, Trail, WritesFor, WritesOther, WritesRecord, WritesTo, Written, change_count, is_change}
use Rattle.wot_session.proofs.Compactings.{epoch_moves, same_false, store_stays}

-- nothing was written
writes_none : (s : Store) (change : Change) (d e : Disks) → e ≡ d → WritesFor s change d e
writes_none s keeps d e same = same
writes_none s (makes edit) d e same = inl same
writes_none s compacts d e same = inl same

pub writes_still : (s t : Store) (d : Disks) → WritesTo s t d d
writes_still s t d = record { still = λ _. refl; some = inl refl }

-- what may have been written where the epoch is the same, and where it is another
abbrev WritesByEpoch : Store → Store → Disks → Disks → Type 0
WritesByEpoch s t d e = (e ≡ d) ⊎ (((t.epoch ≡ s.epoch) × WritesRecord s t d e) ⊎ ((t.epoch ≢ s.epoch) × WritesOther d e))

same_epoch : (s t : Store) (d e : Disks) → t.epoch ≡ s.epoch → WritesByEpoch s t d e → (e ≡ d) ⊎ WritesRecord s t d e
same_epoch s t d e same (inl still) = inl still
same_epoch s t d e same (inr (inl (is, writes))) = inr writes
same_epoch s t d e same (inr (inr (other, writes))) = absurd (other same)

other_epoch : (s t : Store) (d e : Disks) → (t.epoch ≡ s.epoch → ⊥) → WritesByEpoch s t d e → (e ≡ d) ⊎ WritesOther d e
other_epoch s t d e other (inl still) = inl still
other_epoch s t d e other (inr (inl (same, writes))) = absurd (other same)
other_epoch s t d e other (inr (inr (is, writes))) = inr writes

writes_compacts : (s : Store) (d e : Disks) → WritesTo s (compacted_store s) d e → (e ≡ d) ⊎ ((s.epoch ≢ last_epoch) × WritesOther d e)
writes_compacts s d e writes = by_epoch (nat_eq s.epoch last_epoch) refl
  where
    before_the_last : s.epoch ≢ last_epoch → (e ≡ d) ⊎ WritesOther d e → (e ≡ d) ⊎ ((s.epoch ≢ last_epoch) × WritesOther d e)
    before_the_last before (inl still) = inl still
    before_the_last before (inr writes) = inr (before, writes)

    by_epoch : (last : Bool) → nat_eq s.epoch last_epoch ≡ last → (e ≡ d) ⊎ ((s.epoch ≢ last_epoch) × WritesOther d e)
    by_epoch true is = inl (writes.still (store_stays s is))
    by_epoch false is = before_the_last (same_false s.epoch last_epoch is) (other_epoch s (compacted_store s) d e (epoch_moves s is) writes.some)

-- what leads to the store after a change is what that change may write
writes_change : (s : Store) (change : Change) (d e : Disks) → WritesTo s (store_after change s) d e → WritesFor s change d e
writes_change s keeps d e writes = writes.still refl
writes_change s (makes edit) d e writes = same_epoch s (edited_store s edit) d e refl writes.some
writes_change s compacts d e writes = writes_compacts s d e writes

-- without a change nothing is written
still_change : (s : Store) (change : Change) (d e : Disks) → is_change change ≡ false → WritesFor s change d e → e ≡ d
still_change s keeps d e none writes = writes
still_change s (makes edit) d e none writes = cc
still_change s compacts d e none writes = cc

answered_weaker : (P Q : Disks → Type 0) (reply before : List ℕ) (left : Disks) (m : Moment) → ((e : Disks) → P e → Q e) → IsAnswered P reply before left m
    → IsAnswered Q reply before left m
answered_weaker P Q reply before left m weaker is = record { prefix = is.prefix; is_prefix = is.is_prefix; told = is.told; sides = sides is.sides }
  where
    sides : (m.disks ≡ left) ⊎ ((is.prefix ≡ []) × P m.disks) → (m.disks ≡ left) ⊎ ((is.prefix ≡ []) × Q m.disks)
    sides (inl same) = inl same
    sides (inr (none, writes)) = inr (none, weaker m.disks writes)

-- a moment before a command at which nothing was written
answered_still : (P : Disks → Type 0) (reply before : List ℕ) (d left : Disks) (m : Moment) → P d → Quiet (λ disks. disks ≡ d) before m
    → IsAnswered P reply before left m
answered_still P reply before d left m here quiet = record {
  prefix = [];
  is_prefix = (reply, refl);
  told = quiet.told ∙ sym (append-nil before);
  sides = inr (refl, subst P (sym quiet.disks) here);
}

-- one at which the sides are all that they were and will be
answered_same : (P : Disks → Type 0) (reply before : List ℕ) (d left : Disks) (m : Moment) → ((e : Disks) → P e → e ≡ d) → left ≡ d → IsAnswered P reply before left m
    → m.disks ≡ d
answered_same P reply before d left m same after is = sides is.sides
  where
    sides : (m.disks ≡ left) ⊎ ((is.prefix ≡ []) × P m.disks) → m.disks ≡ d
    sides (inl here) = here ∙ after
    sides (inr (none, writes)) = same m.disks writes

pub trail_start : (p : Progress) (commands : List Command) (told : List ℕ) (d : Disks) → Trail p commands told d [] d
trail_start p [] told d = (refl, All-nil _)
trail_start p (command ∷ commands) told d =
    ([], [], d, refl, All-nil _, writes_none p.store (outcome p.store command).change d d refl, trail_start (after_command p command) commands (told ++ reply_to p command) d)

-- moments before it at which nothing was written
trail_before : (p : Progress) (commands : List Command) (told : List ℕ) (d : Disks) (still moments : List Moment) (e : Disks)
    → All (Quiet (λ disks. disks ≡ d) told) still → Trail p commands told d moments e → Trail p commands told d (still ++ moments) e
trail_before p [] told d still moments e before (same, each) = (same, All-append (Quiet (λ disks. disks ≡ d) told) still moments before each)
trail_before p (command ∷ commands) told d still moments e before (here, later, left, is, each, writes, rest) =
    let change = (outcome p.store command).change in
    let P : Moment → Type 0 = IsAnswered (WritesFor p.store change d) (reply_to p command) told left in (
      still ++ here,
      later,
      left,
      ap (λ moments. still ++ moments) is ∙ sym (append_assoc still here later),
      All-append P still here
          (All-weaker (Quiet (λ disks. disks ≡ d) told) P
          (λ m quiet. answered_still (WritesFor p.store change d) (reply_to p command) told d left m (writes_none p.store change d d refl) quiet) still before) each,
      writes,
      rest,
    )

-- commands and then others
trail_then : (p : Progress) (xs ys : List Command) (told : List ℕ) (d mid e : Disks) (first later : List Moment)
    → Trail p xs told d first mid → Trail (after_all p xs) ys (told ++ replies p xs) mid later e → Trail p (xs ++ ys) told d (first ++ later) e
trail_then p [] ys told d mid e first later (same, each) after =
    trail_before p ys told d first later e each
    (subst (λ (d : Disks). Trail p ys told d later e) same (subst (λ text. Trail p ys text mid later e) (append-nil told) after))
trail_then p (command ∷ xs) ys told d mid e first later (here, more, left, is, each, writes, rest) after = (
  here,
  more ++ later,
  left,
  ap (λ moments. moments ++ later) is ∙ append_assoc here more later,
  each,
  writes,
  trail_then (after_command p command) xs ys (told ++ reply_to p command) left mid e more later rest
      (subst (λ text. Trail (after_all (after_command p command) xs) ys text mid later e)
      (sym (append_assoc told (reply_to p command) (replies (after_command p command) xs))) after),
)

-- without a change nothing is written
pub trail_still : (p : Progress) (commands : List Command) (told : List ℕ) (d : Disks) (moments : List Moment) (e : Disks) → change_count p commands ≡ 0
    → Trail p commands told d moments e → (e ≡ d) × All (λ m. m.disks ≡ d) moments
trail_still p [] told d moments e none (same, each) = (same, All-weaker (Quiet (λ disks. disks ≡ d) told) (λ m. m.disks ≡ d) (λ m quiet. quiet.disks) moments each)
trail_still p (command ∷ commands) told d moments e none (here, later, left, is, each, writes, rest) =
    cases (λ none. trail_still (after_command p command) commands (told ++ reply_to p command) left later e none rest) (is_change (outcome p.store command).change) refl
  where
    counted : (some : Bool) → is_change (outcome p.store command).change ≡ some → (if some then 1 else 0) + change_count (after_command p command) commands ≡ 0
    counted some same = subst (λ some. (if some then 1 else 0) + change_count (after_command p command) commands ≡ 0) same none

    cases : (change_count (after_command p command) commands ≡ 0 → (e ≡ left) × All (λ m. m.disks ≡ left) later)
        → (some : Bool) → is_change (outcome p.store command).change ≡ some → (e ≡ d) × All (λ m. m.disks ≡ d) moments
    cases others true same = absurd (omega (arith, counted true same))
    cases others false same =
        let change = (outcome p.store command).change in
        let first : left ≡ d = still_change p.store change d left same writes in
        let after = others (omega (arith, counted false same)) in
        let before : All (λ m. m.disks ≡ d) here =
        All-weaker (IsAnswered (WritesFor p.store change d) (reply_to p command) told left) (λ m. m.disks ≡ d)
        (λ m. answered_same (WritesFor p.store change d) (reply_to p command) told d left m (λ e. still_change p.store change d e same) first) here each in
        let behind : All (λ m. m.disks ≡ d) later = All-weaker (λ m. m.disks ≡ left) (λ m. m.disks ≡ d) (λ m is. is ∙ first) later after.1 in
        (after.0 ∙ first, subst (All (λ (m : Moment). m.disks ≡ d)) (sym is) (All-append (λ m. m.disks ≡ d) here later before behind))

-- what is seen: nothing was done yet
pub written_start : (p : Progress) (commands : List Command) (x : Seen) → Written p commands x x
written_start p commands x = record { moments = []; is = sym (append-nil x.moments); trail = trail_start p commands x.told x.disks }

-- no moment passed
pub written_still : (p : Progress) (commands : List Command) (x y : Seen) → y.disks ≡ x.disks → y.moments ≡ x.moments → Written p commands x y
written_still p commands x y disks moments = record {
  moments = [];
  is = moments ∙ sym (append-nil x.moments);
  trail = subst (λ (d : Disks). Trail p commands x.told x.disks [] d) (sym disks) (trail_start p commands x.told x.disks);
}

pub written_later : (p : Progress) (commands : List Command) (x y z : Seen) → y.told ≡ x.told → y.disks ≡ x.disks → y.moments ≡ x.moments
    → Written p commands y z → Written p commands x z
written_later p commands x y z told disks moments written = record {
  moments = written.moments;
  is = written.is ∙ ap (λ before. before ++ written.moments) moments;
  trail = subst (λ (d : Disks). Trail p commands x.told d written.moments z.disks) disks
      (subst (λ text. Trail p commands text y.disks written.moments z.disks) told written.trail);
}

module _ (p : Progress) (xs ys : List Command) (x y : Seen) where
  pub written_then : (z : Seen) → y.told ≡ x.told ++ replies p xs → Written p xs x y → Written (after_all p xs) ys y z → Written p (xs ++ ys) x z
  written_then z told before after = record {
    moments = before.moments ++ after.moments;
    is = after.is ∙ ap (λ moments. moments ++ after.moments) before.is ∙ append_assoc x.moments before.moments after.moments;
    trail = trail_then p xs ys x.told x.disks y.disks z.disks before.moments after.moments before.trail
        (subst (λ text. Trail (after_all p xs) ys text y.disks after.moments z.disks) told after.trail);
  }

  -- other commands follow, for which nothing was written
  pub written_more : Written p xs x y → Written p (xs ++ ys) x y
  written_more before = record {
    moments = before.moments;
    is = before.is;
    trail = subst (λ moments. Trail p (xs ++ ys) x.told x.disks moments y.disks) (append-nil before.moments)
        (trail_then p xs ys x.told x.disks y.disks y.disks before.moments [] before.trail (trail_start (after_all p xs) ys (x.told ++ replies p xs) y.disks));
  }

-- one answer
pub written_one : (p : Progress) (command : Command) (x y : Seen)
    → Since (IsAnswered (WritesTo p.store (after_command p command).store x.disks) (reply_to p command) x.told y.disks) x y
    → WritesTo p.store (after_command p command).store x.disks y.disks → Written p (command ∷ []) x y
written_one p command x y since last =
    let change = (outcome p.store command).change in
    record {
      moments = since.moments;
      is = since.is;
      trail = (
        since.moments,
        [],
        y.disks,
        sym (append-nil since.moments),
        All-weaker (IsAnswered (WritesTo p.store (after_command p command).store x.disks) (reply_to p command) x.told y.disks)
            (IsAnswered (WritesFor p.store change x.disks) (reply_to p command) x.told y.disks)
            (λ m. answered_weaker (WritesTo p.store (after_command p command).store x.disks) (WritesFor p.store change x.disks) (reply_to p command) x.told y.disks m
            (λ e. writes_change p.store change x.disks e)) since.moments since.each,
        writes_change p.store change x.disks y.disks last,
        (refl, All-nil _),
      );
    }

-- none
pub written_none : (p : Progress) (x y : Seen) → Since (IsAnswered (WritesTo p.store p.store x.disks) [] x.told y.disks) x y → WritesTo p.store p.store x.disks y.disks
    → Written p [] x y
written_none p x y since last = record {
  moments = since.moments;
  is = since.is;
  trail = (
    last.still refl,
    All-weaker (IsAnswered (WritesTo p.store p.store x.disks) [] x.told y.disks) (Quiet (λ disks. disks ≡ x.disks) x.told)
        (λ m is. record {
          disks = answered_same (WritesTo p.store p.store x.disks) [] x.told x.disks y.disks m (λ e writes. writes.still refl) (last.still refl) is;
          told = is.told ∙ ap (λ text. x.told ++ text) (none is.prefix is.is_prefix.0 is.is_prefix.1) ∙ append-nil x.told;
        }) since.moments since.each,
  );
}
  where
    none : (front back : List ℕ) → front ++ back ≡ [] → front ≡ []
    none [] back e = refl
    none (b ∷ front) back e = cc
