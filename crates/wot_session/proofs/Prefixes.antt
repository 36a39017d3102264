-- What is kept at each moment is a prefix of the edits that holds every one acknowledged.
use Rattle.std.proofs.Common.{◌≡◌, ◌⊎◌, inl, inr, ℕ, ◌+◌, ◌-◌, ◌<◌, ◌≤◌, suc, Bool, true, false, List, [], ◌∷◌, ◌++◌, length, if◌then◌else◌, Some, refl, sym, ap, ◌∙◌, subst, append_assoc, arith, length-append}
use Rattle.std.specs.Prelude.{nat_lt, slice_get}
use Rattle.std.proofs.lemmas.Bool.Decides.{nat_tests}
use Rattle.std.proofs.lemmas.List.{append-nil, append_cancel_left}
use Rattle.wot_site.specs.Disk.{Image, Leaves}
use Rattle.wot_site.specs.Seen.{Moment, Seen}
use Rattle.wot_store.specs.Shows.{Shows}
use Rattle.wot_types.specs.Commands.{Command}
use Rattle.wot_types.specs.Store.{Store}
use Rattle.wot_types.specs.Session.{Progress, acknowledged_count, after_command, after_all, is_edit, replies, reply_to, states}
use Rattle.wot_types.proofs.Counting.{first_state, kept, none_acknowledged, replied}
use Rattle.wot_session.proofs.Keeping.{stored_shows}
use Rattle.wot_session.specs.CrashImages.{IsAround, IsSafe, IsWhole, Kept, ShowsPrefix, ShowsState}

-- a command without a reply leaves the state
silent : (p : Progress) (command : Command) → length (reply_to p command) ≡ 0 → (after_command p command).store.state ≡ p.store.state
silent p command none = cases (is_edit p command) refl
  where
    cases : (edit : Bool) → is_edit p command ≡ edit → (after_command p command).store.state ≡ p.store.state
    cases true is = absurd (omega (arith, replied p command is, none))
    cases false is = kept p command is

-- one where it is an edit
abbrev one_if : Bool → ℕ
one_if b = if b then 1 else 0

zero_plus : (j : ℕ) → 0 + j ≡ j
zero_plus j = omega arith

one_plus : (j : ℕ) → 1 + j ≡ suc j
one_plus j = omega arith

-- the state after j edits and, before them, one more if the first command is an edit
state_later : (p : Progress) (command : Command) (commands : List Command) (j : ℕ)
    → slice_get (states p (command ∷ commands)) (one_if (is_edit p command) + j) ≡ slice_get (states (after_command p command) commands) j
state_later p command commands j =
    elim (is_edit p command) as (λ b. slice_get (if b then p.store.state ∷ states (after_command p command) commands else states (after_command p command) commands) (one_if b + j)
    ≡ slice_get (states (after_command p command) commands) j) [
      | true ↦ ap (slice_get (p.store.state ∷ states (after_command p command) commands)) (one_plus j)
      | false ↦ ap (slice_get (states (after_command p command) commands)) (zero_plus j)
    ]

-- the first command is not answered wholly
count_none : (p : Progress) (command : Command) (commands : List Command) (n : ℕ) → n < length (reply_to p command) → acknowledged_count p (command ∷ commands) n ≡ 0
count_none p command commands n less = grind (arith, nat_tests)

-- the first command is answered wholly
count_later : (p : Progress) (command : Command) (commands : List Command) (n : ℕ)
    → acknowledged_count p (command ∷ commands) (length (reply_to p command) + n) ≡ one_if (is_edit p command) + acknowledged_count (after_command p command) commands n
count_later p command commands n =
    let size : (length (reply_to p command) + n) - length (reply_to p command) ≡ n = omega arith in
    let no : nat_lt (length (reply_to p command) + n) (length (reply_to p command)) ≡ false = grind (arith, nat_tests) in
    ap (λ b. if b then 0 else one_if (is_edit p command) + acknowledged_count (after_command p command) commands ((length (reply_to p command) + n) - length (reply_to p command))) no
    ∙ ap (λ n. one_if (is_edit p command) + acknowledged_count (after_command p command) commands n) size

module _ (p : Progress) (command : Command) (commands : List Command) where
  -- the state after the first command is that after as many edits as it makes
  after_state : slice_get (states p (command ∷ commands)) (one_if (is_edit p command)) ≡ Some (after_command p command).store.state
  after_state =
      ap (slice_get (states p (command ∷ commands))) (sym plus) ∙ state_later p command commands 0 ∙ first_state (after_command p command) commands
    where
      plus : one_if (is_edit p command) + 0 ≡ one_if (is_edit p command)
      plus = omega arith

  one_at_most : one_if (is_edit p command) ≤ 1
  one_at_most = elim (is_edit p command) as (λ b. one_if b ≤ 1) [ true ↦ omega arith | false ↦ omega arith ]

  -- before the whole reply
  early : (n : ℕ) → n < length (reply_to p command) → (image : Image) → Shows image p.store ⊎ Shows image (after_command p command).store
      → ShowsPrefix p (command ∷ commands) n image
  early n less image (inl shows) = record {
    j = 0;
    least = omega (arith, count_none p command commands n less);
    most = omega arith;
    shows = record { store = p.store; shows = shows; is = first_state p (command ∷ commands) };
  }
  early n less image (inr shows) = record {
    j = one_if (is_edit p command);
    least = omega (arith, count_none p command commands n less);
    most = omega (arith, one_at_most);
    shows = record { store = (after_command p command).store; shows = shows; is = after_state };
  }

  -- a store with the state after the first command is shown
  abbrev ShowsAfter : Image → Type 0
  ShowsAfter image = (t : Store) × Shows image t × (t.state ≡ (after_command p command).store.state)

  -- after it
  late : (image : Image) → ShowsAfter image → ShowsPrefix p (command ∷ commands) (length (reply_to p command)) image
  late image (t, shows, same) =
      let size : length (reply_to p command) + 0 ≡ length (reply_to p command) = omega arith in
      let count = sym (ap (acknowledged_count p (command ∷ commands)) size) ∙ count_later p command commands 0 in
      let none = none_acknowledged (after_command p command) commands in
      record {
        j = one_if (is_edit p command);
        least = omega (arith, count, none);
        most = omega (arith, count, none);
        shows = record { store = t; shows = shows; is = after_state ∙ ap Some (sym same) };
      }

  whole_reply : (image : Image) → length (reply_to p command) ≡ 0 → Shows image p.store ⊎ Shows image (after_command p command).store → ShowsAfter image
  whole_reply image none (inl shows) = (p.store, shows, sym (silent p command none))
  whole_reply image none (inr shows) = ((after_command p command).store, shows, refl)

  around_prefix : (before : List ℕ) (m : Moment) (around : IsAround p.store (after_command p command).store (reply_to p command) before m)
      → Leaves (ShowsPrefix p (command ∷ commands) (length around.prefix)) m.disks
  around_prefix before m around image is_image = cases (nat_lt (length around.prefix) (length (reply_to p command))) refl
    where
      size : length around.prefix + length around.is_prefix.0 ≡ length (reply_to p command)
      size = sym (length-append around.prefix around.is_prefix.0) ∙ ap length around.is_prefix.1

      full : nat_lt (length around.prefix) (length (reply_to p command)) ≡ false → length around.prefix ≡ length (reply_to p command)
      full past = let less : length (reply_to p command) ≤ length around.prefix = grind (arith, nat_tests) in omega (arith, less, size)

      shown : length around.prefix ≡ length (reply_to p command) → Leaves (λ image. Shows image (after_command p command).store) m.disks ⊎ (around.prefix ≡ []) → ShowsAfter image
      shown all (inl shows) = ((after_command p command).store, shows image is_image, refl)
      shown all (inr none) = whole_reply image (sym all ∙ ap length none) (around.either image is_image)

      less : nat_lt (length around.prefix) (length (reply_to p command)) ≡ true → length around.prefix < length (reply_to p command)
      less is = grind (arith, nat_tests)

      cases : (b : Bool) → nat_lt (length around.prefix) (length (reply_to p command)) ≡ b → ShowsPrefix p (command ∷ commands) (length around.prefix) image
      cases true is = early (length around.prefix) (less is) image (around.either image is_image)
      cases false is = subst (λ n. ShowsPrefix p (command ∷ commands) n image) (sym (full is)) (late image (shown (full is) around.answered))

  -- the first command was answered
  later_prefix : (n : ℕ) (image : Image) → ShowsPrefix (after_command p command) commands n image → ShowsPrefix p (command ∷ commands) (length (reply_to p command) + n) image
  later_prefix n image prefix =
      let count = count_later p command commands n in
      record {
        j = one_if (is_edit p command) + prefix.j;
        least = omega (arith, count, prefix.least);
        most = omega (arith, count, prefix.most);
        shows = record { store = prefix.shows.store; shows = prefix.shows.shows; is = state_later p command commands prefix.j ∙ prefix.shows.is };
      }

pub kept_safe : (p : Progress) (commands : List Command) (before : List ℕ) (m : Moment) → Kept p commands before m → IsSafe p commands before m
kept_safe p [] before m (told, shows) = record {
  text = [];
  is_prefix = ([], refl);
  told = told ∙ sym (append-nil before);
  images = λ image is_image. record {
    j = 0;
    least = omega arith;
    most = omega arith;
    shows = record { store = p.store; shows = shows image is_image; is = refl };
  };
}
kept_safe p (command ∷ commands) before m (inl around) = record {
  text = around.prefix;
  is_prefix = (
    around.is_prefix.0 ++ replies (after_command p command) commands,
    sym (append_assoc around.prefix around.is_prefix.0 (replies (after_command p command) commands)) ∙ ap (λ text. text ++ replies (after_command p command) commands) around.is_prefix.1,
  );
  told = around.told;
  images = around_prefix p command commands before m around;
}
kept_safe p (command ∷ commands) before m (inr later) =
    let rest = kept_safe (after_command p command) commands (before ++ reply_to p command) m later in
    record {
      text = reply_to p command ++ rest.text;
      is_prefix = (rest.is_prefix.0, append_assoc (reply_to p command) rest.text rest.is_prefix.0 ∙ ap (λ text. reply_to p command ++ text) rest.is_prefix.1);
      told = rest.told ∙ append_assoc before (reply_to p command) rest.text;
      images = λ image is_image.
          subst (λ n. ShowsPrefix p (command ∷ commands) n image) (sym (length-append (reply_to p command) rest.text))
          (later_prefix p command commands (length rest.text) image (rest.images image is_image));
    }

-- after commands that were answered wholly the state is that of the edits acknowledged
whole_state : (p : Progress) (done rest : List Command)
    → slice_get (states p (done ++ rest)) (acknowledged_count p (done ++ rest) (length (replies p done))) ≡ Some (after_all p done).store.state
whole_state p [] rest = ap (slice_get (states p rest)) (none_acknowledged p rest) ∙ first_state p rest
whole_state p (command ∷ done) rest =
    ap (λ n. slice_get (states p (command ∷ done ++ rest)) (acknowledged_count p (command ∷ done ++ rest) n)) (length-append (reply_to p command) (replies (after_command p command) done))
    ∙ ap (slice_get (states p (command ∷ done ++ rest))) (count_later p command (done ++ rest) (length (replies (after_command p command) done)))
    ∙ state_later p command (done ++ rest) (acknowledged_count (after_command p command) (done ++ rest) (length (replies (after_command p command) done)))
    ∙ whole_state (after_command p command) done rest

pub whole_exact : (p : Progress) (commands : List Command) (before text : List ℕ) (new : Seen) → new.told ≡ before ++ text → IsWhole p commands before new
    → Leaves (ShowsState p commands (acknowledged_count p commands (length text))) new.disks
whole_exact p commands before text new told whole image is_image =
    let same : text ≡ replies p whole.done = append_cancel_left before text (replies p whole.done) (sym told ∙ whole.told) in
    record {
      store = (after_all p whole.done).store;
      shows = stored_shows _ new.disks whole.stored.stored image is_image;
      is = subst (λ commands. slice_get (states p commands) (acknowledged_count p commands (length text)) ≡ Some (after_all p whole.done).store.state) whole.split
          (ap (λ text. slice_get (states p (whole.done ++ whole.rest)) (acknowledged_count p (whole.done ++ whole.rest) (length text))) same ∙ whole_state p whole.done whole.rest);
    }
