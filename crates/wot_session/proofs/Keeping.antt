-- How what a crash leaves composes, command after command.
use Rattle.std.proofs.Common.{◌≡◌, inl, inr, ℕ, List, [], ◌∷◌, ◌++◌, refl, sym, ap, ◌∙◌, subst, append_assoc}
use Rattle.std.proofs.lemmas.List.{append-nil}
use Rattle.wot_types.specs.Store.{Store}
use Rattle.wot_site.specs.Disk.{Disks, IsImageOf}
use Rattle.wot_site.specs.Seen.{Moment, Seen}
use Rattle.wot_site.specs.Work.{moment_of}
use Rattle.wot_store.specs.Shows.{IsStored, Shows}
use Rattle.wot_store.specs.declared.place.Place.{Place}
use Rattle.wot_store.proofs.Unwritten.{settled_images}
use Rattle.wot_types.specs.Commands.{Command}
use Rattle.wot_types.specs.Session.{Progress, after_command, after_all, replies, reply_to}
use Rattle.wot_types.proofs.Divisions.{after_commands_append, commands_append}
use Rattle.wot_session.specs.CrashImages.{AllShow, IsWhole, Kept}
use Rattle.wot_session.specs.OpenStore.{IsOpen}

-- where a store is open, whatever a crash leaves shows it
pub stored_shows : {place : Place} (store : Store) (disks : Disks) → IsStored place store disks → AllShow store disks
stored_shows store disks stored image is =
    let same = settled_images disks image (subst (λ (d : Disks). IsImageOf d image) stored.settled is) in
    subst (λ image. Shows image store) (sym same) stored.shows

-- nothing was told yet, and the store is the first
pub kept_here : (p : Progress) (commands : List Command) (told : List ℕ) (m : Moment) → m.told ≡ told → AllShow p.store m.disks → Kept p commands told m
kept_here p [] told m same shows = (same, shows)
kept_here p (command ∷ commands) told m same shows = inl (record {
  prefix = [];
  is_prefix = (reply_to p command, refl);
  told = same ∙ sym (append-nil told);
  either = λ image is. inl (shows image is);
  answered = inr refl;
})

-- other commands follow
pub kept_more : (p : Progress) (xs ys : List Command) (told : List ℕ) (m : Moment) → Kept p xs told m → Kept p (xs ++ ys) told m
kept_more p [] ys told m (same, shows) = kept_here p ys told m same shows
kept_more p (command ∷ xs) ys told m (inl around) = inl around
kept_more p (command ∷ xs) ys told m (inr later) = inr (kept_more (after_command p command) xs ys (told ++ reply_to p command) m later)

-- others came before
pub kept_then : (p : Progress) (xs ys : List Command) (told : List ℕ) (m : Moment)
    → Kept (after_all p xs) ys (told ++ replies p xs) m → Kept p (xs ++ ys) told m
kept_then p [] ys told m kept = subst (λ t. Kept p ys t m) (append-nil told) kept
kept_then p (command ∷ xs) ys told m kept =
    inr (kept_then (after_command p command) xs ys (told ++ reply_to p command) m
    (subst (λ t. Kept (after_all (after_command p command) xs) ys t m) (sym (append_assoc told (reply_to p command) (replies (after_command p command) xs))) kept))

-- commands that were answered wholly
pub whole_here : {place : Place} (p : Progress) (commands : List Command) (told : List ℕ) (new : Seen) → new.told ≡ told → IsStored place p.store new.disks → IsWhole p commands told new
whole_here p commands told new same stored = record { done = []; rest = commands; split = refl; told = same ∙ sym (append-nil told); stored = record { place = _; stored = stored } }

pub whole_all : {place : Place} (p : Progress) (commands : List Command) (told : List ℕ) (new : Seen) → new.told ≡ told ++ replies p commands
    → IsStored place (after_all p commands).store new.disks → IsWhole p commands told new
whole_all p commands told new same stored = record { done = commands; rest = []; split = append-nil commands; told = same; stored = record { place = _; stored = stored } }

pub whole_more : (p : Progress) (xs ys : List Command) (told : List ℕ) (new : Seen) → IsWhole p xs told new → IsWhole p (xs ++ ys) told new
whole_more p xs ys told new whole = record {
  done = whole.done;
  rest = whole.rest ++ ys;
  split = sym (append_assoc whole.done whole.rest ys) ∙ ap (λ commands. commands ++ ys) whole.split;
  told = whole.told;
  stored = whole.stored;
}

pub whole_then : (p : Progress) (xs ys : List Command) (told : List ℕ) (new : Seen)
    → IsWhole (after_all p xs) ys (told ++ replies p xs) new → IsWhole p (xs ++ ys) told new
whole_then p xs ys told new whole = record {
  done = xs ++ whole.done;
  rest = whole.rest;
  split = append_assoc xs whole.done whole.rest ∙ ap (λ commands. xs ++ commands) whole.split;
  told = whole.told ∙ append_assoc told (replies p xs) (replies (after_all p xs) whole.done)
      ∙ ap (λ text. told ++ text) (sym (commands_append p xs whole.done));
  stored = subst (λ (q : Progress). IsOpen q.store new.disks) (sym (after_commands_append p xs whole.done)) whole.stored;
}

-- what was answered wholly is kept
pub whole_kept : (p : Progress) (commands : List Command) (told : List ℕ) (new : Seen) → IsWhole p commands told new → Kept p commands told (moment_of new)
whole_kept p commands told new whole =
    subst (λ commands. Kept p commands told (moment_of new)) whole.split
    (kept_more p whole.done whole.rest told (moment_of new)
    (subst (λ commands. Kept p commands told (moment_of new)) (append-nil whole.done)
    (kept_then p whole.done [] told (moment_of new) (whole.told, stored_shows _ new.disks whole.stored.stored))))
