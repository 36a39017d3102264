-- Marks tell user IDs apart: one that is the same as one of these has its mark among theirs.
use Rattle.std.proofs.Common.{◌≡◌, ℕ, true, false, ◌||◌, ◌&&◌, List, [], ◌∷◌, ◌++◌, fold, refl, sym, ap, ◌∙◌}
use Rattle.std.specs.Prelude.{nat_eq}
use Rattle.std.specs.BTreeSet.{BTreeSet}
use Rattle.std.specs.Int.{to_be_bytes, w32}
use Rattle.std.specs.List.{list_any}
use Rattle.std.specs.Cmp.Lexicographic.{pointwise, same_text}
use Rattle.std.proofs.lemmas.Bool.{and_parts, false≢true}
use Rattle.wot_types.specs.declared.user.User.{User}
use Rattle.wot_types.specs.declared.user.UserKind.{UserKind}
use Rattle.wot_types.specs.declared.user.UserKind.TheVariants.{Uid, Uat}
use Rattle.wot_types.specs.Listing.{is_same_user, same_kind}
use Rattle.wot_marks.specs.Marks.{AreMarked, KeepsMarks, has_mark, kind_byte, mark_of, number_of, with_byte}

same_kind_byte : (a b : UserKind) → same_kind a b ≡ true → kind_byte a ≡ kind_byte b
same_kind_byte Uid Uid same = refl
same_kind_byte Uat Uat same = refl
same_kind_byte Uid Uat same = absurd (false≢true same)
same_kind_byte Uat Uid same = absurd (false≢true same)

same_mark : (u v : User) → is_same_user u v ≡ true → mark_of u ≡ mark_of v
unfolding number_of
same_mark u v same =
    let hashes = and_parts (same_kind u.kind v.kind && pointwise nat_eq u.text v.text) (pointwise nat_eq u.hash v.hash) same in
    let texts = and_parts (same_kind u.kind v.kind) (pointwise nat_eq u.text v.text) hashes.0 in
    let texts-same = same_text u.text v.text (sym texts.1) in
    let hashes-same = same_text u.hash v.hash (sym hashes.1) in
    let kinds-same = same_kind_byte u.kind v.kind texts.0 in
    λ i. to_be_bytes w32 (fold with_byte (fold with_byte 0 (texts-same i)) (hashes-same i)) ++ texts-same i ++ kinds-same i ∷ hashes-same i

-- a user ID without its mark among these is none of them
pub none_without_mark : (marks : BTreeSet (List ℕ)) (users : List User) (user : User) → AreMarked marks users → has_mark marks (mark_of user) ≡ false
    → list_any (λ other. is_same_user other user) users ≡ false
none_without_mark marks [] user marked none = refl
none_without_mark marks (u ∷ users) user marked none =
    elim (is_same_user u user) as (λ b. is_same_user u user ≡ b → (b || list_any (λ other. is_same_user other user) users) ≡ false) [
      | true ↦ λ same. absurd (false≢true (sym none ∙ ap (has_mark marks) (sym (same_mark u user same)) ∙ marked.0))
      | false ↦ λ _. none_without_mark marks users user marked.1 none
    ] refl

-- more marks
pub stay_marked : (old new : BTreeSet (List ℕ)) (users : List User) → KeepsMarks old new → AreMarked old users → AreMarked new users
stay_marked old new [] keeps marked = tt
stay_marked old new (user ∷ users) keeps marked = (keeps (mark_of user) marked.0, stay_marked old new users keeps marked.1)
