use Rattle.std.proofs.Common.{◌≡◌, All, Some, sym, ap, subst, ◌∙◌, arith}
use Rattle.std.specs.FinMap as finmap
use Rattle.std.proofs.lemmas.List.Elements.{All-get_or}
use Rattle.wot_types.specs.Ownertrust.{ownertrust_of}
use Rattle.wot_print.specs.declared.ownertrust_walk.EntryById.{EntryById}
use Rattle.wot_print.specs.OwnertrustWalk.{TrustsFrom}
use Rattle.wot_print.proofs.EntriesById.{IsOtherAhead, each_kept, none_kept}
use Rattle.wot_print.proofs.ownertrust_walk.OwnertrustWalk.kept_at_hand.Goals as goal
use Rattle.wot_print.proofs.ownertrust_walk.OwnertrustWalk.kept_at_hand.Goals.{in_default-via-in-Some+else-entry-self, in_default-via-in_default}

pub kept_or_found-requires : goal.kept_or_found-requires
kept_or_found-requires c =
    let w = c.self.inside in
    let IsKept = λ (entry : EntryById). finmap.get w.trusts.now entry.fpr.now ≡ Some entry.kept in
    let kept = subst (All IsKept) (sym c.deref.ensures.value) (each_kept w.trusts.now w.from w.entries.items w.passed c.self.invariant) in
    let found = c.in-Some.ensures.lookup in
    record { there = subst IsKept (sym found.1) (All-get_or IsKept c.deref.result.now w.passed c.in-Some.entry.now found.3.0 kept) }

pub returns-in_default : goal.returns-in_default
returns-in_default c =
    let w = c.self.inside in
    let fpr = c.args.fpr.now in
    let IsOther = IsOtherAhead w.trusts.now w.from w.entries.items w.passed c.self.invariant in
    let other : IsOther c.deref.result.now =
    elim c.in_default.branch as (λ _. IsOther c.deref.result.now) [
      | in_default-via-in-Some+else-entry-self v ↦ λ l d same. v.if-entry-self.false (ap (λ (entry : EntryById). entry.id) (v.in-Some.ensures.lookup.3.1 d) ∙ same)
      | in_default-via-in_default v ↦ λ l. absurd (omega (arith, l, v.in_default.ensures.lookup.3))
    ] in
    let own = ap (λ (t : TrustsFrom). t.from) c.self.view_is ∙ c.requires.at_hand in
    c.unset.ensures ∙ none_kept w.trusts.now w.from w.entries.items w.passed c.self.invariant fpr own (subst IsOther c.deref.ensures.value other) ∙ ap (λ (t : TrustsFrom). ownertrust_of t.trusts fpr) c.self.view_is
