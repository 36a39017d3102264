use Rattle.std.proofs.Common.{◌≡◌, ◌&&◌, ◌||◌, not, sym, subst, ◌∙◌}
use Rattle.wot_index.specs.Indexed.{drafts, has_pair}
use Rattle.wot_index.proofs.Pairs.{exchanged, same_pairs}
use Rattle.wot_index.proofs.draft.Draft.replace.Goals as goal

pub returns-then-eq : goal.returns-then-eq
returns-then-eq c = λ n id.
    let same = same_pairs _ _ (sym c.eq.ensures ∙ c.if-eq.true) ∙ c.as_slice.ensures.value in
    subst (λ come. drafts c.args.self.now n id ≡ ((drafts c.args.self.now n id && not (has_pair n id c.args.gone.now)) || has_pair n id come)) same
    (exchanged (drafts c.args.self.now n id) (has_pair n id c.args.gone.now) (c.requires.there n id))
