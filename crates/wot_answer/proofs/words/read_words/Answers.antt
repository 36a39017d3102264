use Rattle.std.proofs.Common.{◌≡◌, ◌∙◌, ◌==◌, not, length, map, List, Option, None, rules, tests}
use Rattle.std.specs.Iterator.{Yields}
use Rattle.std.proofs.lemmas.Iterator.{YieldsList}
use Rattle.std.proofs.lemmas.Iterator.Consumers.{YieldsList-end, YieldsList-from_filter, YieldsList-at}
use Rattle.std.proofs.lemmas.Iterator.Splits.{YieldsList-from_slice_split}
use Rattle.wot_types.specs.Lines.{is_space}
use Rattle.wot_answer.proofs.words.read_words.Goals as goal

-- at the end of a loop its items are those of the chain
all_items : {S A B : Type 0} {steps : S → Option A → S → Type 0} {v : A → B} {s : S} {all : List B} (xs : List A) (t : S) → Yields steps s xs t
    → (r : Option A) (u : S) → r ≡ None → steps t r u → YieldsList steps v s all → map v xs ≡ all
all_items xs t y r u none step chain = (YieldsList-end chain xs t y r u none step).0

pub returns : goal.returns
returns c =
    let items = all_items c.loop-word.yielded _ c.loop-word.yielded_by _ _ c.in-None.is c.next.ensures.steps
    (YieldsList-at c.into_iter-word-iterator.ensures.into_iter_gives
    (YieldsList-from_filter _ (λ word. not (length word == 0))
    (YieldsList-at c.filter-word-items.ensures.source
    (YieldsList-from_slice_split _ is_space c.args.line.now c.split.ensures.rest c.split.ensures.done c.split.ensures.closure (λ x b q k. search (rules, tests))))
    c.filter-word-items.ensures.closure (λ x b q k. search (rules, tests)))) in
    c.loop-word.invariant ∙ items
