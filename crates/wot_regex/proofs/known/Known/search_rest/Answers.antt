use Rattle.std.proofs.Common.{◌≡◌, ◌<◌, ◌==◌, ◌&&◌, List, Option, Some, None, IfSome, Bor, get_or, length, refl, ap, ◌∙◌, sym, subst}
use Rattle.std.proofs.lemmas.List.{get_or_default}
use Rattle.std.specs.Option.{option_copied}
use Rattle.wot_regex.specs.Following.{IsMeet, IsTable, has}
use Rattle.wot_regex.specs.declared.known.State.{State}
use Rattle.wot_regex.proofs.Followings.{going_on}
use Rattle.wot_regex.proofs.Knowns.{classes_known, keeps_on}
use Rattle.wot_regex.proofs.known.Known.search_rest.Goals as goal

copied : {X : Type 0} (P : X → Type 0) (r : Option (Bor X)) → IfSome (option_copied r) P → IfSome r (λ x. P x.now)
copied P None h = tt
copied P (Some x) h = h

pub search_from-requires-clause-table : goal.search_from-requires-clause-table
search_from-requires-clause-table c =
    let nodes = c.args.nodes.now in
    copied (λ t. IsTable nodes t.items) c.as_ref.result (subst (λ r. IfSome r (λ t. IsTable nodes t.items)) (sym c.as_ref.ensures.value) c.count.ensures.known.table)

pub returns-clause-known : goal.returns-clause-known
returns-clause-known c = classes_known c.args.nodes.now c.count.new.self _ c.count.ensures.known c.search_from.ensures.masks (keeps_on c.mask.ensures.kept c.search_from.ensures.kept)

pub returns-clause-found : goal.returns-clause-found
returns-clause-found c = λ tree d cells found is same holds none searching.
    let nodes = c.args.nodes.now in
    let states = c.args.self.now.states.items in
    let state = get_or states c.args.at d in
    let P : List State → Type 0 = λ s. c.args.at < length s in
    let Q : List State → Type 0 = λ s. get_or s c.args.at d ≡ state in
    let kept : c.count.new.self.states.items ≡ states = ap (λ v. v.items) c.count.ensures.states in
    let here : c.index.result.now ≡ state = c.index.ensures ∙ get_or_default c.count.new.self.states.items c.args.at _ d (subst P (sym kept) c.requires.there) ∙ subst Q (sym kept) refl in
    let met : IsMeet c.meet.new.self.words state.row.next.words c.mask.result.words = λ j less. c.meet.ensures j less ∙ ap (λ (s : State). has s.row.next.words j && has c.mask.result.words j) here in
    let on =
    going_on tree nodes (c.args.at == 0) state.marks.words c.meet.new.self.words c.mask.result.words c.args.rest.now found c.args.b state.row c.requires.room is (record { cells = cells; same = same; holds = holds; searching = searching })
    ((c.requires.known.states.each c.args.at d c.requires.there).row cells same holds) none c.mask.ensures.takes met in
    c.search_from.ensures.found tree on.cells found is on.same on.holds on.searching
