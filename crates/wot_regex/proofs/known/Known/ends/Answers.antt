use Rattle.std.proofs.Common.{◌≡◌, ◌==◌, true, List, length, ◌∙◌, sym, subst}
use Rattle.std.proofs.lemmas.List.{get_or_default}
use Rattle.wot_regex.specs.Following.{Holds}
use Rattle.wot_regex.specs.Knowing.{found_at}
use Rattle.wot_regex.specs.declared.known.State.{State}
use Rattle.wot_regex.specs.declared.reach.Reach.{Reach}
use Rattle.wot_regex.proofs.Knowns.{found_told, moves_told, states_told}
use Rattle.wot_regex.proofs.known.Known.ends.Goals as goal

pub returns-clause-known : goal.returns-clause-known
returns-clause-known c =
    let known = c.requires.known in
    let nodes = c.args.nodes.now in
    let states = c.args.self.now.states.items in
    let here = c.index_mut.result.now in
    let same : c.index-2.result.now ≡ here = c.index-2.ensures ∙ get_or_default states c.args.at _ _ c.requires.there ∙ sym c.index_mut.ensures.value in
    let ends : (cells : List Reach) → length cells ≡ length nodes → Holds here.marks.words cells → c.ends-found.result ≡ found_at nodes (c.args.at == 0) true cells =
    λ cells whole holds. let P : State → Type 0 = λ s. Holds s.marks.words cells in c.ends-found.ensures cells whole (subst P (sym same) holds) in
    record {
      room = known.room;
      rows = known.rows;
      whole = known.whole;
      masks = known.masks;
      states = states_told nodes states c.args.at here c.ends-found.result known.states c.requires.there c.index_mut.ensures.value ends;
      found = found_told nodes states c.args.at here c.ends-found.result known.states c.requires.there c.index_mut.ensures.value ends c.args.self.now.found known.found;
      moves =
          moves_told nodes states c.args.at here c.ends-found.result known.states c.requires.there c.index_mut.ensures.value ends c.args.self.now.masks.sets.items 0 c.args.self.now.moves.items known.moves;
      further =
          moves_told nodes states c.args.at here c.ends-found.result known.states c.requires.there c.index_mut.ensures.value ends c.args.self.now.masks.sets.items 32 c.args.self.now.further.items known.further;
      table = known.table;
    }
