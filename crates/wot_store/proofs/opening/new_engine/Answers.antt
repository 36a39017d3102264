use Rattle.std.proofs.Common.{subst, sym, ap, ◌∙◌}
use Rattle.wot_types.specs.Compaction.{image_length}
use Rattle.wot_types.specs.Image.{image_bytes}
use Rattle.wot_types.specs.Levels.{rows_of}
use Rattle.wot_types.specs.State.{State}
use Rattle.wot_types.specs.WellFormedState.{IsWellFormedState}
use Rattle.wot_types.proofs.WellFormedStates.{opening_sound}
use Rattle.wot_pages.specs.Pages.{contents_for}
use Rattle.wot_store.specs.Base.{IsBaseOf}
use Rattle.wot_store.proofs.Needed.{opening_end}
use Rattle.wot_store.proofs.opening.new_engine.Goals as goal

pub spell_state-requires : goal.spell_state-requires
spell_state-requires c = record { sound = subst (λ (s : State). IsWellFormedState s) (sym c.in_ok-engine.ensures) opening_sound }

pub returns-clause-base : goal.returns-clause-base
returns-clause-base c = subst (λ (s : State). IsBaseOf (contents_for c.in_ok-image.image.items) s) c.in_ok-engine.ensures c.in_ok-image.ensures.base

pub returns-clause-spelled : goal.returns-clause-spelled
returns-clause-spelled c = c.in_ok-image.ensures.spelled ∙ ap (λ (s : State). image_bytes s (rows_of s)) c.in_ok-engine.ensures

pub returns-clause-end : goal.returns-clause-end
returns-clause-end c = opening_end _ (c.in_ok-image.ensures.long ∙ ap image_length c.in_ok-engine.ensures)
