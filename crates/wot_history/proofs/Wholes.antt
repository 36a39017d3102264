-- The base and the first records of a side, one after the other.
use Rattle.std.proofs.Common.{◌≡◌, inl, inr, ℕ, List, ◌∙◌, subst}
use Rattle.wot_types.specs.PagePlaces.{page_place}
use Rattle.wot_types.specs.State.{State}
use Rattle.wot_site.specs.Disk.{disk_of}
use Rattle.wot_site.specs.Seen.{Seen}
use Rattle.wot_site.specs.Site.{Sizes}
use Rattle.wot_site.specs.declared.side.Side.{Side}
use Rattle.wot_history.specs.declared.error.HistoryError.{HistoryError}
use Rattle.wot_history.specs.declared.error.HistoryError.TheVariants.{DiskFault, Short, Seal, Spelling, Lost, BadPayload, BadEdit, Memory}
use Rattle.wot_history.specs.History.{HasBase, IsAnswerOf, Leads}
use Rattle.wot_history.specs.Reading.{FindsBase, FindsState, IsBaseAnswer, IsStop, LacksBase, LacksIt, Replays, StopsAt}

base_answer : (bytes : List ℕ) (epoch pages count : ℕ) (e : HistoryError) → IsBaseAnswer bytes epoch pages e → IsAnswerOf bytes epoch pages count e
base_answer bytes epoch pages count DiskFault answer = tt
base_answer bytes epoch pages count Memory answer = tt
base_answer bytes epoch pages count (Short q) answer = inl answer
base_answer bytes epoch pages count (Seal k) answer = inl answer
base_answer bytes epoch pages count Spelling answer = inl answer
base_answer bytes epoch pages count (Lost n) answer = absurd answer
base_answer bytes epoch pages count (BadPayload n) answer = absurd answer
base_answer bytes epoch pages count (BadEdit n) answer = absurd answer

stop_answer : (bytes : List ℕ) (epoch pages count : ℕ) (base : State) → HasBase bytes epoch pages base → (e : HistoryError) → IsStop bytes (page_place pages) base count e → IsAnswerOf bytes epoch pages count e
stop_answer bytes epoch pages count base has DiskFault stops = tt
stop_answer bytes epoch pages count base has Memory stops = tt
stop_answer bytes epoch pages count base has (Short q) stops = inr (base, has, stops)
stop_answer bytes epoch pages count base has (Seal k) stops = inr (base, has, stops)
stop_answer bytes epoch pages count base has Spelling stops = inr (base, has, stops)
stop_answer bytes epoch pages count base has (Lost n) stops = inr (base, has, stops)
stop_answer bytes epoch pages count base has (BadPayload n) stops = inr (base, has, stops)
stop_answer bytes epoch pages count base has (BadEdit n) stops = inr (base, has, stops)

module _ (side : Side) (epoch pages count size : ℕ) (x y : Seen) (sizes : Sizes side size x y) where
  pub base_lacks : (e : HistoryError) (z : Seen) → LacksBase side epoch pages e y z → LacksIt side epoch pages count e x z
  base_lacks e z lacks = record {
    stays = lacks.stays ∙ sizes.stays;
    answer = base_answer (disk_of side x.disks).reads epoch pages count e (subst (λ (s : Seen). IsBaseAnswer (disk_of side s.disks).reads epoch pages e) sizes.stays lacks.answer);
  }

  module _ (base : State) (z : Seen) (found : FindsBase side epoch pages base y z) where
    has : HasBase (disk_of side x.disks).reads epoch pages base
    has = subst (λ (s : Seen). HasBase (disk_of side s.disks).reads epoch pages base) sizes.stays found.has_base

    same : z ≡ x
    same = found.stays ∙ sizes.stays

    pub records_lack : (e : HistoryError) (w : Seen) → StopsAt side (page_place pages) base count e z w → LacksIt side epoch pages count e x w
    records_lack e w stops = record {
      stays = stops.stays ∙ same;
      answer = stop_answer (disk_of side x.disks).reads epoch pages count base has e (subst (λ (s : Seen). IsStop (disk_of side s.disks).reads (page_place pages) base count e) same stops.answer);
    }

    pub finds_state : (state : State) (w : Seen) → Replays side (page_place pages) base count state z w → FindsState side epoch pages count state x w
    finds_state state w replays = record {
      stays = replays.stays ∙ same;
      holds = record {
        base = base;
        has_base = has;
        at = replays.at;
        leads = subst (λ (s : Seen). Leads (disk_of side s.disks).reads (page_place pages) base count replays.at state) same replays.leads;
      };
    }
