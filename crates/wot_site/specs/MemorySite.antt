-- What a site in memory shows: what it has seen and done, and which of its calls are to fail.
use Rattle.std.specs.Prelude.{ℕ, ◌≡◌, ◌≢◌, ◌⊎◌, List, [], drop, Option}
use Rattle.std.specs.List.{Contains}
use Rattle.wot_site.specs.Calls.{calls_in, one_more, device_after}
use Rattle.wot_site.specs.Disk.{Image, settled_disk}
use Rattle.wot_site.specs.MemorySide.{Both, IsPicked, disks_of}
use Rattle.wot_site.specs.Notes.{Past, past_at_start, past_now}
use Rattle.wot_site.specs.Seen.{Seen, Faults}
use Rattle.wot_site.specs.Stop.{IsStopped}
use Rattle.wot_site.specs.declared.memory.calls.Calls.{Calls}
use Rattle.wot_site.specs.declared.memory.crash.Pick.{Pick}
use Rattle.wot_site.specs.declared.memory.plan.CallKind.{CallKind}
use Rattle.wot_site.specs.declared.memory.plan.CallKind.TheVariants.{Take, Tell}
use Rattle.wot_site.specs.declared.memory.MemorySite.{MemorySite}

-- what its record of calls tells
abbrev pub past_of : MemorySite → Past
past_of site = past_now (past_at_start site.first_zero.items site.first_one.items) site.notes.items site.fresh

-- its sides
abbrev pub sides_of : MemorySite → Both
sides_of site = record { zero = site.zero; one = site.one }

-- what it tells of itself
abbrev pub seen_of : MemorySite → Seen
seen_of site = record {
  left = drop site.taken site.input.items;
  told = site.told.items;
  taken = site.taken;
  asks = site.asks.items;
  disks = disks_of (sides_of site);
  moments = (past_of site).moments;
}

-- what it tells at the start: nothing told, nothing pending
abbrev pub first_seen : List ℕ → List ℕ → List ℕ → Seen
first_seen input zero one = record { left = input; told = []; taken = 0; asks = []; disks = record { zero = settled_disk zero; one = settled_disk one }; moments = [] }

-- what it tells when one more run begins: another input, and nothing told
abbrev pub again_seen : List ℕ → Seen → Seen
again_seen input s = record s { left = input; told = []; taken = 0 }

-- how often its calls have failed
abbrev pub faults_of : MemorySite → Faults
faults_of site = record { take = site.take_faults; tell = site.tell_faults; disk = site.disk_faults }

-- how often a call found no memory for its own note
abbrev pub starved_of : MemorySite → ℕ
starved_of site = site.starved

-- the calls that are planned to fail, each by its kind and its number among the calls of that kind, from 1
abbrev pub plan_of : MemorySite → List (CallKind × ℕ)
plan_of site = site.plan.fails.items

-- the device call from which on all fail, where there is one
abbrev pub stop_of : MemorySite → Option ℕ
stop_of site = site.plan.stop

-- at most how many bytes pass in one call of the streams, where there is such a bound
abbrev pub cut_of : MemorySite → Option ℕ
cut_of site = site.plan.cut

-- how many calls there were
abbrev pub counts_of : MemorySite → Calls
counts_of site = site.calls

-- how many of a kind
abbrev pub calls_of : CallKind → MemorySite → ℕ
calls_of kind site = calls_in kind site.calls

-- how many calls of the device there were
abbrev pub device_of : MemorySite → ℕ
device_of site = site.calls.device

-- the number of the next call of a kind
abbrev pub next_call : CallKind → MemorySite → ℕ
next_call kind site = one_more (calls_of kind site)

-- the next call of that kind is planned to fail
abbrev pub IsPlanned : CallKind → MemorySite → Type 0
IsPlanned kind site = Contains (plan_of site) (kind, next_call kind site)

-- the next call of the device, being of that kind, is to fail: it is planned to, or the stop covers it
abbrev pub IsDue : CallKind → MemorySite → Type 0
IsDue kind site = IsPlanned kind site ⊎ IsStopped (stop_of site) (one_more (device_of site))

-- the counts after one more call of that kind failed
abbrev pub with_fault : CallKind → Faults → Faults
with_fault Take faults = record faults { take = one_more faults.take }
with_fault Tell faults = record faults { tell = one_more faults.tell }
with_fault kind faults = record faults { disk = one_more faults.disk }

-- the plan, the stop and the cut are the same
pub record SamePlan (old new : MemorySite) : Type 0 where
  pub plan : plan_of new ≡ plan_of old
  pub stop : stop_of new ≡ stop_of old
  pub cut : cut_of new ≡ cut_of old

-- all that was counted is the same
pub record SameCounts (old new : MemorySite) : Type 0 where
  pub faults : faults_of new ≡ faults_of old
  pub starved : starved_of new ≡ starved_of old
  pub calls : counts_of new ≡ counts_of old

-- all that was seen, done and counted is the same
pub record SameRun (old new : MemorySite) : Type 0 where
  pub seen : seen_of new ≡ seen_of old
  pub notes : past_of new ≡ past_of old
  pub counts : SameCounts old new

-- one call of that kind more was counted, and the plan, the stop and the cut are as they were
pub record OneCall (kind : CallKind) (old new : MemorySite) : Type 0 where
  pub number : calls_of kind new ≡ next_call kind old
  pub others : (other : CallKind) → other ≢ kind → calls_of other new ≡ calls_of other old
  pub device : device_of new ≡ device_after kind (device_of old)
  pub plan : SamePlan old new

-- the image that a pick gives, of each side: by the record of calls, the sides are these
abbrev pub IsPickedOf : Pick → MemorySite → Image → Type 0
IsPickedOf pick site image = IsPicked pick (past_of site).sides.zero image.zero × IsPicked pick (past_of site).sides.one image.one
