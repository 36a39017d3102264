-- What a site over real streams and files shows: the streams and the counts.
use Rattle.std.specs.Prelude.{Option, Some, None, Result, Ok, Err}
use Rattle.wot_site.specs.Seen.{Faults}
use Rattle.wot_file.specs.declared.file.FileSite.{FileSite}
use Rattle.wot_file.specs.declared.reason.Reason.{Reason}

-- what its input is read from
abbrev pub input_of : {F I O A : Type 0} → FileSite F I O A → I
input_of site = site.input

-- what its output is written to
abbrev pub output_of : {F I O A : Type 0} → FileSite F I O A → O
output_of site = site.output

-- how often a call of each kind has failed
abbrev pub faults_of : {F I O A : Type 0} → FileSite F I O A → Faults
faults_of site = record { take = site.take_faults; tell = site.tell_faults; disk = site.disk_faults }

-- why the first call that failed did so
abbrev pub reason_of : {F I O A : Type 0} → FileSite F I O A → Option Reason
reason_of site = site.reason

-- the first reason stays
abbrev pub first_reason : Option Reason → Reason → Option Reason
first_reason None reason = Some reason
first_reason (Some first) reason = Some first

-- and where nothing failed there is no new one
abbrev pub reason_after : {T : Type 0} → Result T Reason → Option Reason → Option Reason
reason_after (Ok x) kept = kept
reason_after (Err reason) kept = first_reason kept reason
