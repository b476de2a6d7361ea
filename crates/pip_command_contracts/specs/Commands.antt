-- A command on a source and a sink: where it may start, and that it ends by what is due.
use Rattle.pip_io.specs.Moments.{Streams, joined, streams}
use Rattle.pip_io.specs.Histories.{Remaining, Writing}
use Rattle.pip_io.specs.declared.joint.Joint.{Joint}
use Rattle.pip_command_contracts.specs.EndsBy.{Due, EndsBy}
use Rattle.pip_command_contracts.specs.Pacing.{IsPaced}
use Rattle.pip_command_contracts.specs.declared.ended.Ended.{Ended}

-- the sink holds nothing, and the source may be read wherever the command waits
abbrev pub MayStart : {S K : Type 0} → Due → (S → Type 0) → (Streams → Type 0) → (S → Remaining) → (K → Writing) → S → K
    → Type 0
MayStart d is_open allows reads writes source sink =
    IsPaced d (is_open source) allows (streams reads writes source sink)

-- so with the source and the sink of a joint
abbrev pub MayStartJoined : {S K : Type 0} → Due → (S → Type 0) → (Streams → Type 0) → (S → Remaining) → (K → Writing)
    → Joint S K → Type 0
MayStartJoined d is_open allows reads writes joint =
    IsPaced d (is_open joint.source.now) allows (joined reads writes joint)

-- the command ends by what is due, from what its source and its sink tell before to what they tell after
abbrev pub Fulfils : {S K : Type 0} → Due → Ended → (S → Remaining) → (K → Writing) → S → K → S → K → Type 0
Fulfils d end reads writes source sink source' sink' =
    EndsBy d end.status end.machine (streams reads writes source sink) (streams reads writes source' sink')

-- so with the source and the sink of a joint
abbrev pub FulfilsJoined : {S K : Type 0} → Due → Ended → (S → Remaining) → (K → Writing) → Joint S K → Joint S K
    → Type 0
FulfilsJoined d end reads writes a b = EndsBy d end.status end.machine (joined reads writes a) (joined reads writes b)
