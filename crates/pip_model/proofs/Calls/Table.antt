-- The laws of each call on memory: one line a call.
use Rattle.pip_model.specs.declared.call_name.MemoryCall.{MemoryCall}
use Rattle.pip_model.specs.declared.call_name.MemoryCall.TheVariants.{AddVAddr, Collect, CountToMap, CreatePartition}
use Rattle.pip_model.specs.declared.call_name.MemoryCall.TheVariants.{DeletePartition, MappedInChild, Prepare}
use Rattle.pip_model.specs.declared.call_name.MemoryCall.TheVariants.{RemoveVAddr}
use Rattle.pip_model.proofs.Calls.Laws.{MemoryLaws}
use Rattle.pip_model.proofs.Calls.CreateLaws as Creates
use Rattle.pip_model.proofs.Calls.DeleteLaws as Deletes
use Rattle.pip_model.proofs.Calls.CountLaws as Counts
use Rattle.pip_model.proofs.Calls.PrepareLaws as Prepares
use Rattle.pip_model.proofs.Calls.CollectLaws as Collects
use Rattle.pip_model.proofs.Calls.AddLaws as Adds
use Rattle.pip_model.proofs.Calls.RemoveLaws as Removes
use Rattle.pip_model.proofs.Calls.FindLaws as Finds

pub laws_of : (k : MemoryCall) → MemoryLaws k
laws_of CreatePartition = Creates.laws
laws_of DeletePartition = Deletes.laws
laws_of CountToMap = Counts.laws
laws_of Prepare = Prepares.laws
laws_of Collect = Collects.laws
laws_of AddVAddr = Adds.laws
laws_of RemoveVAddr = Removes.laws
laws_of MappedInChild = Finds.laws
