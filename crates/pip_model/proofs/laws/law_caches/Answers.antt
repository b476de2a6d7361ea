use Rattle.pip_model.proofs.Events.Caching.{boot-cached, event-cached}
use Rattle.pip_model.proofs.Events.Unseen.{caches_tell_nothing}
use Rattle.pip_model.proofs.laws.law_caches.Goals as goal

pub returns : goal.returns
returns c = record { boot = boot-cached; event = event-cached; told = caches_tell_nothing }
