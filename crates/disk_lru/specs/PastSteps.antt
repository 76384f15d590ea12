-- What a call was to do to the list, as steps with the bytes that its files have.
use Rattle.disk_lru.specs.declared.past.ListStep.{ListStep}
use Rattle.disk_lru.specs.declared.past.ListStep.TheVariants as steps
use Rattle.disk_lru.specs.State.{CacheState}
use Rattle.disk_lru.specs.Calls.{Steps, no_steps, begin_steps, commit_steps, abort_steps, use_steps, drop_steps}

abbrev pub steps_of : ListStep → CacheState → Steps
steps_of steps.Nothing cache = no_steps
steps_of (steps.Begin key) cache = begin_steps key
steps_of (steps.Commit key) cache = commit_steps key
steps_of (steps.Abort key) cache = abort_steps key cache
steps_of (steps.Use key) cache = use_steps key
steps_of (steps.Drop key) cache = drop_steps key
