-- A store with its disk cache or without, as one world. It is this project's own.
use Rattle.disk_store.specs.declared.state.Serving.{Serving}
use Rattle.disk_store.specs.declared.state.Serving.TheVariants as servings
use Rattle.store_world.specs.World.{World}

abbrev pub world_of : {F : Type 0} → Serving F → World
world_of (servings.Open world) = world
world_of (servings.Off world) = world
