use Rattle.std.proofs.Common.{◌-◌, ◌≡◌, Some, take}
use Rattle.bitmap_kind.specs.Picture.{Picture}
use Rattle.sha2.specs.Sha256.{Holds, initial_hash_256}
use Rattle.engine_world.specs.Steps.{shape_of}
use Rattle.engine_shared.specs.Caller.{picture_held}
use Rattle.glide_run.proofs.Telling.{Looking}
use Rattle.glide_run.proofs.looks.picture_shown.Given as goal

abbrev pub invariant-loop-at : goal.invariant-loop-at
invariant-loop-at g l = record {
  looking : Looking l.views l.load l.length l.at (g.E.EngineCalls.caller l.fn.engine) (g.E.EngineCalls.caller l.engine);
  shape : (picture : Picture) → picture_held (g.E.EngineCalls.caller l.fn.engine) l.load.number ≡ Some picture → l.shape ≡ shape_of picture;
  holds : (picture : Picture) → picture_held (g.E.EngineCalls.caller l.fn.engine) l.load.number ≡ Some picture → Holds initial_hash_256 l.hasher.core (take l.at picture.bytes);
}

abbrev pub decreases-loop-at : goal.decreases-loop-at
decreases-loop-at g l = l.length - l.at
