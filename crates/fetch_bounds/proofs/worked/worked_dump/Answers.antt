use Rattle.std.proofs.Common.{[], ◌∷◌, refl, inl, inr}
use Rattle.script_walk.specs.Worked.{red}
use Rattle.fetch_bounds.proofs.worked.worked_dump.Goals as goal

pub returns-clause-follows : goal.returns-clause-follows
returns-clause-follows c =
    inr (
      refl,
      refl,
      inr (
        refl,
        refl,
        inl (
          tt,
          inl (
            tt,
            inl (
              tt,
              inr (
                refl,
                (0, refl, refl, refl),
                inr (
                  refl,
                  (1, refl, refl, refl),
                  (
                    0,
                    refl,
                    inr (
                      refl,
                      (refl, refl),
                      (
                        red.bytes ∷ [],
                        refl,
                        inr (
                          refl,
                          (refl, refl),
                          inr (refl, (0, refl, refl), inr (refl, (1, refl, refl), tt)),
                        ),
                      ),
                    ),
                  ),
                ),
              ),
            ),
          ),
        ),
      ),
    )
