-- Answers that are no error.
use Rattle.std.proofs.Common.{◌≡◌, true, false, Ok, Err, Result, refl, is_err, is_ok}

pub ok_of : {T E : Type 0} (r : Result T E) → is_err r ≡ false → is_ok r ≡ true
ok_of (Ok x) h = refl
ok_of (Err e) h = cc
