-- Reading part after part.
use Rattle.std.proofs.Common.{◌≡◌, ◌⊎◌, inl, inr, Bool, true, false, cond, Result, Ok, Err, refl, ap}
use Rattle.ppm_read.specs.declared.fault.PpmFault.{PpmFault}
use Rattle.picture_rows.specs.Reading.{◌>>=◌}

pub bind_ok : {A B : Type 0} (r : Result A PpmFault) (f : A → Result B PpmFault) (y : B) → (r >>= f) ≡ Ok y → (x : A) × (r ≡ Ok x) × (f x ≡ Ok y)
bind_ok (Ok x) f y e = (x, refl, e)
bind_ok (Err d) f y e = cc

pub cond_ok : {A : Type 0} (b : Bool) (r : Result A PpmFault) (d : PpmFault) (y : A) → cond b r (Err d) ≡ Ok y → (b ≡ true) × (r ≡ Ok y)
cond_ok true r d y e = (refl, e)
cond_ok false r d y e = cc

-- a part that fails, and one that is read
pub bind_fails : {A B : Type 0} (r : Result A PpmFault) (f : A → Result B PpmFault) (d : PpmFault) → r ≡ Err d → (r >>= f) ≡ Err d
bind_fails r f d e = ap (λ r. r >>= f) e

pub bind_reads : {A B : Type 0} (r : Result A PpmFault) (f : A → Result B PpmFault) (x : A) → r ≡ Ok x → (r >>= f) ≡ f x
bind_reads r f x e = ap (λ r. r >>= f) e

pub bind_assoc : {A B C : Type 0} (r : Result A PpmFault) (f : A → Result B PpmFault) (g : B → Result C PpmFault) → ((r >>= f) >>= g) ≡ (r >>= (λ x. f x >>= g))
bind_assoc (Ok x) f g = refl
bind_assoc (Err d) f g = refl

-- two ways to go on that agree on what was read
pub bind_same : {A B : Type 0} (r : Result A PpmFault) (f g : A → Result B PpmFault) → ((x : A) → r ≡ Ok x → f x ≡ g x) → (r >>= f) ≡ (r >>= g)
bind_same (Ok x) f g same = same x refl
bind_same (Err d) f g same = refl

pub inside : {A : Type 0} (x y : A) → ◌≡◌ {A = Result A PpmFault} (Ok x) (Ok y) → x ≡ y
inside x y e = cc

pub err_inside : {A : Type 0} (d f : PpmFault) → ◌≡◌ {A = Result A PpmFault} (Err d) (Err f) → d ≡ f
err_inside d f e = cc

-- which part failed
pub bind_err : {A B : Type 0} (r : Result A PpmFault) (f : A → Result B PpmFault) (d : PpmFault) → (r >>= f) ≡ Err d → (r ≡ Err d) ⊎ ((x : A) × (r ≡ Ok x) × (f x ≡ Err d))
bind_err (Ok x) f d e = inr (x, refl, e)
bind_err {A = A} {B = B} (Err c) f d e = inl (ap Err (err_inside {A = B} c d e))
