-- What a result that was bound, or tested for a fault, is granted from.
use Rattle.std.proofs.Common.{◌≡◌, Bool, true, false, cond, Some, Ok, Err, Result, refl, arith}
use Rattle.grammar.specs.Reading.{Built, Grown, bind_built, bind_grown}
use Rattle.grammar.specs.declared.fault.RuleFault.{RuleFault}

pub err_not_ok : {X Y : Type 0} {y : Y} {x : X} → Err y ≡ Ok x → ⊥
err_not_ok e = grind arith

pub ok_same : {X Y : Type 0} {x x' : X} → ◌≡◌ {A = Result X Y} (Ok x) (Ok x') → x ≡ x'
ok_same e = cc

pub some_same : {X : Type 0} {x x' : X} → Some x ≡ Some x' → x ≡ x'
some_same e = cc

-- A result behind a test that refuses, and one behind a test that lets it through.
pub past_test : {X Y : Type 0} (b : Bool) (y : Y) (r : Result X Y) (x : X) → cond b (Err y) r ≡ Ok x → (b ≡ false) × (r ≡ Ok x)
past_test true y r x e = absurd (err_not_ok e)
past_test false y r x e = (refl, e)

pub through_test : {X Y : Type 0} (b : Bool) (y : Y) (r : Result X Y) (x : X) → cond b r (Err y) ≡ Ok x → (b ≡ true) × (r ≡ Ok x)
through_test true y r x e = (refl, e)
through_test false y r x e = absurd (err_not_ok e)

-- What was bound was granted, and so was what was made of it.
pub from_built : {X : Type 0} (r : Result Built RuleFault) (k : Built → Result X RuleFault) (x : X)
    → bind_built r k ≡ Ok x → (b : Built) × (r ≡ Ok b) × (k b ≡ Ok x)
from_built (Ok b) k x e = (b, refl, e)
from_built (Err y) k x e = absurd (err_not_ok e)

pub from_grown : {X : Type 0} (r : Result Grown RuleFault) (k : Grown → Result X RuleFault) (x : X)
    → bind_grown r k ≡ Ok x → (g : Grown) × (r ≡ Ok g) × (k g ≡ Ok x)
from_grown (Ok g) k x e = (g, refl, e)
from_grown (Err y) k x e = absurd (err_not_ok e)
