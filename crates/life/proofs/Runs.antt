-- A run of acts under a budget.
use Rattle.std.proofs.Common.{◌≡◌, ℕ, zero, suc, ◌-◌, ◌<◌, ◌≤◌, List, [], ◌∷◌, ◌++◌, length, take, refl, sub-one, arith}
use native.Mathlib.Nat.{sub-zero}
use Rattle.bank.specs.Device.{Act}
use Rattle.life.specs.Life.{World, after_act, after_acts}

-- one act of it
pub run_step : (n : ℕ) (v w : World) (a : Act) (was is : List Act) → 0 < n → was ≡ a ∷ is → w ≡ after_act v a →
    (after_acts w (take (n - 1) is) ≡ after_acts v (take n was)) × ((n - 1) - length is ≡ n - length was)
unfolding after_acts
run_step zero v w a was is l e f = elim l [ ]
run_step (suc n) v w a was is l e f = rw (e, f, sub-one) (refl, omega arith)

-- nothing is left to do
pub run_none : (n : ℕ) (v : World) (was : List Act) → was ≡ [] → (after_acts v (take n was) ≡ v) × (n - length was ≡ n)
unfolding after_acts
run_none zero v was e = rw e (refl, refl)
run_none (suc n) v was e = rw e (refl, omega arith)

-- the budget is used up
pub run_used : (n : ℕ) (v : World) (was : List Act) → n ≤ 0 → (after_acts v (take n was) ≡ v) × (n - length was ≡ n)
unfolding after_acts
run_used zero v was h = (refl, omega arith)
run_used (suc n) v was h = absurd (omega arith)

-- a budget for two lists of acts
pub take_two : (n : ℕ) (v : World) (xs ys : List Act) → after_acts v (take n (xs ++ ys)) ≡ after_acts (after_acts v (take n xs)) (take (n - length xs) ys)
unfolding after_acts
take_two zero v [] ys = refl
take_two (suc n) v [] ys = rw (sub-zero (suc n)) refl
take_two zero v (x ∷ xs) ys = let e : 0 - suc (length xs) ≡ 0 = omega arith in rw e refl
take_two (suc n) v (x ∷ xs) ys = let e : suc n - suc (length xs) ≡ n - length xs = omega arith in rw e (take_two n (after_act v x) xs ys)
