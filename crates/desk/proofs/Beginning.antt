-- A new book is one that calls brought about: none did.
use Rattle.std.proofs.Common.{◌≡◌, ℕ, Bool, true, false, List, [], Some, None, Ok, Err, Result, refl, ap, ◌∙◌, arith}
use Rattle.bank.specs.Book.{pick}
use Rattle.bank.specs.Calls.{Limits}
use Rattle.bank.specs.Promise.{allowed}
use Rattle.device.specs.Book.{ran_by}
use Rattle.model.specs.Whole.{ReachedRegister}
use Rattle.ledger.specs.Meaning.{register, limits}
use Rattle.ledger.specs.Opened.{New, Opened}
use Rattle.ledger.specs.declared.Ledger.{Ledger}
use Rattle.ledger.specs.declared.opening.Misfit.{Misfit}
use Rattle.ledger.specs.declared.opening.Refused.{Refused}
use Rattle.desk.specs.Desk.{Begun, OpenedKept}

-- limits that do not misfit may be given
fitting : (a b : Bool) (m n : Misfit) → pick a (pick b None (Some m)) (Some n) ≡ None → a ≡ true
fitting true b m n e = refl
fitting false b m n e = grind arith

pub new_begun : (g : Ledger) (l : Limits) → allowed l ≡ true → New g l → Begun g
unfolding ran_by
new_begun g l a new =
    let reached : ReachedRegister (limits g) (register g) = ([], (let b = new.bank_is in let r = new.rates_are in cc)) in
    record { kept = record { allows = ap allowed new.limits_are ∙ a; reached = ∣ reached ∣₁ }; reached = reached }

pub opened_kept : (l : Limits) (cents numbers : List ℕ) (r : Result Ledger Refused) → Opened l cents numbers r → OpenedKept r
opened_kept l cents numbers (Ok g) o = new_begun g l (fitting _ _ _ _ o.0) o.1
opened_kept l cents numbers (Err e) o = tt
