use Rattle.std.proofs.Common.{◌≡◌, ℕ, false, ◌&&◌, refl, ap}
use Rattle.std.proofs.lemmas.Bool.{and_right}
use Rattle.bank.specs.Promise.{asks, plain}
use Rattle.wire.specs.Meaning.{meant}
use Rattle.wire.specs.declared.call.Call.{Call}
use Rattle.wire.specs.declared.call.Call.TheVariants.{Open, Rate, Move, TakeBack, DayEnds, Balance, Statement, Sums, Taken}
use Rattle.desk.proofs.Serving.{asked_first, other_first}
use Rattle.desk.proofs.asked.Goals as goal

pub returns-in-Balance : goal.returns-in-Balance
unfolding asks plain
returns-in-Balance c = asked_first c.args.ledger.now _ _ _ (ap meant c.in-Balance.is) refl c.balance.ensures

pub returns-in-Sums : goal.returns-in-Sums
unfolding asks plain
returns-in-Sums c = asked_first c.args.ledger.now _ _ _ (ap meant c.in-Sums.is) refl c.sums.ensures

pub returns-in-Taken : goal.returns-in-Taken
unfolding asks plain
returns-in-Taken c = asked_first c.args.ledger.now _ _ _ (ap meant c.in-Taken.is) refl c.taken.ensures

-- any other call is no question of this stage
others : (k : Call) → ((a d n : ℕ) → k ≡ Balance a d n → ⊥) → (k ≡ Sums → ⊥) → (k ≡ Taken → ⊥) → (plain (meant k) && asks (meant k)) ≡ false
unfolding plain asks
others (Open x y) b s t = and_right _ _ refl
others (Rate a r) b s t = refl
others (Move v a c x) b s t = and_right _ _ refl
others (TakeBack k) b s t = refl
others DayEnds b s t = refl
others (Balance a d n) b s t = absurd (b a d n refl)
others (Statement a d e) b s t = refl
others Sums b s t = absurd (s refl)
others Taken b s t = absurd (t refl)

pub returns-in_default : goal.returns-in_default
returns-in_default c = let r = c.in_default in other_first c.args.ledger.now _ _ (others c.args.call r.not-Balance r.not-Sums r.not-Taken) refl
