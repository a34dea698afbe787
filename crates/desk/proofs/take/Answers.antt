use Rattle.std.proofs.Common.{◌≡◌, ℕ, true, sym, refl, ap, ◌∙◌}
use Rattle.std.proofs.lemmas.Bool.{true≢false, eq-eqb, eqb-true}
use Rattle.bank.specs.Promise.{asks, plain}
use Rattle.wire.specs.Meaning.{meant}
use Rattle.wire.specs.declared.call.Call.{Call}
use Rattle.wire.specs.declared.call.Call.TheVariants.{Open, Rate, Move, TakeBack, DayEnds, Balance, Statement, Sums, Taken}
use Rattle.desk.proofs.Serving.{first_served, first_asked}
use Rattle.desk.proofs.take.Goals as goal
use Rattle.desk.proofs.take.Goals.{in_default-via-in-Open+else-rate-eq0, in_default-via-in-Move+else-value-eq0, in_default-via-in_default}

pub returns-in-Open : goal.returns-in-Open
unfolding plain
returns-in-Open c =
    let o = c.into.ensures in first_served c.args.ledger.now _ _ _ _ _ _ _ (ap meant c.in-Open.is) (eq-eqb _ _ c.if-rate-eq0.true) o.answer_is o.changed_is c.open.ensures

pub returns-in-Move : goal.returns-in-Move
unfolding plain
returns-in-Move c =
    let o = c.into-in-Move.ensures in first_served c.args.ledger.now _ _ _ _ _ _ _ (ap meant c.in-Move.is) (eq-eqb _ _ c.if-value-eq0.true) o.answer_is o.changed_is c.order.ensures

-- what is left of the first stage are questions
questions : (k : Call) → ((x y : ℕ) → k ≡ Open x y → y ≡ 0 → ⊥) → ((v a b x : ℕ) → k ≡ Move v a b x → v ≡ 0 → ⊥) → plain (meant k) ≡ true → asks (meant k) ≡ true
unfolding plain asks
questions (Open x y) o m p = absurd (o x y refl (eqb-true y 0 p))
questions (Rate a r) o m p = p
questions (Move v a b x) o m p = absurd (m v a b x refl (eqb-true v 0 p))
questions (TakeBack k) o m p = p
questions DayEnds o m p = p
questions (Balance a d n) o m p = refl
questions (Statement a d e) o m p = absurd (true≢false (sym p))
questions Sums o m p = refl
questions Taken o m p = refl

-- by the arm that led there
asked : (c : goal.After-ask) → plain (meant c.args.call) ≡ true → asks (meant c.args.call) ≡ true
asked c =
    elim c.in_default.branch [
      | in_default-via-in-Open+else-rate-eq0 w ↦ let k = w.in-Open.is in questions c.args.call (λ x y e z. w.if-rate-eq0.false (cc (k, e, z))) (λ v a b x e z. cc (k, e))
      | in_default-via-in-Move+else-value-eq0 w ↦ let k = w.in-Move.is in questions c.args.call (λ x y e z. cc (k, e)) (λ v a b x e z. w.if-value-eq0.false (cc (k, e, z)))
      | in_default-via-in_default w ↦ questions c.args.call (λ x y e z. w.in_default.not-Open x y e) (λ v a b x e z. w.in_default.not-Move v a b x e)
    ]

same_call : (c : goal.After-ask) → c.in_default.call ≡ c.args.call
same_call c =
    elim c.in_default.branch [ in_default-via-in-Open+else-rate-eq0 w ↦ w.call-is ∙ sym w.in-Open.is | in_default-via-in-Move+else-value-eq0 w ↦ w.call-is ∙ sym w.in-Move.is | in_default-via-in_default w ↦ w.call-is ]

pub returns-in_default : goal.returns-in_default
returns-in_default c = first_asked c.args.ledger.now _ _ _ c.requires (ap meant (same_call c)) c.ask.ensures (asked c)
